-- The slots of a tag line: what a tag put into one of them changes.
use Rattle.std.proofs.Common.{ℕ, ◌≡◌, ◌≢◌, ◌+◌, ◌*◌, ◌%◌, List, length, sym, ap, inl, inr, ◌∙◌, arith}
use Rattle.std.specs.Prelude.{slice_range}
use Rattle.std.proofs.lemmas.Bool.{cases_lt}
use Rattle.pmem_base.specs.declared.lines.Line.{Line}
use Rattle.pmem_base.specs.Lines.{tag_slot}
use Rattle.pmem_base.proofs.Parts.{part-put_bytes_same, part-put_bytes_before, part-put_bytes_behind}
use Rattle.line_seal.specs.Seals.{with_tag}

-- ---- the tag of a slot

pub tag_slot-with_same : (line : Line) (a : ℕ) (tag : List ℕ) → length line.0 ≡ 64 → length tag ≡ 16 → tag_slot (with_tag line a tag) a ≡ tag
tag_slot-with_same line a tag whole long =
    ap (λ n. slice_range (with_tag line a tag).0 (16 * (a % 4)) (16 * (a % 4) + n)) (sym long)
    ∙ part-put_bytes_same line (16 * (a % 4)) tag (omega (arith, whole))

pub tag_slot-with_other : (line : Line) (a other : ℕ) (tag : List ℕ) → length line.0 ≡ 64 → length tag ≡ 16 → other % 4 ≢ a % 4 → tag_slot (with_tag line a tag) other ≡ tag_slot line other
tag_slot-with_other line a other tag whole long apart =
    elim (cases_lt (other % 4) (a % 4)) [
      | inl before ↦
          part-put_bytes_before line (16 * (a % 4)) tag (16 * (other % 4)) (16 * (other % 4) + 16) (omega (arith, whole)) (omega (arith, before))
      | inr after ↦
          part-put_bytes_behind line (16 * (a % 4)) tag (16 * (other % 4)) (16 * (other % 4) + 16) (omega (arith, whole)) (omega (arith, after, apart, long))
    ]
