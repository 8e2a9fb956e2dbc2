-- Lines that a part of a call doesn't write are told as before.
use Rattle.std.proofs.Common.{ℕ, ◌≡◌, ◌<◌, inl, inr, List, [], ◌∷◌, Option, Some, None, refl, ap, ◌∙◌, arith}
use Rattle.pmem_base.specs.declared.lines.Line.{Line}
use Rattle.pmem_base.specs.Shape.{Shape}
use Rattle.pmem_base.specs.Layout as layout
use Rattle.pmem_base.specs.Layout.{page_of}
use Rattle.pmem_base.specs.Lines.{line_at, put_lines}
use Rattle.pmem_base.proofs.LineSets.{line_at-set_other}
use Rattle.commit_regs.specs.Groups.{redone_told, Writes}
use Rattle.meta_path.specs.Work.{told_line}
use Rattle.pmem_engine.specs.declared.resealing.NextSeal.{NextSeal}
use Rattle.pmem_engine.specs.Committing.{entries_of}

-- a group that doesn't write it
redone_off : (group : List (ℕ × Line)) (lines : List Line) (n : ℕ) → (Writes n group → ⊥)
    → line_at (put_lines group lines) n ≡ line_at lines n
redone_off [] lines n off = refl
redone_off (entry ∷ rest) lines n off =
    redone_off rest _ n (λ later. off (inr later)) ∙ line_at-set_other lines entry.0 n entry.1 (λ same. off (inl same))

pub told_off : (group : List (ℕ × Line)) (told : Option (List Line)) (n : ℕ) → (Writes n group → ⊥)
    → told_line (redone_told group told) n ≡ told_line told n
told_off group None n off = refl
told_off group (Some lines) n off = ap Some (redone_off group lines n off)

-- a reseal's group writes no metadata line
pub meta_off : (g : Shape) (next : NextSeal) (x : ℕ) → next.at < layout.data_lines g
    → Writes (layout.meta_line g x) (entries_of g next) → ⊥
meta_off g next x within (inl same) = omega (arith, within, same)
meta_off g next x within (inr (inl same)) = omega (arith, within, same)
meta_off g next x within (inr (inr none)) = none
