-- Laws of shadow entries: zero lines name nothing, and a table names no more positions than it has slots.
use Rattle.std.proofs.Common.{rules, ℕ, ◌≡◌, ◌+◌, ◌-◌, ◌*◌, ◌^◌, false, eqb, List, [], ◌∷◌, length, replicate, All, slice_range, refl, ap, sym, ◌∙◌, arith}
use Rattle.std.specs.List.{list_any, range_with_len}
use Rattle.std.proofs.lemmas.List.Elements.{All-head, All-tail, All-take, All-drop, All-replicate}
use Rattle.std.proofs.lemmas.List.Folds.{list_any_none}
use Rattle.std.proofs.lemmas.Bool.{ne_eqb, cond_both}
use Rattle.pmem_base.proofs.ListLaws.{All-into_range}
use Rattle.pmem_base.specs.declared.lines.Line.{Line}
use Rattle.pmem_base.specs.Shape.{Shape}
use Rattle.pmem_base.specs.Layout.{slots, shadow_counter_lines}
use Rattle.pmem_base.specs.Lines.{line_at, zero_line, from_big_endian}
use Rattle.shadow_tables.specs.Entries.{entry_of, table_entry, is_named_in}

-- ---- zero lines name nothing

from_zero_bytes : (bytes : List ℕ) → All (λ b. b ≡ 0) bytes → from_big_endian bytes ≡ 0
from_zero_bytes [] all = refl
from_zero_bytes (b ∷ bytes) all =
    let rest = from_zero_bytes bytes (All-tail (λ b. b ≡ 0) b bytes all) in
    let first = All-head (λ b. b ≡ 0) b bytes all in
    ap (λ c. c * 256 ^ length bytes + from_big_endian bytes) first ∙ (omega arith)

zero_range : (n i k : ℕ) → from_big_endian (slice_range (replicate n 0) i k) ≡ 0
zero_range n i k = search (rules, from_zero_bytes, slice_range, All-take, All-drop, All-replicate)

pub entry_of-zero : (i : ℕ) → entry_of zero_line i ≡ 0
unfolding zero_line
entry_of-zero i = zero_range 64 (4 * i) (4 * i + 4)

-- every shadow line is zero
pub record AreAllZero (shadow : List Line) : Type 0 where
  pub zero_lines : (n : ℕ) → line_at shadow n ≡ zero_line

pub table_entry-zero : (shadow : List Line) (first n : ℕ) → AreAllZero shadow → table_entry shadow first n ≡ 0
table_entry-zero shadow first n h = search (rules, entry_of-zero)

none_named : (shadow : List Line) (first m x : ℕ) → AreAllZero shadow → list_any (λ n. eqb (table_entry shadow first n) (x + 1)) (range_with_len 0 m) ≡ false
none_named shadow first m x h =
    list_any_none (λ n. eqb (table_entry shadow first n) (x + 1)) (range_with_len 0 m)
    (All-into_range (λ n. eqb (table_entry shadow first n) (x + 1) ≡ false) 0 m
    (λ n low high. ne_eqb (table_entry shadow first n) (x + 1) (λ e. absurd (unnamed n e))))
  where
    unnamed : (n : ℕ) → table_entry shadow first n ≡ x + 1 → ⊥
    unnamed n e = let z = table_entry-zero shadow first n h in let s : 0 ≡ x + 1 = sym z ∙ e in omega (arith, s)

pub is_named_in-zero : (g : Shape) (shadow : List Line) (bank x : ℕ) → AreAllZero shadow → is_named_in g shadow bank x ≡ false
is_named_in-zero g shadow bank x h =
    cond_both (eqb bank g.levels) _ _ (λ b. b ≡ false) (λ _. none_named shadow 0 (slots g) x h)
    (λ _. none_named shadow (shadow_counter_lines g) (g.levels * slots g) x h)
