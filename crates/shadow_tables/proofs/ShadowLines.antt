-- The shadow lines among a device's lines, after one of the device's lines was set.
use Rattle.std.proofs.Common.{rules, ◌≡◌, ℕ, zero, suc, ◌+◌, ◌-◌, ◌<◌, List, [], ◌∷◌, take, drop, refl, ap, ◌∙◌, arith}
use Rattle.std.specs.Prelude.{slice_set}
use Rattle.pmem_base.specs.declared.lines.Line.{Line}
use Rattle.pmem_base.specs.Shape.{Shape}
use Rattle.pmem_base.specs.Layout.{shadow_line}
use Rattle.pmem_base.specs.Lines.{IsLine}
use Rattle.pmem_base.proofs.LineSets.{put_bytes-IsLine}
use Rattle.pmem_base.proofs.ByteLaws.{big_endian-AreBytes, length-big_endian}
use Rattle.shadow_tables.specs.Entries.{shadow_of}
use Rattle.shadow_tables.specs.Naming.{with_entry}

take-set_within : {X : Type 0} (m : ℕ) (xs : List X) (n : ℕ) (y : X) → take m (slice_set xs n y) ≡ slice_set (take m xs) n y
take-set_within zero xs n y = refl
take-set_within (suc m) [] n y = refl
take-set_within (suc m) (x ∷ xs) zero y = refl
take-set_within (suc m) (x ∷ xs) (suc n) y = ap (λ rest. x ∷ rest) (take-set_within m xs n y)

drop-set_before : {X : Type 0} (m : ℕ) (xs : List X) (n : ℕ) (y : X) → n < m → drop m (slice_set xs n y) ≡ drop m xs
drop-set_before zero xs n y h = absurd (omega arith)
drop-set_before (suc m) [] n y h = refl
drop-set_before (suc m) (x ∷ xs) zero y h = refl
drop-set_before (suc m) (x ∷ xs) (suc n) y h = drop-set_before m xs n y (omega arith)

drop-set_from : {X : Type 0} (m : ℕ) (xs : List X) (n k : ℕ) (y : X) → n ≡ m + k
    → drop m (slice_set xs n y) ≡ slice_set (drop m xs) k y
drop-set_from zero xs n k y h = ap (λ i. slice_set xs i y) (omega arith)
drop-set_from (suc m) [] n k y h = refl
drop-set_from (suc m) (x ∷ xs) zero k y h = absurd (omega arith)
drop-set_from (suc m) (x ∷ xs) (suc n) k y h = drop-set_from m xs n k y (omega arith)

-- a write before the shadow lines leaves them
pub shadow_of-set_before : (g : Shape) (lines : List Line) (at : ℕ) (line : Line) → at < shadow_line g 0
    → shadow_of g (slice_set lines at line) ≡ shadow_of g lines
shadow_of-set_before g lines at line h = search (rules, drop-set_before)

-- a write of shadow line n
pub shadow_of-set : (g : Shape) (lines : List Line) (n : ℕ) (line : Line)
    → shadow_of g (slice_set lines (shadow_line g n) line) ≡ slice_set (shadow_of g lines) n line
shadow_of-set g lines n line =
    ap (take _) (drop-set_from _ lines _ n line (omega arith))
    ∙ take-set_within _ (drop _ lines) n line

-- a shadow line with an entry written into it is a line
pub IsLine-with_entry : (line : Line) (i value : ℕ) → IsLine line → i < 16 → IsLine (with_entry line i value)
IsLine-with_entry line i value whole h = search (rules, put_bytes-IsLine, big_endian-AreBytes, length-big_endian)
