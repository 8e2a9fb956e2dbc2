-- Lines and lists of lines stay in range, and when two lists of lines are equal.
use Rattle.std.proofs.Common.{ℕ, ◌≡◌, ◌<◌, List, length, replicate, refl, inl, inr, sym, subst, ◌∙◌, lit<}
use Rattle.std.specs.Prelude.{All, slice_set}
use Rattle.std.proofs.lemmas.Bool.{cases_lt}
use Rattle.std.proofs.lemmas.List.{get_or_past, get_or_default, same_lists}
use Rattle.std.proofs.lemmas.List.Elements.{All-replicate, All-set, All-get_or}
use Rattle.pmem_base.specs.declared.lines.Line.{Line}
use Rattle.pmem_base.specs.Lines.{IsLine, zero_line, line_at}

-- 64 zero bytes are a line
pub IsLine-zero_line : IsLine zero_line
unfolding zero_line
IsLine-zero_line = record { long = refl; bytes = All-replicate (λ b. b < 256) 64 0 (lit< tt) }

-- zero lines are lines
pub All-zero_lines : (n : ℕ) → All IsLine (replicate n zero_line)
All-zero_lines n = All-replicate IsLine n zero_line IsLine-zero_line

-- lines stay lines where one of them is set to a line
pub All-lines_set : (lines : List Line) (at : ℕ) (line : Line) → IsLine line → All IsLine lines
    → All IsLine (slice_set lines at line)
All-lines_set lines at line = All-set IsLine lines at line

-- any line of a list of lines is a line, also past its end
pub IsLine-line_at : (lines : List Line) (n : ℕ) → All IsLine lines → IsLine (line_at lines n)
IsLine-line_at lines n each =
    elim (cases_lt n (length lines)) [
      | inl inside ↦ All-get_or IsLine lines n zero_line inside each
      | inr past ↦ subst IsLine (sym (get_or_past lines n zero_line past)) IsLine-zero_line
    ]

-- lists with the same line at each place are equal
pub lines-equal : (a b : List Line) → length a ≡ length b → ((i : ℕ) → i < length a → line_at a i ≡ line_at b i) → a ≡ b
lines-equal a b same each =
    same_lists a b same
    (λ k d inside.
    get_or_default a k d zero_line inside
    ∙ (each k inside ∙ get_or_default b k zero_line d (subst (λ n. k < n) same inside)))
