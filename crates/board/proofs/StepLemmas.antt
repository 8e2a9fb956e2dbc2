-- What no call of a board changes.
use Rattle.std.proofs.Common.{◌≡◌, ℕ, List, Option, Some, None, refl}
use Rattle.std.specs.Prelude.{is_some}
use Rattle.pmem_base.specs.declared.lines.Line.{Line}
use Rattle.board.specs.Steps.{with_line}

-- a write leaves it as it is whether the lines are told
pub is_some-with_line : (lines : Option (List Line)) (at : ℕ) (line : Line)
    → is_some (with_line lines at line) ≡ is_some lines
is_some-with_line None at line = refl
is_some-with_line (Some lines) at line = refl
