-- None of the marks so far is a write's own seal of the line.
use Rattle.std.proofs.Common.{◌≡◌, false, take}
use Rattle.line_session.proofs.Common.{list_any, is_own_seal}
use Rattle.line_session.proofs.marks.has_own_seal.Given as goal

abbrev pub invariant-loop-mark : goal.invariant-loop-mark
invariant-loop-mark l = list_any (is_own_seal l.at) (take l.mark-index l.marks) ≡ false
