-- None of the entries so far is of the line.
use Rattle.std.proofs.Common.{◌≡◌, drop}
use Rattle.txn_session.proofs.Common.{entry_in}
use Rattle.txn_session.proofs.serving.line_put.Given as goal

abbrev pub invariant-loop-target : goal.invariant-loop-target
invariant-loop-target l = entry_in l.txn l.at ≡ entry_in (drop l.target-index l.txn) l.at
