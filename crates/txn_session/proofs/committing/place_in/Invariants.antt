-- None of the entries so far is of the line.
use Rattle.std.proofs.Common.{◌≡◌, drop}
use Rattle.txn_session.proofs.Common.{◌==◌, position_from}
use Rattle.txn_session.proofs.committing.place_in.Given as goal

abbrev pub invariant-entries : goal.invariant-entries
invariant-entries l = position_from (λ entry. entry.0 == l.at) 0 l.txn ≡ position_from (λ entry. entry.0 == l.at) l.i (drop l.i l.txn)
