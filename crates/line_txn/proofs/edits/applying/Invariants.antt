use Rattle.std.proofs.Common.{◌≡◌, take}
use Rattle.line_txn.proofs.Common.{array_vec_len, target_edits}
use Rattle.line_txn.proofs.edits.applying.Given as goal

abbrev pub invariant-entries : goal.invariant-entries
invariant-entries l =
    (l.edits.items ≡ target_edits (take l.target-index l.txn)) × (array_vec_len l.edits ≡ l.target-index)
