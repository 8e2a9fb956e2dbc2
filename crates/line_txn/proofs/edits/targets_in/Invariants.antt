use Rattle.std.proofs.Common.{◌≡◌, take}
use Rattle.line_txn.proofs.Common.{array_vec_len, targets_of}
use Rattle.line_txn.proofs.edits.targets_in.Given as goal

abbrev pub invariant-entries : goal.invariant-entries
invariant-entries l =
    (l.targets.items ≡ targets_of (take l.target-index l.txn)) × (array_vec_len l.targets ≡ l.target-index)
