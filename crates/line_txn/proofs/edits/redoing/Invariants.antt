use Rattle.std.proofs.Common.{◌≡◌, ◌+◌, take}
use Rattle.line_txn.proofs.Common.{array_vec_len, copy_edits}
use Rattle.line_txn.proofs.edits.redoing.Given as goal

abbrev pub invariant-targets : goal.invariant-targets
invariant-targets l =
    (l.edits.items ≡ copy_edits (l.n + 1) (take l.i l.targets)) × (array_vec_len l.edits ≡ l.i)
