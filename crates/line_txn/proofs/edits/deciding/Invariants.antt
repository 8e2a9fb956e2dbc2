use Rattle.std.proofs.Common.{◌≡◌, ◌+◌, take}
use Rattle.line_txn.proofs.Common.{All, IsLine, array_vec_len, bodies_of, body_edits}
use Rattle.line_txn.proofs.edits.deciding.Given as goal

abbrev pub invariant-entries : goal.invariant-entries
invariant-entries l =
    (l.edits.items ≡ body_edits (l.n + 1) (bodies_of (take l.i l.txn))) × (array_vec_len l.edits ≡ l.i)
    × All IsLine (bodies_of (take l.i l.txn))
