use Rattle.std.proofs.Common.{◌≡◌, ◌+◌, drop}
use Rattle.line_txn.proofs.Common.{body_or_place, served_from}
use Rattle.line_txn.proofs.store.Store.place.Given as goal

abbrev pub invariant-targets : goal.invariant-targets
invariant-targets l =
    served_from l.self.lines l.self.logged.items l.at ≡ body_or_place (l.self.lines + 1 + l.i) (drop l.i l.self.logged.items) l.at
