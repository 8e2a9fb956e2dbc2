-- Before the next place the lists are equal.
use Rattle.std.proofs.Common.{ℕ, ◌≡◌, ◌<◌}
use Rattle.counter_tree.proofs.Common.{line_at}
use Rattle.counter_tree.proofs.differences.first_difference.Given as goal

abbrev pub invariant-slots : goal.invariant-slots
invariant-slots l = (j : ℕ) → j < l.i → line_at l.first j ≡ line_at l.second j
