-- The leaves so far.
use Rattle.std.proofs.Common.{ℕ, ◌≡◌, ◌<◌, ◌+◌, length}
use Rattle.counter_tree.proofs.Common.{line_at}
use Rattle.counter_tree.proofs.shadow.ShadowTree.put_leaves.Given as goal

abbrev pub invariant-leaves : goal.invariant-leaves
invariant-leaves l =
    record {
      height : l.self.height ≡ l.initial.self.height;
      count : length l.self.lines ≡ length l.initial.self.lines;
      put : (k : ℕ) → k < l.i → line_at l.self.lines (l.first + k) ≡ line_at l.slots k;
    }
