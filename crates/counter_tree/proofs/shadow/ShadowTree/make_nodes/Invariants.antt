-- The nodes so far, from the last one up.
use Rattle.std.proofs.Common.{ℕ, ◌≡◌, ◌<◌, ◌≤◌, ◌+◌, ◌*◌, length}
use Rattle.counter_tree.proofs.Common.{risen_times, line_at, node_over}
use Rattle.counter_tree.proofs.shadow.ShadowTree.make_nodes.Given as goal

abbrev pub invariant-nodes : goal.invariant-nodes
invariant-nodes g l =
    record {
      height : l.self.height ≡ l.initial.self.height;
      count : length l.self.lines ≡ length l.initial.self.lines;
      made_so_far :
          (x : ℕ) → l.nodes ≤ x + l.made → x < l.nodes
          → line_at l.self.lines x ≡ node_over (g.S.Suite.formulas_of (g.S.Suite.keys l.initial.suite)) x (line_at l.self.lines);
      leaves : (x : ℕ) → l.nodes ≤ x → line_at l.self.lines x ≡ line_at l.initial.self.lines x;
      digests : g.S.Suite.digests l.suite ≡ risen_times (4 * l.made) (g.S.Suite.digests l.initial.suite);
      keys : g.S.Suite.keys l.suite ≡ g.S.Suite.keys l.initial.suite;
      pads : g.S.Suite.pads l.suite ≡ g.S.Suite.pads l.initial.suite;
      tags : g.S.Suite.tags l.suite ≡ g.S.Suite.tags l.initial.suite;
    }
