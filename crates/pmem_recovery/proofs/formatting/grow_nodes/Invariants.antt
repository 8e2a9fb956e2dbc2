use Rattle.std.proofs.Common.{ℕ, ◌≡◌, ◌<◌, ◌≤◌, ◌-◌, ◌*◌, All}
use Rattle.pmem_base.specs.Geo.{shape_of}
use Rattle.pmem_base.specs.Lines.{IsLine, line_at}
use Rattle.pmem_base.specs.Layout.{level_start}
use Rattle.bonsai_tree.specs.Nodes.{node_over}
use Rattle.call_effects.specs.SuiteStates.{suite_state, SuiteRise}
use Rattle.pmem_recovery.proofs.formatting.grow_nodes.Given as goal

abbrev pub invariant-nodes : goal.invariant-nodes
invariant-nodes g l =
    let first = level_start (shape_of l.geo).levels in
    record {
      keys : g.S.Suite.keys l.suite ≡ g.S.Suite.keys l.initial.suite;
      counts : SuiteRise 0 0 (4 * l.done) (suite_state (g.S.Suite.keys l.initial.suite) (g.S.Suite.pads l.initial.suite) (g.S.Suite.tags l.initial.suite) (g.S.Suite.digests l.initial.suite)) (suite_state (g.S.Suite.keys l.suite) (g.S.Suite.pads l.suite) (g.S.Suite.tags l.suite) (g.S.Suite.digests l.suite));
      whole : All IsLine l.truth;
      blocks : (x : ℕ) → first ≤ x → line_at l.truth x ≡ line_at l.initial.truth x;
      nodes : (x : ℕ) → first - l.done ≤ x → x < first → line_at l.truth x ≡ node_over (g.S.Suite.formulas_of (g.S.Suite.keys l.initial.suite)) x (line_at l.truth);
    }
