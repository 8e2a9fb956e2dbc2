use Rattle.std.proofs.Common.{ℕ, ◌≡◌, ◌<◌, [], length, get_or}
use Rattle.pmem_base.specs.Lines.{line_at}
use Rattle.bonsai_tree.specs.Nodes.{child_digest_over}
use Rattle.call_effects.specs.SuiteStates.{suite_state, SuiteRise}
use Rattle.pmem_recovery.proofs.formatting.node_above.Given as goal

abbrev pub invariant-children : goal.invariant-children
invariant-children g l =
    record {
      keys : g.S.Suite.keys l.suite ≡ g.S.Suite.keys l.initial.suite;
      counts : SuiteRise 0 0 l.i (suite_state (g.S.Suite.keys l.initial.suite) (g.S.Suite.pads l.initial.suite) (g.S.Suite.tags l.initial.suite) (g.S.Suite.digests l.initial.suite)) (suite_state (g.S.Suite.keys l.suite) (g.S.Suite.pads l.suite) (g.S.Suite.tags l.suite) (g.S.Suite.digests l.suite));
      long : length l.digests ≡ 4;
      each : (k : ℕ) → k < l.i → get_or l.digests k [] ≡ child_digest_over (g.S.Suite.formulas_of (g.S.Suite.keys l.initial.suite)) l.x (line_at l.truth) k;
    }
