use Rattle.std.proofs.Common.{ℕ, ◌≡◌, ◌<◌, ◌+◌, ◌*◌}
use Rattle.pmem_base.specs.Lines.{tag_slot}
use Rattle.call_effects.specs.SuiteStates.{setup_of, suite_state, SuiteRise}
use Rattle.pmem_base.specs.Lines.{zero_line}
use Rattle.call_plan.specs.Plans.{repeated}
use Rattle.call_plan.proofs.Loops.{AreTurnsLeft}
use Rattle.call_effects.specs.Steady.{StaysSteady}
use Rattle.pmem_recovery.specs.Formatting.{first_tag, HasSealedFrom, seal_turn}
use Rattle.pmem_recovery.proofs.FormatSteps.{IsGroupTo}
use Rattle.pmem_recovery.proofs.formatting.seal_group.Given as goal

abbrev pub invariant-lines : goal.invariant-lines
invariant-lines g l =
    let setup = setup_of l.geo (g.S.Suite.formulas_of (g.S.Suite.keys l.initial.suite)) in
    let start = g.B.Board.device l.initial.board in
    let now = g.B.Board.device l.board in
    record {
      keys : g.S.Suite.keys l.suite ≡ g.S.Suite.keys l.initial.suite;
      capacity : g.A.Audit.capacity l.audit ≡ g.A.Audit.capacity l.initial.audit;
      counts : SuiteRise l.i l.i 0 (suite_state (g.S.Suite.keys l.initial.suite) (g.S.Suite.pads l.initial.suite) (g.S.Suite.tags l.initial.suite) (g.S.Suite.digests l.initial.suite)) (suite_state (g.S.Suite.keys l.suite) (g.S.Suite.pads l.suite) (g.S.Suite.tags l.suite) (g.S.Suite.digests l.suite));
      steady : StaysSteady l.i start now;
      ledger : HasSealedFrom setup (4 * l.group) l.i (g.A.Audit.ledger l.initial.audit) (g.A.Audit.ledger l.audit);
      reached : AreTurnsLeft (repeated (seal_turn setup l.group) 0 4 zero_line) start (seal_turn setup l.group) l.i 4 l.tags now;
      slots : (j : ℕ) → j < l.i → tag_slot l.tags (4 * l.group + j) ≡ first_tag setup (4 * l.group + j);
      lines : IsGroupTo setup l.group l.i start now;
    }
