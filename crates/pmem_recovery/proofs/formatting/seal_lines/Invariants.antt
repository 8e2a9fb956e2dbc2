use Rattle.std.proofs.Common.{◌≡◌, ◌*◌}
use Rattle.call_effects.specs.SuiteStates.{setup_of, suite_state, SuiteRise}
use Rattle.pmem_base.specs.Geo.{shape_of}
use Rattle.pmem_base.specs.Layout.{pages}
use Rattle.call_plan.proofs.Loops.{AreTurnsLeft}
use Rattle.call_effects.specs.Steady.{StaysSteady}
use Rattle.pmem_recovery.specs.Formatting.{HasSealedFrom, HasSealedAll, group_turn, seals_plan}
use Rattle.pmem_recovery.proofs.formatting.seal_lines.Given as goal

abbrev pub invariant-groups : goal.invariant-groups
invariant-groups g l =
    let setup = setup_of l.geo (g.S.Suite.formulas_of (g.S.Suite.keys l.initial.suite)) in
    record {
      keys : g.S.Suite.keys l.suite ≡ g.S.Suite.keys l.initial.suite;
      capacity : g.A.Audit.capacity l.audit ≡ g.A.Audit.capacity l.initial.audit;
      counts : SuiteRise (4 * l.group) (4 * l.group) 0 (suite_state (g.S.Suite.keys l.initial.suite) (g.S.Suite.pads l.initial.suite) (g.S.Suite.tags l.initial.suite) (g.S.Suite.digests l.initial.suite)) (suite_state (g.S.Suite.keys l.suite) (g.S.Suite.pads l.suite) (g.S.Suite.tags l.suite) (g.S.Suite.digests l.suite));
      steady : StaysSteady (5 * l.group) (g.B.Board.device l.initial.board) (g.B.Board.device l.board);
      ledger : HasSealedFrom setup 0 (4 * l.group) (g.A.Audit.ledger l.initial.audit) (g.A.Audit.ledger l.audit);
      reached : AreTurnsLeft (seals_plan setup) (g.B.Board.device l.initial.board) (group_turn setup) l.group (16 * pages (shape_of l.geo)) tt (g.B.Board.device l.board);
      lines : HasSealedAll setup (4 * l.group) (g.B.Board.device l.board);
    }
