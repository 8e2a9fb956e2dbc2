use Rattle.std.proofs.Common.{◌≡◌}
use Rattle.pmem_base.specs.Geo.{shape_of}
use Rattle.pmem_base.specs.Layout.{meta_lines}
use Rattle.call_plan.proofs.Loops.{AreTurnsLeft}
use Rattle.call_effects.specs.Steady.{StaysSteady}
use Rattle.pmem_recovery.specs.Formatting.{HasToldMeta, HasWrittenMeta, meta_turn, metas_plan}
use Rattle.pmem_recovery.proofs.formatting.write_metadata.Given as goal

abbrev pub invariant-lines : goal.invariant-lines
invariant-lines g l =
    let start = g.B.Board.device l.initial.board in
    let now = g.B.Board.device l.board in
    record {
      steady : StaysSteady l.x start now;
      capacity : g.A.Audit.capacity l.audit ≡ g.A.Audit.capacity l.initial.audit;
      ledger : HasToldMeta (shape_of l.geo) l.truth l.x (g.A.Audit.ledger l.initial.audit) (g.A.Audit.ledger l.audit);
      reached : AreTurnsLeft (metas_plan (shape_of l.geo) l.truth) start (meta_turn (shape_of l.geo) l.truth) l.x (meta_lines (shape_of l.geo)) tt now;
      lines : HasWrittenMeta (shape_of l.geo) l.truth l.x start now;
    }
