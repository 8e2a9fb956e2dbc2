use Rattle.pmem_base.specs.Geo.{shape_of}
use Rattle.pmem_base.specs.Layout.{shadow_lines}
use Rattle.call_plan.proofs.Loops.{AreTurnsLeft}
use Rattle.call_effects.specs.Steady.{StaysSteady}
use Rattle.pmem_recovery.specs.Formatting.{HasClearedTables, zero_turn, zeros_plan}
use Rattle.pmem_recovery.proofs.formatting.clear_tables.Given as goal

abbrev pub invariant-lines : goal.invariant-lines
invariant-lines g l =
    let start = g.B.Board.device l.initial.board in
    let now = g.B.Board.device l.board in
    record {
      steady : StaysSteady l.n start now;
      reached : AreTurnsLeft (zeros_plan (shape_of l.geo)) start (zero_turn (shape_of l.geo)) l.n (shadow_lines (shape_of l.geo)) tt now;
      lines : HasClearedTables (shape_of l.geo) l.n start now;
    }
