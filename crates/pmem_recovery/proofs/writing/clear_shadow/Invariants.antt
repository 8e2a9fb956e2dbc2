use Rattle.pmem_base.specs.Geo.{shape_of}
use Rattle.pmem_base.specs.Layout.{shadow_lines}
use Rattle.call_plan.proofs.Loops.{AreTurnsLeft}
use Rattle.pmem_recovery.specs.Plans.{clear_turn, clear_plan}
use Rattle.pmem_recovery.proofs.writing.clear_shadow.Given as goal

abbrev pub invariant-lines : goal.invariant-lines
invariant-lines g l =
    record {
      reached :
          AreTurnsLeft (clear_plan (shape_of l.geo) l.shadow) (g.B.Board.device l.initial.board) (clear_turn (shape_of l.geo) l.shadow)
          l.n (shadow_lines (shape_of l.geo)) tt (g.B.Board.device l.board);
    }
