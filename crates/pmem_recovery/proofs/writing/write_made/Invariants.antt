use Rattle.std.proofs.Common.{drop}
use Rattle.pmem_base.specs.Geo.{shape_of}
use Rattle.call_plan.specs.Plans.{for_each}
use Rattle.call_plan.proofs.Loops.{HasReached}
use Rattle.pmem_recovery.specs.Plans.{entry_turn, entries_plan}
use Rattle.pmem_recovery.proofs.writing.write_made.Given as goal

abbrev pub invariant-entries : goal.invariant-entries
invariant-entries g l =
    record {
      reached :
          HasReached (entries_plan (shape_of l.geo) l.made) (g.B.Board.device l.initial.board)
          (for_each (entry_turn (shape_of l.geo)) (drop l.entry-index l.made) tt) (g.B.Board.device l.board);
    }
