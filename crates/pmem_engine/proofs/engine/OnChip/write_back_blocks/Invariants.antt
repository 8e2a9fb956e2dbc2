-- So many blocks were written, and as many fewer of the bank are dirty.
use Rattle.std.proofs.Common.{◌≤◌}
use Rattle.meta_path.specs.Blocks.{bank_dirty_count}
use Rattle.pmem_engine.specs.Flushed.{HasWrittenBlocks}
use Rattle.call_plan.proofs.Loops.{HasReached}
use Rattle.pmem_engine.proofs.PlannedCalls.LossPlans.{blocks_left}
use Rattle.pmem_engine.proofs.engine.OnChip.write_back_blocks.Given as goal

abbrev pub invariant-blocks-2 : goal.invariant-blocks-2
invariant-blocks-2 g l =
    record {
      written :
          HasWrittenBlocks l.written l.fn.self l.self (g.B.Board.device l.fn.board) (g.B.Board.device l.board);
      reached : HasReached (blocks_left l.fn.self) (g.B.Board.device l.fn.board) (blocks_left l.self) (g.B.Board.device l.board);
      few : bank_dirty_count l.fn.self.shape l.fn.self.cache l.fn.self.shape.levels ≤ 512;
    }

abbrev pub decreases-blocks-2 : goal.decreases-blocks-2
decreases-blocks-2 g l = bank_dirty_count l.self.shape l.self.cache l.self.shape.levels
