use Rattle.pmem_engine.proofs.PlannedCalls.BlockOrder.{blocks_in_order}
use Rattle.pmem_engine.proofs.kept.dirty_blocks_are_written_in_order.Goals as goal

pub returns : goal.returns
returns c = blocks_in_order
