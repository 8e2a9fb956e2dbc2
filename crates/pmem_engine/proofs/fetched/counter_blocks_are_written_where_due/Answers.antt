use Rattle.pmem_engine.proofs.PlannedCalls.StoppedWrites.{block_due}
use Rattle.pmem_engine.proofs.fetched.counter_blocks_are_written_where_due.Goals as goal

pub returns : goal.returns
returns c = block_due
