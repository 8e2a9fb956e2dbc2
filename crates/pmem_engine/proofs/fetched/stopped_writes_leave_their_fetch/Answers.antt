use Rattle.pmem_engine.proofs.PlannedCalls.StoppedWrites.{stopped_write}
use Rattle.pmem_engine.proofs.fetched.stopped_writes_leave_their_fetch.Goals as goal

pub returns : goal.returns
returns c = stopped_write
