use Rattle.pmem_engine.proofs.PlannedCalls.FetchedReads.{cached_read}
use Rattle.pmem_engine.proofs.fetched.cached_reads_take_no_step.Goals as goal

pub returns : goal.returns
returns c = cached_read
