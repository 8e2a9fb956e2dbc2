use Rattle.pmem_engine.proofs.PlannedCalls.FetchedReads.{read_fetches}
use Rattle.pmem_engine.proofs.fetched.reads_fetch_their_path.Goals as goal

pub returns : goal.returns
returns c = read_fetches
