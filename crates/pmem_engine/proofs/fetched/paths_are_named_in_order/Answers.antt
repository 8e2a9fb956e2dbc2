use Rattle.pmem_engine.proofs.PlannedCalls.NamedPaths.{named_in_order}
use Rattle.pmem_engine.proofs.fetched.paths_are_named_in_order.Goals as goal

pub returns : goal.returns
returns c = named_in_order
