use Rattle.pmem_recovery.proofs.UncutRuns.{formats_alike}
use Rattle.pmem_recovery.proofs.determined.format_is_determined.Goals as goal

pub returns : goal.returns
returns c = formats_alike
