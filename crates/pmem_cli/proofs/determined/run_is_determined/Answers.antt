use Rattle.pmem_cli.proofs.CallsAlike.{calls_alike}
use Rattle.pmem_cli.proofs.determined.run_is_determined.Goals as goal

pub returns : goal.returns
returns c = calls_alike
