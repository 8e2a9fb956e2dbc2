use Rattle.pmem_cli.proofs.FrontCalls.{calls_front}
use Rattle.pmem_cli.proofs.determined.disturbed_run_is_a_prefix.Goals as goal

pub returns : goal.returns
returns c = calls_front
