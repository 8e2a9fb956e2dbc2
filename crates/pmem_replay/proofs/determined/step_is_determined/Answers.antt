use Rattle.pmem_replay.proofs.SameSteps.StepsAlike.{step_alike}
use Rattle.pmem_replay.proofs.determined.step_is_determined.Goals as goal

pub returns : goal.returns
returns c = λ setup old a b command reply other whole it its. step_alike setup old a b command reply other whole it its
