use Rattle.call_plan.proofs.DeterminedCalls.{call_is_determined}
use Rattle.pmem_recovery.proofs.determined.recover_is_determined.Goals as goal

pub returns : goal.returns
returns c = λ setup counts old a b x y first second left other on it its. call_is_determined on it its
