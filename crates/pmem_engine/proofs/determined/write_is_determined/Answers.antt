use Rattle.call_plan.proofs.DeterminedCalls.{call_is_determined}
use Rattle.pmem_engine.proofs.determined.write_is_determined.Goals as goal

pub returns : goal.returns
returns c = λ setup at line chip old a b x y first second left other on it its. call_is_determined on it its
