use Rattle.call_plan.proofs.DeterminedCalls.{call_is_determined, chain_is_determined}
use Rattle.call_plan.proofs.laws.calls_are_determined.Goals as goal

pub returns-clause-call : goal.returns-clause-call
returns-clause-call g c = λ plan old a b x y first second left other on it its. call_is_determined on it its

pub returns-clause-chain : goal.returns-clause-chain
returns-clause-chain g c = λ plan calls old a b state left other first second on it its.
    chain_is_determined plan calls old a b state left other first second on it its
