-- A call that works on the engine alone, told of the whole chip: the ledger and the counts stay.
use Rattle.std.proofs.Common.{Result, Ok, Err}
use Rattle.board.specs.Device.{Device}
use Rattle.call_plan.specs.Plans.{Plan, ended, lifted}
use Rattle.call_plan.specs.Following.{Follows}
use Rattle.call_plan.proofs.Bind.{lifted_follows}
use Rattle.pmem_engine.specs.declared.fault.Fault.{Fault}
use Rattle.pmem_engine.specs.Engine.{ChipState}
use Rattle.pmem_engine.specs.Plans.{Chip, with_engine}

pub of_engine : {T : Type 0} {plan : Plan (ChipState × Fault) (ChipState × T)} {old new : Device} (chip : Chip) (engine : ChipState)
    (answer : Result T Fault) → Follows plan old new (ended answer engine)
    → Follows (lifted (with_engine chip) (λ (fault : Fault). fault) plan) old new (ended answer (with_engine chip engine))
of_engine chip engine (Ok value) it = lifted_follows (with_engine chip) (λ (fault : Fault). fault) it
of_engine chip engine (Err fault) it = lifted_follows (with_engine chip) (λ (fault : Fault). fault) it
