-- The engine's call, with its law.
use Rattle.pmem_replay.proofs.EngineCalls.Lawful.{turn_lawful}
use Rattle.pmem_replay.proofs.calls.TurnPageCall.make.Goals as goal
use Rattle.pmem_engine.proofs.CallEnds.EngineCalls.{down_after}

pub returns-clause-made : goal.returns-clause-made
returns-clause-made g c =
    let it = c.turn.ensures.turned.did c.requires.up in
    record { related = record { related = it; follows = it.plan }; lawful = λ memory begun. turn_lawful _ memory _ _ _ it begun }

pub returns-clause-down : goal.returns-clause-down
returns-clause-down g c = down_after c.turn.ensures.turned c.requires.up
