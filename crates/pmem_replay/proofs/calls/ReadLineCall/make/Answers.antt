-- The engine's call, with its law.
use Rattle.pmem_replay.proofs.EngineCalls.Lawful.{read_lawful}
use Rattle.pmem_replay.proofs.calls.ReadLineCall.make.Goals as goal
use Rattle.pmem_engine.proofs.CallEnds.EngineCalls.{down_after}

pub returns-clause-made : goal.returns-clause-made
returns-clause-made g c =
    let it = c.read.ensures.read.did c.requires.up in
    record { related = record { related = it; follows = it.plan }; lawful = λ memory begun. read_lawful _ c.args.self.now.at memory _ _ _ it begun }

pub returns-clause-down : goal.returns-clause-down
returns-clause-down g c = down_after c.read.ensures.read c.requires.up
