-- The engine's call, with its law.
use Rattle.pmem_replay.proofs.EngineCalls.Lawful.{write_lawful}
use Rattle.pmem_replay.proofs.calls.WriteLineCall.make.Goals as goal
use Rattle.pmem_engine.proofs.CallEnds.EngineCalls.{down_after}

pub returns-clause-made : goal.returns-clause-made
returns-clause-made g c =
    let it = c.write_part.ensures.written.did c.requires.up in
    record { related = record { related = it; follows = it.plan }; lawful = λ memory begun. write_lawful _ c.args.self.now.write memory _ _ _ it begun }

pub returns-clause-down : goal.returns-clause-down
returns-clause-down g c = down_after c.write_part.ensures.written c.requires.up
