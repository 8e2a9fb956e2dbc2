-- The front of the port's queue.
use Rattle.std.proofs.Common.{sym, subst, ◌∙◌}
use Rattle.std.specs.Prelude.{drop}
use Rattle.pmem_base.specs.WaitingWrites.{queue_of}
use Rattle.pmem_replay.specs.EngineCalls.{IsFront}
use Rattle.pmem_replay.specs.World.{WorldState}
use Rattle.pmem_replay.proofs.Drains.GivenWrites.{front_is}
use Rattle.pmem_replay.proofs.world.World.front.Goals as goal

pub returns : goal.returns
returns g c =
    let queue = queue_of c.self.inside.ports c.args.port in
    subst (λ (world : WorldState). IsFront world c.args.port c.in-Some.write) c.self.view_is
    (record {
      later = drop 1 queue;
      waits = front_is queue c.in-Some.write (sym c.front.ensures.value ∙ c.in-Some.is);
      posted = c.in-Some.ensures.posted;
    })
