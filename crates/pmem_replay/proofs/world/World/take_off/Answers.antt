-- The port's oldest write waits no more.
use Rattle.std.proofs.Common.{List, sym, subst}
use Rattle.pmem_base.specs.declared.commands.Posted.{Posted}
use Rattle.pmem_base.specs.Geo.{shape_of}
use Rattle.board.specs.MemBoard.{memory_of}
use Rattle.seal_ledger.specs.View.{capacity_of, ledger_of}
use Rattle.suite.specs.Setup.{Setup}
use Rattle.pmem_replay.specs.World.{WorldParts, IsWorld, world_of}
use Rattle.pmem_replay.proofs.EngineCalls.NotedWorlds.{world-shorter}
use Rattle.pmem_replay.proofs.Steps.PartsOfWorld.{held, setup_in}
use Rattle.pmem_replay.proofs.world.World.take_off.Goals as goal

pub invariant_of-self : goal.invariant_of-self
invariant_of-self g c =
    let p : WorldParts =
    held (g.S.Suite.keys c.self.inside.suite) (memory_of c.self.inside.board) (ledger_of c.self.inside.ledger) (capacity_of c.self.inside.ledger) c.self.inside.engine
    (g.S.Suite.tags c.self.inside.suite) (g.S.Suite.digests c.self.inside.suite) c.self.inside.ports c.self.inside.tampered
    c.self.inside.dirtied c.self.inside.steps c.self.inside.start c.self.inside.shown in
    let setup : Setup = setup_in g.S.Suite.formulas_of (shape_of c.self.inside.geo) p in
    (λ unshown.
    subst (λ (queues : List (List Posted)). IsWorld setup (world_of setup (record p { queues = queues }))) (sym c.pop.ensures)
    (world-shorter setup (world_of setup p) c.args.port (c.self.invariant unshown) c.requires))
