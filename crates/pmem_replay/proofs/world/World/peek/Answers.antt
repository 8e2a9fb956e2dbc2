-- A line is shown.
use Rattle.std.proofs.Common.{arith}
use Rattle.pmem_replay.proofs.Table.TableChanges.{peek-ok}
use Rattle.pmem_base.specs.Geo.{shape_of}
use Rattle.board.specs.MemBoard.{memory_of}
use Rattle.seal_ledger.specs.View.{capacity_of, ledger_of}
use Rattle.pmem_base.specs.declared.commands.Command.TheVariants as Do
use Rattle.pmem_replay.specs.World.{WorldParts}
use Rattle.pmem_replay.proofs.Steps.PartsOfWorld.{held, setup_in, going_in, seen_still}
use Rattle.pmem_replay.proofs.world.World.peek.Goals as goal

pub returns : goal.returns
returns g c =
    let formulas_of = g.S.Suite.formulas_of in
    let inside = c.self.inside in
    let geo = shape_of inside.geo in
    let p : WorldParts =
    held (g.S.Suite.keys inside.suite) (memory_of inside.board) (ledger_of inside.ledger) (capacity_of inside.ledger) inside.engine (g.S.Suite.tags inside.suite)
    (g.S.Suite.digests inside.suite) inside.ports inside.tampered inside.dirtied inside.steps inside.start inside.shown in
    let going = going_in formulas_of geo p c.args.self.now c.self.view_is c.requires c.self.invariant in
    seen_still formulas_of geo p c.args.self.now (Do.Peek c.args.at) _ c.self.view_is
    (peek-ok (setup_in formulas_of geo p) p going c.args.at c.peek.result.now (omega (arith, c.if-at-from.false, c.from.ensures, c.size.ensures.value)) c.peek.ensures)
