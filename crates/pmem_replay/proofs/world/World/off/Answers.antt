-- Power goes off.
use Rattle.pmem_replay.proofs.Table.TableChanges.{off-ok}
use Rattle.std.proofs.Common.{ap, ◌∙◌}
use Rattle.pmem_base.specs.Geo.{shape_of}
use Rattle.pmem_base.specs.WaitingWrites.{queues_after_loss}
use Rattle.board.specs.MemBoard.{memory_of}
use Rattle.seal_ledger.specs.View.{capacity_of, ledger_of}
use Rattle.pmem_base.specs.declared.commands.Command.TheVariants as Do
use Rattle.pmem_replay.specs.World.{WorldParts}
use Rattle.pmem_replay.proofs.Steps.PartsOfWorld.{held, setup_in, going_in, seen_from, held_after}
use Rattle.pmem_replay.proofs.world.World.off.Goals as goal

pub invariant_of-self : goal.invariant_of-self
invariant_of-self g c =
    let formulas_of = g.S.Suite.formulas_of in
    let inside = c.self.inside in
    let geo = shape_of inside.geo in
    let p : WorldParts =
    held (g.S.Suite.keys inside.suite) (memory_of inside.board) (ledger_of inside.ledger) (capacity_of inside.ledger) inside.engine (g.S.Suite.tags inside.suite)
    (g.S.Suite.digests inside.suite) inside.ports inside.tampered inside.dirtied inside.steps inside.start inside.shown in
    let going = going_in formulas_of geo p c.args.self.now c.self.view_is c.requires c.self.invariant in
    held_after formulas_of geo p _ (Do.Off) _
    (off-ok (setup_in formulas_of geo p) p going c.is_none.result c.is_none.ensures c.if-is_none.false (memory_of c.off.new.self) c.lose_power.new.self c.off.ensures
    (c.lose_power.ensures ∙ ap (λ b. queues_after_loss b inside.ports) c.is_durable.ensures))

pub returns : goal.returns
returns g c =
    let formulas_of = g.S.Suite.formulas_of in
    let inside = c.self.inside in
    let geo = shape_of inside.geo in
    let p : WorldParts =
    held (g.S.Suite.keys inside.suite) (memory_of inside.board) (ledger_of inside.ledger) (capacity_of inside.ledger) inside.engine (g.S.Suite.tags inside.suite)
    (g.S.Suite.digests inside.suite) inside.ports inside.tampered inside.dirtied inside.steps inside.start inside.shown in
    let going = going_in formulas_of geo p c.args.self.now c.self.view_is c.requires c.self.invariant in
    seen_from formulas_of geo p c.args.self.now _ (Do.Off) _ c.self.view_is
    (off-ok (setup_in formulas_of geo p) p going c.is_none.result c.is_none.ensures c.if-is_none.false (memory_of c.off.new.self) c.lose_power.new.self c.off.ensures
    (c.lose_power.ensures ∙ ap (λ b. queues_after_loss b inside.ports) c.is_durable.ensures))
