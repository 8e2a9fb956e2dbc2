-- A line of the copy comes back, where there is one.
use Rattle.std.proofs.Common.{arith}
use Rattle.pmem_replay.proofs.Table.TableChanges.{back-ok}
use Rattle.pmem_base.specs.Geo.{shape_of}
use Rattle.board.specs.MemBoard.{memory_of}
use Rattle.seal_ledger.specs.View.{capacity_of, ledger_of}
use Rattle.pmem_base.specs.declared.commands.Command.TheVariants as Do
use Rattle.pmem_replay.specs.World.{WorldParts, state_in}
use Rattle.pmem_replay.proofs.Steps.PartsOfWorld.{held, setup_in, going_in, power_is, seen_from, held_after}
use Rattle.pmem_replay.proofs.world.World.back.Goals as goal

pub invariant_of-self-2 : goal.invariant_of-self-2
invariant_of-self-2 g c =
    let formulas_of = g.S.Suite.formulas_of in
    let inside = c.self.inside in
    let geo = shape_of inside.geo in
    let p : WorldParts =
    held (g.S.Suite.keys inside.suite) (memory_of inside.board) (ledger_of inside.ledger) (capacity_of inside.ledger) inside.engine (g.S.Suite.tags inside.suite)
    (g.S.Suite.digests inside.suite) inside.ports inside.tampered inside.dirtied inside.steps inside.start inside.shown in
    let going = going_in formulas_of geo p c.args.self.now c.self.view_is c.requires c.self.invariant in
    held_after formulas_of geo p _ (Do.Back c.args.at) _
    (back-ok (setup_in formulas_of geo p) p going c.args.at (memory_of c.back.new.self) c.tamper.new.self
    (omega (arith, c.if-at-from.false, c.from.ensures, c.size.ensures.value)) (λ none. let h = c.back.ensures.none.1 none in cc) c.back.ensures.lines
    c.back.new.self.each_line
    (c.tamper.ensures (state_in (setup_in formulas_of geo p) p) (power_is (setup_in formulas_of geo p) p c.is_some.result going c.is_some.ensures)))

pub returns : goal.returns
returns g c =
    let formulas_of = g.S.Suite.formulas_of in
    let inside = c.self.inside in
    let geo = shape_of inside.geo in
    let p : WorldParts =
    held (g.S.Suite.keys inside.suite) (memory_of inside.board) (ledger_of inside.ledger) (capacity_of inside.ledger) inside.engine (g.S.Suite.tags inside.suite)
    (g.S.Suite.digests inside.suite) inside.ports inside.tampered inside.dirtied inside.steps inside.start inside.shown in
    let going = going_in formulas_of geo p c.args.self.now c.self.view_is c.requires c.self.invariant in
    seen_from formulas_of geo p c.args.self.now _ (Do.Back c.args.at) _ c.self.view_is
    (back-ok (setup_in formulas_of geo p) p going c.args.at (memory_of c.back.new.self) c.tamper.new.self
    (omega (arith, c.if-at-from.false, c.from.ensures, c.size.ensures.value)) (λ none. let h = c.back.ensures.none.1 none in cc) c.back.ensures.lines
    c.back.new.self.each_line
    (c.tamper.ensures (state_in (setup_in formulas_of geo p) p) (power_is (setup_in formulas_of geo p) p c.is_some.result going c.is_some.ensures)))
