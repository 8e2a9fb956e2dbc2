-- A copy is kept.
use Rattle.std.proofs.Common.{◌≡◌, false, ap, subst}
use Rattle.std.specs.Prelude.{is_some}
use Rattle.meta_path.proofs.NameLemmas.{on_err}
use Rattle.pmem_replay.proofs.Table.TableChanges.{snap-ok}
use Rattle.pmem_base.specs.Geo.{shape_of}
use Rattle.board.specs.MemBoard.{memory_of}
use Rattle.seal_ledger.specs.View.{capacity_of, ledger_of}
use Rattle.pmem_base.specs.declared.commands.Command.TheVariants as Do
use Rattle.pmem_replay.specs.World.{WorldParts, WorldState}
use Rattle.pmem_replay.proofs.Steps.PartsOfWorld.{held, setup_in, going_in, held_after, seen_from}
use Rattle.pmem_replay.proofs.world.World.snap.Goals as goal

pub invariant_of-self-2 : goal.invariant_of-self-2
invariant_of-self-2 g c =
    let formulas_of = g.S.Suite.formulas_of in
    let inside = c.self.inside in
    let geo = shape_of inside.geo in
    let p : WorldParts =
    held (g.S.Suite.keys inside.suite) (memory_of inside.board) (ledger_of inside.ledger) (capacity_of inside.ledger) inside.engine (g.S.Suite.tags inside.suite)
    (g.S.Suite.digests inside.suite) inside.ports inside.tampered inside.dirtied inside.steps inside.start inside.shown in
    let going = going_in formulas_of geo p c.args.self.now c.self.view_is c.requires c.self.invariant in
    held_after formulas_of geo p _ (Do.Snap) _
    (snap-ok (setup_in formulas_of geo p) p going (memory_of c.snap.new.self) c.in_ok-snap.ensures.ok)

pub returns-clause-stepped : goal.returns-clause-stepped
returns-clause-stepped g c =
    let formulas_of = g.S.Suite.formulas_of in
    let inside = c.self.inside in
    let geo = shape_of inside.geo in
    let p : WorldParts =
    held (g.S.Suite.keys inside.suite) (memory_of inside.board) (ledger_of inside.ledger) (capacity_of inside.ledger) inside.engine (g.S.Suite.tags inside.suite)
    (g.S.Suite.digests inside.suite) inside.ports inside.tampered inside.dirtied inside.steps inside.start inside.shown in
    let going = going_in formulas_of geo p c.args.self.now c.self.view_is c.requires c.self.invariant in
    seen_from formulas_of geo p c.args.self.now _ (Do.Snap) _ c.self.view_is
    (snap-ok (setup_in formulas_of geo p) p going (memory_of c.snap.new.self) c.in_ok-snap.ensures.ok)

pub returns-in_err-snap-clause-wanting : goal.returns-in_err-snap-clause-wanting
returns-in_err-snap-clause-wanting g c =
    on_err _ (c.args.self.now.state.snapped ≡ false)
    (subst (λ (w : WorldState). w.state.snapped ≡ false) c.self.view_is (ap is_some c.in_err-snap.ensures.first_only))
