-- A write waits.
use Rattle.std.proofs.Common.{arith, Bool, ap₂, subst, ◌∙◌}
use Rattle.std.specs.Prelude.{slice_set, IsErr}
use Rattle.pmem_base.specs.declared.commands.Posted.{Posted}
use Rattle.pmem_base.specs.Ranges.{IsPosted}
use Rattle.pmem_replay.proofs.Table.TableChanges.{part-ok, has_room}
use Rattle.call_effects.proofs.ResultLaws.{from_no_error}
use Rattle.pmem_replay.proofs.Steps.PartsOfWorld.{engine_some}
use Rattle.pmem_base.specs.Geo.{shape_of}
use Rattle.board.specs.MemBoard.{memory_of}
use Rattle.seal_ledger.specs.View.{capacity_of, ledger_of}
use Rattle.pmem_base.specs.declared.commands.Command.TheVariants as Do
use Rattle.pmem_base.specs.WaitingWrites.{queue_of, queue_posted}
use Rattle.plain_model.specs.After.{posted_part}
use Rattle.pmem_replay.specs.World.{WorldParts}
use Rattle.pmem_replay.proofs.Steps.PartsOfWorld.{held, setup_in, going_in, seen_from, held_after}
use Rattle.pmem_replay.proofs.world.World.part.Goals as goal

pub invariant_of-self-2 : goal.invariant_of-self-2
invariant_of-self-2 g c =
    let fine : IsErr c.post.result → ⊥ = λ error. let h = c.if-is_err.false in let k = c.is_err.ensures.value in cc in
    let formulas_of = g.S.Suite.formulas_of in
    let inside = c.self.inside in
    let geo = shape_of inside.geo in
    let p : WorldParts =
    held (g.S.Suite.keys inside.suite) (memory_of inside.board) (ledger_of inside.ledger) (capacity_of inside.ledger) inside.engine (g.S.Suite.tags inside.suite)
    (g.S.Suite.digests inside.suite) inside.ports inside.tampered inside.dirtied inside.steps inside.start inside.shown in
    let going = going_in formulas_of geo p c.args.self.now c.self.view_is c.requires.shown c.self.invariant in
    let found = engine_some p.engine c.is_none.result c.is_none.ensures c.if-is_none.false in
    held_after formulas_of geo p _ (Do.Part c.args.port c.args.at c.args.from c.args.count c.args.line.now) _
    (part-ok (setup_in formulas_of geo p) p going found.0 found.1 c.args.port c.args.at c.args.from c.args.count c.args.line.now c.post.new.self
    c.requires.port (has_room c.combines.result geo.combines (queue_of inside.ports c.args.port) c.part_of_line-write.result (posted_part c.args.at c.args.from c.args.count c.args.line.now) (IsErr c.post.result) c.post.ensures.full fine
    c.combines.ensures c.part_of_line-write.ensures.value) (subst IsPosted c.part_of_line-write.ensures.value c.part_of_line-write.ensures.posted)
    (omega (arith, c.if-at-from.false, c.from.ensures, c.lines.ensures.value)) (omega (arith, c.if-from.false, c.from-2.ensures, c.requires.part.inside))
    (from_no_error c.post.result fine c.post.ensures.ok
    ∙ ap₂ (λ (b : Bool) (w : Posted). slice_set inside.ports c.args.port (queue_posted b (queue_of inside.ports c.args.port) w)) c.combines.ensures
    c.part_of_line-write.ensures.value))

pub returns : goal.returns
returns g c =
    let fine : IsErr c.post.result → ⊥ = λ error. let h = c.if-is_err.false in let k = c.is_err.ensures.value in cc in
    let formulas_of = g.S.Suite.formulas_of in
    let inside = c.self.inside in
    let geo = shape_of inside.geo in
    let p : WorldParts =
    held (g.S.Suite.keys inside.suite) (memory_of inside.board) (ledger_of inside.ledger) (capacity_of inside.ledger) inside.engine (g.S.Suite.tags inside.suite)
    (g.S.Suite.digests inside.suite) inside.ports inside.tampered inside.dirtied inside.steps inside.start inside.shown in
    let going = going_in formulas_of geo p c.args.self.now c.self.view_is c.requires.shown c.self.invariant in
    let found = engine_some p.engine c.is_none.result c.is_none.ensures c.if-is_none.false in
    seen_from formulas_of geo p c.args.self.now _ (Do.Part c.args.port c.args.at c.args.from c.args.count c.args.line.now) _ c.self.view_is
    (part-ok (setup_in formulas_of geo p) p going found.0 found.1 c.args.port c.args.at c.args.from c.args.count c.args.line.now c.post.new.self
    c.requires.port (has_room c.combines.result geo.combines (queue_of inside.ports c.args.port) c.part_of_line-write.result (posted_part c.args.at c.args.from c.args.count c.args.line.now) (IsErr c.post.result) c.post.ensures.full fine
    c.combines.ensures c.part_of_line-write.ensures.value) (subst IsPosted c.part_of_line-write.ensures.value c.part_of_line-write.ensures.posted)
    (omega (arith, c.if-at-from.false, c.from.ensures, c.lines.ensures.value)) (omega (arith, c.if-from.false, c.from-2.ensures, c.requires.part.inside))
    (from_no_error c.post.result fine c.post.ensures.ok
    ∙ ap₂ (λ (b : Bool) (w : Posted). slice_set inside.ports c.args.port (queue_posted b (queue_of inside.ports c.args.port) w)) c.combines.ensures
    c.part_of_line-write.ensures.value))
