-- A waiting write is given to the engine, and taken off its queue unless it was lost.
use Rattle.std.proofs.Common.{Bool, List, refl, sym, ap, subst, ◌∙◌}
use Rattle.std.specs.Prelude.{Result, drop, length, if◌then◌else◌}
use Rattle.pmem_base.specs.declared.lines.Ctr.{Ctr}
use Rattle.pmem_base.specs.declared.answers.Answer.TheVariants as Say
use Rattle.pmem_base.specs.declared.answers.Mark.{Mark}
use Rattle.pmem_engine.specs.declared.fault.Fault.{Fault}
use Rattle.pmem_engine.specs.Outcomes.{is_sealed_by}
use Rattle.pmem_replay.specs.EngineCalls.{without_oldest}
use Rattle.pmem_replay.specs.Given.{IsDrainSaid}
use Rattle.access_log.specs.Traced.{traced_of}
use Rattle.access_log.proofs.TraceLemmas.{goes_on-between}
use Rattle.pmem_replay.specs.World.{setup_of_world}
use Rattle.pmem_replay.proofs.Drains.WriteWorlds.{front_on_memory}
use Rattle.pmem_replay.proofs.Drains.GivenWrites.{gives}
use Rattle.pmem_replay.proofs.world.World.give.Goals as goal

pub call-done-requires-clause-within : goal.call-done-requires-clause-within
call-done-requires-clause-within g c =
    front_on_memory (setup_of_world g.S.Suite.formulas_of c.args.self.now) c.args.self.now.state c.args.port c.front-write.result c.front-write.ensures.later
    c.holds.ensures.queues c.requires.port c.front-write.ensures.waits

pub call-done-requires-clause-can : goal.call-done-requires-clause-can
call-done-requires-clause-can g c = (call-done-requires-clause-within g c, c.front-write.ensures.posted, c.requires.room)

pub returns-in-Ok-clause-given : goal.returns-in-Ok-clause-given
returns-in-Ok-clause-given g c =
    let mid = c.call-done.new.self in
    gives g.S.Suite.formulas_of c.args.self.now mid c.take_off.new.self c.args.port c.front-write.result c.call-done.result.taken c.call-done.result.answer
    c.has_sealed-put.result c.steps-steps.result _ c.requires.port c.holds.ensures c.requires.shown c.front-write.ensures c.call-done.ensures.called
    (c.has_sealed-put.ensures
    ∙ ap (λ (ms : List Mark). is_sealed_by (drop (length ms) mid.ledger.marks) c.front-write.result.at) c.marks-from.ensures)
    c.steps-steps.ensures
    (c.take_off.ensures.left ∙ ap (λ (b : Bool). if b then mid else without_oldest mid c.args.port) c.is_lost.ensures)
    (subst (λ (r : Result Ctr Fault). IsDrainSaid c.take_off.new.self r c.has_sealed-put.result c.steps-steps.result (Say.Drained c.steps-steps.result))
    (sym c.in-Ok.is) refl)

pub returns-in-Ok-clause-logged : goal.returns-in-Ok-clause-logged
returns-in-Ok-clause-logged g c =
    goes_on-between c.args.log.now c.call-done.new.log c.args.self.now.board c.args.self.now.board c.call-done.new.self.board c.take_off.new.self.board
    refl (ap traced_of c.take_off.ensures.board) c.call-done.ensures.logged

pub returns-in-Err-clause-logged : goal.returns-in-Err-clause-logged
returns-in-Err-clause-logged g c =
    goes_on-between c.args.log.now c.call-done.new.log c.args.self.now.board c.args.self.now.board c.call-done.new.self.board c.take_off.new.self.board
    refl (ap traced_of c.take_off.ensures.board) c.call-done.ensures.logged

pub returns-in-Err-clause-given : goal.returns-in-Err-clause-given
returns-in-Err-clause-given g c =
    let mid = c.call-done.new.self in
    gives g.S.Suite.formulas_of c.args.self.now mid c.take_off.new.self c.args.port c.front-write.result c.call-done.result.taken c.call-done.result.answer
    c.has_sealed-put.result c.steps-steps.result _ c.requires.port c.holds.ensures c.requires.shown c.front-write.ensures c.call-done.ensures.called
    (c.has_sealed-put.ensures
    ∙ ap (λ (ms : List Mark). is_sealed_by (drop (length ms) mid.ledger.marks) c.front-write.result.at) c.marks-from.ensures)
    c.steps-steps.ensures
    (c.take_off.ensures.left ∙ ap (λ (b : Bool). if b then mid else without_oldest mid c.args.port) c.is_lost.ensures)
    (subst (λ (r : Result Ctr Fault). IsDrainSaid c.take_off.new.self r c.has_sealed-put.result c.steps-steps.result c.stopped.result)
    (sym c.in-Err.is) c.stopped.ensures)
