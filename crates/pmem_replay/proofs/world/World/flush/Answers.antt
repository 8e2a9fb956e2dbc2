-- A dirty block is written back, where there is one.
use Rattle.std.proofs.Common.{ℕ, ◌≡◌, rules, subst, sym, ap, ◌∙◌, Ok, Err, Option, Some, None, true, inr}
use Rattle.std.specs.Prelude.{Result}
use Rattle.pmem_base.specs.Shape.{Shape}
use Rattle.pmem_base.specs.declared.commands.Command.TheVariants as Do
use Rattle.pmem_base.specs.declared.answers.Answer.TheVariants as Say
use Rattle.suite.specs.Setup.{Setup}
use Rattle.plain_model.specs.After.{after_clean}
use Rattle.pmem_engine.specs.declared.fault.Fault.{Fault}
use Rattle.pmem_replay.specs.Planned.{FlushesBlock}
use Rattle.pmem_replay.specs.EngineCalls.{HasCalledEngine, IsFaultAnswered}
use Rattle.pmem_replay.specs.Replies.{without_marks}
use Rattle.pmem_replay.specs.Stepped.{HasStepped}
use Rattle.pmem_replay.specs.World.{WorldState, setup_of_world}
use Rattle.pmem_replay.proofs.EngineCalls.CommandSteps.{Serving, serving}
use Rattle.pmem_replay.proofs.Commands.FlushSteps.{same_shape, flush_clean_in, flush_clean_at, flush_clean, flushed_state, flush_flushed, flush_stopped}
use Rattle.pmem_replay.proofs.Drains.FenceLaws.{on_lit}
use Rattle.pmem_replay.proofs.world.World.flush.Given.{Over}
use Rattle.pmem_replay.proofs.world.World.flush.Goals.{After-steps-steps}
use Rattle.pmem_replay.proofs.world.World.flush.Goals as goal

-- once the engine has answered
module _ (g : Over) (c : After-steps-steps g) where
  abbrev setup : Setup
  setup = setup_of_world g.S.Suite.formulas_of c.args.self.now

  abbrev served : (answer : Result (Option ℕ) Fault) → c.call-done.result.answer ≡ answer → Serving FlushesBlock None answer
  served answer is =
      serving setup c.args.self.now c.call-done.result.taken c.call-done.new.self
      (subst (λ (r : Result (Option ℕ) Fault). HasCalledEngine setup FlushesBlock None c.args.self.now c.call-done.result.taken r c.call-done.new.self) is c.call-done.ensures.called)

  on : c.args.self.now.state.power ≡ true
  on = on_lit setup c.args.self.now c.holds.ensures (search (rules, c.is_on.ensures, c.if-not-is_on.false))

pub note_clean-requires-clause-clean : goal.note_clean-requires-clause-clean
note_clean-requires-clause-clean g c =
    let at = (goal.at.note_clean-requires-clause-clean g c).After-steps-steps in
    flush_clean_in (served g at (Ok None) (let h = c.in-Ok-None.is in search rules))

pub note_flushed-requires-clause-clean : goal.note_flushed-requires-clause-clean
note_flushed-requires-clause-clean g c =
    let at = (goal.at.note_flushed-requires-clause-clean g c).After-steps-steps in
    flush_clean_at c.in-Ok-Some.x (served g at (Ok (Some c.in-Ok-Some.x)) (let h = c.in-Ok-Some.is in search rules))

pub returns-in-Ok-None-clause-stepped : goal.returns-in-Ok-None-clause-stepped
returns-in-Ok-None-clause-stepped g c =
    let at = (goal.at.returns-in-Ok-None-clause-stepped g c).After-steps-steps in
    let s = served g at (Ok None) (let h = c.in-Ok-None.is in search rules) in
    let mid = c.call-done.new.self in
    subst (λ (w : WorldState). HasStepped (setup g at) c.args.self.now Do.Flush (without_marks Say.Clean) w)
    (sym (c.note_clean.ensures ∙ ap (λ (shape : Shape). record mid { state = after_clean shape mid.state }) (same_shape (Ok None) s)))
    (flush_clean s)

pub returns-in-Ok-Some-clause-stepped : goal.returns-in-Ok-Some-clause-stepped
returns-in-Ok-Some-clause-stepped g c =
    let at = (goal.at.returns-in-Ok-Some-clause-stepped g c).After-steps-steps in
    let s = served g at (Ok (Some c.in-Ok-Some.x)) (let h = c.in-Ok-Some.is in search rules) in
    subst (λ (w : WorldState). HasStepped (setup g at) c.args.self.now Do.Flush (without_marks (Say.Flushed c.in-Ok-Some.x c.steps-steps.result)) w) (sym c.note_flushed.ensures)
    (subst (λ n. HasStepped (setup g at) c.args.self.now Do.Flush (without_marks (Say.Flushed c.in-Ok-Some.x n)) (record (c.call-done.new.self) { state = flushed_state c.in-Ok-Some.x c.call-done.new.self.state })) (sym c.steps-steps.ensures)
    (flush_flushed c.in-Ok-Some.x s))

pub returns-in-Err-clause-stepped : goal.returns-in-Err-clause-stepped
returns-in-Err-clause-stepped g c =
    let at = (goal.at.returns-in-Err-clause-stepped g c).After-steps-steps in
    flush_stopped c.in-Err.fault (served g at (Err c.in-Err.fault) c.in-Err.is) c.stopped.result
    (subst (λ n. IsFaultAnswered c.call-done.new.self.ledger.exhibit None c.in-Err.fault n c.stopped.result) c.steps-steps.ensures c.stopped.ensures)

pub returns-in-Ok-None-clause-kept : goal.returns-in-Ok-None-clause-kept
returns-in-Ok-None-clause-kept g c = inr (on g (goal.at.returns-in-Ok-None-clause-kept g c).After-steps-steps)

pub returns-in-Ok-Some-clause-kept : goal.returns-in-Ok-Some-clause-kept
returns-in-Ok-Some-clause-kept g c = inr (on g (goal.at.returns-in-Ok-Some-clause-kept g c).After-steps-steps)

pub returns-in-Err-clause-kept : goal.returns-in-Err-clause-kept
returns-in-Err-clause-kept g c = inr (on g (goal.at.returns-in-Err-clause-kept g c).After-steps-steps)
