-- The number is set, or power is cut.
use Rattle.std.proofs.Common.{ℕ, ◌≡◌, rules, sym, subst, ◌∙◌, Ok, Err, None, true, inr}
use Rattle.std.specs.Prelude.{IsTrue, ◌≢◌, Result}
use Rattle.pmem_base.specs.Shape.{is_loss}
use Rattle.pmem_base.specs.declared.commands.Command.TheVariants as Do
use Rattle.pmem_base.specs.declared.answers.Answer.TheVariants as Say
use Rattle.suite.specs.Setup.{Setup}
use Rattle.pmem_engine.specs.declared.fault.Fault.{Fault}
use Rattle.pmem_replay.specs.Planned.{SetsLoss}
use Rattle.pmem_replay.specs.EngineCalls.{HasCalledEngine, IsFaultAnswered}
use Rattle.pmem_replay.specs.Replies.{without_marks}
use Rattle.pmem_replay.specs.Stepped.{HasStepped}
use Rattle.pmem_replay.specs.World.{setup_of_world}
use Rattle.pmem_replay.proofs.EngineCalls.CommandSteps.{Serving, serving}
use Rattle.pmem_replay.proofs.Commands.LossSteps.{loss_set, loss_stopped}
use Rattle.pmem_replay.proofs.Drains.FenceLaws.{on_lit}
use Rattle.pmem_replay.proofs.world.World.loss.Given.{Over}
use Rattle.pmem_replay.proofs.world.World.loss.Goals.{After-steps-steps}
use Rattle.pmem_replay.proofs.world.World.loss.Goals as goal

-- once the engine has answered
module _ (g : Over) (c : After-steps-steps g) where
  abbrev setup : Setup
  setup = setup_of_world g.S.Suite.formulas_of c.args.self.now

  abbrev served : (answer : Result ℕ Fault) → c.call-done.result.answer ≡ answer → Serving (SetsLoss c.args.n) None answer
  served answer is =
      serving setup c.args.self.now c.call-done.result.taken c.call-done.new.self
      (subst (λ (r : Result ℕ Fault). HasCalledEngine setup (SetsLoss c.args.n) None c.args.self.now c.call-done.result.taken r c.call-done.new.self) is c.call-done.ensures.called)

  on : c.args.self.now.state.power ≡ true
  on = on_lit setup c.args.self.now c.holds.ensures (search (rules, c.is_on.ensures, c.if-not-is_on.false))

  some : IsTrue (is_loss c.args.n)
  some = search (rules, c.is_loss.ensures, c.if-not-is_loss.false)

  other : c.args.n ≢ c.args.self.now.state.loss
  other same = c.if-n-from.false (same ∙ sym (c.from.ensures ∙ c.loss_now.ensures))

pub returns-in-Ok-clause-stepped : goal.returns-in-Ok-clause-stepped
returns-in-Ok-clause-stepped g c =
    let at = (goal.at.returns-in-Ok-clause-stepped g c).After-steps-steps in
    subst (λ n. HasStepped (setup g at) c.args.self.now (Do.Loss c.args.n) (without_marks (Say.LossSet n)) c.call-done.new.self) (sym c.steps-steps.ensures)
    (loss_set c.args.n c.in-Ok.field-0 (served g at (Ok c.in-Ok.field-0) c.in-Ok.is) (some g at) (other g at))

pub returns-in-Err-clause-stepped : goal.returns-in-Err-clause-stepped
returns-in-Err-clause-stepped g c =
    let at = (goal.at.returns-in-Err-clause-stepped g c).After-steps-steps in
    loss_stopped c.args.n c.in-Err.fault (served g at (Err c.in-Err.fault) c.in-Err.is) (some g at) (other g at) c.stopped.result
    (subst (λ n. IsFaultAnswered c.call-done.new.self.ledger.exhibit None c.in-Err.fault n c.stopped.result) c.steps-steps.ensures c.stopped.ensures)

pub returns-in-Ok-clause-kept : goal.returns-in-Ok-clause-kept
returns-in-Ok-clause-kept g c =
    let at = (goal.at.returns-in-Ok-clause-kept g c).After-steps-steps in
    inr (on g at, some g at, other g at)

pub returns-in-Err-clause-kept : goal.returns-in-Err-clause-kept
returns-in-Err-clause-kept g c =
    let at = (goal.at.returns-in-Err-clause-kept g c).After-steps-steps in
    inr (on g at, some g at, other g at)
