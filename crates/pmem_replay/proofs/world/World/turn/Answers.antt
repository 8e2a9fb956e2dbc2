-- A line is sealed anew, or the turn is stopped, or no page is open.
use Rattle.std.proofs.Common.{ℕ, ◌≡◌, rules, refl, ap, subst, sym, Ok, Err, Option, Some, None, true, inr}
use Rattle.std.specs.Prelude.{Result}
use Rattle.pmem_base.specs.declared.commands.Command.TheVariants as Do
use Rattle.pmem_base.specs.declared.answers.Answer.TheVariants as Say
use Rattle.suite.specs.Setup.{Setup}
use Rattle.pmem_engine.specs.declared.fault.Fault.{Fault}
use Rattle.access_log.specs.Traced.{traced_of}
use Rattle.access_log.proofs.TraceLemmas.{goes_on-between}
use Rattle.pmem_replay.specs.Planned.{TurnsPage}
use Rattle.pmem_replay.specs.EngineCalls.{HasCalledEngine, IsFaultAnswered}
use Rattle.pmem_replay.specs.Replies.{with_marks_since}
use Rattle.pmem_replay.specs.Stepped.{HasStepped}
use Rattle.pmem_replay.specs.World.{WorldState, setup_of_world}
use Rattle.pmem_replay.proofs.EngineCalls.CommandSteps.{Serving, serving_roomy}
use Rattle.pmem_replay.proofs.Commands.TurnSteps.{turn_idle, turn_turned, turn_stopped}
use Rattle.pmem_replay.proofs.Drains.FenceLaws.{on_lit}
use Rattle.pmem_replay.proofs.Steps.PartsOfWorld.{since}
use Rattle.pmem_replay.proofs.world.World.turn.Given.{Over}
use Rattle.pmem_replay.proofs.world.World.turn.Goals.{After-steps-steps}
use Rattle.pmem_replay.proofs.world.World.turn.Goals as goal

-- once the engine has answered
module _ (g : Over) (c : After-steps-steps g) where
  abbrev setup : Setup
  setup = setup_of_world g.S.Suite.formulas_of c.args.self.now

  abbrev served : (answer : Result (Option (ℕ × ℕ)) Fault) → c.call-done.result.answer ≡ answer → Serving TurnsPage None answer
  served answer is =
      serving_roomy TurnsPage None answer g.S.Suite.formulas_of c.args.self.now c.make_room.new.self 1 c.in_ok-make_room.ensures.ok c.call-done.result.taken c.call-done.new.self
      (subst (λ (r : Result (Option (ℕ × ℕ)) Fault). HasCalledEngine (setup_of_world g.S.Suite.formulas_of c.make_room.new.self) TurnsPage None c.make_room.new.self c.call-done.result.taken r c.call-done.new.self)
      is c.call-done.ensures.called)

  on : c.args.self.now.state.power ≡ true
  on = on_lit setup c.args.self.now c.holds.ensures (search (rules, c.is_on.ensures, c.if-not-is_on.false))

pub returns-in-Ok-None-clause-stepped : goal.returns-in-Ok-None-clause-stepped
returns-in-Ok-None-clause-stepped g c =
    let at = (goal.at.returns-in-Ok-None-clause-stepped g c).After-steps-steps in
    since _ c.args.self.now _ Do.Turn _ _ (turn_idle (served g at (Ok None) (let h = c.in-Ok-None.is in search rules)))

pub returns-in-Ok-Some-clause-stepped : goal.returns-in-Ok-Some-clause-stepped
returns-in-Ok-Some-clause-stepped g c =
    let at = (goal.at.returns-in-Ok-Some-clause-stepped g c).After-steps-steps in
    subst (λ n. HasStepped (setup g at) c.args.self.now Do.Turn (with_marks_since c.args.self.now c.call-done.new.self (Say.Turned c.in-Ok-Some.turned.1 n)) c.call-done.new.self)
    (sym c.steps-steps.ensures)
    (since _ c.args.self.now _ Do.Turn _ _
    (turn_turned c.in-Ok-Some.turned (served g at (Ok (Some c.in-Ok-Some.turned)) (let h = c.in-Ok-Some.is in search rules)) c.is_byte.ensures))

pub returns-in-Err-clause-stepped : goal.returns-in-Err-clause-stepped
returns-in-Err-clause-stepped g c =
    let at = (goal.at.returns-in-Err-clause-stepped g c).After-steps-steps in
    since _ c.args.self.now _ Do.Turn _ _
    (turn_stopped c.in-Err.fault (served g at (Err c.in-Err.fault) c.in-Err.is) c.stopped.result
    (subst (λ n. IsFaultAnswered c.call-done.new.self.ledger.exhibit None c.in-Err.fault n c.stopped.result) c.steps-steps.ensures c.stopped.ensures))

pub returns-in-Ok-Some-clause-logged : goal.returns-in-Ok-Some-clause-logged
returns-in-Ok-Some-clause-logged g c =
    goes_on-between c.args.log.now c.call-done.new.log c.args.self.now.board c.make_room.new.self.board c.call-done.new.self.board c.call-done.new.self.board
    (ap (λ (w : WorldState). traced_of w.board) c.in_ok-make_room.ensures.ok.same) refl c.call-done.ensures.logged

pub returns-in-Ok-None-clause-kept : goal.returns-in-Ok-None-clause-kept
returns-in-Ok-None-clause-kept g c = inr (on g (goal.at.returns-in-Ok-None-clause-kept g c).After-steps-steps)

pub returns-in-Ok-Some-clause-kept : goal.returns-in-Ok-Some-clause-kept
returns-in-Ok-Some-clause-kept g c = inr (on g (goal.at.returns-in-Ok-Some-clause-kept g c).After-steps-steps)

pub returns-in-Err-clause-kept : goal.returns-in-Err-clause-kept
returns-in-Err-clause-kept g c = inr (on g (goal.at.returns-in-Err-clause-kept g c).After-steps-steps)
