-- The stop-loss number: what the world answers, and what becomes of it.
use Rattle.std.proofs.Common.{ℕ, ◌≡◌, ◌≢◌, [], None, IsTrue, refl, sym, subst, ◌∙◌}
use Rattle.std.specs.Prelude.{Result, Ok, Err}
use Rattle.std.proofs.lemmas.Bool.{ne_eqb}
use Rattle.pmem_base.specs.declared.commands.Command.TheVariants as Do
use Rattle.pmem_base.specs.declared.answers.Answer.{Answer}
use Rattle.pmem_base.specs.declared.answers.Answer.TheVariants as Say
use Rattle.pmem_base.specs.Shape.{is_loss}
use Rattle.plain_model.specs.Answers.{decided_answer}
use Rattle.pmem_engine.specs.declared.fault.Fault.{Fault}
use Rattle.pmem_engine.specs.declared.fault.Fault.TheVariants as Fail
use Rattle.call_effects.specs.Outcomes.{going, cut_short}
use Rattle.pmem_engine.specs.Outcomes.{outcome_of, CallEffect}
use Rattle.pmem_engine.specs.Calls.{HasSetLoss, AnswersLoss}
use Rattle.watched_board.specs.Watching.{none_taken, steps_in}
use Rattle.pmem_replay.specs.During.{parts_in}
use Rattle.pmem_replay.specs.Planned.{SetsLoss, plan_of_loss}
use Rattle.pmem_replay.specs.EngineCalls.{IsFaultAnswered}
use Rattle.pmem_replay.specs.Replies.{without_marks}
use Rattle.pmem_replay.specs.Stepped.{HasStepped, IsLossAnswer}
use Rattle.pmem_replay.proofs.Commands.LossLaws as laws
use Rattle.pmem_replay.proofs.Table.UnchangedSteps.{lit_in}
use Rattle.pmem_replay.proofs.EngineCalls.CommandSteps.{Serving, old_of, few_of, ends_as}

module _ (n : ℕ) (answer : Result ℕ Fault) (s : Serving (SetsLoss n) None answer) (some : IsTrue (is_loss n)) (other : n ≢ s.first.state.loss) where
  effect : CallEffect s.setup (outcome_of answer) [] (parts_in (old_of s) s.called.engine none_taken) (parts_in s.new s.called.after s.taken)
  effect = s.called.related.related.gone

  answered : AnswersLoss s.setup.shape n (parts_in (old_of s) s.called.engine none_taken) (parts_in s.new s.called.after s.taken) answer
  answered = s.called.related.related.answered

  undecided : decided_answer s.setup.shape s.first.state (Do.Loss n) ≡ None
  undecided =
      rw (lit_in s.setup (old_of s) s.called.engine s.called.call.world s.called.call.was_on)
      (rw some (rw (ne_eqb n s.first.state.loss other) refl))

-- it is set
pub loss_set : (n steps : ℕ) (s : Serving (SetsLoss n) None (Ok steps)) → IsTrue (is_loss n) → n ≢ s.first.state.loss
    → HasStepped s.setup s.first (Do.Loss n) (without_marks (Say.LossSet (steps_in s.taken))) s.new
loss_set n steps s some other =
    let w = s.called in
    ends_as s (Do.Loss n) [] going refl n (answered n (Ok steps) s some other).2 (undecided n (Ok steps) s some other) (effect n (Ok steps) s some other).marks
    (plan_of_loss n) (λ p q r. HasSetLoss s.setup n p q r) IsLossAnswer (λ said it. it)
    (Say.LossSet (steps_in s.taken)) (laws.set-good s.setup (old_of s) s.new w.engine w.after s.taken w.call n other steps w.related.related)
    (few_of s) refl refl (λ quiet. refl) (λ quiet. refl) w.related refl tt

-- or power is cut
pub loss_stopped : (n : ℕ) (fault : Fault) (s : Serving (SetsLoss n) None (Err fault)) → IsTrue (is_loss n) → n ≢ s.first.state.loss → (said : Answer)
    → IsFaultAnswered s.new.ledger.exhibit None fault (steps_in s.taken) said → HasStepped s.setup s.first (Do.Loss n) (without_marks said) s.new
loss_stopped n Fail.Cut s some other said is =
    let w = s.called in
    subst (λ a. HasStepped s.setup s.first (Do.Loss n) (without_marks a) s.new) (sym is)
    (ends_as s (Do.Loss n) [] cut_short refl s.first.state.loss ((answered n (Err Fail.Cut) s some other).1 ∙ w.call.world.board.loss)
    (undecided n (Err Fail.Cut) s some other) (effect n (Err Fail.Cut) s some other).marks
    (plan_of_loss n) (λ p q r. HasSetLoss s.setup n p q r) IsLossAnswer (λ said it. it)
    (Say.Cut (steps_in s.taken)) (laws.cut-good s.setup (old_of s) s.new w.engine w.after s.taken w.call n other w.related.related)
    (few_of s) refl refl (λ quiet. refl) (λ quiet. refl) w.related refl tt)
loss_stopped n Fail.Down s some other said is = absurd is
loss_stopped n (Fail.Meta x) s some other said is = absurd (answered n (Err (Fail.Meta x)) s some other)
loss_stopped n (Fail.Tag at) s some other said is = absurd (answered n (Err (Fail.Tag at)) s some other)
loss_stopped n (Fail.Spent page) s some other said is = absurd (answered n (Err (Fail.Spent page)) s some other)
loss_stopped n Fail.Shown s some other said is = absurd (answered n (Err Fail.Shown) s some other)
