-- Flushes: what the world answers, and what becomes of it.
use Rattle.std.proofs.Common.{ℕ, ◌≡◌, inl, inr, [], Option, Some, None, refl, sym, ap, subst, ◌∙◌}
use Rattle.std.specs.Prelude.{Result, Ok, Err}
use Rattle.std.proofs.lemmas.Bool.{cases_Bool}
use Rattle.pmem_base.specs.declared.commands.Command.TheVariants as Do
use Rattle.pmem_base.specs.declared.answers.Answer.{Answer}
use Rattle.pmem_base.specs.declared.answers.Answer.TheVariants as Say
use Rattle.pmem_base.specs.Shape.{Shape}
use Rattle.meta_cache.specs.Banks.{is_cached_dirty}
use Rattle.plain_model.specs.State.{PlainState, with_flag}
use Rattle.plain_model.specs.After.{after_clean}
use Rattle.plain_model.specs.Answers.{decided_answer}
use Rattle.pmem_engine.specs.declared.fault.Fault.{Fault}
use Rattle.pmem_engine.specs.declared.fault.Fault.TheVariants as Fail
use Rattle.pmem_engine.specs.Engine.{ChipState, EngineState}
use Rattle.call_effects.specs.Outcomes.{going, cut_short}
use Rattle.pmem_engine.specs.Outcomes.{outcome_of, OneLossEffect}
use Rattle.pmem_engine.specs.Calls.{HasFlushed, AnswersFlush}
use Rattle.watched_board.specs.Watching.{none_taken, steps_in}
use Rattle.pmem_replay.specs.During.{parts_in}
use Rattle.pmem_replay.specs.Planned.{FlushesBlock, plan_of_flush}
use Rattle.pmem_replay.specs.EngineCalls.{called_state, IsFaultAnswered, IsCleanIn, IsCleanAt}
use Rattle.pmem_replay.specs.Replies.{without_marks}
use Rattle.pmem_replay.specs.Stepped.{HasStepped, IsFlushAnswer}
use Rattle.pmem_replay.proofs.EngineCalls.NotedWorlds.{clean_noted, flushed_noted}
use Rattle.pmem_replay.proofs.Commands.FlushLaws as laws
use Rattle.pmem_replay.proofs.Steps.DeviceEvidence.{small_position}
use Rattle.pmem_replay.proofs.Table.UnchangedSteps.{lit_in}
use Rattle.pmem_replay.proofs.EngineCalls.CommandSteps.{Serving, old_of, on_of, few_of, done_as, state_is, stepped_call, ends_as}

module _ (answer : Result (Option ℕ) Fault) (s : Serving FlushesBlock None answer) where
  done : OneLossEffect s.setup (outcome_of answer) [] (parts_in (old_of s) s.called.engine none_taken) (parts_in s.new s.called.after s.taken)
  done = s.called.related.related.done

  answered : AnswersFlush s.setup.shape (parts_in (old_of s) s.called.engine none_taken) (parts_in s.new s.called.after s.taken) answer
  answered = s.called.related.related.answered

  undecided : decided_answer s.setup.shape s.first.state Do.Flush ≡ None
  undecided = rw (lit_in s.setup (old_of s) s.called.engine s.called.call.world s.called.call.was_on) refl

  pub same_shape : s.new.shape ≡ s.setup.shape
  same_shape = s.called.call.shape ∙ s.called.call.world.its_shape

  loss : s.new.board.regs.loss ≡ s.first.state.loss
  loss = done.loss ∙ s.called.call.world.board.loss

-- nothing is dirty
pub flush_clean_in : (s : Serving FlushesBlock None (Ok None)) → IsCleanIn s.new.shape s.new.engine
flush_clean_in s =
    let clean = answered (Ok None) s in
    subst (λ (g : Shape). IsCleanIn g s.new.engine) (sym (same_shape (Ok None) s))
    (subst (λ (e : Option EngineState). IsCleanIn s.setup.shape e) (sym s.called.kept)
    (λ bank x. ap (λ (e : ChipState). is_cached_dirty s.setup.shape e.cache bank x) clean.0.engine ∙ clean.1 bank x))

pub flush_clean : (s : Serving FlushesBlock None (Ok None))
    → HasStepped s.setup s.first Do.Flush (without_marks Say.Clean) (record (s.new) { state = after_clean s.setup.shape s.new.state })
flush_clean s =
    let w = s.called in
    let clean = subst (λ (g : Shape). IsCleanIn g s.new.engine) (same_shape (Ok None) s) (flush_clean_in s) in
    let marks = (done (Ok None) s).gone.marks in
    let none : steps_in s.taken ≡ 0 = laws.left_alone-steps s.setup (old_of s) s.new w.engine w.after s.taken (answered (Ok None) s).0 in
    let state = state_is s going refl refl [] marks s.first.state.loss (loss (Ok None) s)
    ∙ ap (λ (n : ℕ). called_state s.setup.shape going None [] n s.first.state.loss s.first.state) none in
    stepped_call s Do.Flush [] Say.Clean (after_clean s.setup.shape s.new.state) (undecided (Ok None) s) marks
    (laws.clean-good s.setup (old_of s) s.new w.engine w.after s.taken w.call w.related.related) tt refl
    (λ quiet. ap (after_clean s.setup.shape) state) (λ quiet. clean_noted s.setup s.new (w.holds w.shown) clean)
    (done_as s (after_clean s.setup.shape s.new.state) plan_of_flush (λ p q r. HasFlushed s.setup p q r) IsFlushAnswer w.related Say.Clean refl refl (λ quiet. sym none)) tt

-- a block is written back, and clean
pub flush_clean_at : (x : ℕ) (s : Serving FlushesBlock None (Ok (Some x))) → IsCleanAt s.new.shape s.new.engine x
flush_clean_at x s =
    subst (λ (g : Shape). IsCleanAt g s.new.engine x) (sym (same_shape (Ok (Some x)) s))
    (subst (λ (e : Option EngineState). IsCleanAt s.setup.shape e x) (sym s.called.kept)
    (λ bank.
    elim (cases_Bool (is_cached_dirty s.setup.shape s.called.after.cache bank x)) [
      | inl dirty ↦
          absurd (laws.clean_everywhere s.setup s.new s.called.after bank x x
          ((done (Ok (Some x)) s).gone.trusted (on_of s).trusted) (answered (Ok (Some x)) s).1 dirty refl)
      | inr clean ↦ clean
    ]))

abbrev pub flushed_state : ℕ → PlainState → PlainState
flushed_state x state = record state { flushed = with_flag state.flushed x }

pub flush_flushed : (x : ℕ) (s : Serving FlushesBlock None (Ok (Some x)))
    → HasStepped s.setup s.first Do.Flush (without_marks (Say.Flushed x (steps_in s.taken))) (record (s.new) { state = flushed_state x s.new.state })
flush_flushed x s =
    let w = s.called in
    let clean = subst (λ (g : Shape). IsCleanAt g s.new.engine x) (same_shape (Ok (Some x)) s) (flush_clean_at x s) in
    let marks = (done (Ok (Some x)) s).gone.marks in
    stepped_call s Do.Flush [] (Say.Flushed x (steps_in s.taken)) (flushed_state x s.new.state) (undecided (Ok (Some x)) s) marks
    (laws.flushed-good s.setup (old_of s) s.new w.engine w.after s.taken w.call x w.related.related)
    (small_position s.setup.shape w.call.world.whole_shape x (answered (Ok (Some x)) s).2, few_of s) refl
    (λ quiet. ap (flushed_state x) (state_is s going refl refl [] marks s.first.state.loss (loss (Ok (Some x)) s))) (λ quiet. flushed_noted s.setup s.new x (w.holds w.shown) clean)
    (done_as s (flushed_state x s.new.state) plan_of_flush (λ p q r. HasFlushed s.setup p q r) IsFlushAnswer w.related (Say.Flushed x (steps_in s.taken)) refl refl
    (λ quiet. refl)) tt

-- a flush that is stopped: it is cut
pub flush_stopped : (fault : Fault) (s : Serving FlushesBlock None (Err fault)) (said : Answer) → IsFaultAnswered s.new.ledger.exhibit None fault (steps_in s.taken) said
    → HasStepped s.setup s.first Do.Flush (without_marks said) s.new
flush_stopped Fail.Cut s said is =
    let w = s.called in
    subst (λ a. HasStepped s.setup s.first Do.Flush (without_marks a) s.new) (sym is)
    (ends_as s Do.Flush [] cut_short refl s.first.state.loss (loss (Err Fail.Cut) s) (undecided (Err Fail.Cut) s) (done (Err Fail.Cut) s).gone.marks
    plan_of_flush (λ p q r. HasFlushed s.setup p q r) IsFlushAnswer (λ said it. it)
    (Say.Cut (steps_in s.taken)) (laws.cut-good s.setup (old_of s) s.new w.engine w.after s.taken w.call w.related.related)
    (few_of s) refl refl (λ quiet. refl) (λ quiet. refl) w.related refl tt)
flush_stopped Fail.Down s said is = absurd is
flush_stopped (Fail.Meta x) s said is = absurd (answered (Err (Fail.Meta x)) s)
flush_stopped (Fail.Tag at) s said is = absurd (answered (Err (Fail.Tag at)) s)
flush_stopped (Fail.Spent page) s said is = absurd (answered (Err (Fail.Spent page)) s)
flush_stopped Fail.Shown s said is = absurd (answered (Err Fail.Shown) s)
