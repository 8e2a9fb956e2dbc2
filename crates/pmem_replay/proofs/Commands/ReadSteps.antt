-- Reads: what the world answers, and what becomes of it.
use Rattle.std.proofs.Common.{ℕ, ◌≡◌, ◌<◌, ◌^◌, inl, inr, false, [], None, refl, sym, ap, subst, ◌∙◌, arith}
use Rattle.std.specs.Prelude.{All, Result, Ok, Err}
use Rattle.std.proofs.lemmas.Bool.{true≢false, lt-ltb}
use Rattle.std.proofs.lemmas.List.{append-nil}
use Rattle.pmem_base.specs.declared.lines.Line.{Line}
use Rattle.pmem_base.specs.declared.commands.Command.TheVariants as Do
use Rattle.pmem_base.specs.declared.answers.Answer.{Answer}
use Rattle.pmem_base.specs.declared.answers.Answer.TheVariants as Say
use Rattle.pmem_base.specs.declared.answers.Place.{Place}
use Rattle.pmem_base.specs.Layout as layout
use Rattle.pmem_base.specs.Layout.{page_of}
use Rattle.pmem_base.specs.Lines.{IsLine}
use Rattle.pmem_base.specs.Ranges.{IsAnswer, IsExhibitValue}
use Rattle.pmem_base.specs.WaitingWrites.{queue_of, writes_to, put_writes}
use Rattle.commit_regs.specs.Groups.{redone}
use Rattle.seal_ledger.specs.Ledger.{IsMark}
use Rattle.plain_model.specs.After.{state_after, steps_of, is_cut}
use Rattle.plain_model.specs.Answers.{decided_answer, is_shown, is_covered}
use Rattle.pmem_engine.specs.declared.fault.Fault.{Fault}
use Rattle.pmem_engine.specs.declared.fault.Fault.TheVariants as Fail
use Rattle.call_effects.specs.Outcomes.{Outcome, going}
use Rattle.pmem_engine.specs.Outcomes.{outcome_of, OneLossEffect}
use Rattle.pmem_engine.specs.Invariants.{IsSealStored}
use Rattle.pmem_engine.specs.Calls.{HasReadLine}
use Rattle.watched_board.specs.Watching.{none_taken, steps_in}
use Rattle.pmem_replay.specs.During.{parts_in}
use Rattle.pmem_replay.specs.Planned.{ReadsLine, plan_of_read}
use Rattle.pmem_replay.specs.EngineCalls.{is_outcome_shown, is_outcome_cut, called_state, IsFaultAnswered}
use Rattle.pmem_replay.specs.Replies.{without_marks}
use Rattle.pmem_replay.specs.Stepped.{HasStepped, IsReadAnswer, IsSeenOnDevice, IsTagWrong, IsExhibitSeen}
use Rattle.pmem_replay.proofs.Steps.FaultCauses.{on_path-within}
use Rattle.pmem_replay.proofs.Steps.GoodReplies.{IsGood}
use Rattle.pmem_replay.proofs.Steps.DeviceEvidence.{meta_wrong, tag_wrong, small_position, small_line, clash_sight, forged_sight}
use Rattle.pmem_replay.proofs.Marks.SealedLines.{same_truth}
use Rattle.pmem_replay.proofs.Commands.ReadLaws as laws
use Rattle.pmem_replay.proofs.Table.UnchangedSteps.{lit_in}
use Rattle.pmem_replay.proofs.EngineCalls.CommandSteps.{Serving, old_of, on_of, few_of, ends_as}

module _ (port at : ℕ) (answer : Result Line Fault) (s : Serving (ReadsLine at) None answer) (within : at < layout.data_lines s.setup.shape)
    (uncovered : is_covered s.first.state port at ≡ false) where
  abbrev EndsRead : Answer → Type 0
  EndsRead said = HasStepped s.setup s.first (Do.Read port at) (without_marks said) s.new

  read : HasReadLine s.setup at (parts_in (old_of s) s.called.engine none_taken) (parts_in s.new s.called.after s.taken) answer
  read = s.called.related.related

  pub done : OneLossEffect s.setup (outcome_of answer) [] (parts_in (old_of s) s.called.engine none_taken) (parts_in s.new s.called.after s.taken)
  done = read.done

  pub same_marks : s.new.ledger.marks ≡ s.first.ledger.marks
  same_marks = done.gone.marks ∙ append-nil s.first.ledger.marks

  undecided : decided_answer s.setup.shape s.first.state (Do.Read port at) ≡ None
  undecided =
      rw (lit_in s.setup (old_of s) s.called.engine s.called.call.world s.called.call.was_on)
      (rw (lt-ltb at (layout.data_lines s.setup.shape) within) (rw uncovered refl))

  -- the command returns
  pub read_ends : (o : Outcome) → outcome_of answer ≡ o → (said : Answer)
      → IsGood s.setup (old_of s) (Do.Read port at) (without_marks said) → IsAnswer said
      → is_shown said ≡ is_outcome_shown o → is_cut said ≡ is_outcome_cut o → (is_shown said ≡ false → steps_of said ≡ steps_in s.taken)
      → (is_shown said ≡ false
      → called_state s.setup.shape o None [] (steps_in s.taken) s.first.state.loss s.first.state
      ≡ state_after s.setup.shape s.first.state (Do.Read port at) (without_marks said))
      → IsReadAnswer (writes_to (queue_of s.first.state.queues port) at) s.first.ledger s.new.ledger (steps_in s.taken) answer said → IsSeenOnDevice s.setup s.first (Do.Read port at) said s.new
      → EndsRead said
  read_ends o ends said good in_range shown cut steps after says seen =
      ends_as s (Do.Read port at) [] o ends s.first.state.loss (done.loss ∙ s.called.call.world.board.loss) undecided done.gone.marks
      (plan_of_read s.setup at) (λ p q r. HasReadLine s.setup at p q r) (IsReadAnswer (writes_to (queue_of s.first.state.queues port) at)) (λ said it. it)
      said good in_range shown cut steps after s.called.related says seen

-- a line
pub read_got : (port at : ℕ) (line shown : Line) (s : Serving (ReadsLine at) None (Ok line)) (within : at < layout.data_lines s.setup.shape)
    → is_covered s.first.state port at ≡ false → shown ≡ put_writes line (writes_to (queue_of s.first.state.queues port) at) → IsLine shown
    → HasStepped s.setup s.first (Do.Read port at) (without_marks (Say.Got shown (steps_in s.taken))) s.new
read_got port at line shown s within uncovered is its =
    let w = s.called in
    let effect = (done port at (Ok line) s within uncovered).gone in
    read_ends port at (Ok line) s within uncovered going refl (Say.Got shown (steps_in s.taken))
    (subst (λ l. IsGood s.setup (old_of s) (Do.Read port at) (without_marks (Say.Got l (steps_in s.taken)))) (sym is)
    (laws.read-good s.setup (old_of s) s.new w.engine w.after s.taken w.call port at within line w.related.related))
    (its, few_of s) refl refl (λ quiet. refl) (λ quiet. refl) (ap (λ (l : Line). Say.Got l (steps_in s.taken)) is)
    (λ none.
    subst (λ lines. IsSealStored s.setup.shape lines s.new.ledger.marks at)
    (ap (λ group. redone group s.new.board.lines) (effect.trusted (on_of s).trusted).no_group)
    (laws.read-stored s.setup (old_of s) s.new w.engine w.after s.taken w.call port at within line w.related.related))

-- a read that is stopped
pub read_stopped : (port at : ℕ) (fault : Fault) (s : Serving (ReadsLine at) None (Err fault)) (within : at < layout.data_lines s.setup.shape)
    → is_covered s.first.state port at ≡ false → (said : Answer) → IsFaultAnswered s.new.ledger.exhibit None fault (steps_in s.taken) said
    → HasStepped s.setup s.first (Do.Read port at) (without_marks said) s.new
read_stopped port at (Fail.Meta x) s within uncovered said is =
    let w = s.called in
    let refused = w.related.related.answered (on_of s).trusted in
    let in_tree = on_path-within s.setup.shape (page_of at) x (omega (arith, within)) refused.fetched.on_path in
    let effect = (done port at (Err (Fail.Meta x)) s within uncovered).gone in
    subst (λ a. HasStepped s.setup s.first (Do.Read port at) (without_marks a) s.new) (sym is)
    (read_ends port at (Err (Fail.Meta x)) s within uncovered going refl (Say.Refused None (Place.Meta x) (steps_in s.taken))
    (laws.meta-good s.setup (old_of s) s.new w.engine w.after s.taken w.call port at within x w.related.related)
    (tt, small_position s.setup.shape w.call.world.whole_shape x in_tree, few_of s) refl refl (λ quiet. refl) (λ quiet. refl) refl
    (meta_wrong s.setup s.new s.first.ledger x refused.line refused.fetched.read
    (same_truth s.setup s.first.board.regs s.new.board.regs s.first.ledger s.new.ledger w.call.world.whole_shape (on_of s).trusted.anchored
    (effect.trusted (on_of s).trusted).anchored (same_marks port at (Err (Fail.Meta x)) s within uncovered))
    refused.other_digest))
read_stopped port at (Fail.Tag b) s within uncovered said is =
    let w = s.called in
    let refused = w.related.related.answered (on_of s).trusted in
    subst (λ a. HasStepped s.setup s.first (Do.Read port at) (without_marks a) s.new) (sym is)
    (read_ends port at (Err (Fail.Tag b)) s within uncovered going refl (Say.Refused None (Place.Line b) (steps_in s.taken))
    (laws.tag-good s.setup (old_of s) s.new w.engine w.after s.taken w.call port at within b w.related.related)
    (tt, subst (λ n. n < 2 ^ 32) (sym refused.0) (small_line s.setup.shape w.call.world.whole_shape at within), few_of s)
    refl refl (λ quiet. refl) (λ quiet. refl) refl
    (subst (λ n. IsTagWrong s.setup s.new n) (sym refused.0) (tag_wrong s.setup s.new w.after s.taken at refused.1)))
read_stopped port at Fail.Cut s within uncovered said is =
    let w = s.called in
    subst (λ a. HasStepped s.setup s.first (Do.Read port at) (without_marks a) s.new) (sym is)
    (read_ends port at (Err Fail.Cut) s within uncovered _ refl (Say.Cut (steps_in s.taken))
    (laws.cut-good s.setup (old_of s) s.new w.engine w.after s.taken w.call port at within w.related.related w.call.world.whole_shape.at_most_six_levels)
    (few_of s) refl refl (λ quiet. refl) (λ quiet. refl) refl tt)
read_stopped port at Fail.Shown s within uncovered said is =
    let w = s.called in
    let exhibit = is.0 in
    let on = on_of s in
    let effect = (done port at (Err Fail.Shown) s within uncovered).gone in
    let sight : IsExhibitValue exhibit × IsExhibitSeen s.setup s.new exhibit =
    elim (w.related.related.answered on.trusted) [
      | inl clash ↦
          clash_sight s.setup (old_of s) s.new w.engine w.after s.taken (page_of at) exhibit w.call.world.whole_shape (omega (arith, within))
          w.call.each_line on.trusted.anchored.of_shape.truth_lines clash is.1
      | inr forged ↦
          forged_sight s.setup s.new w.after s.taken at exhibit w.call.world.whole_shape w.call.world.whole_formulas within
          w.call.each_line (subst (λ ms. All (IsMark s.setup.shape) ms) (sym (same_marks port at (Err Fail.Shown) s within uncovered)) on.trusted.anchored.of_shape.marks_in_range) forged is.1
    ] in
    subst (λ a. HasStepped s.setup s.first (Do.Read port at) (without_marks a) s.new) (sym is.2)
    (read_ends port at (Err Fail.Shown) s within uncovered _ refl (Say.Shown exhibit)
    (laws.shown-good s.setup (old_of s) s.new w.engine w.after s.taken w.call port at within w.related.related exhibit is.1
    (λ clash. clash.fetched.before) (effect.places on.trusted))
    sight.0 refl refl (λ quiet. absurd (true≢false quiet)) (λ quiet. absurd (true≢false quiet)) (exhibit, is.1, refl) sight.1)
read_stopped port at Fail.Down s within uncovered said is = absurd is
read_stopped port at (Fail.Spent page) s within uncovered said is = absurd s.called.related.related.possible
