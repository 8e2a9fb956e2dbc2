-- Turns: what the world answers, and what becomes of it.
use Rattle.std.proofs.Common.{ℕ, ◌≡◌, ◌<◌, ◌^◌, ◌++◌, false, List, [], Option, Some, None, refl, sym, ap, subst, ◌∙◌}
use Rattle.std.specs.Prelude.{Result, Ok, Err, All}
use Rattle.std.proofs.lemmas.Bool.{true≢false}
use Rattle.std.proofs.lemmas.List.{append-nil}
use Rattle.pmem_base.specs.declared.commands.Command.TheVariants as Do
use Rattle.pmem_base.specs.declared.answers.Answer.{Answer}
use Rattle.pmem_base.specs.declared.answers.Answer.TheVariants as Say
use Rattle.pmem_base.specs.declared.answers.Mark.{Mark}
use Rattle.pmem_base.specs.declared.answers.Place.{Place}
use Rattle.pmem_base.specs.Ranges.{IsAnswer, IsExhibitValue}
use Rattle.seal_ledger.specs.Ledger.{IsMark}
use Rattle.plain_model.specs.After.{state_after, steps_of, is_cut}
use Rattle.plain_model.specs.Answers.{is_shown}
use Rattle.pmem_engine.specs.declared.fault.Fault.{Fault}
use Rattle.pmem_engine.specs.declared.fault.Fault.TheVariants as Fail
use Rattle.call_effects.specs.Outcomes.{Outcome, going}
use Rattle.pmem_engine.specs.Outcomes.{outcome_of, OneLossEffect, KeepsPlaces}
use Rattle.pmem_engine.specs.Calls.{HasTurned, AreMarksOfTurn, moment_in}
use Rattle.watched_board.specs.Watching.{none_taken, steps_in}
use Rattle.pmem_replay.specs.During.{parts_in}
use Rattle.pmem_replay.specs.Planned.{TurnsPage, plan_of_turn}
use Rattle.pmem_replay.specs.EngineCalls.{is_outcome_shown, is_outcome_cut, called_state, IsFaultAnswered}
use Rattle.pmem_replay.specs.World.{view_in}
use Rattle.pmem_replay.specs.Stepped.{HasStepped, IsTurnAnswer, IsSeenOnDevice, IsExhibitSeen}
use Rattle.pmem_replay.proofs.Steps.GoodReplies.{IsGood}
use Rattle.pmem_replay.proofs.Marks.OpenPages.{lowest_within, whole_pages}
use Rattle.pmem_replay.proofs.Commands.FlushLaws.{left_alone-steps}
use Rattle.pmem_replay.proofs.Commands.TurnLaws as laws
use Rattle.pmem_replay.proofs.Steps.DeviceEvidence.{tag_wrong, small_line, forged_sight}
use Rattle.pmem_replay.proofs.Table.UnchangedSteps.{lit_in}
use Rattle.pmem_replay.proofs.EngineCalls.CommandSteps.{Serving, old_of, on_of, few_of, ends_as}

module _ (answer : Result (Option (ℕ × ℕ)) Fault) (s : Serving TurnsPage None answer) where
  abbrev turn : HasTurned s.setup (parts_in (old_of s) s.called.engine none_taken) (parts_in s.new s.called.after s.taken) answer
  turn = s.called.related.related

  pub done : OneLossEffect s.setup (outcome_of answer) turn.made (parts_in (old_of s) s.called.engine none_taken) (parts_in s.new s.called.after s.taken)
  done = turn.done

  pub marks_of : AreMarksOfTurn s.setup.formulas (moment_in s.setup s.first.state.memory (parts_in (old_of s) s.called.engine none_taken)) turn.made answer
  marks_of = turn.marks (on_of s).trusted s.first.state.memory s.called.call.world.memory.each

  -- the command returns
  pub turn_ends : (o : Outcome) → outcome_of answer ≡ o → (marks : List Mark) → turn.made ≡ marks → (said : Answer)
      → IsGood s.setup (old_of s) Do.Turn (record { marks = marks; answer = said }) → IsAnswer said
      → is_shown said ≡ is_outcome_shown o → is_cut said ≡ is_outcome_cut o → (is_shown said ≡ false → steps_of said ≡ steps_in s.taken)
      → (is_shown said ≡ false
      → called_state s.setup.shape o None marks (steps_in s.taken) s.first.state.loss s.first.state
      ≡ state_after s.setup.shape s.first.state Do.Turn (record { marks = marks; answer = said }))
      → IsTurnAnswer s.first.ledger s.new.ledger (steps_in s.taken) answer said → IsSeenOnDevice s.setup s.first Do.Turn said s.new
      → HasStepped s.setup s.first Do.Turn (record { marks = marks; answer = said }) s.new
  turn_ends o ends marks made said good in_range shown cut steps after says seen =
      ends_as s Do.Turn marks o ends s.first.state.loss (done.loss ∙ s.called.call.world.board.loss)
      (rw (lit_in s.setup (old_of s) s.called.engine s.called.call.world s.called.call.was_on) refl)
      (done.gone.marks ∙ ap (λ (ms : List Mark). s.first.ledger.marks ++ ms) made)
      (plan_of_turn s.setup) (λ p q r. HasTurned s.setup p q r) IsTurnAnswer (λ said it. it)
      said good in_range shown cut steps after s.called.related says seen

-- no page is open
pub turn_idle : (s : Serving TurnsPage None (Ok None)) → HasStepped s.setup s.first Do.Turn (record { marks = []; answer = Say.Idle }) s.new
turn_idle s =
    let w = s.called in
    let none : steps_in s.taken ≡ 0 = left_alone-steps s.setup (old_of s) s.new w.engine w.after s.taken w.related.related.counts in
    turn_ends (Ok None) s going refl [] (marks_of (Ok None) s).0 Say.Idle
    (laws.idle-good s.setup (old_of s) s.new w.engine w.after s.taken w.call w.related.related) tt refl refl (λ quiet. sym none)
    (λ quiet. ap (λ (n : ℕ). called_state s.setup.shape going None [] n s.first.state.loss s.first.state) none) refl tt

-- a line is sealed anew
pub turn_turned : (turned : ℕ × ℕ) (s : Serving TurnsPage None (Ok (Some turned))) → turned.1 < 2 ^ 8
    → HasStepped s.setup s.first Do.Turn (record { marks = s.called.related.related.made; answer = Say.Turned turned.1 (steps_in s.taken) }) s.new
turn_turned turned s small =
    let w = s.called in
    turn_ends (Ok (Some turned)) s going refl w.related.related.made refl (Say.Turned turned.1 (steps_in s.taken))
    (laws.turned-good s.setup (old_of s) s.new w.engine w.after s.taken w.call turned w.related.related) (small, few_of s) refl refl (λ quiet. refl)
    (λ quiet. refl) refl tt

-- a turn that is stopped
pub turn_stopped : (fault : Fault) (s : Serving TurnsPage None (Err fault)) (said : Answer) → IsFaultAnswered s.new.ledger.exhibit None fault (steps_in s.taken) said
    → HasStepped s.setup s.first Do.Turn (record { marks = s.called.related.related.made; answer = said }) s.new
turn_stopped (Fail.Tag b) s said is =
    let w = s.called in
    let marks = marks_of (Err (Fail.Tag b)) s in
    let within = lowest_within s.setup.shape (view_in s.setup (old_of s)).open_pages b
    (whole_pages s.setup s.first.board.regs s.first.ledger (on_of s).trusted.anchored) marks.1 in
    subst (λ (ms : List Mark). HasStepped s.setup s.first Do.Turn (record { marks = ms; answer = said }) s.new) (sym marks.0)
    (subst (λ a. HasStepped s.setup s.first Do.Turn (record { marks = []; answer = a }) s.new) (sym is)
    (turn_ends (Err (Fail.Tag b)) s going refl [] marks.0 (Say.Refused None (Place.Line b) (steps_in s.taken))
    (laws.refused-good s.setup (old_of s) s.new w.engine w.after s.taken w.call b w.related.related)
    (tt, small_line s.setup.shape w.call.world.whole_shape b within, few_of s) refl refl (λ quiet. refl) (λ quiet. refl) refl
    (tag_wrong s.setup s.new w.after s.taken b (w.related.related.answered (on_of s).trusted))))
turn_stopped Fail.Cut s said is =
    let w = s.called in
    subst (λ a. HasStepped s.setup s.first Do.Turn (record { marks = w.related.related.made; answer = a }) s.new) (sym is)
    (turn_ends (Err Fail.Cut) s _ refl w.related.related.made refl (Say.Cut (steps_in s.taken))
    (laws.cut-good s.setup (old_of s) s.new w.engine w.after s.taken w.call w.related.related) (few_of s) refl refl (λ quiet. refl) (λ quiet. refl) refl tt)
turn_stopped Fail.Shown s said is =
    let w = s.called in
    let exhibit = is.0 in
    let on = on_of s in
    let none = (marks_of (Err Fail.Shown) s).0 in
    let found = w.related.related.answered on.trusted in
    let effect = (done (Err Fail.Shown) s).gone in
    let marks : s.new.ledger.marks ≡ s.first.ledger.marks =
    effect.marks ∙ ap (λ (ms : List Mark). s.first.ledger.marks ++ ms) none ∙ append-nil s.first.ledger.marks in
    let within = lowest_within s.setup.shape (view_in s.setup (old_of s)).open_pages found.at
    (whole_pages s.setup s.first.board.regs s.first.ledger on.trusted.anchored) found.lowest in
    let sight : IsExhibitValue exhibit × IsExhibitSeen s.setup s.new exhibit =
    forged_sight s.setup s.new w.after s.taken found.at exhibit w.call.world.whole_shape w.call.world.whole_formulas within
    w.call.each_line (subst (λ ms. All (IsMark s.setup.shape) ms) (sym marks) on.trusted.anchored.of_shape.marks_in_range) found.forged is.1 in
    subst (λ (ms : List Mark). HasStepped s.setup s.first Do.Turn (record { marks = ms; answer = said }) s.new) (sym none)
    (subst (λ a. HasStepped s.setup s.first Do.Turn (record { marks = []; answer = a }) s.new) (sym is.2)
    (turn_ends (Err Fail.Shown) s _ refl [] none (Say.Shown exhibit)
    (laws.shown-good s.setup (old_of s) s.new w.engine w.after s.taken w.call w.related.related exhibit is.1
    (subst (λ made. KeepsPlaces s.setup made (parts_in (old_of s) w.engine none_taken) (parts_in s.new w.after s.taken)) none (effect.places on.trusted)))
    sight.0 refl refl (λ quiet. absurd (true≢false quiet)) (λ quiet. absurd (true≢false quiet)) (exhibit, is.1, refl) sight.1))
turn_stopped Fail.Down s said is = absurd is
turn_stopped (Fail.Spent page) s said is = absurd (marks_of (Err (Fail.Spent page)) s)
turn_stopped (Fail.Meta x) s said is = absurd (marks_of (Err (Fail.Meta x)) s)
