-- A command that made a call of the engine: its step, by what it answers.
use Rattle.std.proofs.Common.{ℕ, ◌≡◌, ◌<◌, ◌≤◌, ◌^◌, ◌++◌, Bool, true, false, List, Option, None, refl, sym, ap, subst, ◌∙◌, arith}
use Rattle.std.specs.Prelude.{Result, Ok, Err, not, length, drop}
use Rattle.std.proofs.lemmas.Bool.{true≢false}
use Rattle.std.proofs.Math.Seq.{drop-append_seam}
use Rattle.pmem_base.specs.declared.answers.Mark.{Mark}
use Rattle.pmem_base.specs.declared.answers.Answer.{Answer}
use Rattle.pmem_base.specs.declared.commands.Command.{Command}
use Rattle.pmem_base.specs.declared.commands.Posted.{Posted}
use Rattle.pmem_base.specs.Ranges.{IsAnswer}
use Rattle.seal_ledger.specs.Ledger.{LedgerState}
use Rattle.call_plan.specs.Runs.{IsRunOn}
use Rattle.suite.specs.Formulas.{Formulas}
use Rattle.suite.specs.Setup.{Setup}
use Rattle.plain_model.specs.State.{PlainState, Reply}
use Rattle.plain_model.specs.After.{state_after, steps_of, is_cut}
use Rattle.plain_model.specs.Answers.{decided_answer, is_shown}
use Rattle.pmem_engine.specs.declared.fault.Fault.{Fault}
use Rattle.pmem_engine.specs.declared.fault.Fault.TheVariants as Fail
use Rattle.pmem_engine.specs.Parts.{Parts}
use Rattle.call_effects.specs.Outcomes.{Outcome, going, cut_short, shown, HasPower}
use Rattle.call_effects.proofs.PowerLaws.{going_uncut}
use Rattle.pmem_engine.specs.Outcomes.{outcome_of}
use Rattle.watched_board.specs.declared.taken.Taken.{Taken}
use Rattle.watched_board.specs.Watching.{none_taken, steps_in, step_limit, device_during}
use Rattle.watched_board.proofs.StepLaws.{fewer}
use Rattle.pmem_replay.specs.During.{parts_in}
use Rattle.pmem_replay.specs.Planned.{CallPlan, IsMadeBy}
use Rattle.pmem_replay.specs.EngineCalls.{is_outcome_shown, is_outcome_cut, called_state, HasCalledEngine, CanStop}
use Rattle.pmem_replay.specs.Given.{HasMarkRoom}
use Rattle.pmem_replay.specs.Stepped.{HasStepped, HasCalled, IsCommandDone, IsSeenOnDevice}
use Rattle.pmem_replay.specs.World.{WorldState, IsOn, IsWorld, setup_of_world}
use Rattle.pmem_replay.proofs.Steps.WorldsAfterCalls.{on_in, cut_counted, uncut_counted}
use Rattle.pmem_replay.proofs.Steps.GoodReplies.{IsGood}
use Rattle.pmem_replay.proofs.Steps.ReservedRoom.{same_room}
use Rattle.pmem_replay.proofs.Steps.WorldSteps.{stepped_by_engine}
use Rattle.pmem_replay.proofs.EngineCalls.CallEnds.{lost_engine}

-- a cut is answered so alone
cut_of : {T : Type 0} (answer : Result T Fault) → outcome_of answer ≡ cut_short → answer ≡ Err Fail.Cut
cut_of (Ok value) is = absurd (going_uncut is)
cut_of (Err Fail.Cut) is = refl
cut_of (Err Fail.Shown) is = absurd (cc)
cut_of (Err fault) is = absurd (going_uncut is)

-- a call on the world's board, which a cut ended before the limit of steps
pub run_of : {T : Type 0} {setup : Setup} {relation : Setup → Parts → Parts → Result T Fault → Type 0} {write : Option Posted} {old : WorldState} {taken : Taken}
    {answer : Result T Fault} {new : WorldState} → HasCalledEngine setup relation write old taken answer new → IsRunOn old.board new.board taken
run_of {setup = setup} {old = old} {taken = taken} {answer = answer} {new = new} w =
    record { follows = w.call.follows; within = within (outcome_of answer) w.lawful.effect.power refl }
  where
    lit : old.board.powered ≡ true
    lit = w.call.world.board.power ∙ (on_in setup old w.engine w.call.world w.call.was_on).powered

    within : (o : Outcome) → HasPower o (device_during old.board none_taken) (device_during new.board taken) → outcome_of answer ≡ o
        → new.board.powered ≡ false → steps_in taken < step_limit
    within going power ends off = absurd (true≢false (sym (power.1 lit) ∙ off))
    within cut_short power ends off = fewer taken step_limit w.call.follows.few (w.lawful.early (cut_of answer ends)).sum
    within shown power ends off = absurd (true≢false (sym (power.1 lit) ∙ off))

-- A call that was made within a command: the world before the command, how many marks there was room for once more was
-- made, and the world after the call.
pub record Serving {T : Type 0} (relation : Setup → Parts → Parts → Result T Fault → Type 0) (write : Option Posted) (answer : Result T Fault) :
    Type 0 where
  pub setup : Setup
  pub first : WorldState
  pub capacity : ℕ
  pub grown : first.capacity ≤ capacity
  pub new : WorldState
  pub taken : Taken
  pub called : HasCalledEngine setup relation write (record first { capacity = capacity }) taken answer new

module _ {T : Type 0} {relation : Setup → Parts → Parts → Result T Fault → Type 0} {write : Option Posted} {answer : Result T Fault} (s : Serving relation write answer) where
  abbrev pub old_of : WorldState
  old_of = record (s.first) { capacity = s.capacity }

  pub on_of : IsOn s.setup old_of s.called.engine
  on_of = on_in s.setup old_of s.called.engine s.called.call.world s.called.call.was_on

  pub lit_of : s.first.board.powered ≡ true
  lit_of = s.called.call.world.board.power ∙ on_of.powered

  pub few_of : steps_in s.taken < 2 ^ 64
  few_of = omega (arith, s.called.call.follows.few)

  -- the board's power by the end of the call
  power_by : (o : Outcome) → HasPower o (device_during s.first.board none_taken) (device_during s.new.board s.taken) → (cut : Bool) → cut ≡ is_outcome_cut o
      → s.new.board.powered ≡ not cut
  power_by going power cut is = power.1 lit_of ∙ sym (ap not is)
  power_by cut_short power cut is = power.1 ∙ sym (ap not is)
  power_by shown power cut is = power.1 lit_of ∙ sym (ap not is)

  -- what the call did of the world's own parts
  pub done_as : (state : PlainState) (plan : CallPlan T) (its : Parts → Parts → Result T Fault → Type 0)
      (says : LedgerState → LedgerState → ℕ → Result T Fault → Answer → Type 0)
      → IsMadeBy plan its (parts_in old_of s.called.engine none_taken) (parts_in s.new s.called.after s.taken) answer
      → (said : Answer) → says s.first.ledger s.new.ledger (steps_in s.taken) answer said
      → is_cut said ≡ is_outcome_cut (outcome_of answer) → (is_shown said ≡ false → steps_of said ≡ steps_in s.taken)
      → HasCalled plan its says s.first (record (s.new) { state = state }) said
  done_as state plan its says made said told cut steps =
      let power = power_by (outcome_of answer) s.called.lawful.effect.power (is_cut said) cut in
      record {
        engine = s.called.engine;
        was_on = s.called.call.was_on;
        up = s.called.up;
        after = s.called.after;
        kept = s.called.kept ∙ sym (lost_engine (outcome_of answer) s.called.after (is_cut said) cut);
        taken = s.taken;
        result = answer;
        down = s.called.down;
        outcome = record { run = run_of s.called; follows = made.follows };
        related = made.related;
        said = told;
        power = power;
        steps = steps;
        capacity = omega (arith, s.grown, s.called.capacity);
        cut = cut_counted s.called.call.follows power;
        uncut = uncut_counted s.called.call.follows power;
      }

  -- the marks that were made
  made_is : (marks : List Mark) → s.new.ledger.marks ≡ s.first.ledger.marks ++ marks → s.called.lawful.made ≡ marks
  made_is marks is =
      sym (drop-append_seam s.first.ledger.marks s.called.lawful.made)
      ∙ ap (drop (length s.first.ledger.marks)) (sym s.called.lawful.effect.marks ∙ is) ∙ drop-append_seam s.first.ledger.marks marks

  -- the state after the call
  pub state_is : (o : Outcome) → outcome_of answer ≡ o → is_outcome_shown o ≡ false → (marks : List Mark) → s.new.ledger.marks ≡ s.first.ledger.marks ++ marks
      → (loss : ℕ) → s.new.board.regs.loss ≡ loss
      → s.new.state ≡ called_state s.setup.shape o write marks (steps_in s.taken) loss s.first.state
  state_is o ends quiet marks is loss its_loss =
      s.called.state (s.called.shown ∙ ap is_outcome_shown ends ∙ quiet)
      ∙ ap (λ (e : Outcome). called_state s.setup.shape e write s.called.lawful.made (steps_in s.taken) s.new.board.regs.loss s.first.state) ends
      ∙ ap (λ (ms : List Mark). called_state s.setup.shape o write ms (steps_in s.taken) s.new.board.regs.loss s.first.state) (made_is marks is)
      ∙ ap (λ (l : ℕ). called_state s.setup.shape o write marks (steps_in s.taken) l s.first.state) its_loss

  -- what fits the world once room was made fits it before
  good_first : (command : Command) (reply : Reply) → IsGood s.setup old_of command reply → IsGood s.setup s.first command reply
  good_first command reply good =
      record { legal = good.legal; fits = good.fits }

  -- The command returns. What it notes of the state afterwards may be more than the call.
  pub stepped_call : (command : Command) (marks : List Mark) (said : Answer) (state : PlainState)
      → decided_answer s.setup.shape s.first.state command ≡ None
      → s.new.ledger.marks ≡ s.first.ledger.marks ++ marks
      → IsGood s.setup old_of command (record { marks = marks; answer = said })
      → IsAnswer said
      → is_shown said ≡ is_outcome_shown (outcome_of answer)
      → (is_shown said ≡ false → state ≡ state_after s.setup.shape s.first.state command (record { marks = marks; answer = said }))
      → (is_shown said ≡ false → IsWorld s.setup (record (s.new) { state = state }))
      → IsCommandDone s.setup s.first command said (record (s.new) { state = state })
      → IsSeenOnDevice s.setup s.first command said (record (s.new) { state = state })
      → HasStepped s.setup s.first command (record { marks = marks; answer = said }) (record (s.new) { state = state })
  stepped_call command marks said state undecided made good in_range ends after holds worked seen =
      stepped_by_engine s.setup s.first (record (s.new) { state = state }) command (record { marks = marks; answer = said }) undecided
      (good_first command (record { marks = marks; answer = said }) good) in_range
      (record { shape = s.called.call.shape; keys = s.called.keys; start = s.called.call.start })
      (s.called.shown ∙ sym ends)
      made after holds worked seen

  -- the same by how the call ended, where the call's world is the command's
  pub ends_as : (command : Command) (marks : List Mark) (o : Outcome) → outcome_of answer ≡ o → (loss : ℕ) → s.new.board.regs.loss ≡ loss
      → decided_answer s.setup.shape s.first.state command ≡ None
      → s.new.ledger.marks ≡ s.first.ledger.marks ++ marks
      → (plan : CallPlan T) (its : Parts → Parts → Result T Fault → Type 0)
      (says : LedgerState → LedgerState → ℕ → Result T Fault → Answer → Type 0)
      → ((said : Answer) → HasCalled plan its says s.first s.new said → IsCommandDone s.setup s.first command said s.new)
      → (said : Answer)
      → IsGood s.setup old_of command (record { marks = marks; answer = said }) → IsAnswer said
      → is_shown said ≡ is_outcome_shown o → is_cut said ≡ is_outcome_cut o → (is_shown said ≡ false → steps_of said ≡ steps_in s.taken)
      → (is_shown said ≡ false
      → called_state s.setup.shape o write marks (steps_in s.taken) loss s.first.state
      ≡ state_after s.setup.shape s.first.state command (record { marks = marks; answer = said }))
      → IsMadeBy plan its (parts_in old_of s.called.engine none_taken) (parts_in s.new s.called.after s.taken) answer
      → says s.first.ledger s.new.ledger (steps_in s.taken) answer said
      → IsSeenOnDevice s.setup s.first command said s.new
      → HasStepped s.setup s.first command (record { marks = marks; answer = said }) s.new
  ends_as command marks o ends loss its_loss undecided made plan its says worked said good in_range showing cut steps after planned told seen =
      stepped_call command marks said s.new.state undecided made good in_range (showing ∙ sym (ap is_outcome_shown ends))
      (λ quiet. state_is o ends (sym showing ∙ quiet) marks made loss its_loss ∙ after quiet)
      (λ quiet. s.called.holds (s.called.shown ∙ ap is_outcome_shown ends ∙ sym showing ∙ quiet))
      (worked said (done_as s.new.state plan its says planned said told (cut ∙ sym (ap is_outcome_cut ends)) steps)) seen

-- a fault can be answered
pub can_stop : {T : Type 0} {setup : Setup} {relation : Setup → Parts → Parts → Result T Fault → Type 0} {write : Option Posted} {old : WorldState} {taken : Taken}
    {new : WorldState} (fault : Fault) → HasCalledEngine setup relation write old taken (Err fault) new → CanStop new.ledger.exhibit fault
can_stop Fail.Cut w = tt
can_stop Fail.Down w = w.lawful.up tt
can_stop (Fail.Meta x) w = tt
can_stop (Fail.Tag at) w = tt
can_stop (Fail.Spent page) w = tt
can_stop Fail.Shown w = w.lawful.exhibit refl

-- a call before which no room was made
abbrev pub serving : {T : Type 0} {relation : Setup → Parts → Parts → Result T Fault → Type 0} {write : Option Posted} {answer : Result T Fault} (setup : Setup) (old : WorldState) (taken : Taken) (new : WorldState)
    → HasCalledEngine setup relation write old taken answer new → Serving relation write answer
serving setup old taken new w =
    record { setup = setup; first = old; capacity = old.capacity; grown = same_room old.capacity; new = new; taken = taken; called = w }

-- a call before which room was made
abbrev pub serving_roomy : {T : Type 0} (relation : Setup → Parts → Parts → Result T Fault → Type 0) (write : Option Posted) (answer : Result T Fault) (formulas_of : List ℕ → Formulas)
    (first mid : WorldState) (more : ℕ) → HasMarkRoom (setup_of_world formulas_of first) first more mid → (taken : Taken) (new : WorldState)
    → HasCalledEngine (setup_of_world formulas_of mid) relation write mid taken answer new → Serving relation write answer
serving_roomy relation write answer formulas_of first mid more made taken new w =
    record {
      setup = setup_of_world formulas_of first;
      first = first;
      capacity = mid.capacity;
      grown = made.never_falls;
      new = new;
      taken = taken;
      called = subst (λ (world : WorldState). HasCalledEngine (setup_of_world formulas_of world) relation write world taken answer new) made.same w;
    }
