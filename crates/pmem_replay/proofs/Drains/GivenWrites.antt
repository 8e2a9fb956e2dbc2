-- A waiting write is given to the engine: the state and the world after it.
use Rattle.std.proofs.Common.{ℕ, ◌≡◌, ◌<◌, ◌≤◌, Bool, true, false, List, [], ◌∷◌, Some, None, Ok, Err, refl, sym, ap, ap₂, subst, ◌∙◌, arith}
use Rattle.std.specs.Prelude.{Result, slice_set, slice_get, length, drop, option_map, ◌-◌, ◌&&◌, not, if◌then◌else◌}
use Rattle.std.proofs.lemmas.Option.{same_Some, none-some}
use Rattle.std.proofs.lemmas.List.{get_or-replicate, set-get_or}
use Rattle.std.proofs.Math.Seq.{drop-append_seam}
use Rattle.pmem_base.specs.declared.lines.Ctr.{Ctr}
use Rattle.pmem_base.specs.declared.commands.Posted.{Posted}
use Rattle.pmem_base.specs.declared.commands.Command.TheVariants as Do
use Rattle.pmem_base.specs.declared.answers.Answer.{Answer}
use Rattle.pmem_base.specs.declared.answers.Answer.TheVariants as Say
use Rattle.pmem_base.specs.declared.answers.Mark.{Mark}
use Rattle.pmem_base.specs.Shape.{Shape}
use Rattle.pmem_base.specs.WaitingWrites.{queue_of, no_writes, queues_after_loss}
use Rattle.suite.specs.Formulas.{Formulas}
use Rattle.suite.specs.Setup.{Setup}
use Rattle.plain_model.specs.State.{PlainState, memory_with, without_flag}
use Rattle.plain_model.specs.After.{after_marks, steps_of, steps_with}
use Rattle.pmem_engine.specs.declared.fault.Fault.{Fault}
use Rattle.pmem_engine.specs.declared.fault.Fault.TheVariants as Fail
use Rattle.call_effects.specs.Outcomes.{Outcome, going, cut_short}
use Rattle.pmem_engine.specs.Outcomes.{outcome_of, is_sealed_by, OneLossEffect}
use Rattle.watched_board.specs.declared.taken.Taken.{Taken}
use Rattle.watched_board.specs.Watching.{none_taken, steps_in}
use Rattle.pmem_replay.specs.During.{parts_in}
use Rattle.pmem_replay.specs.Planned.{WritesLine}
use Rattle.pmem_replay.specs.EngineCalls.{engine_left, is_outcome_shown, is_outcome_cut, called_state, HasCalledEngine, IsFront, without_oldest}
use Rattle.pmem_replay.specs.Given.{given_state, WasWriteGiven, IsWriteGiven, IsWriteGivenTo, IsDrainSaid, HasWriteGiven, CanEndFence}
use Rattle.pmem_replay.specs.World.{WorldState, IsOn, IsWorld, setup_of_world}
use Rattle.pmem_replay.proofs.Steps.WorldsAfterCalls.{on_in}
use Rattle.pmem_replay.proofs.Marks.AfterMarks.{after_marks-is}
use Rattle.pmem_replay.proofs.EngineCalls.CommandSteps.{run_of}
use Rattle.pmem_replay.proofs.EngineCalls.NotedWorlds.{world-shorter}
use Rattle.pmem_replay.proofs.Drains.DrainChain.{IsDrainedTo, drained_none, ok_sealed}
use Rattle.pmem_replay.proofs.Drains.WriteLaws.{meta-made, tag-unsealed, spent_marks}
use Rattle.pmem_replay.proofs.Drains.WriteReplies.{drain_is_writing}

-- the front of a queue
pub front_is : (queue : List Posted) (write : Posted) → slice_get queue 0 ≡ Some write → queue ≡ write ∷ drop 1 queue
front_is [] write is = absurd (none-some write is)
front_is (first ∷ later) write is = ap (λ (w : Posted). w ∷ later) (same_Some first write is)

-- no mark is no seal
no_seal : (made : List Mark) (at : ℕ) → made ≡ [] → is_sealed_by made at ≡ false
no_seal made at none = ap (λ marks. is_sealed_by marks at) none

-- ---- states

-- the state without the port's oldest write, if one waits
abbrev shorter : PlainState → ℕ → PlainState
shorter state port = record state { queues = slice_set state.queues port (drop 1 (queue_of state.queues port)) }

-- marks change no queue
shorter-marks : (g : Shape) (state : PlainState) (port : ℕ) (marks : List Mark) → shorter (after_marks g state marks) port ≡ after_marks g (shorter state port) marks
shorter-marks g state port marks =
    ap (λ (s : PlainState). shorter s port) (after_marks-is g state marks) ∙ sym (after_marks-is g (shorter state port) marks)

-- what waits after a power loss is shorter by a write as what waited before is
shorter-lost : (durable : Bool) (queues : List (List Posted)) (port : ℕ) → port < 8
    → slice_set (queues_after_loss durable queues) port (drop 1 (queue_of (queues_after_loss durable queues) port))
    ≡ queues_after_loss durable (slice_set queues port (drop 1 (queue_of queues port)))
unfolding no_writes
shorter-lost true queues port small = refl
shorter-lost false queues port small =
    let none : queue_of no_writes port ≡ [] = get_or-replicate 8 port [] [] small in
    ap (λ queue. slice_set no_writes port (drop 1 queue)) none ∙ ap (slice_set no_writes port) (sym none) ∙ set-get_or no_writes port []

-- the same states by whether the write was put
abbrev on_form : PlainState → Posted → ℕ → List (List Posted) → Bool → PlainState
on_form state write taken queues put =
    record state {
      memory = if put then memory_with state.memory write else state.memory;
      queues = queues;
      hurt = if put then without_flag state.hurt write.at else state.hurt;
      spoiled = if put then without_flag state.spoiled write.at else state.spoiled;
      steps = steps_with state.steps taken;
      fuse = option_map (λ n. n - taken) state.fuse;
    }

abbrev off_form : PlainState → Posted → ℕ → List (List Posted) → Bool → PlainState
off_form state write taken queues put =
    record state {
      memory = if put then memory_with state.memory write else state.memory;
      queues = queues;
      power = false;
      fuse = None;
      hurt = if put then without_flag state.hurt write.at else state.hurt;
      spoiled = if put then without_flag state.spoiled write.at else state.spoiled;
      steps = steps_with state.steps taken;
    }

module _ (g : Shape) (state : PlainState) (port : ℕ) (small : port < 8) (write : Posted) (later : List Posted)
    (waits : queue_of state.queues port ≡ write ∷ later) (made : List Mark) (taken : ℕ) where
  abbrev sealed_here : Bool
  sealed_here = is_sealed_by made write.at

  rest : slice_set state.queues port (drop 1 (queue_of state.queues port)) ≡ slice_set state.queues port later
  rest = ap (λ queue. slice_set state.queues port (drop 1 queue)) waits

  -- the call's state without the write is that of a write that was given
  given_on : (put : Bool) → sealed_here ≡ put
      → shorter (called_state g going (Some write) made taken state.loss state) port ≡ after_marks g (given_state g state port write later taken put true) made
  given_on put sealed =
      shorter-marks g (on_form state write taken state.queues sealed_here) port made
      ∙ ap₂ (λ (b : Bool) (queues : List (List Posted)). after_marks g (on_form state write taken queues b) made) sealed rest
      ∙ by_put put
    where
      by_put : (b : Bool) → after_marks g (on_form state write taken (slice_set state.queues port later) b) made
          ≡ after_marks g (given_state g state port write later taken b true) made
      by_put true = refl
      by_put false = refl

  -- after a cut a kept write is gone, and a lost one waits as the others do
  given_kept : sealed_here ≡ true
      → shorter (called_state g cut_short (Some write) made taken state.loss state) port ≡ after_marks g (given_state g state port write later taken true false) made
  given_kept sealed =
      shorter-marks g (off_form state write taken (queues_after_loss g.durable state.queues) sealed_here) port made
      ∙ ap₂ (λ (b : Bool) (queues : List (List Posted)). after_marks g (off_form state write taken queues b) made) sealed
      (shorter-lost g.durable state.queues port small ∙ ap (queues_after_loss g.durable) rest)

  given_lost : sealed_here ≡ false
      → called_state g cut_short (Some write) made taken state.loss state ≡ after_marks g (given_state g state port write later taken false false) made
  given_lost sealed =
      ap (λ (b : Bool). after_marks g (off_form state write taken (queues_after_loss g.durable state.queues) b) made) sealed

-- ---- worlds

module _ (setup : Setup) (old mid : WorldState) (port : ℕ) (small : port < 8) (whole : IsWorld setup old) (unshown : old.shown ≡ false)
    (write : Posted) (later : List Posted) (waits : queue_of old.state.queues port ≡ write ∷ later) (taken : Taken) where
  drained : IsDrainedTo setup old old port 0 [] 0
  drained = drained_none setup old port whole

  module _ (answer : Result Ctr Fault) (w : HasCalledEngine setup (WritesLine write) (Some write) old taken answer mid) where
    on_now : IsOn setup old w.engine
    on_now = on_in setup old w.engine whole w.call.was_on

    done : OneLossEffect setup (outcome_of answer) w.related.related.made (parts_in old w.engine none_taken) (parts_in mid w.after taken)
    done = w.related.related.done

    -- whatever waits afterwards
    abbrev was_given : (queues : List (List Posted)) → WasWriteGiven setup old port answer (record mid { state = record (mid.state) { queues = queues } })
    was_given queues =
        record {
          write = write;
          later = later;
          waits = waits;
          engine = w.engine;
          was_on = w.call.was_on;
          up = w.up;
          after = w.after;
          down = w.down;
          taken = taken;
          follows = w.call.follows;
          in_count = w.call.in_count;
          each_line = w.call.each_line;
          shape = w.call.shape;
          keys = w.keys;
          start = w.call.start;
          outcome = record { run = run_of w; follows = w.related.follows };
          written = w.related.related;
          marks = done.gone.marks;
          capacity = w.capacity;
        }

    -- the marks that were made, by the law and by the write
    made_is : w.lawful.made ≡ w.related.related.made
    made_is =
        sym (drop-append_seam old.ledger.marks w.lawful.made)
        ∙ ap (drop (length old.ledger.marks)) (sym w.lawful.effect.marks ∙ done.gone.marks) ∙ drop-append_seam old.ledger.marks w.related.related.made

    pub put_is : (put : Bool) → put ≡ is_sealed_by (drop (length old.ledger.marks) mid.ledger.marks) write.at → is_sealed_by w.related.related.made write.at ≡ put
    put_is put its =
        sym (its ∙ ap (λ (ms : List Mark). is_sealed_by ms write.at)
        (ap (drop (length old.ledger.marks)) done.gone.marks ∙ drop-append_seam old.ledger.marks w.related.related.made))

    quiet_mid : (o : Outcome) → outcome_of answer ≡ o → is_outcome_shown o ≡ false → mid.shown ≡ false
    quiet_mid o ends quiet = w.shown ∙ ap is_outcome_shown ends ∙ quiet

    state_is : (o : Outcome) → outcome_of answer ≡ o → is_outcome_shown o ≡ false
        → mid.state ≡ called_state setup.shape o (Some write) w.related.related.made (steps_in taken) old.state.loss old.state
    state_is o ends quiet =
        w.state (quiet_mid o ends quiet)
        ∙ ap (λ (e : Outcome). called_state setup.shape e (Some write) w.lawful.made (steps_in taken) mid.board.regs.loss old.state) ends
        ∙ ap (λ (ms : List Mark). called_state setup.shape o (Some write) ms (steps_in taken) mid.board.regs.loss old.state) made_is
        ∙ ap (λ (l : ℕ). called_state setup.shape o (Some write) w.related.related.made (steps_in taken) l old.state)
        (done.loss ∙ whole.board.loss)

    -- If the engine goes on, and if it was cut. The write waits no more unless it was lost.
    as_on : (put : Bool) (n : ℕ) → outcome_of answer ≡ going → is_sealed_by w.related.related.made write.at ≡ put → n ≡ steps_in taken
        → IsWriteGiven setup old port n answer put true (without_oldest mid port)
    as_on put n ends sealed counted =
        record {
          given = was_given (slice_set mid.state.queues port (drop 1 (queue_of mid.state.queues port)));
          counted = counted;
          sealed = sealed;
          state =
              ap (λ (s : PlainState). shorter s port) (state_is going ends refl)
              ∙ given_on setup.shape old.state port small write later waits w.related.related.made (steps_in taken) put sealed;
          engine = w.kept ∙ ap (λ (o : Outcome). engine_left o w.after) ends;
          unshown = quiet_mid going ends refl;
          holds = world-shorter setup mid port (w.holds (quiet_mid going ends refl)) small;
        }

    as_kept : (n : ℕ) → outcome_of answer ≡ cut_short → is_sealed_by w.related.related.made write.at ≡ true → n ≡ steps_in taken
        → IsWriteGiven setup old port n answer true false (without_oldest mid port)
    as_kept n ends sealed counted =
        record {
          given = was_given (slice_set mid.state.queues port (drop 1 (queue_of mid.state.queues port)));
          counted = counted;
          sealed = sealed;
          state =
              ap (λ (s : PlainState). shorter s port) (state_is cut_short ends refl)
              ∙ given_kept setup.shape old.state port small write later waits w.related.related.made (steps_in taken) sealed;
          engine = w.kept ∙ ap (λ (o : Outcome). engine_left o w.after) ends;
          unshown = quiet_mid cut_short ends refl;
          holds = world-shorter setup mid port (w.holds (quiet_mid cut_short ends refl)) small;
        }

    as_lost : (n : ℕ) → outcome_of answer ≡ cut_short → is_sealed_by w.related.related.made write.at ≡ false → n ≡ steps_in taken
        → IsWriteGiven setup old port n answer false false mid
    as_lost n ends sealed counted =
        record {
          given = was_given mid.state.queues;
          counted = counted;
          sealed = sealed;
          state =
              state_is cut_short ends refl
              ∙ given_lost setup.shape old.state port small write later waits w.related.related.made (steps_in taken) sealed;
          engine = w.kept ∙ ap (λ (o : Outcome). engine_left o w.after) ends;
          unshown = quiet_mid cut_short ends refl;
          holds = w.holds (quiet_mid cut_short ends refl);
        }

  -- the world once the write is taken off, unless it was lost
  abbrev left_over : Result Ctr Fault → Bool → WorldState
  left_over answer put = if is_outcome_cut (outcome_of answer) && not put then mid else without_oldest mid port

  -- by what the engine answers
  given_to : (answer : Result Ctr Fault) (w : HasCalledEngine setup (WritesLine write) (Some write) old taken answer mid) (put : Bool)
      → put ≡ is_sealed_by (drop (length old.ledger.marks) mid.ledger.marks) write.at → (n : ℕ) → n ≡ steps_in taken
      → IsWriteGivenTo setup old port n answer put (left_over answer put)
  given_to (Ok ctr) w put its n counted =
      as_on (Ok ctr) w true n refl
      (ok_sealed setup old old port 0 [] 0 drained whole small write later waits mid w.engine w.after taken w.call ctr w.related.related) counted
  given_to (Err (Fail.Meta x)) w put its n counted =
      as_on (Err (Fail.Meta x)) w false n refl
      (no_seal w.related.related.made write.at
      (meta-made setup old old mid (Do.Drain port) None port 0 [] 0 (drain_is_writing setup old port) drained whole small write later waits
      w.engine w.after taken w.call x w.related.related)) counted
  given_to (Err (Fail.Tag at)) w put its n counted =
      as_on (Err (Fail.Tag at)) w false n refl
      (tag-unsealed setup old old mid (Do.Drain port) None port 0 [] 0 (drain_is_writing setup old port) drained whole small write later waits
      w.engine w.after taken w.call at w.related.related) counted
  given_to (Err (Fail.Spent page)) w put its n counted =
      as_on (Err (Fail.Spent page)) w false n refl
      (no_seal w.related.related.made write.at
      (spent_marks setup old old mid (Do.Drain port) None port 0 [] 0 (drain_is_writing setup old port) drained whole small write later waits
      w.engine w.after taken w.call page w.related.related).1) counted
  given_to (Err Fail.Cut) w true its n counted = as_kept (Err Fail.Cut) w n refl (put_is (Err Fail.Cut) w true its) counted
  given_to (Err Fail.Cut) w false its n counted = as_lost (Err Fail.Cut) w n refl (put_is (Err Fail.Cut) w false its) counted
  given_to (Err Fail.Down) w put its n counted = absurd (w.lawful.up tt)
  given_to (Err Fail.Shown) w put its n counted =
      record {
        given = was_given (Err Fail.Shown) w (slice_set mid.state.queues port (drop 1 (queue_of mid.state.queues port)));
        engine = w.kept;
        shown = w.shown;
      }

-- the port's oldest write was given to the engine, and taken off its queue unless it was lost
pub gives : (formulas_of : List ℕ → Formulas) (old mid new : WorldState) (port : ℕ) (write : Posted) (taken : Taken) (answer : Result Ctr Fault) (put : Bool) (n : ℕ)
    (said : Answer) → port < 8 → IsWorld (setup_of_world formulas_of old) old → old.shown ≡ false → IsFront old port write
    → HasCalledEngine (setup_of_world formulas_of old) (WritesLine write) (Some write) old taken answer mid
    → put ≡ is_sealed_by (drop (length old.ledger.marks) mid.ledger.marks) write.at → n ≡ steps_in taken
    → new ≡ (if is_outcome_cut (outcome_of answer) && not put then mid else without_oldest mid port) → IsDrainSaid new answer put n said
    → HasWriteGiven (setup_of_world formulas_of old) old port said new
gives formulas_of old mid new port write taken answer put n said small whole unshown front w its counted left says =
    record {
      answer = answer;
      put = put;
      steps = n;
      given =
          subst (λ (world : WorldState). IsWriteGivenTo (setup_of_world formulas_of old) old port n answer put world) (sym left)
          (given_to (setup_of_world formulas_of old) old mid port small whole unshown write front.later front.waits taken answer w put its n counted);
      says = says;
    }

-- a drain that isn't done can end a fence
ends_fence : (setup : Setup) (old new : WorldState) (port : ℕ) (said : Answer) (answer : Result Ctr Fault) (put : Bool) (n : ℕ) → IsWriteGivenTo setup old port n answer put new
    → IsDrainSaid new answer put n said → ((k : ℕ) → said ≡ Say.Drained k → ⊥) → (steps_of said ≤ 65536) × CanEndFence said
ends_fence setup old new port said (Ok ctr) put n it is undrained = absurd (undrained n is)
ends_fence setup old new port said (Err (Fail.Meta x)) put n it is undrained =
    subst (λ a. (steps_of a ≤ 65536) × CanEndFence a) (sym is) (omega (arith, it.counted, it.given.follows.few), tt)
ends_fence setup old new port said (Err (Fail.Tag at)) put n it is undrained =
    subst (λ a. (steps_of a ≤ 65536) × CanEndFence a) (sym is) (omega (arith, it.counted, it.given.follows.few), tt)
ends_fence setup old new port said (Err (Fail.Spent page)) put n it is undrained =
    subst (λ a. (steps_of a ≤ 65536) × CanEndFence a) (sym is) (omega (arith, it.counted, it.given.follows.few), tt)
ends_fence setup old new port said (Err Fail.Cut) true n it is undrained =
    subst (λ a. (steps_of a ≤ 65536) × CanEndFence a) (sym is) (omega (arith, it.counted, it.given.follows.few), tt)
ends_fence setup old new port said (Err Fail.Cut) false n it is undrained =
    subst (λ a. (steps_of a ≤ 65536) × CanEndFence a) (sym is) (omega (arith, it.counted, it.given.follows.few), tt)
ends_fence setup old new port said (Err Fail.Down) put n it is undrained = absurd is
ends_fence setup old new port said (Err Fail.Shown) put n it is undrained =
    subst (λ a. (steps_of a ≤ 65536) × CanEndFence a) (sym is.2) (omega arith, tt)

pub ends_with : (setup : Setup) (old new : WorldState) (port : ℕ) (said : Answer) → HasWriteGiven setup old port said new → ((k : ℕ) → said ≡ Say.Drained k → ⊥)
    → (steps_of said ≤ 65536) × CanEndFence said
ends_with setup old new port said given undrained =
    ends_fence setup old new port said given.answer given.put given.steps given.given given.says undrained
