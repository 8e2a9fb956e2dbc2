-- One waiting write given to the engine, and what became of it.
use Rattle.std.specs.Prelude.{ℕ, ⊤, ◌≡◌, ◌≤◌, ◌-◌, ◌++◌, Bool, true, false, List, ◌∷◌, Some, None, Result, Ok, Err, option_map, slice_set, All, if◌then◌else◌, not}
use Rattle.pmem_base.specs.declared.lines.Ctr.{Ctr}
use Rattle.pmem_base.specs.declared.commands.Posted.{Posted}
use Rattle.pmem_base.specs.declared.answers.Answer.{Answer}
use Rattle.pmem_base.specs.declared.answers.Answer.TheVariants as Say
use Rattle.pmem_base.specs.Shape.{Shape}
use Rattle.pmem_base.specs.Lines.{IsLine}
use Rattle.pmem_base.specs.WaitingWrites.{queue_of, queues_after_loss}
use Rattle.seal_ledger.specs.Notes.{HasRoom}
use Rattle.suite.specs.Setup.{Setup}
use Rattle.plain_model.specs.State.{PlainState, memory_with, without_flag}
use Rattle.plain_model.specs.After.{after_marks, steps_with}
use Rattle.pmem_engine.specs.declared.fault.Fault.{Fault}
use Rattle.pmem_engine.specs.declared.fault.Fault.TheVariants as Fail
use Rattle.pmem_engine.specs.Engine.{EngineState}
use Rattle.call_effects.specs.Outcomes.{is_going}
use Rattle.pmem_engine.specs.Outcomes.{is_sealed_by, outcome_of}
use Rattle.pmem_engine.specs.Calls.{HasWrittenLine}
use Rattle.pmem_engine.specs.Plans.{chip_of}
use Rattle.call_plan.specs.Runs.{IsOutcome}
use Rattle.pmem_replay.specs.World.{WorldState, IsWorld}
use Rattle.watched_board.specs.declared.taken.Taken.{Taken}
use Rattle.watched_board.specs.Watching.{AreInCount, FollowsOn, none_taken, steps_in}
use Rattle.pmem_replay.specs.During.{parts_in}
use Rattle.pmem_replay.specs.Planned.{plan_of_write}
use Rattle.pmem_replay.specs.EngineCalls.{IsFaultAnswered}

-- The front write is put or not, and power stays on or not; what its marks leave dirty comes after. A write that was
-- lost in a cut waits in a durable queue still.
abbrev pub given_state : Shape → PlainState → ℕ → Posted → List Posted → ℕ → Bool → Bool → PlainState
given_state g state port write later taken true true =
    record state {
      memory = memory_with state.memory write;
      queues = slice_set state.queues port later;
      hurt = without_flag state.hurt write.at;
      spoiled = without_flag state.spoiled write.at;
      steps = steps_with state.steps taken;
      fuse = option_map (λ n. n - taken) state.fuse;
    }
given_state g state port write later taken false true =
    record state {
      queues = slice_set state.queues port later;
      steps = steps_with state.steps taken;
      fuse = option_map (λ n. n - taken) state.fuse;
    }
given_state g state port write later taken true false =
    record state {
      memory = memory_with state.memory write;
      queues = queues_after_loss g.durable (slice_set state.queues port later);
      power = false;
      fuse = None;
      hurt = without_flag state.hurt write.at;
      spoiled = without_flag state.spoiled write.at;
      steps = steps_with state.steps taken;
    }
given_state g state port write later taken false false =
    record state {
      queues = queues_after_loss g.durable state.queues;
      power = false;
      fuse = None;
      steps = steps_with state.steps taken;
    }

-- the call
pub record WasWriteGiven (setup : Setup) (old : WorldState) (port : ℕ) (answer : Result Ctr Fault) (new : WorldState) : Type 0 where
  pub write : Posted
  pub later : List Posted
  pub waits : queue_of old.state.queues port ≡ write ∷ later
  pub engine : EngineState
  pub was_on : old.engine ≡ Some engine
  pub up : engine.down ≡ false
  pub after : EngineState
  pub down : after.down ≡ not (is_going (outcome_of answer))
  pub taken : Taken
  pub follows : FollowsOn old.board new.board taken
  pub in_count : AreInCount old.board
  pub each_line : All IsLine new.board.lines
  pub shape : new.shape ≡ old.shape
  pub keys : new.keys ≡ old.keys
  pub start : new.start ≡ old.start
  pub outcome :
      IsOutcome (plan_of_write setup write old.board.regs (chip_of engine old.ledger old.tags old.digests)) old.board new.board
      taken answer (chip_of after new.ledger new.tags new.digests)
  pub written : HasWrittenLine setup write (parts_in old engine none_taken) (parts_in new after taken) answer
  pub marks : new.ledger.marks ≡ old.ledger.marks ++ written.made
  pub capacity : new.capacity ≡ old.capacity

-- and the world after it
pub record IsWriteGiven (setup : Setup) (old : WorldState) (port steps : ℕ) (answer : Result Ctr Fault) (put goes : Bool) (new : WorldState) :
    Type 0 where
  pub given : WasWriteGiven setup old port answer new
  pub counted : steps ≡ steps_in given.taken
  pub sealed : is_sealed_by given.written.made given.write.at ≡ put
  pub state :
      new.state
      ≡ after_marks setup.shape (given_state setup.shape old.state port given.write given.later (steps_in given.taken) put goes) given.written.made
  pub engine : new.engine ≡ (if goes then Some given.after else None)
  pub unshown : new.shown ≡ false
  pub holds : IsWorld setup new

-- the engine has an exhibit
pub record IsWriteGivenShown (setup : Setup) (old : WorldState) (port : ℕ) (new : WorldState) : Type 0 where
  pub given : WasWriteGiven setup old port (Err Fail.Shown) new
  pub engine : new.engine ≡ Some given.after
  pub shown : new.shown ≡ true

-- by what the engine answered: the write was put if it was done, and in a cut if its own seal was made
abbrev pub IsWriteGivenTo : Setup → WorldState → ℕ → ℕ → Result Ctr Fault → Bool → WorldState → Type 0
IsWriteGivenTo setup old port steps (Ok ctr) put new = IsWriteGiven setup old port steps (Ok ctr) true true new
IsWriteGivenTo setup old port steps (Err Fail.Cut) put new = IsWriteGiven setup old port steps (Err Fail.Cut) put false new
IsWriteGivenTo setup old port steps (Err Fail.Down) put new = ⊥
IsWriteGivenTo setup old port steps (Err Fail.Shown) put new = IsWriteGivenShown setup old port new
IsWriteGivenTo setup old port steps (Err fault) put new = IsWriteGiven setup old port steps (Err fault) false true new

-- and what a drain says of it
abbrev pub IsDrainSaid : WorldState → Result Ctr Fault → Bool → ℕ → Answer → Type 0
IsDrainSaid new (Ok ctr) put steps said = said ≡ Say.Drained steps
IsDrainSaid new (Err fault) put steps said = IsFaultAnswered new.ledger.exhibit (Some put) fault steps said

pub record HasWriteGiven (setup : Setup) (old : WorldState) (port : ℕ) (said : Answer) (new : WorldState) : Type 0 where
  pub answer : Result Ctr Fault
  pub put : Bool
  pub steps : ℕ
  pub given : IsWriteGivenTo setup old port steps answer put new
  pub says : IsDrainSaid new answer put steps said

-- a fence can end with a drain that answers so
abbrev pub CanEndFence : Answer → Type 0
CanEndFence (Say.Refused None place steps) = ⊤
CanEndFence (Say.Spent None page steps) = ⊤
CanEndFence (Say.CutKept None steps) = ⊤
CanEndFence (Say.CutLost None steps) = ⊤
CanEndFence (Say.Shown exhibit) = ⊤
CanEndFence one = ⊥

-- room was made for more marks, and nothing else was done
pub record HasMarkRoom (setup : Setup) (old : WorldState) (more : ℕ) (new : WorldState) : Type 0 where
  pub same : new ≡ record old { capacity = new.capacity }
  pub never_falls : old.capacity ≤ new.capacity
  pub room : HasRoom old.ledger new.capacity more
  pub holds : IsWorld setup new
