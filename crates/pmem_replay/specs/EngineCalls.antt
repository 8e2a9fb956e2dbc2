-- One call of the engine: what every call owes the world, and the world after it.
use Rattle.std.specs.Prelude.{ℕ, ⊤, ◌≡◌, ◌≢◌, ◌≤◌, ◌<◌, ◌-◌, ◌^◌, ◌↔◌, ◌∷◌, Bool, true, false, List, Option, Some, None, option_map, length, drop, All, IsTrue, IsSome, IfSome, Result, Err, slice_set, not}
use Rattle.pmem_base.specs.declared.lines.Line.{Line}
use Rattle.pmem_base.specs.declared.commands.Posted.{Posted}
use Rattle.pmem_base.specs.declared.answers.Mark.{Mark}
use Rattle.pmem_base.specs.declared.answers.Place.{Place}
use Rattle.pmem_base.specs.declared.answers.Exhibit.{Exhibit}
use Rattle.pmem_base.specs.declared.answers.Answer.{Answer}
use Rattle.pmem_base.specs.declared.answers.Answer.TheVariants as Say
use Rattle.pmem_base.specs.Shape.{Shape, IsShape}
use Rattle.pmem_base.specs.Layout as layout
use Rattle.pmem_base.specs.Lines.{IsLine, zero_line}
use Rattle.pmem_base.specs.Ranges.{IsPosted}
use Rattle.pmem_base.specs.WaitingWrites.{queue_of, put_writes, queues_after_loss}
use Rattle.write_ports.specs.declared.seen.Seen.{Seen}
use Rattle.write_ports.specs.Seen.{overlaid}
use Rattle.write_ports.specs.Queues.{cover_line}
use Rattle.meta_cache.specs.Banks.{is_cached_dirty}
use Rattle.bonsai_tree.specs.Positions.{counter_position}
use Rattle.meta_path.specs.Blocks.{bank_dirty_count}
use Rattle.suite.specs.Setup.{Setup}
use Rattle.plain_model.specs.State.{PlainState, Memory}
use Rattle.plain_model.specs.After.{after_marks, steps_with}
use Rattle.pmem_engine.specs.declared.fault.Fault.{Fault}
use Rattle.pmem_engine.specs.declared.fault.Fault.TheVariants as Fail
use Rattle.pmem_engine.specs.Engine.{EngineState}
use Rattle.pmem_engine.specs.Parts.{Parts, AreTrusted, HoldsSeal, HoldsCounters, HoldsMeta}
use Rattle.call_effects.specs.Outcomes.{Outcome, cut_short, shown, is_going}
use Rattle.pmem_engine.specs.Outcomes.{outcome_of, is_sealed_by, CallEffect, TakesFewer}
use Rattle.pmem_engine.specs.Calls.{IsMemory, memory_after}
use Rattle.watched_board.specs.declared.taken.Taken.{Taken}
use Rattle.watched_board.specs.Watching.{AreInCount, FollowsOn, none_taken, steps_in, step_limit}
use Rattle.pmem_replay.specs.During.{parts_in}
use Rattle.pmem_replay.specs.Flagged.{healed_flags}
use Rattle.pmem_replay.specs.World.{WorldState, IsWorld}
use Rattle.pmem_engine.specs.CallFacts.{IsDownAnswer}

-- ---- the write of a call, if it is one

-- memory with the write, if its own seal was made
abbrev pub memory_put : Option Posted → List Mark → Memory → Memory
memory_put None made memory = memory
memory_put (Some write) made memory = memory_after memory write made

abbrev pub written_line : Option Posted → Option ℕ
written_line write = option_map (λ w. w.at) write

-- ---- what every call owes

-- the parts that a call begins with: trusted, with this memory, in which the write has its line, and with no
-- more dirty blocks in a bank than it can have slots
pub record IsCallStart (setup : Setup) (write : Option Posted) (memory : Memory) (old : Parts) : Type 0 where
  pub whole_shape : IsShape setup.shape
  pub few_dirty : (bank : ℕ) → bank_dirty_count setup.shape old.engine.cache bank ≤ 512
  pub trusted : AreTrusted setup old
  pub its_memory : IsMemory setup memory old
  pub within : IfSome write (λ w. w.at < length memory)

-- The law of a call, whatever it answers. The seals that it makes are of lines that were stored as they were
-- last sealed, its own write's aside. A cut ends it before the limit of steps.
pub record IsLawful {T : Type 0} (setup : Setup) (write : Option Posted) (memory : Memory) (old new : Parts) (answer : Result T Fault) :
    Type 0 where
  pub made : List Mark
  pub up : IsDownAnswer answer → ⊥
  pub effect : CallEffect setup (outcome_of answer) made old new
  pub its_memory : IsMemory setup (memory_put write made memory) new
  pub sealed_before :
      (a : ℕ) → a < layout.data_lines setup.shape → IsTrue (is_sealed_by made a) → written_line write ≢ Some a
      → HoldsSeal setup.shape old a
  pub counters :
      (page : ℕ) → page < layout.pages setup.shape → HoldsMeta setup.shape old (counter_position setup.shape page)
      → HoldsCounters setup old page → HoldsCounters setup new page
  pub exhibit : answer ≡ Err Fail.Shown → IsSome new.ledger.exhibit
  pub early : answer ≡ Err Fail.Cut → TakesFewer step_limit old.device new.device

-- a call by its relation, with its law
pub record IsLawfulCall {T : Type 0} (relation : Setup → Parts → Parts → Result T Fault → Type 0) (write : Option Posted) (setup : Setup)
    (old new : Parts) (answer : Result T Fault) : Type 0 where
  pub related : relation setup old new answer
  pub lawful : (memory : Memory) → IsCallStart setup write memory old → IsLawful setup write memory old new answer

-- ---- the world afterwards

-- the engine is lost in a cut, and the queues as the machine says
abbrev pub engine_left : Outcome → EngineState → Option EngineState
engine_left cut_short after = None
engine_left outcome after = Some after

abbrev pub queues_left : Bool → Outcome → List (List Posted) → List (List Posted)
queues_left durable cut_short queues = queues_after_loss durable queues
queues_left durable outcome queues = queues

abbrev pub power_left : Outcome → Bool → Bool
power_left cut_short power = false
power_left outcome power = power

abbrev pub fuse_left : Outcome → ℕ → Option ℕ → Option ℕ
fuse_left cut_short taken fuse = None
fuse_left outcome taken fuse = option_map (λ n. n - taken) fuse

abbrev pub is_outcome_shown : Outcome → Bool
is_outcome_shown shown = true
is_outcome_shown outcome = false

abbrev pub is_outcome_cut : Outcome → Bool
is_outcome_cut cut_short = true
is_outcome_cut outcome = false

-- The state after a call that ended so, with these marks and steps, and a stop-loss number: the steps are counted,
-- its write is put, and what its marks leave dirty comes last.
abbrev pub called_state : Shape → Outcome → Option Posted → List Mark → ℕ → ℕ → PlainState → PlainState
called_state g outcome write made taken loss state =
    after_marks g
    (record state {
      memory = memory_put write made state.memory;
      queues = queues_left g.durable outcome state.queues;
      power = power_left outcome state.power;
      fuse = fuse_left outcome taken state.fuse;
      steps = steps_with state.steps taken;
      hurt = healed_flags (written_line write) made state.hurt;
      spoiled = healed_flags (written_line write) made state.spoiled;
      loss = loss;
    })
    made

-- what surrounds a call of the engine
pub record IsCall (setup : Setup) (old new : WorldState) (engine after : EngineState) (taken : Taken) : Type 0 where
  pub world : IsWorld setup old
  pub was_on : old.engine ≡ Some engine
  pub shape : new.shape ≡ old.shape
  pub start : new.start ≡ old.start
  pub follows : FollowsOn old.board new.board taken
  pub in_count : AreInCount old.board
  pub each_line : All IsLine new.board.lines

-- The world before and after a call. Until an exhibit it stays a world.
pub record HasCalledEngine {T : Type 0} (setup : Setup) (relation : Setup → Parts → Parts → Result T Fault → Type 0) (write : Option Posted)
    (old : WorldState) (taken : Taken) (answer : Result T Fault) (new : WorldState) : Type 0 where
  pub engine : EngineState
  pub after : EngineState
  pub call : IsCall setup old new engine after taken
  pub keys : new.keys ≡ old.keys
  pub capacity : new.capacity ≡ old.capacity
  pub related : relation setup (parts_in old engine none_taken) (parts_in new after taken) answer
  pub lawful : IsLawful setup write old.state.memory (parts_in old engine none_taken) (parts_in new after taken) answer
  -- the engine was up, and is so unless the call was cut or shown
  pub up : engine.down ≡ false
  pub down : after.down ≡ not (is_going (outcome_of answer))
  pub kept : new.engine ≡ engine_left (outcome_of answer) after
  pub shown : new.shown ≡ is_outcome_shown (outcome_of answer)
  pub state :
      new.shown ≡ false
      → new.state ≡ called_state setup.shape (outcome_of answer) write lawful.made (steps_in taken) new.board.regs.loss old.state
  pub holds : new.shown ≡ false → IsWorld setup new

-- ---- what is answered

-- a cut, by whether a write was put; a command that isn't a write has none
abbrev pub cut_answer : Option Bool → ℕ → Answer
cut_answer None steps = Say.Cut steps
cut_answer (Some true) steps = Say.CutKept None steps
cut_answer (Some false) steps = Say.CutLost None steps

-- a fault as the world answers it
abbrev pub IsFaultAnswered : Option Exhibit → Option Bool → Fault → ℕ → Answer → Type 0
IsFaultAnswered exhibit put Fail.Cut steps said = said ≡ cut_answer put steps
IsFaultAnswered exhibit put (Fail.Meta x) steps said = said ≡ Say.Refused None (Place.Meta x) steps
IsFaultAnswered exhibit put (Fail.Tag at) steps said = said ≡ Say.Refused None (Place.Line at) steps
IsFaultAnswered exhibit put (Fail.Spent page) steps said = said ≡ Say.Spent None page steps
IsFaultAnswered exhibit put Fail.Shown steps said = (its : Exhibit) × (exhibit ≡ Some its) × (said ≡ Say.Shown its)
IsFaultAnswered exhibit put Fail.Down steps said = ⊥

-- the engine isn't down, and an exhibit is there if one stopped it
abbrev pub CanStop : Option Exhibit → Fault → Type 0
CanStop exhibit Fail.Down = ⊥
CanStop exhibit Fail.Shown = IsSome exhibit
CanStop exhibit fault = ⊤

-- ---- what a command looks at, and notes

-- what these waiting writes show of their line
pub record IsOverlayOf (waiting : List Posted) (seen : Seen) : Type 0 where
  pub newest : seen.line ≡ put_writes zero_line waiting
  pub over : (line : Line) → length line.0 ≡ 64 → overlaid line seen ≡ put_writes line waiting
  pub full : (seen.mask ≡ 2 ^ 64 - 1) ↔ IsTrue (cover_line waiting)

-- no block is dirty, or none at this position
abbrev pub IsCleanIn : Shape → Option EngineState → Type 0
IsCleanIn g engine = IfSome engine (λ e. (bank x : ℕ) → is_cached_dirty g e.cache bank x ≡ false)

abbrev pub IsCleanAt : Shape → Option EngineState → ℕ → Type 0
IsCleanAt g engine x = IfSome engine (λ e. (bank : ℕ) → is_cached_dirty g e.cache bank x ≡ false)

-- the port's oldest write
pub record IsFront (old : WorldState) (port : ℕ) (write : Posted) : Type 0 where
  pub later : List Posted
  pub waits : queue_of old.state.queues port ≡ write ∷ later
  pub posted : IsPosted write

-- the world without the port's oldest write, if one waits
abbrev pub without_oldest : WorldState → ℕ → WorldState
without_oldest world port =
    record world {
      state =
          record (world.state) {
            queues = slice_set world.state.queues port (drop 1 (queue_of world.state.queues port));
          };
    }
