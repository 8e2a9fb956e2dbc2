-- One command and its reply: what the world answers, and what becomes of it and of its parts.
use Rattle.std.specs.Prelude.{ℕ, ◌≡◌, ◌≢◌, ◌≤◌, ◌<◌, ◌+◌, ◌-◌, ◌++◌, ◌⊎◌, true, false, not, List, [], ◌∷◌, length, drop, Option, Some, None, Result, Ok, Err, MatchOption, slice_range, IsTrue, IfSome, ⊤, if◌then◌else◌}
use Rattle.pmem_base.specs.declared.lines.Line.{Line}
use Rattle.pmem_base.specs.declared.lines.Ctr.{Ctr}
use Rattle.pmem_base.specs.declared.commands.Posted.{Posted}
use Rattle.pmem_base.specs.declared.commands.Command.{Command}
use Rattle.pmem_base.specs.declared.commands.Command.TheVariants as Do
use Rattle.pmem_base.specs.declared.answers.Answer.{Answer}
use Rattle.pmem_base.specs.declared.answers.Answer.TheVariants as Say
use Rattle.pmem_base.specs.declared.answers.Exhibit.{Exhibit}
use Rattle.pmem_base.specs.declared.answers.Exhibit.TheVariants as Show
use Rattle.pmem_base.specs.declared.answers.Place.{Place}
use Rattle.pmem_base.specs.declared.answers.Stat.{Stat}
use Rattle.pmem_base.specs.Counts.{HasRisen, risen_times}
use Rattle.pmem_base.specs.Shape.{Shape}
use Rattle.pmem_base.specs.Layout as layout
use Rattle.pmem_base.specs.Lines.{line_at, tag_slot}
use Rattle.pmem_base.specs.Marks.{last_seal}
use Rattle.pmem_base.specs.Ranges.{IsAnswer}
use Rattle.pmem_base.specs.WaitingWrites.{queue_of, writes_to, put_writes}
use Rattle.board.specs.Memory.{BoardMemory, device_of, new_memory, with_line_at, with_lines, flipped_line, restored_lines}
use Rattle.call_plan.specs.Runs.{IsOutcome}
use Rattle.suite.specs.Setup.{Setup}
use Rattle.seal_ledger.specs.Ledger.{LedgerState}
use Rattle.plain_model.specs.State.{PlainState, Reply, start_state}
use Rattle.plain_model.specs.View.{start_view}
use Rattle.plain_model.specs.After.{state_after, steps_of, is_cut}
use Rattle.plain_model.specs.Answers.{decided_answer, is_answer_to, is_shown}
use Rattle.plain_model.specs.Legal.{front_of}
use Rattle.plain_model.specs.Shown.{IsLegal}
use Rattle.plain_model.specs.Fits.{Fits}
use Rattle.pmem_engine.specs.declared.fault.Fault.{Fault}
use Rattle.pmem_engine.specs.Engine.{EngineState}
use Rattle.call_effects.specs.Outcomes.{is_going}
use Rattle.pmem_engine.specs.Outcomes.{is_sealed_by, outcome_of}
use Rattle.pmem_engine.specs.Parts.{Parts}
use Rattle.pmem_engine.specs.Plans.{chip_of}
use Rattle.pmem_engine.specs.Invariants.{IsSealStored}
use Rattle.pmem_engine.specs.Mendable.{new_engine}
use Rattle.pmem_engine.specs.Calls.{HasReadLine, HasWrittenLine, HasTurned, HasFlushed, HasSetLoss}
use Rattle.call_effects.specs.declared.recovery.Work.{Work}
use Rattle.pmem_recovery.specs.declared.faults.RecFault.{RecFault}
use Rattle.pmem_recovery.specs.declared.faults.RecFault.TheVariants as Stop
use Rattle.pmem_recovery.specs.Trials.{first_undecided, tried_minors}
use Rattle.pmem_recovery.specs.Fixed.{found_root}
use Rattle.call_effects.specs.SuiteStates.{SuiteState}
use Rattle.pmem_recovery.specs.Plans.{counts_of, recover_plan}
use Rattle.pmem_recovery.specs.Formatting.{HasFormatted}
use Rattle.pmem_recovery.specs.Recovered.{HasRecovered}
use Rattle.pmem_replay.specs.World.{WorldState, AreExact, IsWorld, view_in, lines_in}
use Rattle.watched_board.specs.declared.taken.Taken.{Taken}
use Rattle.pmem_replay.specs.declared.world.Reply as replies
use Rattle.watched_board.specs.Watching.{none_taken, steps_in, device_during}
use Rattle.pmem_replay.specs.During.{parts_in}
use Rattle.pmem_replay.specs.Planned.{CallPlan, plan_of_read, plan_of_write, plan_of_turn, plan_of_flush, plan_of_loss}
use Rattle.pmem_replay.specs.EngineCalls.{IsFaultAnswered}

-- ---- what the table's answers do to the board and to the engine

-- the board after a command that the table answers
abbrev pub board_after : BoardMemory → Command → Answer → BoardMemory
board_after board (Do.Cut n) Say.Ok = record board { fuse = Some n }
board_after board Do.Off Say.Ok = record board { powered = false; fuse = None }
board_after board (Do.Poke d line) Say.Ok = with_line_at board d line
board_after board (Do.Flip d bit) Say.Ok = with_line_at board d (flipped_line (line_at board.lines d) bit)
board_after board (Do.Move from to) Say.Ok = with_line_at board to (line_at board.lines from)
board_after board Do.Snap Say.Ok = record board { snapshot = Some board.lines }
board_after board (Do.Back d) Say.Ok = with_lines board (restored_lines board.lines board.snapshot d)
board_after board command answer = board

-- `off` alone drops the engine
abbrev pub engine_after : Option EngineState → Command → Answer → Option EngineState
engine_after engine Do.Off Say.Ok = None
engine_after engine command answer = engine

-- the board as said, and nothing else of the world's own parts
pub record IsByTable (old : WorldState) (command : Command) (answer : Answer) (new : WorldState) : Type 0 where
  pub board : new.board ≡ board_after old.board command answer
  pub engine : new.engine ≡ engine_after old.engine command answer
  pub ledger : new.ledger ≡ old.ledger
  pub capacity : new.capacity ≡ old.capacity
  pub tags : new.tags ≡ old.tags
  pub digests : new.digests ≡ old.digests

-- ---- calls of the engine

-- The world's parts before and after a call, for which room for marks may have been made before: the board followed
-- the call's plan, and whatever is answered took no step past the fuse. The engine was up, and is so unless the call was
-- cut or shown; it is kept unless power was cut, which the answer tells. Line writes and latches are counted from the
-- call on, and are the steps of the answer unless that is an exhibit.
pub record HasCalled {T : Type 0} (plan : CallPlan T) (relation : Parts → Parts → Result T Fault → Type 0)
    (says : LedgerState → LedgerState → ℕ → Result T Fault → Answer → Type 0) (old new : WorldState) (answer : Answer) : Type 0 where
  pub engine : EngineState
  pub was_on : old.engine ≡ Some engine
  pub up : engine.down ≡ false
  pub after : EngineState
  pub kept : new.engine ≡ (if is_cut answer then None else Some after)
  pub taken : Taken
  pub result : Result T Fault
  pub down : after.down ≡ not (is_going (outcome_of result))
  pub outcome :
      IsOutcome (plan old.board.regs (chip_of engine old.ledger old.tags old.digests)) old.board new.board taken result
      (chip_of after new.ledger new.tags new.digests)
  pub related : relation (parts_in old engine none_taken) (parts_in new after taken) result
  pub said : says old.ledger new.ledger (steps_in taken) result answer
  pub power : new.board.powered ≡ not (is_cut answer)
  pub steps : is_shown answer ≡ false → steps_of answer ≡ steps_in taken
  pub capacity : old.capacity ≤ new.capacity
  pub cut : is_cut answer ≡ true → HasRisen old.board.cuts new.board.cuts
  pub uncut : is_cut answer ≡ false → new.board.cuts ≡ old.board.cuts

-- what a call answered, as the world answers it after that many steps, from the ledgers before and after it; a read answers its line with
-- what waits put on it
abbrev pub IsReadAnswer : List Posted → LedgerState → LedgerState → ℕ → Result Line Fault → Answer → Type 0
IsReadAnswer waiting before after steps (Ok line) answer = answer ≡ Say.Got (put_writes line waiting) steps
IsReadAnswer waiting before after steps (Err fault) answer = IsFaultAnswered after.exhibit None fault steps answer

-- a write that was cut is kept if one of the new marks seals its line
abbrev pub IsDrainAnswer : Posted → LedgerState → LedgerState → ℕ → Result Ctr Fault → Answer → Type 0
IsDrainAnswer write before after steps (Ok ctr) answer = answer ≡ Say.Drained steps
IsDrainAnswer write before after steps (Err fault) answer =
    IsFaultAnswered after.exhibit (Some (is_sealed_by (drop (length before.marks) after.marks) write.at)) fault steps answer

abbrev pub IsTurnAnswer : LedgerState → LedgerState → ℕ → Result (Option (ℕ × ℕ)) Fault → Answer → Type 0
IsTurnAnswer before after steps (Ok None) answer = answer ≡ Say.Idle
IsTurnAnswer before after steps (Ok (Some turned)) answer = answer ≡ Say.Turned turned.1 steps
IsTurnAnswer before after steps (Err fault) answer = IsFaultAnswered after.exhibit None fault steps answer

abbrev pub IsFlushAnswer : LedgerState → LedgerState → ℕ → Result (Option ℕ) Fault → Answer → Type 0
IsFlushAnswer before after steps (Ok None) answer = answer ≡ Say.Clean
IsFlushAnswer before after steps (Ok (Some x)) answer = answer ≡ Say.Flushed x steps
IsFlushAnswer before after steps (Err fault) answer = IsFaultAnswered after.exhibit None fault steps answer

abbrev pub IsLossAnswer : LedgerState → LedgerState → ℕ → Result ℕ Fault → Answer → Type 0
IsLossAnswer before after steps (Ok taken) answer = answer ≡ Say.LossSet steps
IsLossAnswer before after steps (Err fault) answer = IsFaultAnswered after.exhibit None fault steps answer

-- what recovery answered, as the world answers it after that many steps
abbrev pub IsOnAnswer : ℕ → Result (EngineState × Work) RecFault → Answer → Type 0
IsOnAnswer steps (Ok done) answer = answer ≡ Say.Recovered done.1.trials done.1.digests steps
IsOnAnswer steps (Err Stop.Cut) answer = answer ≡ Say.Cut steps
IsOnAnswer steps (Err (Stop.NoCounter at)) answer = answer ≡ Say.NoCounter at steps
IsOnAnswer steps (Err (Stop.Root kept found)) answer = answer ≡ Say.WrongRoot kept found steps
IsOnAnswer steps (Err (Stop.Twin at major low high cipher tag)) answer =
    answer ≡ Say.Shown (Show.Twin at major low high cipher tag)
IsOnAnswer steps (Err Stop.Memory) answer = ⊥

-- ---- drains and fences

-- the write is given to the engine, and a drain answers so
abbrev pub HasDrained : Setup → Posted → WorldState → Answer → WorldState → Type 0
HasDrained setup write old answer new =
    HasCalled (plan_of_write setup write) (λ p q r. HasWrittenLine setup write p q r) (IsDrainAnswer write) old new answer

-- the world's own parts stay, for which room for marks may have been made
pub record HasSameParts (old new : WorldState) : Type 0 where
  pub board : new.board ≡ old.board
  pub engine : new.engine ≡ old.engine
  pub ledger : new.ledger ≡ old.ledger
  pub capacity : old.capacity ≤ new.capacity
  pub tags : new.tags ≡ old.tags
  pub digests : new.digests ≡ old.digests

-- What a command answers that ends with a write of which a drain of it alone would answer `one`: that many were drained before it, as a
-- fence tells, in `spent` steps. It isn't counted itself, not even if it was kept in a cut.
abbrev pub EndsWrites : Option ℕ → ℕ → Answer → Answer → Type 0
EndsWrites drained spent (Say.Refused None place steps) answer = answer ≡ Say.Refused drained place (spent + steps)
EndsWrites drained spent (Say.Spent None page steps) answer = answer ≡ Say.Spent drained page (spent + steps)
EndsWrites drained spent (Say.CutKept None steps) answer = answer ≡ Say.CutKept drained (spent + steps)
EndsWrites drained spent (Say.CutLost None steps) answer = answer ≡ Say.CutLost drained (spent + steps)
EndsWrites drained spent (Say.Shown exhibit) answer = answer ≡ Say.Shown exhibit
EndsWrites drained spent one answer = ⊥

-- A fence of these writes, the oldest first, after that many drained ones that took `spent` steps: a chain of drains. The first write ends
-- it, or is drained, and the fence goes on with the others from the world in between, of which only the world's own parts count.
abbrev pub HasFenced : Setup → List Posted → ℕ → ℕ → WorldState → Answer → WorldState → Type 0
HasFenced setup [] drained spent old answer new = HasSameParts old new × (answer ≡ Say.Fenced drained spent)
HasFenced setup (write ∷ later) drained spent old answer new =
    ((one : Answer) × HasDrained setup write old one new × EndsWrites (Some drained) spent one answer)
    ⊎ ((steps : ℕ) × (mid : WorldState) × HasDrained setup write old (Say.Drained steps) mid
    × HasFenced setup later (drained + 1) (spent + steps) mid answer new)

-- ---- recovery

-- the engine that recovery gives, if any
abbrev pub engine_given : Result (EngineState × Work) RecFault → Option EngineState
engine_given (Ok done) = Some done.0
engine_given (Err fault) = None

-- the board as it is left after recovery: if that is refused or shown something, power goes off again
abbrev pub board_after_on : Result (EngineState × Work) RecFault → BoardMemory → BoardMemory
board_after_on (Ok done) left = left
board_after_on (Err Stop.Cut) left = left
board_after_on (Err fault) left = record left { powered = false }

-- Recovery, over the board with power on, had its memory: the board followed its plan, and whatever is answered took no
-- step past the fuse.
pub record HasPoweredOn (setup : Setup) (old new : WorldState) (answer : Answer) : Type 0 where
  pub left : BoardMemory
  pub taken : Taken
  pub result : Result (EngineState × Work) RecFault
  pub suite_old : SuiteState
  pub suite_new : SuiteState
  pub keys : suite_old.keys ≡ old.keys
  pub tags_old : suite_old.tags ≡ old.tags
  pub tags_new : suite_new.tags ≡ new.tags
  pub digests_old : suite_old.digests ≡ old.digests
  pub digests_new : suite_new.digests ≡ new.digests
  pub outcome :
      IsOutcome (recover_plan setup old.board.regs (counts_of suite_old)) (record (old.board) { powered = true }) left taken result
      (counts_of suite_new)
  pub recovered :
      HasRecovered setup old.ledger (device_during (record (old.board) { powered = true }) none_taken)
      (device_during left taken) suite_old suite_new result
  pub answered : IsOnAnswer (steps_in taken) result answer
  pub steps : is_shown answer ≡ false → steps_of answer ≡ steps_in taken
  pub engine : new.engine ≡ engine_given result
  pub board : new.board ≡ board_after_on result left
  pub ledger : new.ledger ≡ old.ledger
  pub capacity : new.capacity ≡ old.capacity
  pub cut : is_cut answer ≡ true → HasRisen old.board.cuts new.board.cuts
  pub uncut : is_cut answer ≡ false → new.board.cuts ≡ old.board.cuts

-- the counts of a board, next to those of tags and digests
abbrev pub counts_with : BoardMemory → ℕ → ℕ → Stat
counts_with board tags digests =
    record { reads = board.reads; writes = board.writes; latches = board.latches; tags = tags; digests = digests }

-- the counts of the board and the suite
abbrev pub counts_in : WorldState → Stat
counts_in world = counts_with world.board world.tags world.digests

-- The counts as `stat` answers them. A count of line writes or latches that stands at its end tells
-- nothing any more; then all steps are answered as line writes.
pub record IsStatOf (world : WorldState) (counts : Stat) : Type 0 where
  pub reads : counts.reads ≡ world.board.reads - world.start.reads
  pub writes : AreExact world.board → counts.writes ≡ world.board.writes - world.start.writes
  pub latches : AreExact world.board → counts.latches ≡ world.board.latches - world.start.latches
  pub all_steps : (AreExact world.board → ⊥) → (counts.writes ≡ world.state.steps) × (counts.latches ≡ 0)
  pub tags : counts.tags ≡ world.tags - world.start.tags
  pub digests : counts.digests ≡ world.digests - world.start.digests

abbrev pub IsStatAnswer : WorldState → Answer → Type 0
IsStatAnswer world (Say.Counts counts) = IsStatOf world counts
IsStatAnswer world answer = ⊥

-- if the table decides nothing: what the engine, recovery or a look does
abbrev pub IsCommandDone : Setup → WorldState → Command → Answer → WorldState → Type 0
IsCommandDone setup old (Do.Read port at) answer new =
    HasCalled (plan_of_read setup at) (λ p q r. HasReadLine setup at p q r) (IsReadAnswer (writes_to (queue_of old.state.queues port) at)) old
    new answer
IsCommandDone setup old (Do.Drain port) answer new =
    MatchOption (front_of old.state port) ⊥
    (λ write. HasDrained setup write old answer new)
IsCommandDone setup old (Do.Fence port) answer new = HasFenced setup (queue_of old.state.queues port) 0 0 old answer new
IsCommandDone setup old Do.Turn answer new =
    HasCalled (plan_of_turn setup) (λ p q r. HasTurned setup p q r) IsTurnAnswer old new answer
IsCommandDone setup old Do.Flush answer new =
    HasCalled plan_of_flush (λ p q r. HasFlushed setup p q r) IsFlushAnswer old new answer
IsCommandDone setup old (Do.Loss n) answer new =
    HasCalled (plan_of_loss n) (λ p q r. HasSetLoss setup n p q r) IsLossAnswer old new answer
IsCommandDone setup old Do.On answer new = HasPoweredOn setup old new answer
IsCommandDone setup old (Do.Peek d) answer new =
    IsByTable old (Do.Peek d) answer new × (answer ≡ Say.Raw (line_at old.board.lines d))
IsCommandDone setup old Do.Stat answer new = IsByTable old Do.Stat answer new × IsStatAnswer old answer
IsCommandDone setup old command answer new = ⊥

-- ---- what an answer shows of the device as it stands afterwards

-- the tag of data line a under its last counter, and the one in its slot
abbrev pub IsTagWrong : Setup → WorldState → ℕ → Type 0
IsTagWrong setup new a =
    IfSome (last_seal new.ledger.marks a)
    (λ seal.
    setup.formulas.tag_of a seal.ctr (line_at new.board.lines a)
    ≢ tag_slot (line_at new.board.lines (layout.tag_line setup.shape a)) a)

abbrev pub IsPlaceWrong : Setup → WorldState → Place → Type 0
IsPlaceWrong setup new (Place.Meta x) =
    setup.formulas.digest_of x (line_at new.board.lines (layout.meta_line setup.shape x))
    ≢ setup.formulas.digest_of x (line_at new.ledger.truth x)
IsPlaceWrong setup new (Place.Line a) = IsTagWrong setup new a

-- an exhibit's line and tag are the device's
abbrev pub IsExhibitSeen : Setup → WorldState → Exhibit → Type 0
IsExhibitSeen setup new (Show.Clash x first second) = first ≡ line_at new.board.lines (layout.meta_line setup.shape x)
IsExhibitSeen setup new (Show.Forged at ctr cipher tag) =
    (cipher ≡ line_at new.board.lines at)
    × (tag ≡ tag_slot (line_at new.board.lines (layout.tag_line setup.shape at)) at)
IsExhibitSeen setup new (Show.Twin at major low high cipher tag) =
    (cipher ≡ line_at new.board.lines at)
    × (tag ≡ tag_slot (line_at new.board.lines (layout.tag_line setup.shape at)) at)
    × (first_undecided setup (lines_in new) new.board.regs ≡ Some at)
    × ((more : List ℕ) × (tried_minors setup (lines_in new) new.board.regs at ≡ low ∷ high ∷ more))

-- a read that is answered and not forwarded found the line's last seal
abbrev pub IsSeenOnDevice : Setup → WorldState → Command → Answer → WorldState → Type 0
IsSeenOnDevice setup old (Do.Read port at) (Say.Got line steps) new =
    decided_answer setup.shape old.state (Do.Read port at) ≡ None
    → IsSealStored setup.shape new.board.lines new.ledger.marks at
IsSeenOnDevice setup old command (Say.Refused drained place steps) new = IsPlaceWrong setup new place
IsSeenOnDevice setup old command (Say.NoCounter at steps) new =
    (first_undecided setup (lines_in new) new.board.regs ≡ Some at)
    × (tried_minors setup (lines_in new) new.board.regs at ≡ [])
IsSeenOnDevice setup old command (Say.WrongRoot kept found steps) new =
    found ≡ found_root setup (lines_in new) new.board.regs
IsSeenOnDevice setup old command (Say.Shown exhibit) new = IsExhibitSeen setup new exhibit
IsSeenOnDevice setup old command answer new = ⊤

-- ---- a step

-- a reply with its marks, as the plain machine's
abbrev pub reply_in : WorldState → replies.Reply → Reply
reply_in world told = record { marks = slice_range world.ledger.marks told.from told.to; answer = told.answer }

-- the clause of `World::step`: one command, its reply, and the world before and after
pub record HasStepped (setup : Setup) (old : WorldState) (command : Command) (reply : Reply) (new : WorldState) :
    Type 0 where
  pub same_shape : new.shape ≡ old.shape
  pub same_keys : new.keys ≡ old.keys
  pub same_start : new.start ≡ old.start
  pub listed : IsTrue (is_answer_to command reply.answer)
  pub in_range : IsAnswer reply.answer
  pub legal : IsLegal setup old.state (view_in setup old) command reply
  pub fits : Fits setup old.state (view_in setup old) command reply
  pub marks : new.ledger.marks ≡ old.ledger.marks ++ reply.marks
  pub shown : new.shown ≡ is_shown reply.answer
  pub state :
      is_shown reply.answer ≡ false → new.state ≡ state_after setup.shape old.state command reply
  pub holds : is_shown reply.answer ≡ false → IsWorld setup new
  pub parts :
      MatchOption (decided_answer setup.shape old.state command)
      (IsCommandDone setup old command reply.answer new)
      (λ answer. IsByTable old command answer new)
  pub seen : IsSeenOnDevice setup old command reply.answer new

-- ---- few steps

-- no command takes more steps than that many, of sixteen calls
abbrev pub most_command_steps : ℕ
most_command_steps = 1048576

-- a step adds at most that many to the steps, unless it ends with an exhibit
abbrev pub AddsFewSteps : WorldState → WorldState → Type 0
AddsFewSteps old new = new.shown ≡ false → new.state.steps ≤ old.state.steps + most_command_steps

-- ---- running out of memory

-- If memory may be needed: for the marks of a drain or a fence with power on and a write that waits, or of a turn with power on; for
-- recovery with power off; and for the first snapshot.
abbrev pub CanWantMemory : PlainState → Command → Type 0
CanWantMemory state (Do.Drain port) = (state.power ≡ true) × (0 < length (queue_of state.queues port))
CanWantMemory state (Do.Fence port) = (state.power ≡ true) × (0 < length (queue_of state.queues port))
CanWantMemory state Do.Turn = state.power ≡ true
CanWantMemory state Do.On = state.power ≡ false
CanWantMemory state Do.Snap = state.snapped ≡ false
CanWantMemory state command = ⊥

-- ---- the first world

-- a world whose device, of zeros before, was formatted: the start of the plain machine, with the marks of formatting and
-- nothing cached; `stat` counts from here on
pub record IsNewWorld (setup : Setup) (world : WorldState) : Type 0 where
  pub its_shape : world.shape ≡ setup.shape
  pub state : world.state ≡ start_state setup.shape
  pub view : view_in setup world ≡ start_view setup.shape
  pub not_shown : world.shown ≡ false
  pub holds : IsWorld setup world
  pub engine : world.engine ≡ Some (new_engine setup.shape)
  pub start : world.start ≡ counts_in world
  pub formatted :
      HasFormatted setup world.ledger (device_of (new_memory (layout.device_lines setup.shape))) (device_of world.board)
      (new_engine setup.shape)

-- the tags and digests that were made before the world, and then a tag for each data line and a digest for each metadata
-- line
pub record HasFormatWork (g : Shape) (tags_before digests_before : ℕ) (world : WorldState) : Type 0 where
  pub tags : world.tags ≡ risen_times (layout.data_lines g) tags_before
  pub digests : world.digests ≡ risen_times (layout.meta_lines g) digests_before
