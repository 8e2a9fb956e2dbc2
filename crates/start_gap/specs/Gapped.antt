-- What a call of levelled lines makes of the engine, device and ledger: which calls of the engine it is made
-- of, in order, and what becomes of the logical lines.
use Rattle.std.specs.Prelude.{ℕ, ◌≡◌, ◌+◌, ◌-◌, nat_lt, true, false, List, Result, Ok, Err, Some, None, MatchBool, ⊤}
use Rattle.pmem_base.specs.declared.lines.Line.{Line}
use Rattle.pmem_base.specs.declared.lines.Ctr.{Ctr}
use Rattle.pmem_base.specs.Shape.{Shape}
use Rattle.pmem_base.specs.Layout.{data_lines}
use Rattle.suite.specs.Setup.{Setup}
use Rattle.pmem_engine.specs.declared.fault.Fault.{Fault}
use Rattle.pmem_engine.specs.declared.fault.Fault.TheVariants as Fail
use Rattle.pmem_engine.specs.Engine.{EngineState}
use Rattle.pmem_engine.specs.Parts.{Parts}
use Rattle.call_effects.specs.Outcomes.{Outcome, going}
use Rattle.pmem_engine.specs.Outcomes.{outcome_of_fault}
use Rattle.pmem_engine.specs.Calls.{whole_write, HasReadLine, HasWrittenLine}
use Rattle.engine_lines.specs.Lines.{HasLines, IsUnspent, IsCutOrSpent}
use Rattle.engine_lines.specs.Edits.{AreEdited}
use Rattle.start_gap.specs.declared.wear.Wear.{Wear}
use Rattle.start_gap.specs.declared.gapped.Gapped.{Gapped}
use Rattle.start_gap.specs.declared.gapped.GapFault.{GapFault}
use Rattle.start_gap.specs.declared.gapped.GapFault.TheVariants.{Engine, BadWear}
use Rattle.start_gap.specs.declared.gapped.Moved.{Moved}
use Rattle.start_gap.specs.declared.gapped.Moved.TheVariants as Move
use Rattle.start_gap.specs.declared.gapped.WriteFault.{WriteFault}
use Rattle.start_gap.specs.Record.{recorded}
use Rattle.start_gap.specs.Wear.{place_of, next_wear}
use Rattle.start_gap.specs.Logical.{IsLevelled, move_edits, MoveStage, begun, written, copied, moved, write_lines_at, write_memory_at, wear_at}

-- the logical lines of a memory: two of its data lines are the gap's and the record's
abbrev pub logical_lines : Shape → ℕ
logical_lines g = data_lines g - 2

-- ---- opening

-- the wear of a record that was read, and no write yet
pub record HasReadRecord (setup : Setup) (every : ℕ) (line : Line) (old new : Parts) (gapped : Gapped) : Type 0 where
  pub was_read : HasReadLine setup (gapped.lines + 1) old new (Ok line)
  pub its_wear : recorded gapped.lines line ≡ Some gapped.wear
  pub its_lines : gapped.lines ≡ logical_lines setup.shape
  pub its_every : gapped.every ≡ every
  pub no_writes : gapped.count ≡ 0

-- The line of the record is read, and nothing else is done. The parts are then those of an engine: of the one that is kept, or of the one
-- that is dropped.
abbrev pub HasGappedOpened : Setup → ℕ → Parts → (EngineState → Parts) → Result Gapped GapFault → Type 0
HasGappedOpened setup every old now (Ok gapped) =
    (line : Line) × HasReadRecord setup every line old (now gapped.engine) gapped
HasGappedOpened setup every old now (Err (Engine fault)) =
    (dropped : EngineState) × HasReadLine setup (logical_lines setup.shape + 1) old (now dropped) (Err fault)
HasGappedOpened setup every old now (Err (BadWear line)) =
    (dropped : EngineState) × HasReadLine setup (logical_lines setup.shape + 1) old (now dropped) (Ok line)
    × (recorded (logical_lines setup.shape) line ≡ None)

-- over lines that hold a logical memory the wear is the one that they record
abbrev pub HasWearOf : Wear → Result Gapped GapFault → Type 0
HasWearOf wear (Ok gapped) = gapped.wear ≡ wear
HasWearOf wear (Err (Engine fault)) = ⊤
HasWearOf wear (Err (BadWear line)) = ⊥

-- ---- the calls of a write

-- the wear after a move
abbrev pub wear_by : Result (Unit {0}) Fault → ℕ → Wear → Wear
wear_by (Ok done) n wear = next_wear n wear
wear_by (Err fault) n wear = wear

-- the answer of a write whose own line was written, by that of its move
abbrev pub write_answer_by : Result (Unit {0}) Fault → Result Moved WriteFault
write_answer_by (Ok done) = Ok Move.Made
write_answer_by (Err (Fail.Spent page)) = Ok (Move.Held page)
write_answer_by (Err fault) = Err (record { fault = fault; written = true })

-- this wear and this count, and else as it was
pub record HasWear (wear : Wear) (count : ℕ) (old new : Gapped) : Type 0 where
  pub its_lines : new.lines ≡ old.lines
  pub its_every : new.every ≡ old.every
  pub its_wear : new.wear ≡ wear
  pub its_count : new.count ≡ count

-- A move is made: the source is read, its line written into the gap, and the next wear recorded, up to a call that isn't done. And writes
-- are counted again.
pub record HasTriedMove (setup : Setup) (old new : Gapped) (from to : Parts) (answer : Result Moved WriteFault) :
    Type 0 where
  pub tried : Result (Unit {0}) Fault
  pub was_tried : AreEdited setup (move_edits old.lines old.wear) from to tried
  pub its_answer : answer ≡ write_answer_by tried
  pub its_wear : HasWear (wear_by tried old.lines old.wear) 0 old new

-- no move is due yet
pub record HasCounted (old new : Gapped) (from to : Parts) (answer : Result Moved WriteFault) : Type 0 where
  pub its_answer : answer ≡ Ok Move.Not
  pub its_wear : HasWear old.wear (old.count + 1) old new
  pub nothing_else : to ≡ from

-- the line wasn't written, and nothing else was done
pub record HasWriteRefused (fault : Fault) (old new : Gapped) (from to : Parts) (answer : Result Moved WriteFault) : Type 0 where
  pub its_answer : answer ≡ Err (record { fault = fault; written = false })
  pub its_wear : HasWear old.wear old.count old new
  pub nothing_else : to ≡ from

-- what follows the line's own write: at each `every`th write a move
abbrev pub HasWriteGoneOn :
    Result Ctr Fault → Setup → Gapped → Gapped → Parts → Parts → Result Moved WriteFault → Type 0
HasWriteGoneOn (Ok ctr) setup old new from to answer =
    MatchBool (nat_lt (old.count + 1) old.every) (HasCounted old new from to answer)
    (HasTriedMove setup old new from to answer)
HasWriteGoneOn (Err fault) setup old new from to answer = HasWriteRefused fault old new from to answer

-- the line is written to its place, and then what is due is done
pub record HasLevelledWrite (setup : Setup) (a : ℕ) (plain : Line) (old new : Gapped) (from to : Parts)
    (answer : Result Moved WriteFault) : Type 0 where
  pub made : Result Ctr Fault
  pub between : Parts
  pub was_written : HasWrittenLine setup (whole_write (place_of old.lines old.wear a) plain) from between made
  pub then : HasWriteGoneOn made setup old new between to answer

-- ---- what becomes of the logical lines

-- the stages at which a write may end, by its answer; nothing is written if its line is spent
abbrev pub IsWriteEnd : Result Moved WriteFault → MoveStage → Type 0
IsWriteEnd (Ok Move.Not) written = ⊤
IsWriteEnd (Ok Move.Made) moved = ⊤
IsWriteEnd (Ok (Move.Held page)) written = ⊤
IsWriteEnd (Ok (Move.Held page)) copied = ⊤
IsWriteEnd (Err fault) begun = fault.written ≡ false
IsWriteEnd (Err fault) written = IsUnspent fault.fault
IsWriteEnd (Err fault) copied = (fault.written ≡ true) × IsUnspent fault.fault
IsWriteEnd (Err fault) moved = (fault.written ≡ true) × IsUnspent fault.fault
IsWriteEnd answer stage = ⊥

-- If the lines were these, they are at a stage of the write now: its own line is there whole or as it was. And if they held a logical
-- memory, they hold it without the line or with it, under the wear that they record.
pub record IsLeftLevelled (setup : Setup) (a : ℕ) (plain : Line) (old : Gapped) (lines : List Line) (to : Parts)
    (answer : Result Moved WriteFault) : Type 0 where
  pub stage : MoveStage
  pub ended : IsWriteEnd answer stage
  pub its_lines : HasLines setup (write_lines_at stage old.lines old.wear a plain lines) to
  pub levelled :
      (memory : List Line) → IsLevelled old.lines lines old.wear memory
      → IsLevelled old.lines (write_lines_at stage old.lines old.wear a plain lines)
      (wear_at stage old.lines old.wear) (write_memory_at stage a plain memory)

-- how the engine stands after a write
abbrev pub write_outcome_by : Result Moved WriteFault → Outcome
write_outcome_by (Ok what) = going
write_outcome_by (Err fault) = outcome_of_fault fault.fault

-- a write whose own line was written isn't spent: its move is held
abbrev pub IsSpentUnwritten : Result Moved WriteFault → Type 0
IsSpentUnwritten (Ok what) = ⊤
IsSpentUnwritten (Err fault) = fault.written ≡ true → IsUnspent fault.fault

-- over a sound device a write is done, or cut, or its own line is spent
abbrev pub IsSoundWriteAnswer : Result Moved WriteFault → Type 0
IsSoundWriteAnswer (Ok what) = ⊤
IsSoundWriteAnswer (Err fault) = IsCutOrSpent fault.fault
