-- What the calls of levelled lines do of the board, as plans: the engine's calls that they are made of, in order. What
-- a call answers, and what it makes of wear and count, are functions of how its plan ends.
use Rattle.std.specs.Prelude.{ℕ, ◌≡◌, ◌+◌, nat_lt, Bool, true, false, not, List, [], Option, Some, None, Result, Ok, Err, if◌then◌else◌}
use Rattle.pmem_base.specs.declared.lines.Line.{Line}
use Rattle.pmem_base.specs.declared.registers.Regs.{Regs}
use Rattle.board.specs.Device.{Device}
use Rattle.call_plan.specs.Plans.{Plan, done, stop, bind, lifted, ended}
use Rattle.call_plan.specs.Following.{Follows}
use Rattle.suite.specs.Setup.{Setup}
use Rattle.pmem_engine.specs.declared.fault.Fault.{Fault}
use Rattle.pmem_engine.specs.declared.fault.Fault.TheVariants as Fail
use Rattle.pmem_engine.specs.Engine.{EngineState}
use Rattle.pmem_engine.specs.Plans.{Chip, read_plan}
use Rattle.engine_lines.specs.declared.edits.Edit.{Edit}
use Rattle.engine_lines.specs.Plans.{put_plan, edits_plan}
use Rattle.start_gap.specs.declared.wear.Wear.{Wear}
use Rattle.start_gap.specs.declared.gapped.Gapped.{Gapped}
use Rattle.start_gap.specs.declared.gapped.GapFault.{GapFault}
use Rattle.start_gap.specs.declared.gapped.GapFault.TheVariants.{Engine, BadWear}
use Rattle.start_gap.specs.declared.gapped.Moved.{Moved}
use Rattle.start_gap.specs.declared.gapped.Moved.TheVariants as Move
use Rattle.start_gap.specs.declared.gapped.WriteFault.{WriteFault}
use Rattle.start_gap.specs.Wear.{place_of, next_wear}
use Rattle.start_gap.specs.Record.{recorded}
use Rattle.start_gap.specs.Logical.{move_edits}
use Rattle.start_gap.specs.Gapped.{logical_lines, HasWear}

-- ---- opening

-- the wear of a line that was read, or that the line isn't a record
abbrev pub wear_end : Line → Chip → Option Wear → Plan (Chip × GapFault) (Chip × Wear)
wear_end line chip None = stop (chip, BadWear line)
wear_end line chip (Some wear) = done (chip, wear)

-- the line of the record is read
unfoldable pub open_plan : Setup → Regs → Chip → Plan (Chip × GapFault) (Chip × Wear)
open_plan setup regs chip =
    bind (lifted (λ now. now) Engine (read_plan setup regs (logical_lines setup.shape + 1) chip))
    (λ found. wear_end found.1 found.0 (recorded (logical_lines setup.shape) found.1))

-- the board went along it; the chip is then that of an engine: of the one that is kept, or of the one that is dropped
abbrev pub FollowsOpening : Setup → Regs → Chip → Device → Device → (EngineState → Chip) → Result Gapped GapFault → Type 0
FollowsOpening setup regs chip old new now (Ok gapped) =
    Follows (open_plan setup regs chip) old new (Ok (now gapped.engine, gapped.wear))
FollowsOpening setup regs chip old new now (Err fault) =
    (dropped : EngineState) × Follows (open_plan setup regs chip) old new (Err (now dropped, fault))

-- ---- a write

-- whether a move is due at the next write
abbrev pub is_move_due : ℕ → ℕ → Bool
is_move_due count every = not (nat_lt (count + 1) every)

-- a move's changes, if one is due
abbrev pub due_edits : Bool → ℕ → Wear → List Edit
due_edits due n wear = if due then move_edits n wear else []

abbrev pub write_fault : Bool → Fault → WriteFault
write_fault written fault = record { fault = fault; written = written }

-- The line is written to its place, and then what is due is done. Each fault has whether the line is written by then.
unfoldable pub levelled_plan : Setup → ℕ → Wear → Bool → ℕ → Line → Chip → Regs → Plan (Chip × WriteFault) (Chip × Regs)
levelled_plan setup n wear due a plain chip regs =
    bind (lifted (λ now. now) (write_fault false) (put_plan setup (place_of n wear a) plain chip regs))
    (λ written. lifted (λ now. now) (write_fault true) (edits_plan setup (due_edits due n wear) written))

-- ---- how a write ends

abbrev pub moved_as : Bool → Moved
moved_as true = Move.Made
moved_as false = Move.Not

-- once the line is written, a spent line holds the move
abbrev pub held_as : Bool → Fault → Result Moved WriteFault
held_as true (Fail.Spent page) = Ok (Move.Held page)
held_as written fault = Err (write_fault written fault)

abbrev pub write_answer_of : Bool → Result Regs WriteFault → Result Moved WriteFault
write_answer_of due (Ok regs) = Ok (moved_as due)
write_answer_of due (Err fault) = held_as fault.written fault.fault

-- the wear is the next one if a move was made
abbrev pub wear_after : Bool → ℕ → Wear → Result Regs WriteFault → Wear
wear_after due n wear (Ok regs) = if due then next_wear n wear else wear
wear_after due n wear (Err fault) = wear

-- a write whose line is written is counted, and the count begins again if a move was due
abbrev pub count_after : Bool → ℕ → Result Regs WriteFault → ℕ
count_after due count (Ok regs) = if due then 0 else count + 1
count_after due count (Err fault) = if fault.written then 0 else count

-- the board went along a write's plan, and the rest is by its end
pub record FollowsWrite (setup : Setup) (a : ℕ) (plain : Line) (old new : Gapped) (regs : Regs) (from to : Chip) (before after : Device)
    (answer : Result Moved WriteFault) : Type 0 where
  pub end : Result Regs WriteFault
  pub follows :
      Follows (levelled_plan setup old.lines old.wear (is_move_due old.count old.every) a plain from regs) before after (ended end to)
  pub its_answer : answer ≡ write_answer_of (is_move_due old.count old.every) end
  pub its_wear :
      HasWear (wear_after (is_move_due old.count old.every) old.lines old.wear end)
      (count_after (is_move_due old.count old.every) old.count end) old new
