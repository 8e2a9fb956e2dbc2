-- Which marks a call leaves, wherever it ends: whatever the chip and the device are.
use Rattle.std.specs.Prelude.{◌≡◌, true, false, List, Some, Result, Ok, Err}
use Rattle.pmem_base.specs.declared.lines.Line.{Line}
use Rattle.pmem_base.specs.declared.commands.Posted.{Posted}
use Rattle.pmem_base.specs.declared.registers.Regs.{Regs}
use Rattle.pmem_base.specs.declared.answers.Mark.{Mark}
use Rattle.board.specs.Device.{Device}
use Rattle.call_plan.specs.Plans.{Plan}
use Rattle.call_plan.specs.Bounds.{IsFront}
use Rattle.call_plan.specs.Following.{Follows}
use Rattle.suite.specs.Setup.{Setup}
use Rattle.pmem_engine.specs.declared.fault.Fault.{Fault}
use Rattle.pmem_engine.specs.Plans.{Chip, turn_plan}
use Rattle.pmem_engine.specs.WritePlans.{write_plan}

-- the marks at an end
abbrev pub marks_at : {A : Type 0} → Result (Chip × A) (Chip × Fault) → List Mark
marks_at (Ok end) = end.0.ledger.marks
marks_at (Err left) = left.0.ledger.marks

-- If one of two runs from one board, which has power and exposes its lines, is cut and the other isn't, the one that is cut has a prefix of
-- the marks of the other.
abbrev pub CutMakesAFront : {A : Type 0} → Plan (Chip × Fault) (Chip × A) → Type 0
CutMakesAFront {A = A} plan =
    (lines : List Line) (old a b : Device) (first second : Result (Chip × A) (Chip × Fault)) → old.lines ≡ Some lines
    → old.live ≡ true → a.live ≡ false → b.live ≡ true → Follows plan old a first → Follows plan old b second
    → IsFront (marks_at first) (marks_at second)

-- the marks of before are a prefix of those at every end
abbrev pub KeepsMarks : {A : Type 0} → Chip → Plan (Chip × Fault) (Chip × A) → Type 0
KeepsMarks {A = A} chip plan =
    (old new : Device) (end : Result (Chip × A) (Chip × Fault)) → Follows plan old new end
    → IsFront chip.ledger.marks (marks_at end)

-- ---- of a write, and of a turn

abbrev pub CutWritesMakeFronts : Type 0
CutWritesMakeFronts = (setup : Setup) (regs : Regs) (write : Posted) (chip : Chip) → CutMakesAFront (write_plan setup regs write chip)

abbrev pub CutTurnsMakeFronts : Type 0
CutTurnsMakeFronts = (setup : Setup) (regs : Regs) (chip : Chip) → CutMakesAFront (turn_plan setup regs chip)

abbrev pub WritesKeepMarks : Type 0
WritesKeepMarks = (setup : Setup) (regs : Regs) (write : Posted) (chip : Chip) → KeepsMarks chip (write_plan setup regs write chip)

abbrev pub TurnsKeepMarks : Type 0
TurnsKeepMarks = (setup : Setup) (regs : Regs) (chip : Chip) → KeepsMarks chip (turn_plan setup regs chip)
