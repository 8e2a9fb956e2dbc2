-- That a call's contract leaves nothing open: two outcomes of one call, from one board with power on, are the same.
use Rattle.std.specs.Prelude.{ℕ}
use Rattle.board.specs.Memory.{BoardMemory}
use Rattle.pmem_base.specs.declared.lines.Line.{Line}
use Rattle.pmem_base.specs.declared.commands.Posted.{Posted}
use Rattle.suite.specs.Setup.{Setup}
use Rattle.call_plan.specs.Laws.{IsDetermined}
use Rattle.pmem_engine.specs.Engine.{ChipState}
use Rattle.pmem_engine.specs.CallFacts.{whole_write}
use Rattle.pmem_engine.specs.Plans.{Chip, read_plan, turn_plan, flush_plan, set_loss_plan}
use Rattle.pmem_engine.specs.WritePlans.{write_plan}

abbrev pub FlushIsDetermined : Type 0
FlushIsDetermined = (engine : ChipState) (old : BoardMemory) → IsDetermined old (flush_plan engine)

abbrev pub TurnIsDetermined : Type 0
TurnIsDetermined = (setup : Setup) (chip : Chip) (old : BoardMemory) → IsDetermined old (turn_plan setup old.regs chip)

abbrev pub ReadIsDetermined : Type 0
ReadIsDetermined =
    (setup : Setup) (at : ℕ) (chip : Chip) (old : BoardMemory) → IsDetermined old (read_plan setup old.regs at chip)

abbrev pub WriteIsDetermined : Type 0
WriteIsDetermined =
    (setup : Setup) (at : ℕ) (line : Line) (chip : Chip) (old : BoardMemory)
    → IsDetermined old (write_plan setup old.regs (whole_write at line) chip)

abbrev pub WritePartIsDetermined : Type 0
WritePartIsDetermined =
    (setup : Setup) (write : Posted) (chip : Chip) (old : BoardMemory)
    → IsDetermined old (write_plan setup old.regs write chip)

abbrev pub SetLossIsDetermined : Type 0
SetLossIsDetermined = (n : ℕ) (engine : ChipState) (old : BoardMemory) → IsDetermined old (set_loss_plan n old.regs engine)
