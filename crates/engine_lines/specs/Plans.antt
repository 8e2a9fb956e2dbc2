-- What changes of data lines do of the board, as plans over the engine, the ledger and the counts: calls of the engine
-- one after another, each from the registers that the one before it left.
use Rattle.std.specs.Prelude.{ℕ, List}
use Rattle.pmem_base.specs.declared.lines.Line.{Line}
use Rattle.pmem_base.specs.declared.registers.Regs.{Regs}
use Rattle.call_plan.specs.Plans.{Plan, done, stop, read, write, latch, bind, mapped, for_each}
use Rattle.suite.specs.Setup.{Setup}
use Rattle.pmem_engine.specs.declared.fault.Fault.{Fault}
use Rattle.pmem_engine.specs.Calls.{whole_write}
use Rattle.pmem_engine.specs.Plans.{Chip, read_plan}
use Rattle.pmem_engine.specs.WritePlans.{write_plan}
use Rattle.engine_lines.specs.declared.edits.Edit.{Edit}
use Rattle.engine_lines.specs.declared.edits.Edit.TheVariants as Make

-- ---- the registers

-- the same plan, whose end has the registers that it leaves: those that it latched last, or these
unfoldable pub with_regs : {E T : Type 0} → Regs → Plan E T → Plan E (T × Regs)
with_regs regs (done t) = done (t, regs)
with_regs regs (stop left) = stop left
with_regs regs (read left at later) = read left at (λ line. with_regs regs (later line))
with_regs regs (write left at line later) = write left at line (with_regs regs later)
with_regs regs (latch left next later) = latch left next (with_regs next later)

-- ---- the changes

-- a chip with the registers is what a change begins with, and what it ends with if it is made
abbrev pub ChangePlan : Type 0
ChangePlan = Plan (Chip × Fault) (Chip × Regs)

-- a line is written
abbrev pub put_plan : Setup → ℕ → Line → Chip → Regs → ChangePlan
put_plan setup at line chip regs =
    mapped (λ left. left) (λ end. (end.0.0, end.1)) (with_regs regs (write_plan setup regs (whole_write at line) chip))

-- a line is read, and then written to another place
abbrev pub copy_plan : Setup → ℕ → ℕ → Chip → Regs → ChangePlan
copy_plan setup from at chip regs =
    bind (with_regs regs (read_plan setup regs from chip)) (λ found. put_plan setup at found.0.1 found.0.0 found.1)

unfoldable pub edit_plan : Setup → Edit → Chip × Regs → ChangePlan
edit_plan setup (Make.Put at line) before = put_plan setup at line before.0 before.1
edit_plan setup (Make.Copy from at) before = copy_plan setup from at before.0 before.1

-- the changes are made in order, up to one that isn't
abbrev pub edits_plan : Setup → List Edit → Chip × Regs → ChangePlan
edits_plan setup edits before = for_each (edit_plan setup) edits before
