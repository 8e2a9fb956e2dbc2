-- That a call's contract leaves nothing open: two outcomes of one call, from one board with power on, are the same.
use Rattle.std.specs.Prelude.{ℕ, ◌≡◌, true, List, length, Some}
use Rattle.pmem_base.specs.declared.lines.Line.{Line}
use Rattle.board.specs.Memory.{BoardMemory}
use Rattle.suite.specs.Setup.{Setup}
use Rattle.call_plan.specs.Laws.{IsDetermined}
use Rattle.counter_tree.specs.Layout.{tree_lines}
use Rattle.asit_shadow.specs.State.{TreeState}
use Rattle.asit_shadow.specs.Recovering.{Rest}
use Rattle.asit_shadow.specs.Formatting.{HasTreeFormatted}
use Rattle.asit_shadow.specs.Plans.{TreeChip, read_plan}
use Rattle.asit_shadow.specs.WritePlans.{write_plan}
use Rattle.asit_shadow.specs.RecoverPlans.{RecoverParts, tree_recover_plan}

abbrev pub TreeReadIsDetermined : Type 0
TreeReadIsDetermined = (setup : Setup) (a : ℕ) (chip : TreeChip) (old : BoardMemory) → IsDetermined old (read_plan setup a chip)

abbrev pub TreeWriteIsDetermined : Type 0
TreeWriteIsDetermined =
    (setup : Setup) (a : ℕ) (line : Line) (chip : TreeChip) (old : BoardMemory)
    → IsDetermined old (write_plan setup old.regs a line chip)

-- two formats of one device and watch, which has power and tells its lines, leave the same engine, watch and device
abbrev pub TreeFormatIsDetermined : Type 0
TreeFormatIsDetermined =
    (setup : Setup) (lines : List Line) (old a b : Rest) (engine last : TreeState) → old.device.lines ≡ Some lines
    → old.device.live ≡ true → length old.watch.seals ≡ tree_lines setup.shape → HasTreeFormatted setup old a engine
    → HasTreeFormatted setup old b last → (engine ≡ last) × (a ≡ b)

-- of recoveries that had their memory
abbrev pub TreeRecoverIsDetermined : Type 0
TreeRecoverIsDetermined =
    (setup : Setup) (at : RecoverParts) (old : BoardMemory) → IsDetermined old (tree_recover_plan setup old.regs at)
