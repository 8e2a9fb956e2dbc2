-- The armed group: a line of it is written, all of it is, and it is emptied. Durable stays.
use Rattle.std.proofs.Common.{ℕ, ◌≡◌, List, rules}
use Rattle.asit_shadow.proofs.Common.{slice_set, Line, Regs, IsLine, Setup, AreLinesOf, AreLinesOf-set, redone, Writes, redone-set, AreLinesOf-redone, tree_size, WatchState, IsTreeDurable, IsTreeEmptied}
use Rattle.asit_shadow.proofs.ArmLaws.{IsAnchored-emptied}

-- lines that the group makes the same of
pub IsDurable-again : (setup : Setup) (old new : List Line) (regs : Regs) (watch : WatchState) → AreLinesOf (tree_size setup.shape) new → redone regs.group.items new ≡ redone regs.group.items old → IsTreeDurable setup old regs watch → IsTreeDurable setup new regs watch
IsDurable-again setup old new regs watch whole again durable = search rules

-- whatever is written at a place of the armed group
pub IsDurable-group_line : (setup : Setup) (lines : List Line) (regs : Regs) (watch : WatchState) (at : ℕ) (line : Line) → Writes at regs.group.items → IsLine line → IsTreeDurable setup lines regs watch → IsTreeDurable setup (slice_set lines at line) regs watch
IsDurable-group_line setup lines regs watch at line writes good durable = search (rules, IsDurable-again, AreLinesOf-set, redone-set)

-- the group written whole and emptied, as recovery's redo does
pub IsDurable-finished : (setup : Setup) (lines : List Line) (old new : Regs) (watch : WatchState) → IsTreeEmptied old new → IsTreeDurable setup lines old watch → IsTreeDurable setup (redone old.group.items lines) new watch
IsDurable-finished setup lines old new watch emptied durable = search (rules, AreLinesOf-redone, IsAnchored-emptied)
