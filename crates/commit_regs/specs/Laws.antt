-- Laws of commit groups that follow from their plans.
use Rattle.std.specs.Prelude.{ℕ, ◌≡◌, List, length, Ok, Err, ◌⊎◌, Result}
use Rattle.pmem_base.specs.declared.faults.Cut.{Cut}
use Rattle.pmem_base.specs.declared.lines.Line.{Line}
use Rattle.pmem_base.specs.declared.registers.Regs.{Regs}
use Rattle.pmem_base.specs.Counts.{risen, risen_times}
use Rattle.pmem_base.specs.Registers.{without_group}
use Rattle.board.specs.Device.{Device}
use Rattle.board.specs.Steps.{WasCut}
use Rattle.call_plan.specs.Bounds.{IsFront}
use Rattle.call_plan.specs.Following.{Follows}
use Rattle.commit_regs.specs.Groups.{redone_told}
use Rattle.commit_regs.specs.Plans.{finish_plan, group_plan}

-- the first lines of a group were written, in order, and none of the others; the registers stay
pub record IsWrittenTo (group : List (ℕ × Line)) (old new : Device) : Type 0 where
  pub front : List (ℕ × Line)
  pub its_front : IsFront front group
  pub lines : new.lines ≡ redone_told front old.lines
  pub regs : new.regs ≡ old.regs

-- a cut during a group leaves a prefix of its lines written, and the group armed
abbrev pub CutGroupsAreFronts : Type 0
CutGroupsAreFronts =
    (armed : Regs) (old new : Device) (cut : Cut) → Follows (finish_plan armed) old new (Err cut)
    → IsWrittenTo armed.group.items old new

-- a finished group has all its lines written and is empty
abbrev pub DoneGroupsAreWritten : Type 0
DoneGroupsAreWritten =
    (armed : Regs) (old new : Device) → Follows (finish_plan armed) old new (Ok tt)
    → (new.lines ≡ redone_told armed.group.items old.lines) × (new.regs ≡ without_group armed)

-- it takes a line write for each line, one latch and no read
abbrev pub GroupStepsAreCounted : Type 0
GroupStepsAreCounted =
    (armed : Regs) (old new : Device) → Follows (finish_plan armed) old new (Ok tt)
    → (new.reads ≡ old.reads) × (new.writes ≡ risen_times (length armed.group.items) old.writes)
    × (new.latches ≡ risen old.latches)

-- ---- an engine's act: what a group leaves of the board and of the state next to it is nothing, or all of it

-- the group was armed, written and emptied: a line write for each line, and two latches
pub record IsGroupDone {S : Type 0} (armed : Regs) (after : S) (old new : Device) (end : S × Regs) : Type 0 where
  pub state : end.0 ≡ after
  pub its_regs : end.1 ≡ new.regs
  pub regs : new.regs ≡ without_group armed
  pub lines : new.lines ≡ redone_told armed.group.items old.lines
  pub reads : new.reads ≡ old.reads
  pub writes : new.writes ≡ risen_times (length armed.group.items) old.writes
  pub latches : new.latches ≡ risen (risen old.latches)

-- power was cut before the group was armed, and nothing was done
pub record IsGroupUndone {S : Type 0} (before : S) (old new : Device) (left : S × Cut) : Type 0 where
  pub state : left.0 ≡ before
  pub cut : WasCut old new

-- power was cut while it was armed: the first of its lines are written, in order, and none of the others
pub record IsGroupLeftArmed {S : Type 0} (armed : Regs) (after : S) (old new : Device) (left : S × Cut) : Type 0 where
  pub state : left.0 ≡ after
  pub regs : new.regs ≡ armed
  pub front : List (ℕ × Line)
  pub its_front : IsFront front armed.group.items
  pub lines : new.lines ≡ redone_told front old.lines

abbrev pub IsOneAct : {S : Type 0} → Regs → S → S → Device → Device → Result (S × Regs) (S × Cut) → Type 0
IsOneAct armed before after old new (Ok end) = IsGroupDone armed after old new end
IsOneAct armed before after old new (Err left) = IsGroupUndone before old new left ⊎ IsGroupLeftArmed armed after old new left

abbrev pub GroupsAreOneAct : Type 0 → Type 0
GroupsAreOneAct S =
    (armed : Regs) (before after : S) (old new : Device) (end : Result (S × Regs) (S × Cut))
    → Follows (group_plan armed before after) old new end → IsOneAct armed before after old new end
