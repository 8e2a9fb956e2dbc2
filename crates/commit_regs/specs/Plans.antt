-- What the calls of a commit group do, as plans.
use Rattle.std.specs.Prelude.{ℕ, List, Result, Ok, Err, [], ◌∷◌}
use Rattle.pmem_base.specs.declared.faults.Cut.{Cut}
use Rattle.pmem_base.specs.declared.lines.Line.{Line}
use Rattle.pmem_base.specs.declared.registers.Regs.{Regs}
use Rattle.pmem_base.specs.Registers.{without_group}
use Rattle.call_plan.specs.Plans.{Plan, done, write, latch, bind, for_each, the_cut, mapped}

-- the registers are latched, with their group
abbrev pub arm_plan : Regs → Plan Cut (Unit {0})
arm_plan next = latch the_cut next (done tt)

-- one line is written to its place
abbrev pub line_plan : ℕ × Line → Unit {0} → Plan Cut (Unit {0})
line_plan entry before = write the_cut entry.0 entry.1 (done tt)

-- the lines of a group, in order
abbrev pub lines_plan : List (ℕ × Line) → Plan Cut (Unit {0})
lines_plan group = for_each line_plan group tt

-- an armed group is written, and emptied by one latch
abbrev pub finish_plan : Regs → Plan Cut (Unit {0})
finish_plan armed = bind (lines_plan armed.group.items) (λ written. latch the_cut (without_group armed) (done tt))

-- ---- an engine's use of them

-- the end of a part after which others need the registers: if it is done, with those that it leaves
abbrev pub ended_with : {S F : Type 0} → Result (Unit {0}) F → S → Regs → Result (S × Regs) (S × F)
ended_with (Ok value) state regs = Ok (state, regs)
ended_with (Err fault) state regs = Err (state, fault)

-- The registers are latched with their group, from then on the state is the next one, and the group is
-- finished. It ends with the registers that are left.
unfoldable pub group_plan : {S : Type 0} → Regs → S → S → Plan (S × Cut) (S × Regs)
group_plan armed before after =
    latch (before, the_cut) armed
    (mapped (λ cut. (after, cut)) (λ finished. (after, without_group armed)) (finish_plan armed))

-- the armed group's lines are written, and the group is emptied, if there is one
unfoldable pub redo_of : Regs → List (ℕ × Line) → Plan Cut (Unit {0})
redo_of regs [] = done tt
redo_of regs (entry ∷ others) = finish_plan regs

-- the same of the group that registers have
abbrev pub redo_plan : Regs → Plan Cut (Unit {0})
redo_plan regs = redo_of regs regs.group.items
