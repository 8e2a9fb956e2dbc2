-- The plan of a line that is written if it is another one.
use Rattle.std.proofs.Common.{ℕ, ◌≡◌, Bool, true, false, Result, Ok, sym, subst}
use Rattle.std.specs.Prelude.{OnOk, OnErr, if◌then◌else◌}
use Rattle.pmem_base.specs.declared.faults.Cut.{Cut}
use Rattle.pmem_base.specs.declared.lines.Line.{Line}
use Rattle.board.specs.Device.{Device}
use Rattle.board.specs.Steps.{HasWritten, WasCut}
use Rattle.call_plan.specs.Plans.{Plan, done, write, the_cut}
use Rattle.call_plan.specs.Following.{Follows}
use Rattle.call_plan.proofs.Steps.{is_done, last_write}
use Rattle.pmem_recovery.specs.Plans.{changed_plan}

module _ (at : ℕ) (line : Line) (changed : Bool) where
  abbrev plan_by : Bool → Plan Cut (Unit {0})
  plan_by other = if other then write the_cut at line (done tt) else done tt

  pub changed_written : (old new : Device) (answer : Result (Unit {0}) Cut) → changed ≡ true → OnOk answer (HasWritten old at line new)
      → OnErr answer (WasCut old new) → Follows (changed_plan at line changed) old new answer
  unfolding changed_plan
  changed_written old new answer other ok cut =
      subst (λ b. Follows (plan_by b) old new answer) (sym other) (last_write at line old new answer ok cut)

  pub unchanged : (d : Device) → changed ≡ false → Follows (changed_plan at line changed) d d (Ok tt)
  unfolding changed_plan
  unchanged d same = subst (λ b. Follows (plan_by b) d d (Ok tt)) (sym same) (is_done tt d)

-- the same place, line and test
pub changed_as : {at other : ℕ} {line next : Line} {changed same : Bool} {old new : Device} {end : Result (Unit {0}) Cut} → at ≡ other → line ≡ next
    → changed ≡ same → Follows (changed_plan at line changed) old new end → Follows (changed_plan other next same) old new end
changed_as {at = at} {other = other} {line = line} {next = next} {changed = changed} {old = old} {new = new} {end = end} place bytes test it =
    subst (λ b. Follows (changed_plan other next b) old new end) test
    (subst (λ l. Follows (changed_plan other l changed) old new end) bytes (subst (λ n. Follows (changed_plan n line changed) old new end) place it))
