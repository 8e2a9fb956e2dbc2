-- A seal's commit, as its plan has it.
use Rattle.std.proofs.Common.{◌≡◌, Result, Ok, Err}
use Rattle.std.specs.Prelude.{OnOk}
use Rattle.pmem_base.specs.declared.faults.Cut.{Cut}
use Rattle.pmem_base.specs.declared.registers.Regs.{Regs}
use Rattle.pmem_base.specs.Shape.{Shape}
use Rattle.board.specs.Device.{Device}
use Rattle.board.specs.Steps.{HasLatched, WasCut}
use Rattle.call_plan.specs.Plans.{ended, the_cut}
use Rattle.call_plan.specs.Following.{Follows}
use Rattle.call_plan.proofs.Bind.{mapped_follows}
use Rattle.commit_regs.specs.Groups.{HasFinished}
use Rattle.commit_regs.specs.Plans.{finish_plan}
use Rattle.seal_ledger.specs.Ledger.{LedgerState}
use Rattle.pmem_engine.specs.declared.resealing.NextSeal.{NextSeal}
use Rattle.pmem_engine.specs.Committing.{entries_of, HasLineDone}
use Rattle.pmem_engine.specs.Plans.{armed, with_seal, commit_plan}
use Rattle.commit_regs.proofs.GroupPlans.{group_cut, group_end}
use Rattle.pmem_engine.proofs.PlannedCalls.GroupPlans.{same_regs}

-- the registers that a seal arms, by their parts
pub armed_is : (g : Shape) (next : NextSeal) (old new : Regs) → HasLineDone next.at old new → new.group.items ≡ entries_of g next
    → new ≡ armed g next old
armed_is g next old new line group = same_regs new (armed g next old) line.root group line.progress line.loss

module _ (g : Shape) (next : NextSeal) (regs : Regs) (ledger : LedgerState) where
  -- power was cut before the group was armed
  pub commit_cut : {old new : Device} → WasCut old new → Follows (commit_plan g next regs ledger) old new (Err (ledger, the_cut))
  unfolding commit_plan
  commit_cut was = mapped_follows _ _ (group_cut (armed g next regs) ledger (with_seal ledger next) was)

  -- the group was armed, and finished or cut
  pub committed : (now : Regs) (after : LedgerState) {old mid new : Device} (answer : Result (Unit {0}) Cut) → now ≡ armed g next regs
      → after ≡ with_seal ledger next → HasLatched old now mid → OnOk answer (HasFinished mid new) → Follows (finish_plan now) mid new answer
      → Follows (commit_plan g next regs ledger) old new (ended answer after)
  unfolding commit_plan
  committed now after (Ok value) is told was ok it =
      mapped_follows _ _ (group_end (armed g next regs) ledger (with_seal ledger next) now after (Ok value) is told was ok it)
  committed now after (Err cut) is told was ok it =
      mapped_follows _ _ (group_end (armed g next regs) ledger (with_seal ledger next) now after (Err cut) is told was ok it)
