use Rattle.pmem_recovery.proofs.PlanRecovers.{plan_recovers}
use Rattle.pmem_recovery.proofs.determined.plans_recover.Goals as goal

pub returns : goal.returns
returns c = λ setup ledger old new suite_old suite_new answer valid size regs whole_old whole_new keys pads it.
    plan_recovers setup ledger old new suite_old suite_new valid size regs whole_old whole_new keys pads answer it
