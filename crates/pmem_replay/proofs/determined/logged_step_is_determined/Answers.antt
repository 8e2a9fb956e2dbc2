use Rattle.pmem_replay.proofs.SameSteps.LogsAlike.{logged_alike}
use Rattle.pmem_replay.proofs.determined.logged_step_is_determined.Goals as goal

pub returns : goal.returns
returns c = λ setup old a b command reply other accesses others whole it its log its_log.
    logged_alike setup old a b command reply other accesses others whole it its log its_log
