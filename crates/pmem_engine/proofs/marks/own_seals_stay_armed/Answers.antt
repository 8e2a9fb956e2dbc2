use Rattle.pmem_engine.proofs.PlannedCalls.OwnSeals.{own_armed}
use Rattle.pmem_engine.proofs.marks.own_seals_stay_armed.Goals as goal

pub returns : goal.returns
returns c = own_armed
