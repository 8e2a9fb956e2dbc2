use Rattle.commit_regs.proofs.GroupPlans.{one_act}
use Rattle.commit_regs.proofs.groups_are_one_act.Goals as goal

pub returns : goal.returns
returns g c = λ armed before after old new end it. one_act _ armed before after old new end it
