use Rattle.call_plan.specs.Bounds.{all_spent, any_left}
use Rattle.call_plan.proofs.Spending.{spends, spent_exactly}
use Rattle.call_plan.proofs.laws.steps_are_counted.Goals as goal

pub returns-clause-exact : goal.returns-clause-exact
returns-clause-exact g c = λ plan r w l old new t its it. spent_exactly (spends all_spent r w l its it)

pub returns-clause-bound : goal.returns-clause-bound
returns-clause-bound g c = λ plan r w l old new end its it. spends any_left r w l its it
