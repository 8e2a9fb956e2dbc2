-- A command is answered.
use Rattle.pmem_replay.proofs.Steps.FewSteps.{adds_few}
use Rattle.pmem_replay.proofs.world.World.step_logged.Goals as goal

pub returns-clause-few : goal.returns-clause-few
returns-clause-few g c = adds_few _ _ _ _ _ c.holds.ensures c.in_ok-answer.ensures.stepped
