-- What `stat` tells of the persist steps of a run.
use Rattle.std.specs.Prelude.{◌≡◌, ◌+◌, ⊤, List, [], ◌∷◌}
use Rattle.pmem_base.specs.declared.answers.Answer.{Answer}
use Rattle.pmem_base.specs.declared.answers.Answer.TheVariants as Say
use Rattle.suite.specs.Setup.{Setup}
use Rattle.plain_model.specs.State.{PlainState}
use Rattle.plain_model.specs.Run.{Machine, Step, machine_after}

-- line writes and latches are all persist steps so far
abbrev pub IsStepSum : PlainState → Answer → Type 0
IsStepSum state (Say.Counts counts) = counts.writes + counts.latches ≡ state.steps
IsStepSum state answer = ⊤

-- so it is at each of these commands
abbrev pub AreStepSums : Setup → Machine → List Step → Type 0
AreStepSums setup machine [] = ⊤
AreStepSums setup machine (step ∷ steps) = IsStepSum machine.state step.reply.answer × AreStepSums setup (machine_after setup machine step) steps
