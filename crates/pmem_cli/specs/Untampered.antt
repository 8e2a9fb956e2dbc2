-- What a run says if nothing was tampered with: no reply is a refusal, and an exhibit is a twin.
use Rattle.std.specs.Prelude.{◌≡◌, ⊤, false, List, All}
use Rattle.pmem_base.specs.declared.answers.Answer.{Answer}
use Rattle.pmem_base.specs.declared.answers.Answer.TheVariants as Say
use Rattle.pmem_base.specs.declared.answers.Exhibit.{Exhibit}
use Rattle.pmem_base.specs.declared.answers.Exhibit.TheVariants.{Twin}
use Rattle.suite.specs.Setup.{Setup}
use Rattle.plain_model.specs.State.{has_flags}
use Rattle.plain_model.specs.Run.{Step, start, machine_after_all}

abbrev pub IsTwinShown : Exhibit → Type 0
IsTwinShown (Twin at major low high cipher tag) = ⊤
IsTwinShown exhibit = ⊥

abbrev pub IsUnrefusedAnswer : Answer → Type 0
IsUnrefusedAnswer (Say.Refused drained place steps) = ⊥
IsUnrefusedAnswer (Say.NoCounter at steps) = ⊥
IsUnrefusedAnswer (Say.WrongRoot kept found steps) = ⊥
IsUnrefusedAnswer (Say.Shown exhibit) = IsTwinShown exhibit
IsUnrefusedAnswer answer = ⊤

-- if no device line is named after these steps, each of them is so
abbrev pub IsUntampered : Setup → List Step → Type 0
IsUntampered setup steps =
    has_flags (machine_after_all setup (start setup) steps).state.named ≡ false
    → All (λ step. IsUnrefusedAnswer step.reply.answer) steps
