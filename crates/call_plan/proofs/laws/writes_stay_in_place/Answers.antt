use Rattle.std.specs.Prelude.{Contains}
use Rattle.call_plan.proofs.Keeping.{writes_within_keep}
use Rattle.call_plan.proofs.laws.writes_stay_in_place.Goals as goal

pub returns : goal.returns
returns g c = λ plan places old new end only it at apart. writes_within_keep (λ at. Contains places at) only it at apart
