use Rattle.line_session.proofs.Outcomes.{start_determined}
use Rattle.line_session.proofs.laws.starts_are_determined.Goals as goal

pub returns : goal.returns
returns g c = λ setup opening steps more end other old a b it its. start_determined setup opening steps more end other old a b it its
