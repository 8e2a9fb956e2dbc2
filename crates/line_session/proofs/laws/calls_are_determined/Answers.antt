use Rattle.line_session.proofs.Outcomes.{call_determined}
use Rattle.line_session.proofs.laws.calls_are_determined.Goals as goal

pub returns : goal.returns
returns g c = λ plan steps more end other old a b it its. call_determined plan steps more end other old a b it its
