use Rattle.line_session.proofs.NewDetermined.{new_determined}
use Rattle.line_session.proofs.laws.new_sessions_are_determined.Goals as goal

pub returns : goal.returns
returns g c = λ setup opening tags digests a b new other it its keys. new_determined setup opening tags digests a b new other it its keys
