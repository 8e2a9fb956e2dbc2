use Rattle.any_session.proofs.ToldAlike.{told_alike}
use Rattle.any_session.proofs.laws.told_is_determined.Goals as goal

pub returns : goal.returns
returns c = told_alike
