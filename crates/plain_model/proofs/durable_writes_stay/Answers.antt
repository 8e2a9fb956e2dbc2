use Rattle.plain_model.proofs.WaitingLaws.{writes_stay}
use Rattle.plain_model.proofs.durable_writes_stay.Goals as goal

pub returns : goal.returns
returns c =
    λ g state command reply port place write durable waits. writes_stay g state command reply port place write durable waits
