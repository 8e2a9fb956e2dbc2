use Rattle.pmem_replay.proofs.SameSteps.NewWorldsAlike.{new_worlds_alike}
use Rattle.pmem_replay.proofs.determined.new_world_is_determined.Goals as goal

pub returns : goal.returns
returns c = λ setup a b it its keys tags digests. record { keys = keys; alike = new_worlds_alike setup a b it its tags digests }
