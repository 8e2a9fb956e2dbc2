-- How many nodes come in and give way.
use Rattle.asit_shadow.proofs.LevelWork.{spilled-few, absent-few, absent-none}
use Rattle.asit_shadow.proofs.laws.fetches_are_few.Goals as goal

pub returns : goal.returns
returns c = record { spilled = spilled-few; absent = absent-few; cached = absent-none }
