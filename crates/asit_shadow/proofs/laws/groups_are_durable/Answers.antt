-- The armed group.
use Rattle.asit_shadow.proofs.GroupLaws.{IsDurable-group_line, IsDurable-again, IsDurable-finished}
use Rattle.asit_shadow.proofs.laws.groups_are_durable.Goals as goal

pub returns : goal.returns
returns c = record { lines = IsDurable-group_line; interrupted = IsDurable-again; finished = IsDurable-finished }
