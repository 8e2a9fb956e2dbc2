use Rattle.tree_session.proofs.DeterminedReplies.{replies_are_determined, begins_are_determined, logs_are_determined}
use Rattle.tree_session.proofs.laws.tree_replies_are_determined.Goals as goal

pub returns : goal.returns
returns c = record { replies = replies_are_determined; begins = begins_are_determined; logs = logs_are_determined }
