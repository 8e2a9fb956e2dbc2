-- The law of answers.
use Rattle.std.proofs.Common.{rules}
use Rattle.wear_session.proofs.Common.{shape_of}
use Rattle.wear_session.proofs.DeterminedReplies.{replies_are_determined, begins_are_determined, logs_are_determined}
use Rattle.wear_session.proofs.laws.wear_replies_are_determined.Goals as goal

pub returns : goal.returns
returns g c = search (rules, replies_are_determined, begins_are_determined, shape_of, logs_are_determined)
