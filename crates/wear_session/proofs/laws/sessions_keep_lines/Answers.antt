-- The laws of sessions.
use Rattle.std.proofs.Common.{rules}
use Rattle.wear_session.proofs.Common.{shape_of}
use Rattle.wear_session.proofs.Sessions.{wear_kept_always, wear_spent_always}
use Rattle.wear_session.proofs.laws.sessions_keep_lines.Goals as goal

pub returns : goal.returns
returns g c = search (rules, wear_kept_always, shape_of, wear_spent_always)
