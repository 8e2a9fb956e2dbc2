use Rattle.std.proofs.Common.{rules}
use Rattle.txn_session.proofs.Common.{shape_of}
use Rattle.txn_session.proofs.Sessions.{txns_kept_always, txns_spent_always}
use Rattle.txn_session.proofs.laws.sessions_keep_transactions.Goals as goal

pub returns-clause-kept : goal.returns-clause-kept
returns-clause-kept g c = search (rules, txns_kept_always, shape_of)

pub returns-clause-spent : goal.returns-clause-spent
returns-clause-spent g c = search (rules, txns_spent_always, shape_of)
