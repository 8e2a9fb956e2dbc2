-- The opening keeps sound lines.
use Rattle.txn_session.proofs.KeptStores.{opening_keeps}
use Rattle.txn_session.proofs.calls.OpenStoreStoreOpening.open.Goals as goal

pub returns-clause-kept : goal.returns-clause-kept
returns-clause-kept g c = opening_keeps _ c.args.engine _ _ _ c.open.ensures.opened
