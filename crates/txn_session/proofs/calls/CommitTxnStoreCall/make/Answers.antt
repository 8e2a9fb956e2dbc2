-- A commit keeps sound lines.
use Rattle.txn_session.proofs.KeptStores.{commit_keeps}
use Rattle.txn_session.proofs.calls.CommitTxnStoreCall.make.Goals as goal

pub returns-clause-kept : goal.returns-clause-kept
returns-clause-kept g c =
    λ up live sound.
    commit_keeps _ c.args.store.now.inner _ _ _ sound live c.args.store.now.inner.its_lines up _ _ c.requires.can.0 c.commit.ensures.whole
    (c.commit.ensures.committed.did up).committed c.commit.ensures.committed.after
