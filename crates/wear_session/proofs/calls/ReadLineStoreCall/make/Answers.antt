-- A read keeps sound lines.
use Rattle.line_session.proofs.KeptLines.{read_keeps}
use Rattle.wear_session.proofs.calls.ReadLineStoreCall.make.Goals as goal

pub returns-clause-kept : goal.returns-clause-kept
returns-clause-kept g c = λ up live sound. read_keeps _ _ _ _ c.args.store.now.gapped.engine _ _ (c.read.ensures.read.did up).was_read c.read.ensures.read.after up live sound
