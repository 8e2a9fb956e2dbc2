-- The opening keeps sound lines.
use Rattle.wear_session.proofs.KeptLevels.{opening_keeps}
use Rattle.wear_session.proofs.calls.OpenLinesStoreOpening.open.Goals as goal

pub returns-clause-kept : goal.returns-clause-kept
returns-clause-kept g c = opening_keeps _ _ c.args.engine _ _ _ c.open.ensures.opened
