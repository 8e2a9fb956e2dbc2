-- A write keeps sound lines.
use Rattle.wear_session.proofs.WriteEnds.{write_keeps}
use Rattle.wear_session.proofs.calls.WriteLineStoreCall.make.Goals as goal

pub returns-clause-kept : goal.returns-clause-kept
returns-clause-kept g c =
    λ up live sound.
    write_keeps _ _ _ c.args.store.now.gapped _ _ _ sound live c.args.store.now.gapped.its_lines c.requires.asked _ (c.write.ensures.written.did up).was_written
    c.write.ensures.written.after up
