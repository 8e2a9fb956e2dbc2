-- Parts of a call that change no line, no register, no cached block and no note.
use Rattle.std.specs.Prelude.{◌≡◌, ◌≤◌, true}
use Rattle.pmem_engine.specs.Parts.{Parts}
use Rattle.pmem_engine.specs.Outcomes.{NeverFalls}

-- lines were read and counted, no more
pub record HasOnlyRead (old new : Parts) : Type 0 where
  pub engine : new.engine ≡ old.engine
  pub ledger : new.ledger ≡ old.ledger
  pub size : new.device.size ≡ old.device.size
  pub lines : new.device.lines ≡ old.device.lines
  pub regs : new.device.regs ≡ old.device.regs
  pub writes : new.device.writes ≡ old.device.writes
  pub latches : new.device.latches ≡ old.device.latches
  pub cuts : new.device.cuts ≡ old.device.cuts
  pub steady : old.device.steady ≡ true → new.device.steady ≡ true
  pub live : old.device.live ≡ true → new.device.live ≡ true
  pub reads : old.device.reads ≤ new.device.reads
  pub tags : NeverFalls old.tags new.tags
  pub digests : NeverFalls old.digests new.digests
