-- What line writes leave of a device that is steady.
use Rattle.std.specs.Prelude.{ℕ, ◌≡◌, true, is_some}
use Rattle.board.specs.Counts.{RisesBy}
use Rattle.board.specs.Device.{Device}

-- that many lines are written; a steady device stays steady, with its registers
pub record StaysSteady (n : ℕ) (old new : Device) : Type 0 where
  pub size : new.size ≡ old.size
  pub regs : new.regs ≡ old.regs
  pub steady : old.steady ≡ true → new.steady ≡ true
  pub live : old.live ≡ true → new.live ≡ true
  pub told : is_some new.lines ≡ is_some old.lines
  pub writes : RisesBy n old.writes new.writes
  pub reads : new.reads ≡ old.reads
  pub latches : new.latches ≡ old.latches
  pub cuts : new.cuts ≡ old.cuts
