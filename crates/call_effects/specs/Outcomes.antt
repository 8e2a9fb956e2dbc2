-- How a call of an engine ends, and what each end leaves of the power.
use Rattle.std.specs.Prelude.{◌≡◌, Bool, true, false}
use Rattle.pmem_base.specs.Counts.{HasRisen}
use Rattle.board.specs.Device.{Device}

-- the engine goes on, or a cut or an exhibit ended it
pub data Outcome : Type 0 where
  going : Outcome
  cut_short : Outcome
  shown : Outcome

abbrev pub is_going : Outcome → Bool
is_going going = true
is_going cut_short = false
is_going shown = false

-- the board has no power after a cut, which comes only of a board that isn't steady; else it stays
-- as steady and as live as it was
abbrev pub HasPower : Outcome → Device → Device → Type 0
HasPower cut_short old new = (old.steady ≡ false) × (new.live ≡ false) × HasRisen old.cuts new.cuts
HasPower outcome old new =
    (old.steady ≡ true → new.steady ≡ true) × (old.live ≡ true → new.live ≡ true) × (new.cuts ≡ old.cuts)
