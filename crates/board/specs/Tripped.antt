-- What contracts see of a board that trips after that many calls, and when it answers a cut.
use Rattle.std.specs.Prelude.{ℕ, ◌≡◌, ◌⊎◌}
use Rattle.board.specs.declared.tripped.Tripped.{Tripped}
use Rattle.board.specs.Device.{Device}
use Rattle.board.specs.Steps.{WasCut}

-- the board that it passes calls to
abbrev pub inner_of : {B : Type 0} → Tripped B → B
inner_of board = board.inner

-- how many more calls it passes
abbrev pub left_of : {B : Type 0} → Tripped B → ℕ
left_of board = board.left

-- how many calls it has answered by a cut
abbrev pub cuts_of : {B : Type 0} → Tripped B → ℕ
cuts_of board = board.cuts

-- a cut is due: no call is passed any more, or the inner board was cut in this call
abbrev pub IsDue : ℕ → Device → Device → Type 0
IsDue left old new = (left ≡ 0) ⊎ WasCut old new
