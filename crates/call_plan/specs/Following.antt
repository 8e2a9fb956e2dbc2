-- What it is that a board follows a plan.
use Rattle.std.specs.Prelude.{ℕ, ◌≡◌, ◌⊎◌, false, Result, Ok, Err}
use Rattle.pmem_base.specs.declared.lines.Line.{Line}
use Rattle.pmem_base.specs.Lines.{IsLine}
use Rattle.board.specs.Device.{Device}
use Rattle.board.specs.Steps.{HasRead, HasWritten, HasLatched, WasCut}
use Rattle.call_plan.specs.Plans.{Plan, done, stop, read, write, latch}

-- a whole line was read, and what followed
pub record ReadStep (old : Device) (at : ℕ) (later : Line → Device → Type 0) : Type 0 where
  pub line : Line
  pub whole : IsLine line
  pub mid : Device
  pub step : HasRead old at line mid
  pub rest : later line mid

-- one step was done, and what followed
pub record Step (does : Device → Type 0) (later : Device → Type 0) : Type 0 where
  pub mid : Device
  pub step : does mid
  pub rest : later mid

-- the plan ends by a cut before a step
pub record IsCutHere {E T : Type 0} (left : E) (old new : Device) (end : Result T E) : Type 0 where
  pub ends : end ≡ Err left
  pub cut : WasCut old new

-- the steps of a plan in order, up to its end or to a cut before one of them; a read is cut with power off alone
unfoldable pub Took : {E T : Type 0} → Plan E T → Device → Device → Result T E → Type 0
Took (done t) old new end = (end ≡ Ok t) × (new ≡ old)
Took (stop left) old new end = (end ≡ Err left) × (new ≡ old)
Took (read left at later) old new end =
    ReadStep old at (λ line mid. Took (later line) mid new end) ⊎ (IsCutHere left old new end × (old.live ≡ false))
Took (write left at line later) old new end =
    Step (λ mid. HasWritten old at line mid) (λ mid. Took later mid new end) ⊎ IsCutHere left old new end
Took (latch left regs later) old new end =
    Step (λ mid. HasLatched old regs mid) (λ mid. Took later mid new end) ⊎ IsCutHere left old new end

-- the board went along the plan to this end
pub record Follows {E T : Type 0} (plan : Plan E T) (old new : Device) (end : Result T E) : Type 0 where
  pub took : Took plan old new end
