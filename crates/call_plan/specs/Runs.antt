-- Runs of one plan over a board that tells its lines: the fuse that they burn, calls on a watched board, and calls
-- one after another.
use Rattle.std.specs.Prelude.{ℕ, ◌≡◌, ◌≤◌, ◌<◌, ◌+◌, ◌⊎◌, true, false, List, [], ◌∷◌, Option, Some, None, IfSome, Result, Ok, Err}
use Rattle.pmem_base.specs.Counts.{last_count}
use Rattle.board.specs.Device.{Device}
use Rattle.board.specs.Memory.{BoardMemory}
use Rattle.watched_board.specs.declared.taken.Taken.{Taken}
use Rattle.watched_board.specs.Watching.{FollowsOn, device_during, none_taken, steps_in, step_limit}
use Rattle.call_plan.specs.Plans.{Plan, ended}
use Rattle.call_plan.specs.Following.{Follows}

-- the counts of persist steps stand below their end
pub record AreBelowEnd (device : Device) : Type 0 where
  pub writes : device.writes < last_count
  pub latches : device.latches < last_count

-- What becomes of a fuse in a run: one that isn't cut takes no more steps than the fuse has, and one that is
-- cut as many.
pub record BurnsFuse (fuse : Option ℕ) (old new : Device) : Type 0 where
  pub lasting : new.live ≡ true → IfSome fuse (λ n. new.writes + new.latches ≤ old.writes + old.latches + n)
  pub spent : new.live ≡ false → (n : ℕ) × (fuse ≡ Some n) × (new.writes + new.latches ≡ old.writes + old.latches + n)

-- a call on a board in memory that is watched, which a cut ends before the limit of steps
pub record IsRunOn (old new : BoardMemory) (taken : Taken) : Type 0 where
  pub follows : FollowsOn old new taken
  pub within : new.powered ≡ false → steps_in taken < step_limit

-- an outcome of such a call: its run, its answer, and the state next to the board
pub record IsOutcome {S A F : Type 0} (plan : Plan (S × F) (S × A)) (old new : BoardMemory) (taken : Taken) (answer : Result A F) (after : S) : Type 0 where
  pub run : IsRunOn old new taken
  pub follows : Follows plan (device_during old none_taken) (device_during new taken) (ended answer after)

-- ---- calls one after another

-- a call ends them by a fault
pub record EndsHere {S A F : Type 0} (plan : Plan (S × F) (S × A)) (old new : BoardMemory) (after : S) (end : Option F) : Type 0 where
  pub fault : F
  pub taken : Taken
  pub ends : end ≡ Some fault
  pub outcome : IsOutcome plan old new taken (Err fault) after

-- a call is done with power on, and the others go on from the board and the state that it left
pub record GoesOn {S A F : Type 0} (plan : Plan (S × F) (S × A)) (old : BoardMemory) (later : BoardMemory → S → Type 0) : Type 0 where
  pub value : A
  pub mid : BoardMemory
  pub between : S
  pub taken : Taken
  pub powered : mid.powered ≡ true
  pub outcome : IsOutcome plan old mid taken (Ok value) between
  pub rest : later mid between

-- a call for each item, up to the first that ends them by a fault
unfoldable pub IsChain :
    {X S A F : Type 0} → (X → S → Plan (S × F) (S × A)) → List X → BoardMemory → S → BoardMemory → S → Option F → Type 0
IsChain plan [] old state new after end = (new ≡ old) × (after ≡ state) × (end ≡ None)
IsChain plan (x ∷ later) old state new after end =
    EndsHere (plan x state) old new after end
    ⊎ GoesOn (plan x state) old (λ mid between. IsChain plan later mid between new after end)
