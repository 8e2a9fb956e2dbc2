-- How a count rises that stands still at its end.
use Rattle.std.specs.Prelude.{ℕ, ◌≡◌, ◌<◌, ◌≤◌, ◌+◌}
use Rattle.pmem_base.specs.Counts.{last_count, risen}

-- the count rose by n, which is exact while it is below its end afterwards
pub record RisesBy (n before after : ℕ) : Type 0 where
  pub never_falls : before ≤ after
  pub exact : after < last_count → after ≡ before + n

-- the count rose by one, or stands still at its end
pub record RisesOnce (before after : ℕ) : Type 0 where
  pub never_falls : before ≤ after
  pub is_risen : after ≡ risen before
