-- The geometry of a device, as contracts see a `Geo`.
use Rattle.std.specs.Prelude.{ℕ, ◌≤◌, ◌<◌, ◌^◌, ◌+◌, ◌-◌, Bool, ◌==◌, ◌||◌, nat_lt, IsTrue, if◌then◌else◌}

-- k levels of tree nodes, the cache's sets and ways, the stop-loss number, the first major, the persistence policy, and
-- the kind of the write queues
pub record Shape : Type 0 where
  pub levels : ℕ
  pub sets : ℕ
  pub ways : ℕ
  pub loss : ℕ
  pub major : ℕ
  -- how many of the lowest lines of a path stand in the group of each write
  pub persist : ℕ
  -- whether the device has shadow tables
  pub shadow : Bool
  -- whether the write queues outlive power, and whether a posted line takes the place of one that waits
  pub durable : Bool
  pub combines : Bool

-- the numbers that a stop-loss window may have
abbrev pub is_loss : ℕ → Bool
is_loss n = n == 1 || n == 2 || n == 4 || n == 8 || n == 16

-- ---- the persistence policy

-- The levels from the top down whose blocks are written back lazily. The blocks of the others, the strict levels, are
-- written within the group of each write that changes them.
abbrev pub lazy_levels : Shape → ℕ
lazy_levels g = g.levels + 1 - g.persist

abbrev pub is_lazy : Shape → ℕ → Bool
is_lazy g level = nat_lt level (lazy_levels g)

-- the levels from the top down whose blocks are named in the shadow tables before they get dirty
abbrev pub named_levels : Shape → ℕ
named_levels g = if g.shadow then lazy_levels g else 0

-- How far a minor of a counter block on the device may be behind the true one: within a window of the stop-loss number,
-- and not at all if counter blocks are strict.
abbrev pub counter_window : Shape → ℕ → ℕ
counter_window g loss = if g.persist == 0 then loss else 1

-- ---- the ranges

-- 1 to 6 levels of tree nodes above the counter blocks
abbrev pub HasLevels : ℕ → Type 0
HasLevels n = (1 ≤ n) × (n ≤ 6)

-- 1 to 64 sets in a bank
abbrev pub HasSets : ℕ → Type 0
HasSets n = (1 ≤ n) × (n ≤ 64)

-- 1 to 8 ways in a set
abbrev pub HasWays : ℕ → Type 0
HasWays n = (1 ≤ n) × (n ≤ 8)

-- the ranges of a geometry
pub record IsShape (g : Shape) : Type 0 where
  pub at_least_one_level : 1 ≤ g.levels
  pub at_most_six_levels : g.levels ≤ 6
  pub at_least_one_set : 1 ≤ g.sets
  pub at_most_64_sets : g.sets ≤ 64
  pub at_least_one_way : 1 ≤ g.ways
  pub at_most_eight_ways : g.ways ≤ 8
  pub known_loss : IsTrue (is_loss g.loss)
  pub major_in_range : g.major < 2 ^ 64
  pub persists_path : g.persist ≤ g.levels + 1
