-- Where the lines of a start-gap memory lie: n lines in n + 1 places, one of which is the gap.
use Rattle.std.specs.Prelude.{ℕ, ◌≤◌, ◌<◌, ◌+◌, ◌-◌, ◌%◌, ◌==◌, nat_lt, if◌then◌else◌}
use Rattle.start_gap.specs.declared.wear.Wear.{Wear}

-- the start is a line, and the gap a place
pub record IsWear (n : ℕ) (wear : Wear) : Type 0 where
  pub start : wear.start < n
  pub gap : wear.gap ≤ n

-- one further from the gap on
abbrev pub past_gap : ℕ → ℕ → ℕ
past_gap gap at = if nat_lt at gap then at else at + 1

-- the place of a line
abbrev pub place_of : ℕ → Wear → ℕ → ℕ
place_of n wear line = past_gap wear.gap ((line + wear.start) % n)

-- the wear after a move: the gap goes down by one place, and from place 0 to place n
abbrev pub next_wear : ℕ → Wear → Wear
next_wear n wear =
    if wear.gap == 0 then record { start = (wear.start + 1) % n; gap = n }
    else record { start = wear.start; gap = wear.gap - 1 }

-- the place that the next move copies into the gap
abbrev pub source_of : ℕ → Wear → ℕ
source_of n wear = if wear.gap == 0 then n else wear.gap - 1

-- nothing is turned, and the last place is the gap
abbrev pub first_wear : ℕ → Wear
first_wear n = record { start = 0; gap = n }
