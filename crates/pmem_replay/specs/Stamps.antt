-- Flags as stamps of an epoch.
use Rattle.std.specs.Prelude.{ℕ, ◌≡◌, ◌≤◌, ◌<◌, ◌^◌, ◌==◌, Bool, List, length, map, count_by, All}

-- a flag is set if its stamp is the epoch
abbrev pub is_now : ℕ → ℕ → Bool
is_now epoch stamp = stamp == epoch

abbrev pub flags_of : List ℕ → ℕ → List Bool
flags_of stamps epoch = map (is_now epoch) stamps

-- there are fewer than 2^32 flags, no stamp is of a later epoch, the epochs begin at 1, and the flags that are set are counted
pub record IsStamped (stamps : List ℕ) (epoch count : ℕ) : Type 0 where
  pub few : length stamps < 2 ^ 32
  pub begun : 1 ≤ epoch
  pub each : All (λ stamp. stamp ≤ epoch) stamps
  pub counted : count ≡ count_by (is_now epoch) stamps
