-- One element that passes a test, if no other does.
use Rattle.std.specs.Prelude.{ℕ, ◌≡◌, ◌+◌, ◌<◌, Bool, true, false, List, length, take, drop, slice_index_or, All}

-- element i passes and no other does
pub record IsAlone {X : Type 0} (p : X → Bool) (xs : List X) (i : ℕ) (d : X) : Type 0 where
  pub within : i < length xs
  pub passes : p (slice_index_or xs i d) ≡ true
  pub before : All (λ x. p x ≡ false) (take i xs)
  pub behind : All (λ x. p x ≡ false) (drop (i + 1) xs)
