-- The steps and the cuts of a call on a watched board, from what it took.
use Rattle.std.proofs.Common.{ℕ, zero, suc, ◌≡◌, ◌<◌, ◌≤◌, ◌+◌, ◌-◌, false, inl, inr, Option, Some, None, refl, sym, ap, subst, arith}
use Rattle.std.specs.Prelude.{option_map}
use Rattle.std.proofs.lemmas.Bool.{cases_lt}
use Rattle.pmem_base.specs.Counts.{last_count, HasRisen}
use Rattle.board.specs.Memory.{BoardMemory}
use Rattle.watched_board.specs.declared.taken.Taken.{Taken}
use Rattle.watched_board.specs.Watching.{steps_in, step_limit, counted, cuts_after, FollowsOn}

-- within the limit neither count of a call is at its end
pub few_exact : (taken : Taken) → steps_in taken ≤ step_limit → (taken.writes < last_count) × (taken.latches < last_count)
few_exact taken few = (omega (arith, few), omega (arith, few))

-- so a bound of counts below their end, which began at 0, bounds the steps
pub at_most : (taken : Taken) (n : ℕ) → steps_in taken ≤ step_limit
    → (taken.writes < last_count → taken.latches < last_count → steps_in taken ≤ 0 + n) → steps_in taken ≤ n
at_most taken n few bound =
    let exact = few_exact taken few in
    omega (arith, bound exact.0 exact.1)

pub fewer : (taken : Taken) (n : ℕ) → steps_in taken ≤ step_limit
    → (taken.writes < last_count → taken.latches < last_count → steps_in taken < 0 + n) → steps_in taken < n
fewer taken n few bound =
    let exact = few_exact taken few in
    omega (arith, bound exact.0 exact.1)

-- a fuse with nothing burnt
pub unburnt : (fuse : Option ℕ) → option_map (λ n. n - 0) fuse ≡ fuse
unburnt None = refl
unburnt (Some n) = ap (λ (k : ℕ). Some k) (omega arith)

-- a count after some more has risen
rose_by : (before more : ℕ) → 0 < more → HasRisen before (cuts_after before more)
rose_by before zero some = absurd (omega (arith, some))
rose_by before (suc more) some =
    elim (cases_lt before (counted before (suc more))) [
      | inl above ↦ inl above
      | inr below ↦ inr (omega (arith, below))
    ]

-- the board counts the cut that takes its power
pub rose : (old new : BoardMemory) (taken : Taken) → FollowsOn old new taken → new.powered ≡ false → HasRisen old.cuts new.cuts
rose old new taken follows off =
    subst (λ n. HasRisen old.cuts n) (sym follows.cuts) (rose_by old.cuts taken.cuts (follows.cut off))
