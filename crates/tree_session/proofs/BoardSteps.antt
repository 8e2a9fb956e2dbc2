-- The steps of a call on a watched board, as an answer tells them.
use Rattle.std.proofs.Common.{ℕ, ◌≡◌, ◌<◌, ◌≤◌, ◌+◌, true, false, Bool, refl, ap, ◌∙◌, arith, rules}
use Rattle.tree_session.proofs.Common.{min, BoardMemory, Taken, counted, steps_in, step_limit, IsWatched, TakesTreeSteps, IsTreeCutAt}
use Rattle.pmem_base.specs.Counts.{last_count}
use Rattle.board.specs.Counts.{RisesBy}
use Rattle.watched_board.proofs.StepLaws.{rose}

-- ---- counts

risen-sum : (last w l tw tl nw nl : ℕ) → nw ≡ min (w + tw) last → nl ≡ min (l + tl) last → w ≤ last → l ≤ last
    → (w + l ≤ nw + nl) × (nw + nl < last → nw + nl ≡ w + l + (tw + tl))
risen-sum last w l tw tl nw nl writes latches in_w in_l = (omega arith, λ below. omega arith)

risen-one : (last l tl nl : ℕ) → nl ≡ min (l + tl) last → l ≤ last → (l ≤ nl) × (nl < last → nl ≡ l + tl)
risen-one last l tl nl latches in_l = (omega arith, λ below. omega arith)

unrisen-one : (last l nl : ℕ) → nl ≡ min (l + 0) last → l ≤ last → nl ≡ l
unrisen-one last l nl latches in_l = omega arith

-- ---- a call

module _ (old new : BoardMemory) (taken : Taken) (watched : IsWatched old new taken) where
  rise : RisesBy (steps_in taken) (old.writes + old.latches) (new.writes + new.latches)
  rise = search (rules, risen-sum)

  pub goes_on : new.powered ≡ true → TakesTreeSteps (steps_in taken) true old new
  goes_on powered = search (rules, rise)

  pub cut_off : new.powered ≡ false → steps_in taken < step_limit → IsTreeCutAt (steps_in taken) old new
  cut_off off below = search (rules, rise, rose)

  -- so many latches were taken
  pub latched : (n : ℕ) → taken.latches ≡ n → RisesBy n old.latches new.latches
  latched n is =
      let both = risen-one last_count old.latches n new.latches (watched.follows.latches ∙ ap (counted old.latches) is) watched.in_count.latches in
      record { never_falls = both.0; exact = both.1 }

  pub unlatched : taken.latches ≡ 0 → new.latches ≡ old.latches
  unlatched is = unrisen-one last_count old.latches new.latches (watched.follows.latches ∙ ap (counted old.latches) is) watched.in_count.latches

-- a count from 0 that rose by so many, and is far from its end
pub taken-exact : (n count : ℕ) → RisesBy n 0 count → count ≤ step_limit → count ≡ n
taken-exact n count rise few = let is : count ≡ 0 + n = rise.exact (omega (arith, few)) in omega (arith, is)

-- ---- before power came on, and once the board rests

-- the call began as power came on
pub from_dark : (s : ℕ) (power : Bool) (old new : BoardMemory) → TakesTreeSteps s power (record old { powered = true }) new → TakesTreeSteps s power old new
from_dark s power old new it =
    record { rise = it.rise; fuse = it.fuse; power = it.power; snapshot = it.snapshot }

pub cut_from_dark : (s : ℕ) (old new : BoardMemory) → IsTreeCutAt s (record old { powered = true }) new → IsTreeCutAt s old new
cut_from_dark s old new it =
    record { rise = it.rise; fuse = it.fuse; power = it.power; snapshot = it.snapshot }

-- and power goes off after it
pub then_rests : (s : ℕ) (old new : BoardMemory) → TakesTreeSteps s true old new → TakesTreeSteps s false old (record new { powered = false })
then_rests s old new it =
    record { rise = it.rise; fuse = it.fuse; power = refl; snapshot = it.snapshot }
