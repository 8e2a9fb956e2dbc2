-- How many steps a new stop-loss number takes: by the numbers, and by how many blocks were written.
use Rattle.std.proofs.Common.{rules, ℕ, ◌≡◌, ◌≢◌, ◌<◌, ◌≤◌, ◌+◌, sym, subst, arith}
use Rattle.std.specs.Prelude.{MatchBool, nat_lt, ◌==◌}
use Rattle.std.proofs.lemmas.Bool.{cases_lt, eq-eqb, ne_eqb, lt-ltb, le-ltb}
use Rattle.board.proofs.CountLemmas.{RisesBy-once}
use Rattle.board.specs.Counts.{RisesBy, RisesOnce}
use Rattle.board.specs.Device.{Device}
use Rattle.pmem_engine.specs.Parts.{Parts}
use Rattle.pmem_engine.specs.Outcomes.{TakesSteps, TakesFewer}
use Rattle.pmem_engine.specs.CallFacts.{AreStepsOfLoss, IsCutInLoss}

-- the present number
pub same_steps : (dirty old_loss n steps : ℕ) → n ≡ old_loss → steps ≡ 0 → AreStepsOfLoss dirty old_loss n steps
same_steps dirty old_loss n steps same none =
    subst (λ b. MatchBool b (steps ≡ 0) (MatchBool (nat_lt old_loss n) (steps ≡ 1) (steps ≡ dirty + 1)))
    (sym (eq-eqb n old_loss same)) none

-- a greater one, or a smaller one
by_number : (old_loss n : ℕ) (Same Greater Smaller : Type 0) → n ≢ old_loss → (old_loss < n → Greater) → (n < old_loss → Smaller)
    → MatchBool (n == old_loss) Same (MatchBool (nat_lt old_loss n) Greater Smaller)
by_number old_loss n Same Greater Smaller other greater smaller = search (rules, cases_lt, ne_eqb, lt-ltb, le-ltb)

pub other_steps : (dirty old_loss n steps count : ℕ) → n ≢ old_loss → steps ≡ count + 1 → (old_loss < n → count ≡ 0)
    → (n < old_loss → count ≡ dirty) → AreStepsOfLoss dirty old_loss n steps
other_steps dirty old_loss n steps count other steps_are greater smaller =
    by_number old_loss n (steps ≡ 0) (steps ≡ 1) (steps ≡ dirty + 1) other (λ above. omega (arith, steps_are, greater above))
    (λ below. omega (arith, steps_are, smaller below))

-- so many writes, and then a latch
pub latched_steps : (count : ℕ) (before mid after : Device) → RisesBy count before.writes mid.writes
    → mid.latches ≡ before.latches → RisesOnce mid.latches after.latches → after.writes ≡ mid.writes
    → TakesSteps (count + 1) before after
latched_steps count before mid after writes latches latch still =
    record {
      writes = omega (arith, writes.never_falls, still);
      latches = omega (arith, latches, latch.never_falls);
      sum =
          λ one two.
          let wrote : mid.writes ≡ before.writes + count = writes.exact (omega (arith, one, still)) in
          let latched : after.latches ≡ mid.latches + 1 = (RisesBy-once latch).exact two in
          omega (arith, wrote, latched, latches, still);
    }

-- so many writes, and a cut before the next step
fewer_steps : (count most : ℕ) (before mid after : Device) → RisesBy count before.writes mid.writes
    → mid.latches ≡ before.latches → after.latches ≡ mid.latches → after.writes ≡ mid.writes → count < most
    → TakesFewer most before after
fewer_steps count most before mid after writes latches no_latch still few =
    record {
      writes = omega (arith, writes.never_falls, still);
      latches = omega (arith, latches, no_latch);
      sum =
          λ one two.
          let wrote : mid.writes ≡ before.writes + count = writes.exact (omega (arith, one, still)) in
          omega (arith, wrote, latches, no_latch, still, few);
    }

pub cut_steps : (dirty old_loss n count : ℕ) (old new : Parts) (mid : Device) → n ≢ old_loss
    → (old_loss < n → count ≡ 0) → count ≤ dirty → RisesBy count old.device.writes mid.writes
    → mid.latches ≡ old.device.latches → new.device.latches ≡ mid.latches → new.device.writes ≡ mid.writes
    → IsCutInLoss dirty old_loss n old new
cut_steps dirty old_loss n count old new mid other greater few writes latches no_latch still =
    by_number old_loss n ⊥ (TakesFewer 1 old.device new.device) (TakesFewer (dirty + 1) old.device new.device) other
    (λ above. fewer_steps count 1 old.device mid new.device writes latches no_latch still (omega (arith, greater above)))
    (λ below. fewer_steps count (dirty + 1) old.device mid new.device writes latches no_latch still (omega (arith, few)))
