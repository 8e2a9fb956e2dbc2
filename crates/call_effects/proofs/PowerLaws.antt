-- Ends of calls differ, and the power after two calls.
use Rattle.std.proofs.Common.{rules, ◌≡◌, ◌≢◌, Bool, true, false, refl, ap, subst, ◌∙◌}
use Rattle.std.proofs.lemmas.Bool.{true≢false}
use Rattle.pmem_base.specs.Counts.{HasRisen}
use Rattle.board.specs.Device.{Device}
use Rattle.call_effects.specs.Outcomes.{Outcome, going, cut_short, shown, is_going, HasPower}

pub power_chained : (outcome : Outcome) (old mid new : Device) → HasPower going old mid → HasPower outcome mid new
    → HasPower outcome old new
power_chained going old mid new first second =
    (λ was. second.0 (first.0 was), λ was. second.1 (first.1 was), second.2 ∙ first.2)
power_chained shown old mid new first second =
    (λ was. second.0 (first.0 was), λ was. second.1 (first.1 was), second.2 ∙ first.2)
power_chained cut_short old mid new first second =
    (unsteady old.steady refl, second.1, subst (λ n. HasRisen n new.cuts) first.2 second.2)
  where
    unsteady : (b : Bool) → old.steady ≡ b → old.steady ≡ false
    unsteady v0 it = search rules

pub going_uncut : going ≢ cut_short
going_uncut e = absurd (true≢false (ap is_going e))

pub going_unshown : going ≢ shown
going_unshown e = absurd (true≢false (ap is_going e))

pub cut_unshown : cut_short ≢ shown
cut_unshown e = absurd (true≢false (ap is_cut e))
  where
    is_cut : Outcome → Bool
    is_cut going = false
    is_cut cut_short = true
    is_cut shown = false
