-- A call that the flag guards, by whether its engine was down.
use Rattle.std.proofs.Common.{◌≡◌, ◌∙◌, Bool, true, false, not, Result, Err, sym, ap}
use Rattle.std.specs.Prelude.{◌||◌}
use Rattle.std.proofs.lemmas.Bool.{true≢false}
use Rattle.pmem_engine.specs.declared.fault.Fault.{Fault}
use Rattle.pmem_engine.specs.declared.fault.Fault.TheVariants as Fail
use Rattle.pmem_engine.specs.Parts.{Parts}
use Rattle.call_effects.specs.Outcomes.{Outcome, is_going}
use Rattle.pmem_engine.specs.Outcomes.{outcome_of}
use Rattle.pmem_engine.specs.CallFacts.{IsGuarded, IsEngineCall}
use Rattle.pmem_engine.proofs.CallEnds.StillParts.{left_alone}

-- it was up
pub guarded_up : (down later : Bool) (outcome : Outcome) (old new : Parts) (did refused : Type 0) → down ≡ false → later ≡ not (is_going outcome)
    → did → IsGuarded down later outcome old new did refused
guarded_up down later outcome old new did refused up after it =
    record {
      did = λ e. it;
      refuses = λ e. absurd (true≢false (sym e ∙ up));
      after = after ∙ ap (λ (b : Bool). b || not (is_going outcome)) (sym up);
    }

-- it was down, and is left alone
pub guarded_down : (down : Bool) (outcome : Outcome) (parts : Parts) (did refused : Type 0) → down ≡ true → refused
    → IsGuarded down down outcome parts parts did refused
guarded_down down outcome parts did refused it is =
    record {
      did = λ e. absurd (true≢false (sym it ∙ e));
      refuses = λ e. (left_alone parts, is);
      after = it ∙ ap (λ (b : Bool). b || not (is_going outcome)) (sym it);
    }

-- what becomes of one that was up
pub down_after : {down later : Bool} {outcome : Outcome} {old new : Parts} {did refused : Type 0}
    → IsGuarded down later outcome old new did refused → down ≡ false → later ≡ not (is_going outcome)
down_after {outcome = outcome} it up = it.after ∙ ap (λ (b : Bool). b || not (is_going outcome)) up

-- it is up still where the call went on
pub up_after : {down later : Bool} {outcome : Outcome} {old new : Parts} {did refused : Type 0}
    → IsGuarded down later outcome old new did refused → down ≡ false → is_going outcome ≡ true → later ≡ false
up_after it up going = down_after it up ∙ ap not going

pub was_up : {T : Type 0} (before later : Bool) (old new : Parts) (answer : Result T Fault) (did : Type 0) → before ≡ false
    → later ≡ not (is_going (outcome_of answer)) → did → IsEngineCall before later old new answer did
was_up before later old new answer did up after it =
    guarded_up before later (outcome_of answer) old new did (answer ≡ Err Fail.Down) up after it

pub was_down : {T : Type 0} (before : Bool) (parts : Parts) (answer : Result T Fault) (did : Type 0) → before ≡ true → answer ≡ Err Fail.Down
    → IsEngineCall before before parts parts answer did
was_down before parts answer did down is =
    guarded_down before (outcome_of answer) parts did (answer ≡ Err Fail.Down) down is
