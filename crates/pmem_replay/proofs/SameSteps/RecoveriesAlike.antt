-- Two outcomes of one recovery: by its plan the result, the counts and the board are the same, and so is what is answered.
use Rattle.std.proofs.Common.{ℕ, ◌≡◌, true, refl, sym, ap, ap₂, subst, ◌∙◌}
use Rattle.std.specs.Prelude.{Result, Ok, Err}
use Rattle.pmem_base.specs.declared.answers.Answer.{Answer}
use Rattle.board.specs.Memory.{BoardMemory}
use Rattle.watched_board.specs.declared.taken.Taken.{Taken}
use Rattle.watched_board.specs.Watching.{steps_in}
use Rattle.call_plan.specs.Runs.{IsOutcome}
use Rattle.call_plan.proofs.DeterminedCalls.{call_is_determined}
use Rattle.suite.specs.Setup.{Setup}
use Rattle.pmem_engine.specs.Engine.{EngineState}
use Rattle.call_effects.specs.declared.recovery.Work.{Work}
use Rattle.pmem_recovery.specs.declared.faults.RecFault.{RecFault}
use Rattle.pmem_recovery.specs.declared.faults.RecFault.TheVariants as Stop
use Rattle.pmem_recovery.specs.Plans.{SuiteCounts, suite_counts, counts_of, recover_plan}
use Rattle.pmem_replay.specs.Stepped.{HasPoweredOn, IsOnAnswer, board_after_on, engine_given}
use Rattle.pmem_replay.specs.Determined.{AreSameParts}
use Rattle.pmem_replay.specs.World.{WorldState}

-- the steps and the result decide the answer
on_says_one : (steps : ℕ) (r : Result (EngineState × Work) RecFault) (x y : Answer) → IsOnAnswer steps r x → IsOnAnswer steps r y → x ≡ y
on_says_one steps (Ok done) x y is its = is ∙ sym its
on_says_one steps (Err Stop.Cut) x y is its = is ∙ sym its
on_says_one steps (Err (Stop.NoCounter at)) x y is its = is ∙ sym its
on_says_one steps (Err (Stop.Root kept found)) x y is its = is ∙ sym its
on_says_one steps (Err (Stop.Twin at major low high cipher tag)) x y is its = is ∙ sym its
on_says_one steps (Err Stop.Memory) x y is its = absurd is

pub recoveries_alike : (setup : Setup) (old other a b : WorldState) (x y : Answer) → AreSameParts old other → HasPoweredOn setup old a x
    → HasPoweredOn setup other b y → (x ≡ y) × AreSameParts a b
recoveries_alike setup old other a b x y same it its =
    let lit : BoardMemory = record (old.board) { powered = true } in
    let counts : counts_of its.suite_old ≡ counts_of it.suite_old =
    ap₂ (λ (t d : ℕ). suite_counts t d) (its.tags_old ∙ sym same.tags ∙ sym it.tags_old) (its.digests_old ∙ sym same.digests ∙ sym it.digests_old) in
    let lit_too : IsOutcome (recover_plan setup old.board.regs (counts_of its.suite_old)) lit its.left its.taken its.result (counts_of its.suite_new) =
    subst (λ (m : BoardMemory). IsOutcome (recover_plan setup m.regs (counts_of its.suite_old)) (record m { powered = true }) its.left its.taken its.result
    (counts_of its.suite_new)) (sym same.board) its.outcome in
    let second : IsOutcome (recover_plan setup old.board.regs (counts_of it.suite_old)) lit its.left its.taken its.result (counts_of its.suite_new) =
    subst (λ (c : SuiteCounts). IsOutcome (recover_plan setup old.board.regs c) lit its.left its.taken its.result (counts_of its.suite_new)) counts lit_too in
    let both = call_is_determined refl it.outcome second in
    let said : IsOnAnswer (steps_in it.taken) it.result y =
    subst (λ (t : Taken). IsOnAnswer (steps_in t) it.result y) (sym both.3)
    (subst (λ (r : Result (EngineState × Work) RecFault). IsOnAnswer (steps_in its.taken) r y) (sym both.0) its.answered) in (
      on_says_one (steps_in it.taken) it.result x y it.answered said,
      record {
        board =
            it.board ∙ ap₂ (λ (r : Result (EngineState × Work) RecFault) (m : BoardMemory). board_after_on r m) both.0 both.2 ∙ sym its.board;
        engine = it.engine ∙ ap (λ (r : Result (EngineState × Work) RecFault). engine_given r) both.0 ∙ sym its.engine;
        ledger = it.ledger ∙ same.ledger ∙ sym its.ledger;
        tags = sym it.tags_new ∙ ap (λ (c : SuiteCounts). c.tags) both.1 ∙ its.tags_new;
        digests = sym it.digests_new ∙ ap (λ (c : SuiteCounts). c.digests) both.1 ∙ its.digests_new;
      },
    )
