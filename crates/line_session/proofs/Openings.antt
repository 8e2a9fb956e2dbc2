-- Recovery, and then the opening of a store: one relation.
use Rattle.std.proofs.Common.{◌≡◌, List, ℕ, Result, Ok, refl, ap, subst}
use Rattle.line_session.proofs.Common.{Shape, Device, LedgerState, Formulas, Setup, EngineState, Parts, parts_of, Work, RecFault, SuiteState, HasRecovered, setup_under, OpeningRelation, HasStartedBy, started_as}

-- where recovery was done, its engine is of the geometry, and the lines are opened under the same keys
pub has_started : {O F : Type 0} (opens : Setup → OpeningRelation O F) (formulas_of : List ℕ → Formulas) (g : Shape)
    (old between new : Device) (ledger_old ledger_new : LedgerState) (suite_old suite_between suite_new : SuiteState)
    (recovery : Result (EngineState × Work) RecFault) (engine : EngineState) (work : Work) (answer : Result O F) → recovery ≡ Ok (engine, work)
    → HasRecovered (setup_under formulas_of g suite_old.keys) ledger_old old between suite_old suite_between recovery
    → opens (setup_under formulas_of engine.shape suite_between.keys) engine
    (parts_of engine between ledger_old suite_between.tags suite_between.digests)
    (λ now. parts_of now new ledger_new suite_new.tags suite_new.digests) answer
    → HasStartedBy (setup_under formulas_of g suite_old.keys) (opens (setup_under formulas_of g suite_old.keys)) old new ledger_old ledger_new
    suite_old suite_new (started_as answer)
has_started opens formulas_of g old between new ledger_old ledger_new suite_old suite_between suite_new recovery engine work answer is recovered opened =
    let done = subst (λ r. HasRecovered (setup_under formulas_of g suite_old.keys) ledger_old old between suite_old suite_between r) is recovered in
    let now : EngineState → Parts = λ now. parts_of now new ledger_new suite_new.tags suite_new.digests in
    record {
      recovery = Ok _;
      between = between;
      suite_between = suite_between;
      recovered = done;
      then = (
        answer,
        subst (λ k. opens (setup_under formulas_of g k) engine (parts_of engine between ledger_old suite_between.tags suite_between.digests) now answer)
            done.keys (subst
            (λ s. opens (setup_under formulas_of s suite_between.keys) engine (parts_of engine between ledger_old suite_between.tags suite_between.digests) now answer)
            (ap (λ (e : EngineState). e.shape) done.engine) opened),
        refl,
      );
    }
