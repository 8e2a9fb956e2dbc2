-- Recovery and the opening of a store, as one call of a command.
use Rattle.std.specs.Prelude.{◌≡◌, Result, Ok, Err}
use Rattle.board.specs.Device.{Device}
use Rattle.seal_ledger.specs.Ledger.{LedgerState}
use Rattle.suite.specs.Setup.{Setup}
use Rattle.pmem_engine.specs.Engine.{EngineState}
use Rattle.pmem_engine.specs.Parts.{Parts, parts_of}
use Rattle.call_effects.specs.declared.recovery.Work.{Work}
use Rattle.pmem_recovery.specs.declared.faults.RecFault.{RecFault}
use Rattle.call_effects.specs.SuiteStates.{SuiteState}
use Rattle.pmem_recovery.specs.Recovered.{HasRecovered}
use Rattle.line_session.specs.declared.starts.StartFault.{StartFault}
use Rattle.line_session.specs.declared.starts.StartFault.TheVariants.{Recovery, Opening}

-- what an opening does by a recovered engine, from its parts to those of the engine that it keeps or drops
abbrev pub OpeningRelation : Type 0 → Type 0 → Type 1
OpeningRelation O F = EngineState → Parts → (EngineState → Parts) → Result O F → Type 0

-- the answer of both by that of the opening
abbrev pub started_as : {O F : Type 0} → Result O F → Result O (StartFault F)
started_as (Ok opened) = Ok opened
started_as (Err fault) = Err (Opening fault)

-- what follows recovery: if it is done its engine's lines are opened, else nothing
abbrev pub HasOpenedAfter :
    {O F : Type 0} → Result (EngineState × Work) RecFault → OpeningRelation O F → Device → Device → LedgerState → LedgerState → SuiteState
    → SuiteState → Result O (StartFault F) → Type 0
HasOpenedAfter {O = O} {F = F} (Ok done) opens between new ledger_between ledger_new suite_between suite_new answer =
    (opened : Result O F)
    × opens done.0 (parts_of done.0 between ledger_between suite_between.tags suite_between.digests)
    (λ now. parts_of now new ledger_new suite_new.tags suite_new.digests) opened
    × (answer ≡ started_as opened)
HasOpenedAfter (Err fault) opens between new ledger_between ledger_new suite_between suite_new answer =
    (answer ≡ Err (Recovery fault)) × (new ≡ between) × (ledger_new ≡ ledger_between)
    × (suite_new ≡ suite_between)

-- recovery, and then the opening
pub record HasStartedBy {O F : Type 0} (setup : Setup) (opens : OpeningRelation O F) (old new : Device) (ledger_old ledger_new : LedgerState)
    (suite_old suite_new : SuiteState) (answer : Result O (StartFault F)) : Type 0 where
  pub recovery : Result (EngineState × Work) RecFault
  pub between : Device
  pub suite_between : SuiteState
  pub recovered : HasRecovered setup ledger_old old between suite_old suite_between recovery
  pub then : HasOpenedAfter recovery opens between new ledger_old ledger_new suite_between suite_new answer
