-- A call of the engine or of recovery within a command: what it works on, and what formatting and recovery leave once the engine is in its
-- place.
use Rattle.std.specs.Prelude.{◌≡◌, Option, Some, None, Result, Ok, Err, MatchOption}
use Rattle.board.specs.Device.{Device}
use Rattle.watched_board.specs.declared.taken.Taken.{Taken}
use Rattle.watched_board.specs.Watching.{device_during}
use Rattle.pmem_engine.specs.Engine.{EngineState}
use Rattle.pmem_engine.specs.Parts.{Parts, parts_of}
use Rattle.seal_ledger.specs.Ledger.{LedgerState}
use Rattle.suite.specs.Setup.{Setup}
use Rattle.call_effects.specs.declared.recovery.Work.{Work}
use Rattle.pmem_recovery.specs.declared.faults.RecFault.{RecFault}
use Rattle.call_effects.specs.SuiteStates.{SuiteState}
use Rattle.pmem_recovery.specs.Formatting.{HasFormatted}
use Rattle.pmem_recovery.specs.Recovered.{HasRecovered}
use Rattle.pmem_replay.specs.World.{WorldState}

-- what formatting does, if its engine is in its place
abbrev pub WasFormatted : Setup → LedgerState → Device → Device → Option EngineState → Type 0
WasFormatted setup ledger old new engine = MatchOption engine ⊥ (λ found. HasFormatted setup ledger old new found)

-- recovery's answer, whose engine was put in its place
abbrev pub IsTakenApart : Result (EngineState × Work) RecFault → Option EngineState → Result Work RecFault → Type 0
IsTakenApart (Ok done) engine (Ok work) = (engine ≡ Some done.0) × (work ≡ done.1)
IsTakenApart (Err fault) engine (Err its) = (engine ≡ None) × (its ≡ fault)
IsTakenApart answer engine outcome = ⊥

-- what recovery does, if its engine is in its place
pub record WasRecovered (setup : Setup) (ledger : LedgerState) (old new : Device) (suite_old suite_new : SuiteState)
    (engine : Option EngineState) (outcome : Result Work RecFault) : Type 0 where
  pub answer : Result (EngineState × Work) RecFault
  pub recovered : HasRecovered setup ledger old new suite_old suite_new answer
  pub apart : IsTakenApart answer engine outcome

-- what a call of the engine works on in this world, and what it leaves
abbrev pub parts_in : WorldState → EngineState → Taken → Parts
parts_in world engine taken =
    parts_of engine (device_during world.board taken) world.ledger world.tags world.digests
