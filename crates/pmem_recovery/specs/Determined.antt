-- That the contracts of recovery and formatting leave nothing open.
use Rattle.std.specs.Prelude.{◌+◌, ◌<◌, Ok, Err, ⊤, ◌≡◌, true, List, Some}
use Rattle.pmem_base.specs.declared.lines.Line.{Line}
use Rattle.board.specs.Device.{Device}
use Rattle.board.specs.Memory.{BoardMemory}
use Rattle.call_plan.specs.Runs.{AreBelowEnd}
use Rattle.suite.specs.Setup.{Setup}
use Rattle.seal_ledger.specs.Ledger.{LedgerState}
use Rattle.pmem_engine.specs.Engine.{EngineState}
use Rattle.call_plan.specs.Laws.{IsDetermined}
use Rattle.call_effects.specs.SuiteStates.{SuiteState}
use Rattle.pmem_recovery.specs.Plans.{SuiteCounts, recover_plan}
use Rattle.pmem_recovery.specs.declared.faults.RecFault.TheVariants.{Memory, Cut, NoCounter, Root, Twin}
use Rattle.pmem_recovery.specs.Formatting.{HasFormatted}
use Rattle.pmem_recovery.specs.Recovered.{Answer, HasRecovered}

-- two recoveries of one board with power on, which had their memory, are the same
abbrev pub RecoverIsDetermined : Type 0
RecoverIsDetermined = (setup : Setup) (counts : SuiteCounts) (old : BoardMemory) → IsDetermined old (recover_plan setup old.regs counts)

-- two formats of one device, which has power and tells its lines, leave the same engine, ledger and device
abbrev pub FormatIsDetermined : Type 0
FormatIsDetermined =
    (setup : Setup) (lines : List Line) (old a b : Device) (ledger other : LedgerState) (engine last : EngineState)
    → old.lines ≡ Some lines → old.live ≡ true → HasFormatted setup ledger old a engine → HasFormatted setup other old b last
    → (engine ≡ last) × (ledger ≡ other) × (a ≡ b)

-- an answer that isn't a cut or running out of memory
abbrev pub IsGoneThrough : Answer → Type 0
IsGoneThrough (Ok done) = ⊤
IsGoneThrough (Err Memory) = ⊥
IsGoneThrough (Err Cut) = ⊥
IsGoneThrough (Err (NoCounter at)) = ⊤
IsGoneThrough (Err (Root kept found)) = ⊤
IsGoneThrough (Err (Twin at major low high cipher tag)) = ⊤

-- a recovery that is cut makes fewer persist steps than one of the same device that isn't
abbrev pub CutRecoveriesMakeFewerSteps : Type 0
CutRecoveriesMakeFewerSteps =
    (setup : Setup) (lines : List Line) (ledger other : LedgerState) (old a b : Device) (suite left last : SuiteState)
    (answer : Answer) → old.lines ≡ Some lines → old.live ≡ true → AreBelowEnd a → AreBelowEnd b
    → HasRecovered setup ledger old a suite left (Err Cut) → HasRecovered setup other old b suite last answer
    → IsGoneThrough answer → a.writes + a.latches < b.writes + b.latches
