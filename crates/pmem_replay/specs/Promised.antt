-- What the calls of the engine and of recovery promise of what they are called with: a clause names the engine, the
-- device or the board, the suite and the ledger, before and after.
use Rattle.std.specs.Prelude.{Option, Result}
use Rattle.pmem_base.specs.declared.commands.Posted.{Posted}
use Rattle.pmem_base.specs.declared.geometry.Geo.{Geo}
use Rattle.pmem_base.specs.Geo.{shape_of}
use Rattle.pmem_base.specs.Layout.{data_lines, meta_lines}
use Rattle.board.specs.Device.{Device}
use Rattle.board.specs.Memory.{device_of}
use Rattle.board.specs.declared.memory.MemBoard.{MemBoard}
use Rattle.board.specs.MemBoard.{memory_of}
use Rattle.watched_board.specs.declared.taken.Taken.{Taken}
use Rattle.watched_board.specs.Watching.{device_during, none_taken}
use Rattle.seal_ledger.specs.declared.ledger.Ledger.{Ledger}
use Rattle.seal_ledger.specs.View.{ledger_of}
use Rattle.suite.specs.Setup.{Setup}
use Rattle.suite.specs.declared.Suite.{Ghosts as SuiteOf}
use Rattle.pmem_engine.specs.declared.fault.Fault.{Fault}
use Rattle.pmem_engine.specs.Engine.{EngineState}
use Rattle.pmem_engine.specs.Parts.{Parts, parts_of, setup_at}
use Rattle.call_effects.specs.declared.recovery.Work.{Work}
use Rattle.pmem_recovery.specs.declared.faults.RecFault.{RecFault}
use Rattle.call_effects.specs.SuiteStates.{SuiteRise, setup_with, suite_at}
use Rattle.pmem_replay.specs.During.{WasFormatted, WasRecovered}
use Rattle.pmem_replay.specs.EngineCalls.{IsLawfulCall}

module _ {S : Type 0} (suite : SuiteOf S) where
  -- ---- a call of the engine

  abbrev parts_with : EngineState → Device → S → Ledger → Parts
  parts_with engine device s ledger = parts_of engine device (ledger_of ledger) (suite.tags s) (suite.digests s)

  module _ {C T : Type 0} (relation : C → Setup → Parts → Parts → Result T Fault → Type 0) (write : C → Option Posted) (call : C) where
    -- over a device
    abbrev pub IsMade : EngineState → Device → S → Ledger → EngineState → Device → S → Ledger → Result T Fault → Type 0
    IsMade engine device s ledger engine_new device_new s_new ledger_new answer =
        IsLawfulCall (relation call) (write call) (setup_at suite engine s) (parts_with engine device s ledger)
        (parts_with engine_new device_new s_new ledger_new) answer

    -- over the watched board
    abbrev pub IsCalled : EngineState → MemBoard → S → Ledger → EngineState → MemBoard → Taken → S → Ledger → Result T Fault → Type 0
    IsCalled engine board s ledger engine_new board_new taken s_new ledger_new answer =
        IsMade engine (device_during (memory_of board) none_taken) s ledger engine_new
        (device_during (memory_of board_new) taken) s_new ledger_new answer

  -- ---- formatting and recovery, whose engine is put in its place

  abbrev pub IsFormatted : Geo → MemBoard → S → MemBoard → Ledger → Option EngineState → Type 0
  IsFormatted geo board s board_new ledger_new engine =
      WasFormatted (setup_with suite geo s) (ledger_of ledger_new) (device_of (memory_of board))
      (device_of (memory_of board_new)) engine

  -- a pad and a tag for each data line, and a digest for each metadata line
  abbrev pub HasFormatCounts : Geo → S → S → Type 0
  HasFormatCounts geo s s_new =
      SuiteRise (data_lines (shape_of geo)) (data_lines (shape_of geo)) (meta_lines (shape_of geo)) (suite_at suite s)
      (suite_at suite s_new)

  -- over a device
  abbrev pub IsRecoveredOver : Geo → Ledger → Device → S → Device → S → Option EngineState → Result Work RecFault → Type 0
  IsRecoveredOver geo ledger device s device_new s_new engine answer =
      WasRecovered (setup_with suite geo s) (ledger_of ledger) device device_new (suite_at suite s) (suite_at suite s_new) engine
      answer

  -- over the watched board
  abbrev pub IsRecovered : Geo → Ledger → MemBoard → S → MemBoard → Taken → S → Option EngineState → Result Work RecFault → Type 0
  IsRecovered geo ledger board s board_new taken s_new engine answer =
      IsRecoveredOver geo ledger (device_during (memory_of board) none_taken) s (device_during (memory_of board_new) taken) s_new
      engine answer
