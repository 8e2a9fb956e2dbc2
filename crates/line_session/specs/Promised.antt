-- What a call of a store promises, and the turning on of power, of what they are given: a clause names the store, the
-- device or the board, the suite and the ledger, before and after.
use Rattle.std.specs.Prelude.{ℕ, ◌≡◌, ◌<◌, Bool, List, Result, IsSome}
use Rattle.pmem_base.specs.declared.answers.Mark.{Mark}
use Rattle.pmem_base.specs.declared.geometry.Geo.{Geo}
use Rattle.pmem_base.specs.Shape.{Shape}
use Rattle.pmem_base.specs.Layout.{data_lines, device_lines}
use Rattle.pmem_base.specs.Marks.{last_seal}
use Rattle.pmem_base.specs.Registers.{IsValidRegs}
use Rattle.board.specs.Device.{Device}
use Rattle.board.specs.declared.device.Board.{Ghosts as BoardOf}
use Rattle.board.specs.declared.memory.MemBoard.{MemBoard}
use Rattle.board.specs.MemBoard.{memory_of}
use Rattle.watched_board.specs.declared.taken.Taken.{Taken}
use Rattle.watched_board.specs.Watching.{device_during, none_taken}
use Rattle.watched_call.specs.declared.call.CallEnd.{CallEnd}
use Rattle.seal_ledger.specs.declared.ledger.Ledger.{Ledger}
use Rattle.seal_ledger.specs.Ledger.{IsOfShape, LedgerState}
use Rattle.seal_ledger.specs.View.{capacity_of, ledger_of}
use Rattle.suite.specs.Setup.{Setup}
use Rattle.suite.specs.declared.Suite.{Ghosts as SuiteOf}
use Rattle.pmem_engine.specs.Calls.{IsUsable}
use Rattle.pmem_engine.specs.Engine.{EngineState}
use Rattle.pmem_engine.specs.Parts.{Parts, parts_of, setup_at}
use Rattle.call_effects.specs.SuiteStates.{setup_with, suite_at}
use Rattle.line_session.specs.During.{OpeningRelation, HasStartedBy}
use Rattle.line_session.specs.Kept.{KeepsLines, OpensLines, OpensBoth}
use Rattle.line_session.specs.declared.starts.StartFault.{StartFault}

-- the engine serves a device of this geometry, as a watched board shows it after that many steps
abbrev pub IsUsableDuring : Shape → EngineState → MemBoard → Taken → Ledger → Type 0
IsUsableDuring shape engine board taken ledger =
    IsUsable shape engine (device_during (memory_of board) taken) (ledger_of ledger)

-- the device can be recovered, as the ledger knows it
abbrev pub CanStart : Shape → Device → LedgerState → Type 0
CanStart shape device ledger =
    (device.size ≡ device_lines shape) × IsValidRegs shape device.regs × IsOfShape shape ledger
    × ((a : ℕ) → a < data_lines shape → IsSome (last_seal ledger.marks a))

-- what a call does of a store, and of its engine's parts
abbrev pub CallEffect : Type 0 → Type 0 → Type 1
CallEffect T R = Setup → T → T → Parts → Parts → R → Type 0

module _ {S : Type 0} (suite : SuiteOf S) where
  abbrev parts_with : EngineState → Device → S → Ledger → Parts
  parts_with engine device s ledger = parts_of engine device (ledger_of ledger) (suite.tags s) (suite.digests s)

  -- ---- a call of a store

  -- its effect, over a device
  abbrev pub IsMade :
      {T R : Type 0} → (T → EngineState) → CallEffect T R → T → Device → S → Ledger → T → Device → S → Ledger → R → Type 0
  IsMade engine_of effect store device s ledger store_new device_new s_new ledger_new answer =
      effect (setup_at suite (engine_of store) s) store store_new (parts_with (engine_of store) device s ledger)
      (parts_with (engine_of store_new) device_new s_new ledger_new) answer

  -- the engine serves the device as before, under the same keys and with room for as many marks
  abbrev pub StaysUsable : {T : Type 0} → (T → EngineState) → T → S → Ledger → T → Device → S → Ledger → Type 0
  StaysUsable engine_of store s ledger store_new device_new s_new ledger_new =
      (capacity_of ledger_new ≡ capacity_of ledger) × (suite.keys s_new ≡ suite.keys s)
      × IsUsable (engine_of store).shape (engine_of store_new) device_new (ledger_of ledger_new)
      × ((engine_of store_new).shape ≡ (engine_of store).shape)

  -- over the watched board
  abbrev pub IsCalled :
      {T R : Type 0} → (T → EngineState) → CallEffect T R → T → MemBoard → S → Ledger → T → MemBoard → S → Ledger → CallEnd R → Type 0
  IsCalled engine_of effect store board s ledger store_new board_new s_new ledger_new end =
      IsMade engine_of effect store (device_during (memory_of board) none_taken) s ledger store_new
      (device_during (memory_of board_new) end.taken) s_new ledger_new end.answer

  -- what it leaves of sound lines, over the watched board
  abbrev pub IsKeptCall :
      {T R : Type 0} → (T → EngineState) → (R → Bool) → T → MemBoard → S → Ledger → T → MemBoard → S → Ledger → CallEnd R → Type 0
  IsKeptCall engine_of is_cut store board s ledger store_new board_new s_new ledger_new end =
      IsCalled engine_of (KeepsLines engine_of is_cut) store board s ledger store_new board_new s_new ledger_new end

  -- ---- power that comes on

  -- the opening alone, by an engine over a device
  abbrev pub IsOpened :
      {O F : Type 0} → (Setup → OpeningRelation O F) → EngineState → Device → S → Ledger → Device → S → Ledger → Result O F → Type 0
  IsOpened opens engine device s ledger device_new s_new ledger_new answer =
      opens (setup_at suite engine s) engine (parts_with engine device s ledger)
      (λ now. parts_with now device_new s_new ledger_new) answer

  -- recovery and the opening of a store, and what both leave of durable lines
  module _ {O L X F : Type 0} (engine_of : L → EngineState) (store_of : O → L) (relation : X → Setup → OpeningRelation O F)
      (holds : X → Setup → List Mark → Type 0) (opening : X) (geo : Geo) where
    -- over a device
    abbrev pub IsStarted : Device → S → Ledger → Device → S → Ledger → Result O (StartFault F) → Type 0
    IsStarted device s ledger device_new s_new ledger_new answer =
        HasStartedBy (setup_with suite geo s)
        (OpensBoth (relation opening) (OpensLines (λ opened. engine_of (store_of opened)) (holds opening)) (setup_with suite geo s))
        device device_new (ledger_of ledger) (ledger_of ledger_new) (suite_at suite s) (suite_at suite s_new) answer

    -- over the watched board
    abbrev pub IsStartedOn : MemBoard → S → Ledger → MemBoard → S → Ledger → CallEnd (Result O (StartFault F)) → Type 0
    IsStartedOn board s ledger board_new s_new ledger_new end =
        IsStarted (device_during (memory_of board) none_taken) s ledger (device_during (memory_of board_new) end.taken) s_new
        ledger_new end.answer

-- ---- over any board

module _ {B S : Type 0} (board : BoardOf B) (suite : SuiteOf S) where
  -- a call's effect
  abbrev pub IsMadeBy : {T R : Type 0} → (T → EngineState) → CallEffect T R → T → B → S → Ledger → T → B → S → Ledger → R → Type 0
  IsMadeBy engine_of effect store b s ledger store_new b_new s_new ledger_new answer =
      IsMade suite engine_of effect store (board.device b) s ledger store_new (board.device b_new) s_new ledger_new answer

  -- what a call leaves of sound lines
  abbrev pub IsKeptBy : {T R : Type 0} → (T → EngineState) → (R → Bool) → T → B → S → Ledger → T → B → S → Ledger → R → Type 0
  IsKeptBy engine_of is_cut store b s ledger store_new b_new s_new ledger_new answer =
      IsMadeBy engine_of (KeepsLines engine_of is_cut) store b s ledger store_new b_new s_new ledger_new answer

  -- an opening's effect
  abbrev pub IsOpenedBy :
      {O F : Type 0} → (Setup → OpeningRelation O F) → EngineState → B → S → Ledger → B → S → Ledger → Result O F → Type 0
  IsOpenedBy opens engine b s ledger b_new s_new ledger_new answer =
      IsOpened suite opens engine (board.device b) s ledger (board.device b_new) s_new ledger_new answer

  -- what an opening leaves of sound lines
  abbrev pub IsKeptOpening :
      {O L F : Type 0} → (L → EngineState) → (O → L) → (Setup → List Mark → Type 0) → EngineState → B → S → Ledger → B → S → Ledger
      → Result O F → Type 0
  IsKeptOpening engine_of store_of holds engine b s ledger b_new s_new ledger_new answer =
      IsOpenedBy (OpensLines (λ opened. engine_of (store_of opened)) holds) engine b s ledger b_new s_new ledger_new answer

  -- recovery and the opening
  abbrev pub IsStartedBy :
      {O L X F : Type 0} → (L → EngineState) → (O → L) → (X → Setup → OpeningRelation O F) → (X → Setup → List Mark → Type 0) → X → Geo
      → B → S → Ledger → B → S → Ledger → Result O (StartFault F) → Type 0
  IsStartedBy engine_of store_of relation holds opening geo b s ledger b_new s_new ledger_new answer =
      IsStarted suite engine_of store_of relation holds opening geo (board.device b) s ledger (board.device b_new) s_new ledger_new answer
