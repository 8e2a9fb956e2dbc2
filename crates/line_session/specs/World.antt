-- A session over a store of lines, as the program keeps it, and what always holds of it.
use Rattle.std.specs.Prelude.{ℕ, ◌≡◌, ◌≤◌, true, false, List, length, is_none, Option, Some, None, option_map, IsTrue}
use Rattle.pmem_base.specs.Shape.{Shape, IsShape}
use Rattle.pmem_base.specs.Layout as layout
use Rattle.pmem_base.specs.Registers.{IsValidRegs}
use Rattle.board.specs.Device.{AreLinesOf}
use Rattle.board.specs.Memory.{BoardMemory, device_of}
use Rattle.seal_ledger.specs.Ledger.{LedgerState, IsOfShape}
use Rattle.suite.specs.Formulas.{AreInRange}
use Rattle.suite.specs.Setup.{Setup}
use Rattle.plain_model.specs.View.{IsMemoryOf, plain_memory}
use Rattle.plain_model.specs.Bounds.{group_bound}
use Rattle.pmem_engine.specs.Engine.{EngineState, on_chip}
use Rattle.pmem_engine.specs.Invariants.{IsDurable, IsSound}
use Rattle.pmem_engine.specs.Calls.{IsUsable}
use Rattle.line_session.specs.State.{LineSession, without_power}

-- the session's state, and the store, which is there while power is on
pub record StoreSession (L : Type 0) : Type 0 where
  pub state : LineSession
  pub store : Option L

module _ {L : Type 0} (engine_of : L → EngineState) where
  -- made of what the program keeps
  abbrev pub session_of : Shape → List ℕ → ℕ → ℕ → BoardMemory → LedgerState → Option L → StoreSession L
  session_of shape keys tags digests board ledger store =
      record {
        state =
            record {
              shape = shape;
              keys = keys;
              board = board;
              engine = option_map (λ store. on_chip (engine_of store)) store;
              ledger = ledger;
              tags = tags;
              digests = digests;
            };
        store = store;
      }

-- without power
abbrev pub session_off : {L : Type 0} → StoreSession L → StoreSession L
session_off session = record { state = without_power session.state; store = None }

-- with power on all is sound
pub record IsLineOn (setup : Setup) (state : LineSession) (engine : EngineState) : Type 0 where
  pub powered : state.board.powered ≡ true
  pub sound : IsSound setup (on_chip engine) state.board.lines state.board.regs state.ledger
  pub running : engine.down ≡ false
  pub its_shape : engine.shape ≡ setup.shape
  pub usable : IsUsable setup.shape engine (device_of state.board) state.ledger

-- with power off the device is durable
pub record IsLineOff (setup : Setup) (state : LineSession) : Type 0 where
  pub unpowered : state.board.powered ≡ false
  pub durable : IsDurable setup state.board.lines state.board.regs state.ledger

-- the store is there exactly while power is on
abbrev pub IsLineBy : {L : Type 0} → (L → EngineState) → Setup → LineSession → Option L → Type 0
IsLineBy engine_of setup state None = IsLineOff setup state
IsLineBy engine_of setup state (Some store) = IsLineOn setup state (engine_of store)

pub record IsLineWorld {L : Type 0} (engine_of : L → EngineState) (setup : Setup) (session : StoreSession L) : Type 0 where
  pub whole_shape : IsShape setup.shape
  pub whole_formulas : AreInRange setup.formulas
  pub whole_lines : AreLinesOf (layout.device_lines setup.shape) session.state.board.lines
  pub valid_regs : IsValidRegs setup.shape session.state.board.regs
  pub few_armed : length session.state.board.regs.group.items ≤ group_bound setup.shape
  pub ledger : IsOfShape setup.shape session.state.ledger
  pub no_exhibit : IsTrue (is_none session.state.ledger.exhibit)
  pub places : IsMemoryOf setup session.state.ledger.marks (plain_memory setup session.state.ledger.marks)
  pub its_engine : session.state.engine ≡ option_map (λ store. on_chip (engine_of store)) session.store
  pub chip : IsLineBy engine_of setup session.state session.store
