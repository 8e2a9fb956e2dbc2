-- What every session over a store of lines keeps, as plain data, and what it says of the memory.
use Rattle.std.specs.Prelude.{ℕ, ◌≡◌, true, false, List, ◌++◌, map, Option, Some, None}
use Rattle.std.specs.List.{range_with_len}
use Rattle.pmem_base.specs.declared.answers.Mark.{Mark}
use Rattle.pmem_base.specs.Shape.{Shape}
use Rattle.pmem_base.specs.Layout as layout
use Rattle.board.specs.Counts.{RisesBy}
use Rattle.board.specs.Memory.{BoardMemory}
use Rattle.seal_ledger.specs.Ledger.{LedgerState}
use Rattle.suite.specs.Formulas.{Formulas}
use Rattle.suite.specs.Setup.{Setup}
use Rattle.plain_model.specs.State.{Memory}
use Rattle.plain_model.specs.View.{DeviceView, view_of, plain_memory}
use Rattle.plain_model.specs.Asked.{Moment}
use Rattle.pmem_engine.specs.Engine.{ChipState}
use Rattle.pmem_engine.specs.Formatted.{first_seal}
use Rattle.pmem_engine.specs.Plans.{Chip, chip_with}

pub record LineSession : Type 0 where
  -- the geometry, and the keys of the suite
  pub shape : Shape
  pub keys : List ℕ
  -- the device with its registers, its power, a cut that is set, and its counts
  pub board : BoardMemory
  -- what is on the chip, while power is on and the engine is up
  pub engine : Option ChipState
  -- all marks in order, those of formatting first, and the true lines of the tree
  pub ledger : LedgerState
  -- how many tags and digests were made
  pub tags : ℕ
  pub digests : ℕ

-- ---- what it says

-- the geometry, and a suite's formulas under the session's keys
abbrev pub setup_in : (List ℕ → Formulas) → LineSession → Setup
setup_in formulas_of session = record { shape = session.shape; formulas = formulas_of session.keys }

-- what the marks say of counters and of pages under re-encryption
abbrev pub view_in : LineSession → DeviceView
view_in session = view_of session.shape session.ledger.marks

-- the data lines as they were last sealed
abbrev pub places_in : Setup → LineSession → Memory
places_in setup session = plain_memory setup session.ledger.marks

-- what a write of the engine finds
abbrev pub moment_in : Setup → LineSession → Moment
moment_in setup session = record { memory = places_in setup session; view = view_in session }

-- this with the session's ledger and counts
abbrev pub chip_in : LineSession → ChipState → Chip
chip_in session engine = chip_with engine session.ledger session.tags session.digests

-- the session with these marks made
abbrev pub with_marks : LineSession → List Mark → LineSession
with_marks session made = record session { ledger = record session.ledger { marks = session.ledger.marks ++ made } }

-- ---- power and fuse

abbrev pub with_fuse : LineSession → ℕ → LineSession
with_fuse session n = record session { board = record session.board { fuse = Some n } }

abbrev pub without_power : LineSession → LineSession
without_power session =
    record session { engine = None; board = record session.board { powered = false; fuse = None } }

-- power goes off, and a cut that is set stays
abbrev pub at_rest : LineSession → LineSession
at_rest session = record session { engine = None; board = record session.board { powered = false } }

-- power comes on, and no engine is there yet
abbrev pub with_power : LineSession → LineSession
with_power session = record session { board = record session.board { powered = true } }

-- ---- the beginning

-- A formatted device with power on, and nothing that waits to be cut. Marks and counts are those of formatting, and each
-- count stands still at its end.
pub record IsNewSession (setup : Setup) (session : LineSession) : Type 0 where
  pub shape : session.shape ≡ setup.shape
  pub power : session.board.powered ≡ true
  pub fuse : session.board.fuse ≡ None
  pub loss : session.board.regs.loss ≡ setup.shape.loss
  pub marks : session.ledger.marks ≡ map (first_seal setup) (range_with_len 0 (layout.data_lines setup.shape))
  pub writes : RisesBy (layout.device_lines setup.shape) 0 session.board.writes
  pub latches : RisesBy 1 0 session.board.latches
  pub cuts : session.board.cuts ≡ 0
