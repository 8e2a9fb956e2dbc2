-- What a call of the engine works on, and what is seen there.
use Rattle.std.specs.Prelude.{ℕ, List, Option, option_map, IfSome, MatchOption}
use Rattle.pmem_base.specs.declared.lines.Line.{Line}
use Rattle.pmem_base.specs.declared.registers.Regs.{Regs}
use Rattle.pmem_base.specs.Shape.{Shape}
use Rattle.pmem_base.specs.Layout as layout
use Rattle.pmem_base.specs.Lines.{line_at, tag_slot}
use Rattle.board.specs.Device.{Device}
use Rattle.board.specs.declared.device.Board.{Ghosts as BoardOf}
use Rattle.commit_regs.specs.Groups.{redone_told}
use Rattle.seal_ledger.specs.Ledger.{LedgerState}
use Rattle.seal_ledger.specs.declared.Audit.{Ghosts as AuditOf}
use Rattle.suite.specs.Setup.{Setup}
use Rattle.suite.specs.declared.Suite.{Ghosts as SuiteOf}
use Rattle.pmem_engine.specs.Engine.{ChipState, EngineState, on_chip}
use Rattle.pmem_engine.specs.Recached.{IsTrueOrDirty}
use Rattle.pmem_engine.specs.Invariants.{stored_meta, IsTrusted, IsSound, IsDurable, IsSealStored, IsCounterStored}

-- what is on the chip, the device, the ledger, and the suite's counts of tags and digests
pub record Parts : Type 0 where
  pub engine : ChipState
  pub device : Device
  pub ledger : LedgerState
  pub tags : ℕ
  pub digests : ℕ

abbrev pub parts_with : ChipState → Device → LedgerState → ℕ → ℕ → Parts
parts_with engine device ledger tags digests =
    record { engine = engine; device = device; ledger = ledger; tags = tags; digests = digests }

-- of an engine; whether it is down isn't told by them
abbrev pub parts_of : EngineState → Device → LedgerState → ℕ → ℕ → Parts
parts_of engine device ledger tags digests = parts_with (on_chip engine) device ledger tags digests

-- what a call sees of the engine, the board, the suite and the audit at a moment: the parts, and the setup
module _ {B S A : Type 0} (board : BoardOf B) (suite : SuiteOf S) (audit : AuditOf A) where
  abbrev pub parts_with_at : ChipState → B → S → A → Parts
  parts_with_at engine b s a = parts_with engine (board.device b) (audit.ledger a) (suite.tags s) (suite.digests s)

  abbrev pub parts_at : EngineState → B → S → A → Parts
  parts_at engine b s a = parts_with_at (on_chip engine) b s a

abbrev pub setup_with_at : {S : Type 0} → SuiteOf S → ChipState → S → Setup
setup_with_at suite engine s = record { shape = engine.shape; formulas = suite.formulas_of (suite.keys s) }

abbrev pub setup_at : {S : Type 0} → SuiteOf S → EngineState → S → Setup
setup_at suite engine s = setup_with_at suite (on_chip engine) s

-- the registers
abbrev pub regs_of : Parts → Regs
regs_of parts = parts.device.regs

-- the device's lines with the armed group redone, if they are exposed
abbrev pub lines_redone : Parts → Option (List Line)
lines_redone parts = redone_told parts.device.regs.group.items parts.device.lines

-- ---- the whole

abbrev pub AreTrusted : Setup → Parts → Type 0
AreTrusted setup parts = IsTrusted setup parts.engine (regs_of parts) parts.ledger

-- the lines are exposed, and sound
abbrev pub AreSound : Setup → Parts → Type 0
AreSound setup parts =
    MatchOption parts.device.lines ⊥
    (λ lines. IsSound setup parts.engine lines (regs_of parts) parts.ledger)

-- the lines are exposed, and durable
abbrev pub AreDurable : Setup → Parts → Type 0
AreDurable setup parts =
    MatchOption parts.device.lines ⊥ (λ lines. IsDurable setup lines (regs_of parts) parts.ledger)

-- ---- place by place, if the lines are exposed

-- the last seal of data line a is stored
abbrev pub HoldsSeal : Shape → Parts → ℕ → Type 0
HoldsSeal g parts a = IfSome (lines_redone parts) (λ lines. IsSealStored g lines parts.ledger.marks a)

-- data line a
abbrev pub data_line_in : Parts → ℕ → Option Line
data_line_in parts a = option_map (λ lines. line_at lines a) (lines_redone parts)

-- its slot of its tag line
abbrev pub tag_slot_in : Shape → Parts → ℕ → Option (List ℕ)
tag_slot_in g parts a =
    option_map (λ lines. tag_slot (line_at lines (layout.tag_line g a)) a) (lines_redone parts)

-- metadata line x
abbrev pub meta_line_in : Shape → Parts → ℕ → Option Line
meta_line_in g parts x = option_map (λ lines. stored_meta g lines x) (lines_redone parts)

-- what is stored of a page's counter block
abbrev pub HoldsCounters : Setup → Parts → ℕ → Type 0
HoldsCounters setup parts page =
    IfSome (lines_redone parts)
    (λ lines. IsCounterStored setup lines (regs_of parts).loss parts.ledger.truth page)

-- metadata line x is true on the device, or cached dirty
abbrev pub HoldsMeta : Shape → Parts → ℕ → Type 0
HoldsMeta g parts x =
    IfSome (lines_redone parts) (λ lines. IsTrueOrDirty g parts.engine.cache lines parts.ledger.truth x)
