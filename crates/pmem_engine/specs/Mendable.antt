-- What recovery rests on and what it leaves: parts of a device that can be mended, an emptied group, and the engine that starts again.
use Rattle.std.specs.Prelude.{ℕ, ◌≡◌, ◌<◌, false, List, replicate}
use Rattle.pmem_base.specs.declared.lines.Line.{Line}
use Rattle.pmem_base.specs.declared.registers.Regs.{Regs}
use Rattle.pmem_base.specs.Shape.{Shape}
use Rattle.pmem_base.specs.Layout as layout
use Rattle.pmem_base.specs.Lines.{line_at, zero_line}
use Rattle.seal_ledger.specs.Ledger.{LedgerState}
use Rattle.meta_cache.specs.State.{empty_banks}
use Rattle.suite.specs.Setup.{Setup}
use Rattle.pmem_engine.specs.Engine.{EngineState}
use Rattle.pmem_engine.specs.Invariants.{IsAnchored, IsSealStored, IsCounterStored, stored_meta}

-- what a line's trials rest on: its own seal, and its page's counter block
pub record IsLineMendable (setup : Setup) (lines : List Line) (regs : Regs) (ledger : LedgerState)
    (a : ℕ) : Type 0 where
  pub on_device : a < layout.data_lines setup.shape
  pub anchored : IsAnchored setup regs ledger
  pub seal_stored : IsSealStored setup.shape lines ledger.marks a
  pub counter_stored : IsCounterStored setup lines regs.loss ledger.truth (layout.page_of a)

-- every metadata line on the device is the true one
pub record IsAllTrue (setup : Setup) (lines : List Line) (ledger : LedgerState) : Type 0 where
  pub true_lines :
      (x : ℕ) → x < layout.meta_lines setup.shape
      → stored_meta setup.shape lines x ≡ line_at ledger.truth x

-- the shadow lines on the device are zero
pub record IsShadowZero (setup : Setup) (lines : List Line) : Type 0 where
  pub zero_lines :
      (n : ℕ) → n < layout.shadow_lines setup.shape
      → line_at lines (layout.shadow_line setup.shape n) ≡ zero_line

-- the engine that starts again over zero shadow lines
abbrev pub new_engine : Shape → EngineState
new_engine g =
    record {
      shape = g;
      cache = empty_banks g;
      mirror = replicate (layout.shadow_lines g) zero_line;
      down = false;
    }
