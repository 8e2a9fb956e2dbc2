-- How the engine's cache and its copy of the shadow lines change.
use Rattle.std.specs.Prelude.{ℕ, ◌≡◌, ◌⊎◌, true, false, List, [], slice_set}
use Rattle.pmem_base.specs.declared.lines.Line.{Line}
use Rattle.pmem_base.specs.Shape.{Shape}
use Rattle.pmem_base.specs.Lines.{line_at}
use Rattle.bonsai_tree.specs.Positions.{level_of, is_on_path}
use Rattle.meta_cache.specs.declared.slot.Slot.{Slot}
use Rattle.meta_cache.specs.Banks.{Banks, set_of, is_cached_dirty}
use Rattle.meta_cache.specs.KeptSlots.{IsFromBefore}
use Rattle.std.specs.List.{Contains}
use Rattle.seal_ledger.specs.Ledger.{LedgerState}
use Rattle.shadow_tables.specs.Entries.{shadow_of}
use Rattle.suite.specs.Setup.{Setup}
use Rattle.pmem_engine.specs.Engine.{ChipState}
use Rattle.pmem_engine.specs.Invariants.{IsTrueSlot, stored_meta}

-- metadata line x is the true one on the device, or cached dirty
abbrev pub IsTrueOrDirty : Shape → Banks → List Line → List Line → ℕ → Type 0
IsTrueOrDirty g cache lines truth x =
    (stored_meta g lines x ≡ line_at truth x) ⊎ (is_cached_dirty g cache (level_of x) x ≡ true)

-- position x was cached dirty and is so no longer
abbrev pub WasCleaned : Shape → Banks → Banks → ℕ → Type 0
WasCleaned g old new x =
    (is_cached_dirty g old (level_of x) x ≡ true) × (is_cached_dirty g new (level_of x) x ≡ false)

-- a slot that has come in, clean and true
pub record IsNewlyCached (g : Shape) (truth : List Line) (bank set : ℕ) (slot : Slot) : Type 0 where
  pub its_own : IsTrueSlot g truth bank set slot
  pub clean : slot.dirty ≡ false

-- blocks are used, cleaned, dropped or placed: each slot was there before, or has come in
pub record IsRecached (setup : Setup) (old new : ChipState) (ledger : LedgerState) : Type 0 where
  pub shape : new.shape ≡ old.shape
  pub mirror : new.mirror ≡ old.mirror
  pub slots :
      (bank set : ℕ) (slot : Slot) → Contains (set_of new.cache bank set) slot
      → IsFromBefore (set_of old.cache bank set) slot ⊎ IsNewlyCached setup.shape ledger.truth bank set slot

-- the engine's copy of shadow line n is written, and nothing else of it changes
pub record IsMirrorWritten (old new : ChipState) (n : ℕ) (line : Line) : Type 0 where
  pub mirror : new.mirror ≡ slice_set old.mirror n line
  pub shape : new.shape ≡ old.shape
  pub cache : new.cache ≡ old.cache

-- a slot as it was, or with its block's new true line
pub record IsSlotOfStoredPath (g : Shape) (truth : List Line) (page : ℕ) (set : List Slot) (slot : Slot) : Type 0 where
  pub before : Slot
  pub stands : Contains set before
  pub way : before.way ≡ slot.way
  pub position : before.position ≡ slot.position
  pub off_path :
      is_on_path g page slot.position ≡ false
      → (before.line ≡ slot.line) × (slot.dirty ≡ true → before.dirty ≡ true)
  pub on_path : is_on_path g page slot.position ≡ true → slot.line ≡ line_at truth slot.position

-- the engine that starts again: nothing cached, its copy of the shadow lines as they are
pub record IsNewEngine (setup : Setup) (engine : ChipState) (lines : List Line) : Type 0 where
  pub its_shape : engine.shape ≡ setup.shape
  pub empty_cache : (bank set : ℕ) → set_of engine.cache bank set ≡ []
  pub its_mirror : engine.mirror ≡ shadow_of setup.shape lines
