-- How the chip, the device and the ledger belong together.
-- Anchored and Trusted don't mention the device's lines, so tampering can't end them.
use Rattle.std.specs.Prelude.{ℕ, ◌≡◌, ◌<◌, ◌+◌, Bool, true, false, ◌⊎◌, List, [], map, slice_index, Some, option_map, IsTrue, IsNone, All, ⊤}
use Rattle.pmem_base.specs.declared.lines.Line.{Line}
use Rattle.pmem_base.specs.declared.registers.Progress.{Progress}
use Rattle.pmem_base.specs.declared.registers.Regs.{Regs}
use Rattle.pmem_base.specs.declared.answers.Mark.{Mark}
use Rattle.pmem_base.specs.declared.answers.Mark.TheVariants.{Begin, Seal}
use Rattle.pmem_base.specs.Shape.{Shape, is_lazy, named_levels, counter_window}
use Rattle.pmem_base.specs.Layout as layout
use Rattle.pmem_base.specs.Lines.{line_at, tag_slot}
use Rattle.pmem_base.specs.Marks.{last_seal, IsFresh}
use Rattle.pmem_base.specs.Registers.{not_done, old_major, IsValidRegs}
use Rattle.suite.specs.Formulas.{Formulas}
use Rattle.split_counters.specs.Blocks.{unpacked, IsStoredBlock}
use Rattle.bonsai_tree.specs.Positions.{level_of, counter_position}
use Rattle.bonsai_tree.specs.Nodes.{IsHashTree}
use Rattle.board.specs.Device.{AreLinesOf}
use Rattle.seal_ledger.specs.Ledger.{LedgerState, IsOfShape}
use Rattle.commit_regs.specs.Groups.{redone}
use Rattle.shadow_tables.specs.Entries.{slot_entry, is_doubted_in, shadow_of}
use Rattle.meta_cache.specs.declared.slot.Slot.{Slot}
use Rattle.meta_cache.specs.Banks.{set_of, set_index, slot_number, is_cached_dirty}
use Rattle.suite.specs.Setup.{Setup}
use Rattle.plain_model.specs.View.{OpenPage, view_of}
use Rattle.pmem_engine.specs.Engine.{ChipState}
use Rattle.pmem_engine.specs.Truth.{true_block, true_counter}

-- ---- anchored

-- a seal's tag is that of its line, counter and cipher
abbrev pub IsSealTagged : Formulas → Mark → Type 0
IsSealTagged f (Begin page) = ⊤
IsSealTagged f (Seal at ctr cipher tag) = f.tag_of at ctr cipher ≡ tag

-- the lines that a register holds have the true minor 0, and the true major is its old one plus 1
pub record IsHeldBack (g : Shape) (truth : List Line) (register : Progress) : Type 0 where
  pub next_major : old_major register + 1 ≡ (true_block g truth register.page).major
  pub minors_zero :
      All (λ i. slice_index (true_block g truth register.page).minors i ≡ 0) (not_done register)

-- an open page as its register shows it
abbrev pub register_page : Progress → OpenPage
register_page register =
    record { page = register.page; major = old_major register + 1; left = not_done register }

-- the chip's registers belong to the ledger
pub record IsAnchored (setup : Setup) (regs : Regs) (ledger : LedgerState) : Type 0 where
  pub of_shape : IsOfShape setup.shape ledger
  pub truth_is_tree : IsHashTree setup.shape setup.formulas ledger.truth
  pub root : regs.root ≡ setup.formulas.digest_of 0 (line_at ledger.truth 0)
  pub last_counters :
      (a : ℕ) → a < layout.data_lines setup.shape
      → option_map (λ seal. seal.ctr) (last_seal ledger.marks a)
      ≡ Some (true_counter setup.shape regs.progress.items ledger.truth a)
  pub seals_tagged : All (IsSealTagged setup.formulas) ledger.marks
  pub valid_regs : IsValidRegs setup.shape regs
  pub held_back : All (IsHeldBack setup.shape ledger.truth) regs.progress.items
  pub fresh : IsFresh ledger.marks
  pub open_pages :
      (view_of setup.shape ledger.marks).open_pages ≡ map register_page regs.progress.items
  pub no_exhibit : IsNone ledger.exhibit

-- ---- trusted

-- a cached line is the true one, in the bank of its level and in its set
pub record IsTrueSlot (g : Shape) (truth : List Line) (bank set : ℕ) (slot : Slot) : Type 0 where
  pub on_tree : slot.position < layout.meta_lines g
  pub true_line : slot.line ≡ line_at truth slot.position
  pub its_bank : level_of slot.position ≡ bank
  pub its_set : set_index g slot.position ≡ set

pub record IsTrusted (setup : Setup) (engine : ChipState) (regs : Regs) (ledger : LedgerState) :
    Type 0 where
  pub its_shape : engine.shape ≡ setup.shape
  pub anchored : IsAnchored setup regs ledger
  pub no_group : regs.group.items ≡ []
  pub cached_true :
      (bank set : ℕ) → All (IsTrueSlot setup.shape ledger.truth bank set) (set_of engine.cache bank set)

-- ---- durable

-- data line a, and its slot of its tag line, are those of its last seal
pub record IsSealStored (g : Shape) (lines : List Line) (marks : List Mark) (a : ℕ) : Type 0 where
  pub cipher : option_map (λ seal. seal.cipher) (last_seal marks a) ≡ Some (line_at lines a)
  pub tag :
      option_map (λ seal. seal.tag) (last_seal marks a)
      ≡ Some (tag_slot (line_at lines (layout.tag_line g a)) a)

-- metadata line x among a device's lines
abbrev pub stored_meta : Shape → List Line → ℕ → Line
stored_meta g lines x = line_at lines (layout.meta_line g x)

-- whether recovery has to make position x again, over a device's lines: its level is lazy, and, if there are shadow
-- tables, an entry of its level's table names it
abbrev pub is_doubted : Shape → List Line → ℕ → Bool
is_doubted g lines x = is_doubted_in g (shadow_of g lines) (level_of x) x

-- what a counter block on the device keeps of the true one
abbrev pub IsCounterStored : Setup → List Line → ℕ → List Line → ℕ → Type 0
IsCounterStored setup lines loss truth page =
    IsStoredBlock (counter_window setup.shape loss)
    (unpacked (stored_meta setup.shape lines (counter_position setup.shape page)))
    (true_block setup.shape truth page)

-- what recovery can rest on, over a device's lines with no group left to redo
pub record IsMendable (setup : Setup) (lines : List Line) (regs : Regs) (ledger : LedgerState) :
    Type 0 where
  pub anchored : IsAnchored setup regs ledger
  pub seals_stored :
      (a : ℕ) → a < layout.data_lines setup.shape → IsSealStored setup.shape lines ledger.marks a
  pub true_or_doubted :
      (x : ℕ) → x < layout.meta_lines setup.shape
      → (stored_meta setup.shape lines x ≡ line_at ledger.truth x)
      ⊎ IsTrue (is_doubted setup.shape lines x)
  pub counters_stored :
      (page : ℕ) → page < layout.pages setup.shape
      → IsCounterStored setup lines regs.loss ledger.truth page

-- the device is whole, and recovery can mend it once the armed group is redone
pub record IsDurable (setup : Setup) (lines : List Line) (regs : Regs) (ledger : LedgerState) :
    Type 0 where
  pub device_whole : AreLinesOf (layout.device_lines setup.shape) lines
  pub mendable : IsMendable setup (redone regs.group.items lines) regs ledger

-- ---- sound

-- a dirty slot is of a lazy level, and, if there are shadow tables, its entry names its position
pub record IsDirtyNamed (g : Shape) (shadow : List Line) (bank set : ℕ) (slot : Slot) : Type 0 where
  pub lazy : slot.dirty ≡ true → IsTrue (is_lazy g bank)
  pub named :
      slot.dirty ≡ true → bank < named_levels g
      → slot_entry g shadow bank (slot_number g set slot) ≡ slot.position + 1

pub record IsSound (setup : Setup) (engine : ChipState) (lines : List Line) (regs : Regs)
    (ledger : LedgerState) : Type 0 where
  pub trusted : IsTrusted setup engine regs ledger
  pub durable : IsDurable setup lines regs ledger
  pub true_unless_dirty :
      (x : ℕ) → x < layout.meta_lines setup.shape
      → is_cached_dirty setup.shape engine.cache (level_of x) x ≡ false
      → stored_meta setup.shape lines x ≡ line_at ledger.truth x
  pub dirty_named :
      (bank set : ℕ) → All (IsDirtyNamed setup.shape engine.mirror bank set) (set_of engine.cache bank set)
  pub mirror_true : engine.mirror ≡ shadow_of setup.shape lines
