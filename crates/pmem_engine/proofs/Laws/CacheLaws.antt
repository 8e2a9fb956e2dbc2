-- A true line is written back, and the cache changes: blocks become clean, give way, or come in.
use Rattle.std.proofs.Common.{rules, ◌≡◌, ◌≢◌, ℕ, ◌+◌, ◌*◌, ◌<◌, true, false, List, [], length, sym, ap, subst, subst₂, ◌∙◌, ◌⊎◌, inl, inr}
use Rattle.std.specs.Prelude.{IsTrue}
use Rattle.std.specs.List.{All, Contains}
use Rattle.std.proofs.lemmas.Bool.{cases_eq, cases_Bool, false≢true}
use Rattle.pmem_base.specs.declared.lines.Line.{Line}
use Rattle.pmem_base.specs.declared.registers.Regs.{Regs}
use Rattle.pmem_base.specs.Shape.{Shape}
use Rattle.pmem_base.specs.Layout.{device_lines, meta_lines}
use Rattle.pmem_base.specs.Lines.{line_at, IsLine}
use Rattle.pmem_base.proofs.Regions.{meta_before_shadow}
use Rattle.pmem_base.proofs.LineLemmas.{IsLine-line_at}
use Rattle.bonsai_tree.specs.Positions.{level_of}
use Rattle.board.proofs.LineLemmas.{AreLinesOf-set}
use Rattle.seal_ledger.specs.Ledger.{LedgerState}
use Rattle.shadow_tables.specs.Entries.{slot_entry}
use Rattle.shadow_tables.proofs.ShadowLines.{shadow_of-set_before}
use Rattle.meta_cache.specs.declared.slot.Slot.{Slot}
use Rattle.meta_cache.specs.KeptSlots.{IsFromBefore, IsStillDirty}
use Rattle.meta_cache.specs.Banks.{Banks, set_of, set_index, is_cached_dirty}
use Rattle.meta_cache.proofs.SlotLemmas.{All-stands, All-from_stands, dirty_slot, is_cached_dirty_from, is_cached_dirty_still}
use Rattle.suite.specs.Setup.{Setup}
use Rattle.pmem_engine.specs.Engine.{ChipState}
use Rattle.pmem_engine.specs.Invariants.{IsAnchored, IsTrueSlot, IsTrusted, stored_meta, is_doubted, IsMendable, IsDurable, IsDirtyNamed, IsSound}
use Rattle.pmem_engine.specs.Steps.{with_true_line}
use Rattle.pmem_engine.specs.Recached.{IsTrueOrDirty, WasCleaned, IsNewlyCached, IsRecached}
use Rattle.pmem_engine.proofs.Laws.DeviceRegions.{is_doubted-set_meta, IsSealStored-set_meta}
use Rattle.pmem_engine.proofs.Laws.CounterBlocks.{IsCounterStored-written_back}
use Rattle.pmem_engine.proofs.Laws.MendableLaws.{IsMendable-no_group, IsDurable-no_group}

-- ---- a true line is written to its place

-- the line is then the true one, ..
pub stored_meta-true_line : (g : Shape) (lines truth : List Line) (x : ℕ) → length lines ≡ device_lines g
    → x < meta_lines g → stored_meta g (with_true_line g lines truth x) x ≡ line_at truth x
stored_meta-true_line g lines truth x size h = search rules

-- .. and each that was true before still is
pub stays_true-true_line : (g : Shape) (lines truth : List Line) (x y : ℕ) → length lines ≡ device_lines g
    → x < meta_lines g → stored_meta g lines y ≡ line_at truth y
    → stored_meta g (with_true_line g lines truth x) y ≡ line_at truth y
stays_true-true_line g lines truth x y size h stored = search rules

pub IsMendable-true_line_written : (setup : Setup) (lines : List Line) (regs : Regs) (ledger : LedgerState) (x : ℕ)
    → length lines ≡ device_lines setup.shape → x < meta_lines setup.shape → IsMendable setup lines regs ledger
    → IsMendable setup (with_true_line setup.shape lines ledger.truth x) regs ledger
IsMendable-true_line_written setup lines regs ledger x size h before =
    record {
      anchored = before.anchored;
      seals_stored = search (rules, IsSealStored-set_meta);
      true_or_doubted = λ y hy. at y (before.true_or_doubted y hy);
      counters_stored =
          λ page hp.
          IsCounterStored-written_back setup lines regs.loss ledger.truth page x size h (before.counters_stored page hp);
    }
  where
    at : (y : ℕ)
        → (stored_meta setup.shape lines y ≡ line_at ledger.truth y) ⊎ IsTrue (is_doubted setup.shape lines y)
        → (stored_meta setup.shape (with_true_line setup.shape lines ledger.truth x) y ≡ line_at ledger.truth y)
        ⊎ IsTrue (is_doubted setup.shape (with_true_line setup.shape lines ledger.truth x) y)
    at y (inl stored) = inl (stays_true-true_line setup.shape lines ledger.truth x y size h stored)
    at y (inr named) = inr (is_doubted-set_meta setup.shape lines x (line_at ledger.truth x) y h ∙ named)

-- a true line is one of 64 bytes
pub IsLine-true : (setup : Setup) (regs : Regs) (ledger : LedgerState) (x : ℕ) → IsAnchored setup regs ledger
    → IsLine (line_at ledger.truth x)
IsLine-true setup regs ledger x anchored = IsLine-line_at ledger.truth x anchored.of_shape.truth_lines

-- A block's true line is written to its place while no group is armed: Durable stays, ..
pub IsDurable-written_back : (setup : Setup) (lines : List Line) (regs : Regs) (ledger : LedgerState) (x : ℕ)
    → IsDurable setup lines regs ledger → regs.group.items ≡ [] → x < meta_lines setup.shape
    → IsDurable setup (with_true_line setup.shape lines ledger.truth x) regs ledger
IsDurable-written_back setup lines regs ledger x durable empty h = search (rules, AreLinesOf-set, IsMendable-no_group, IsDurable-no_group, IsMendable-true_line_written, IsLine-true)

-- .. and so does Sound, of the engine as it is.
pub IsSound-written_back : (setup : Setup) (engine : ChipState) (lines : List Line) (regs : Regs)
    (ledger : LedgerState) (x : ℕ) → IsSound setup engine lines regs ledger → x < meta_lines setup.shape
    → IsSound setup engine (with_true_line setup.shape lines ledger.truth x) regs ledger
IsSound-written_back setup engine lines regs ledger x sound h =
    record {
      trusted = sound.trusted;
      durable = IsDurable-written_back setup lines regs ledger x sound.durable sound.trusted.no_group h;
      true_unless_dirty =
          λ y within clean.
          stays_true-true_line setup.shape lines ledger.truth x y sound.durable.device_whole.count h
          (sound.true_unless_dirty y within clean);
      dirty_named = sound.dirty_named;
      mirror_true = search (rules, shadow_of-set_before, meta_before_shadow);
    }

-- ---- the cache changes

-- The engine stays trusted, whatever the device holds.
pub IsTrusted-recached : (setup : Setup) (old new : ChipState) (regs : Regs) (ledger : LedgerState)
    → IsTrusted setup old regs ledger → IsRecached setup old new ledger → IsTrusted setup new regs ledger
IsTrusted-recached setup old new regs ledger trusted recached =
    record {
      its_shape = recached.shape ∙ trusted.its_shape;
      anchored = trusted.anchored;
      no_group = trusted.no_group;
      cached_true =
          λ bank set.
          All-from_stands (IsTrueSlot setup.shape ledger.truth bank set) (set_of new.cache bank set)
          (λ slot stands. true_slot bank set slot (recached.slots bank set slot stands));
    }
  where
    true_slot : (bank set : ℕ) (slot : Slot)
        → IsFromBefore (set_of old.cache bank set) slot ⊎ IsNewlyCached setup.shape ledger.truth bank set slot
        → IsTrueSlot setup.shape ledger.truth bank set slot
    true_slot bank set slot v3 = search rules

-- Sound stays while blocks are used, cleaned once they are true on the device, dropped, or fetched.
pub IsSound-recached : (setup : Setup) (old new : ChipState) (lines : List Line) (regs : Regs)
    (ledger : LedgerState) → IsSound setup old lines regs ledger → IsRecached setup old new ledger
    → ((x : ℕ) → x < meta_lines setup.shape → WasCleaned setup.shape old.cache new.cache x
    → stored_meta setup.shape lines x ≡ line_at ledger.truth x)
    → IsSound setup new lines regs ledger
IsSound-recached setup old new lines regs ledger sound recached true_if_cleaned =
    record {
      trusted = IsTrusted-recached setup old new regs ledger sound.trusted recached;
      durable = sound.durable;
      true_unless_dirty =
          λ x h clean. stored x h clean (cases_Bool (is_cached_dirty setup.shape old.cache (level_of x) x));
      dirty_named =
          λ bank set.
          subst (λ mirror. All (IsDirtyNamed setup.shape mirror bank set) (set_of new.cache bank set))
          (sym recached.mirror)
          (All-from_stands (IsDirtyNamed setup.shape old.mirror bank set) (set_of new.cache bank set)
          (λ slot stands. named bank set slot (recached.slots bank set slot stands)));
      mirror_true = recached.mirror ∙ sound.mirror_true;
    }
  where
    stored : (x : ℕ) → x < meta_lines setup.shape
        → is_cached_dirty setup.shape new.cache (level_of x) x ≡ false
        → (is_cached_dirty setup.shape old.cache (level_of x) x ≡ true)
        ⊎ (is_cached_dirty setup.shape old.cache (level_of x) x ≡ false)
        → stored_meta setup.shape lines x ≡ line_at ledger.truth x
    stored x h clean (inl dirty) = true_if_cleaned x h (dirty, clean)
    stored x h clean (inr before) = sound.true_unless_dirty x h before

    named : (bank set : ℕ) (slot : Slot)
        → IsFromBefore (set_of old.cache bank set) slot ⊎ IsNewlyCached setup.shape ledger.truth bank set slot
        → IsDirtyNamed setup.shape old.mirror bank set slot
    named bank set slot (inl from) =
        let was : IsDirtyNamed setup.shape old.mirror bank set from.before =
        All-stands (IsDirtyNamed setup.shape old.mirror bank set) (set_of old.cache bank set) from.before (sound.dirty_named bank set)
        from.stands in
        record {
          lazy = λ dirty. was.lazy (from.dirty dirty);
          named = λ dirty low.
              subst₂ (λ way x. slot_entry setup.shape old.mirror bank (set * setup.shape.ways + way) ≡ x + 1) from.way from.position
              (was.named (from.dirty dirty) low);
        }
    named bank set slot (inr came) =
        record {
          lazy = λ dirty. absurd (false≢true (sym came.clean ∙ dirty));
          named = λ dirty low. absurd (false≢true (sym came.clean ∙ dirty));
        }

-- A dirty block is written back, and its slot is then clean or gives way; the other dirty blocks stay.
pub IsSound-cleaned : (setup : Setup) (old new : ChipState) (lines : List Line) (regs : Regs)
    (ledger : LedgerState) (x : ℕ) → IsSound setup old lines regs ledger → x < meta_lines setup.shape
    → IsRecached setup old new ledger
    → ((y : ℕ) → y < meta_lines setup.shape → y ≢ x → ¬ WasCleaned setup.shape old.cache new.cache y)
    → IsSound setup new (with_true_line setup.shape lines ledger.truth x) regs ledger
IsSound-cleaned setup old new lines regs ledger x sound h recached kept =
    IsSound-recached setup old new (with_true_line setup.shape lines ledger.truth x) regs ledger
    (IsSound-written_back setup old lines regs ledger x sound h) recached
    (λ y hy cleaned. at y hy cleaned (cases_eq y x))
  where
    at : (y : ℕ) → y < meta_lines setup.shape → WasCleaned setup.shape old.cache new.cache y → (y ≡ x) ⊎ (y ≡ x → ⊥)
        → stored_meta setup.shape (with_true_line setup.shape lines ledger.truth x) y ≡ line_at ledger.truth y
    at y hy cleaned v3 = search rules

-- ---- no dirty block is lost, or none but x

pub not_cleaned_other : (setup : Setup) (old new : ChipState) (x y : ℕ) → y ≢ x
    → ((bank set : ℕ) (slot : Slot) → Contains (set_of old.cache bank set) slot → slot.dirty ≡ true
    → slot.position ≢ x → IsStillDirty (set_of new.cache bank set) slot)
    → ¬ WasCleaned setup.shape old.cache new.cache y
not_cleaned_other setup old new x y apart still cleaned = search (rules, false≢true, is_cached_dirty_still)

-- ---- each metadata line by itself: true on the device or cached dirty, over any lines

-- where the device is sound it is
pub IsTrueOrDirty-sound : (setup : Setup) (engine : ChipState) (lines : List Line) (regs : Regs)
    (ledger : LedgerState) (x : ℕ) → IsSound setup engine lines regs ledger → x < meta_lines setup.shape
    → IsTrueOrDirty setup.shape engine.cache lines ledger.truth x
IsTrueOrDirty-sound setup engine lines regs ledger x sound h = search rules

-- a block is written back and cleaned, and no other dirty block is lost
pub IsTrueOrDirty-cleaned : (g : Shape) (old new : Banks) (lines truth : List Line) (x y : ℕ)
    → length lines ≡ device_lines g → x < meta_lines g → (y ≢ x → ¬ WasCleaned g old new y)
    → IsTrueOrDirty g old lines truth y → IsTrueOrDirty g new (with_true_line g lines truth x) truth y
IsTrueOrDirty-cleaned g old new lines truth x y size h kept before = search rules

-- ---- what is cached dirty afterwards was so before

pub dirty_before-recached : (setup : Setup) (old new : ChipState) (ledger : LedgerState) (bank x : ℕ)
    → IsRecached setup old new ledger → is_cached_dirty setup.shape new.cache bank x ≡ true
    → is_cached_dirty setup.shape old.cache bank x ≡ true
dirty_before-recached setup old new ledger bank x recached dirty =
    by_slot (dirty_slot setup.shape new.cache bank x dirty)
  where
    from : (slot : Slot) → slot.position ≡ x → slot.dirty ≡ true
        → IsFromBefore (set_of old.cache bank (set_index setup.shape x)) slot
        ⊎ IsNewlyCached setup.shape ledger.truth bank (set_index setup.shape x) slot
        → is_cached_dirty setup.shape old.cache bank x ≡ true
    from slot here its_dirty (inl kept) =
        let same : kept.before.position ≡ x = kept.position ∙ here in
        ap (is_cached_dirty setup.shape old.cache bank) (sym same)
        ∙ is_cached_dirty_from setup.shape old.cache bank kept.before
        (subst (λ y. Contains (set_of old.cache bank (set_index setup.shape y)) kept.before) (sym same) kept.stands)
        (kept.dirty its_dirty)
    from slot here its_dirty (inr came) = absurd (false≢true (sym came.clean ∙ its_dirty))

    by_slot : ((slot : Slot) × Contains (set_of new.cache bank (set_index setup.shape x)) slot × (slot.position ≡ x)
        × (slot.dirty ≡ true)) → is_cached_dirty setup.shape old.cache bank x ≡ true
    by_slot s = from s.0 s.2 s.3 (recached.slots bank (set_index setup.shape x) s.0 s.1)
