-- Shadow entries and dirty blocks: what a sound engine's mirror names, and a shadow line is written.
use Rattle.std.proofs.lemmas.Grind.{common_steps}
use Rattle.std.proofs.Common.{arith, rules, ◌≡◌, ℕ, ◌+◌, ◌<◌, Bool, true, false, List, refl, sym, ap, subst, subst₂, ◌∙◌, ◌⊎◌, inl, inr}
use Rattle.std.specs.Prelude.{IsTrue, slice_set, ◌&&◌, ◌||◌, not}
use Rattle.std.specs.List.{All, Contains}
use Rattle.std.proofs.lemmas.Bool.{cases_eq, cases_Bool, and_from, ltb-true}
use Rattle.pmem_base.specs.declared.lines.Line.{Line}
use Rattle.pmem_base.specs.declared.registers.Regs.{Regs}
use Rattle.pmem_base.specs.Shape.{Shape, lazy_levels, is_lazy}
use Rattle.pmem_base.proofs.LayoutLemmas.{named-all}
use Rattle.pmem_base.specs.Layout.{device_lines, meta_lines, shadow_line}
use Rattle.pmem_base.specs.Lines.{line_at, IsLine}
use Rattle.bonsai_tree.specs.Positions.{level_of}
use Rattle.board.proofs.LineLemmas.{AreLinesOf-set}
use Rattle.seal_ledger.specs.Ledger.{LedgerState}
use Rattle.shadow_tables.specs.Entries.{slot_entry, is_named_in, shadow_of}
use Rattle.shadow_tables.specs.Naming.{Names}
use Rattle.shadow_tables.proofs.EntryLemmas.{is_named_in-slot}
use Rattle.shadow_tables.proofs.ShadowLines.{shadow_of-set}
use Rattle.meta_cache.specs.declared.slot.Slot.{Slot}
use Rattle.meta_cache.specs.Banks.{Banks, set_of, set_index, slot_number, is_cached_dirty, IsInPlace, IsBanksOf}
use Rattle.meta_cache.proofs.SlotLemmas.{All-stands, All-from_stands, dirty_slot, same_slot, in_place_of, slot_number_within}
use Rattle.suite.specs.Setup.{Setup}
use Rattle.pmem_engine.specs.Engine.{ChipState}
use Rattle.pmem_engine.specs.Invariants.{IsTrusted, stored_meta, is_doubted, IsMendable, IsDirtyNamed, IsSound}
use Rattle.pmem_engine.specs.Recached.{IsMirrorWritten}
use Rattle.pmem_engine.specs.Named.{named_slot_line, IsSlotInShadow}
use Rattle.pmem_engine.proofs.Laws.DeviceRegions.{stored_meta-set_shadow}
use Rattle.pmem_engine.proofs.Laws.MendableLaws.{IsMendable-no_group, IsDurable-no_group}

-- ---- a slot whose entry names it

-- a position whose slot is named is named
pub is_named-slot : (g : Shape) (cache : Banks) (shadow : List Line) (bank set : ℕ) (slot : Slot)
    → IsBanksOf g cache → Contains (set_of cache bank set) slot → IsSlotInShadow g shadow bank set slot
    → is_named_in g shadow bank slot.position ≡ true
is_named-slot g cache shadow bank set slot form stands named = search (rules, is_named_in-slot, in_place_of, slot_number_within)

-- a position that is cached dirty is named, where each dirty slot is
pub dirty_is_named : (g : Shape) (cache : Banks) (lines : List Line) (x : ℕ) → IsBanksOf g cache
    → ((bank set : ℕ) → All (IsDirtyNamed g (shadow_of g lines) bank set) (set_of cache bank set))
    → is_cached_dirty g cache (level_of x) x ≡ true → IsTrue (is_doubted g lines x)
dirty_is_named g cache lines x form named dirty =
    from (dirty_slot g cache (level_of x) x dirty)
  where
    by : (tables : Bool) → g.shadow ≡ tables → IsTrue (is_lazy g (level_of x))
        → (tables ≡ true → is_named_in g (shadow_of g lines) (level_of x) x ≡ true)
        → (is_lazy g (level_of x) && (not g.shadow || is_named_in g (shadow_of g lines) (level_of x) x)) ≡ true
    by false off lazy its =
        and_from (is_lazy g (level_of x)) _ lazy (ap (λ b. not b || is_named_in g (shadow_of g lines) (level_of x) x) off)
    by true on lazy its =
        and_from (is_lazy g (level_of x)) _ lazy
        (ap (λ b. not b || is_named_in g (shadow_of g lines) (level_of x) x) on ∙ its refl)

    from : (slot : Slot) × Contains (set_of cache (level_of x) (set_index g x)) slot × (slot.position ≡ x) × (slot.dirty ≡ true)
        → IsTrue (is_doubted g lines x)
    from (slot, stands, its, was) =
        let own : IsDirtyNamed g (shadow_of g lines) (level_of x) (set_index g x) slot =
        All-stands (IsDirtyNamed g (shadow_of g lines) (level_of x) (set_index g x)) (set_of cache (level_of x) (set_index g x)) slot
        (named (level_of x) (set_index g x)) stands in
        by g.shadow refl (own.lazy was)
        (λ tables.
        ap (is_named_in g (shadow_of g lines) (level_of x)) (sym its)
        ∙ is_named-slot g cache (shadow_of g lines) (level_of x) (set_index g x) slot form stands
        (own.named was (omega (arith, named-all g tables, ltb-true (level_of x) (lazy_levels g) (own.lazy was)))))

-- a block that isn't true on the device is cached dirty, and so named
pub true_or_named_from_sound : (g : Shape) (cache : Banks) (lines truth : List Line) → IsBanksOf g cache
    → ((x : ℕ) → x < meta_lines g → is_cached_dirty g cache (level_of x) x ≡ false
    → stored_meta g lines x ≡ line_at truth x)
    → ((bank set : ℕ) → All (IsDirtyNamed g (shadow_of g lines) bank set) (set_of cache bank set))
    → (x : ℕ) → x < meta_lines g
    → (stored_meta g lines x ≡ line_at truth x) ⊎ IsTrue (is_doubted g lines x)
true_or_named_from_sound g cache lines truth form stored named x h = search (rules, cases_Bool, dirty_is_named)

-- ---- a slot's entry comes to name its position

-- every slot of the cache that was named still is
pub IsSlotNamed-kept : (g : Shape) (cache : Banks) (old new : List Line) (bank set : ℕ) (slot : Slot)
    (bank' set' : ℕ) (other : Slot) → IsBanksOf g cache → Contains (set_of cache bank set) slot
    → Contains (set_of cache bank' set') other
    → Names g old new bank (slot_number g set slot) slot.position → IsSlotInShadow g old bank' set' other
    → IsSlotInShadow g new bank' set' other
IsSlotNamed-kept g cache old new bank set slot bank' set' other form stands stands' names named =
    by_cases (cases_eq bank bank') (cases_eq (slot_number g set slot) (slot_number g set' other))
  where
    place' : IsInPlace g bank' set' other
    place' = in_place_of g cache bank' set' other form stands'

    apart : ((bank' ≡ bank) × (slot_number g set' other ≡ slot_number g set slot) → ⊥)
        → IsSlotInShadow g new bank' set' other
    apart differ =
        names.others bank' (slot_number g set' other)
        (slot_number_within g set' other place'.its_set place'.its_way) differ
        ∙ named

    one : bank ≡ bank' → slot_number g set slot ≡ slot_number g set' other → IsSlotInShadow g new bank' set' other
    one banks numbers =
        let same : slot ≡ other = same_slot g cache bank set bank' set' slot other form stands stands' banks numbers in
        subst₂ (λ b n. slot_entry g new b n ≡ other.position + 1) banks numbers
        (names.entry ∙ ap (λ (s : Slot). s.position + 1) same)

    by_cases : (bank ≡ bank') ⊎ (bank ≡ bank' → ⊥)
        → (slot_number g set slot ≡ slot_number g set' other)
        ⊎ (slot_number g set slot ≡ slot_number g set' other → ⊥)
        → IsSlotInShadow g new bank' set' other
    by_cases (inr banks) numbers = apart (λ e. banks (sym e.0))
    by_cases (inl banks) (inr numbers) = apart (λ e. numbers (sym e.1))
    by_cases (inl banks) (inl numbers) = one banks numbers

-- ---- the law: a shadow line is written

-- the engine stays trusted while its mirror is written, whatever the device holds
pub IsTrusted-named : (setup : Setup) (old new : ChipState) (regs : Regs) (ledger : LedgerState) (n : ℕ)
    (line : Line) → IsMirrorWritten old new n line → IsTrusted setup old regs ledger
    → IsTrusted setup new regs ledger
IsTrusted-named setup old new regs ledger n line written = search rules

-- the other parts of what recovery rests on don't see a shadow line
pub IsMendable-set_shadow : (setup : Setup) (lines : List Line) (n : ℕ) (line : Line) (regs : Regs)
    (ledger : LedgerState)
    → ((x : ℕ) → x < meta_lines setup.shape
    → (stored_meta setup.shape (slice_set lines (shadow_line setup.shape n) line) x ≡ line_at ledger.truth x)
    ⊎ IsTrue (is_doubted setup.shape (slice_set lines (shadow_line setup.shape n) line) x))
    → IsMendable setup lines regs ledger
    → IsMendable setup (slice_set lines (shadow_line setup.shape n) line) regs ledger
IsMendable-set_shadow setup lines n line regs ledger true_or_doubted before = grind (arith, common_steps)

-- A cached block's shadow line is written, so that its slot's entry names it: Sound stays, with the new
-- mirror, and with it Durable.
pub IsSound-named : (setup : Setup) (old new : ChipState) (lines : List Line) (regs : Regs)
    (ledger : LedgerState) (bank set : ℕ) (slot : Slot) (line : Line) → IsSound setup old lines regs ledger
    → IsBanksOf setup.shape old.cache → Contains (set_of old.cache bank set) slot
    → Names setup.shape old.mirror new.mirror bank (slot_number setup.shape set slot) slot.position → IsLine line
    → IsMirrorWritten old new (named_slot_line setup.shape bank set slot) line
    → IsSound setup new (slice_set lines (shadow_line setup.shape (named_slot_line setup.shape bank set slot)) line) regs
    ledger
IsSound-named setup old new lines regs ledger bank set slot line sound form stands names good written =
    record {
      trusted = IsTrusted-named setup old new regs ledger (named_slot_line setup.shape bank set slot) line written sound.trusted;
      durable =
          IsDurable-no_group setup after regs ledger sound.trusted.no_group
          (AreLinesOf-set (device_lines setup.shape) lines
          (shadow_line setup.shape (named_slot_line setup.shape bank set slot)) line sound.durable.device_whole good)
          (IsMendable-set_shadow setup lines (named_slot_line setup.shape bank set slot) line regs ledger
          (true_or_named_from_sound setup.shape old.cache after ledger.truth form stored named_on_board)
          (IsMendable-no_group setup lines regs ledger sound.trusted.no_group sound.durable));
      true_unless_dirty =
          search rules;
      dirty_named =
          subst
          (λ banks. (bank set : ℕ) → All (IsDirtyNamed setup.shape new.mirror bank set) (set_of banks bank set))
          (sym written.cache) named;
      mirror_true = shadow_now;
    }
  where
    after : List Line
    after = slice_set lines (shadow_line setup.shape (named_slot_line setup.shape bank set slot)) line

    shadow_now : new.mirror ≡ shadow_of setup.shape after
    shadow_now =
        written.mirror
        ∙ ap (λ mirror. slice_set mirror (named_slot_line setup.shape bank set slot) line) sound.mirror_true
        ∙ sym (shadow_of-set setup.shape lines (named_slot_line setup.shape bank set slot) line)

    stored : (x : ℕ) → x < meta_lines setup.shape
        → is_cached_dirty setup.shape old.cache (level_of x) x ≡ false
        → stored_meta setup.shape after x ≡ line_at ledger.truth x
    stored x h clean =
        stored_meta-set_shadow setup.shape lines (named_slot_line setup.shape bank set slot) line x h
        ∙ sound.true_unless_dirty x h clean

    named : (bank' set' : ℕ) → All (IsDirtyNamed setup.shape new.mirror bank' set') (set_of old.cache bank' set')
    named bank' set' =
        All-from_stands (IsDirtyNamed setup.shape new.mirror bank' set') (set_of old.cache bank' set')
        (λ other stands'.
        let was : IsDirtyNamed setup.shape old.mirror bank' set' other =
        All-stands (IsDirtyNamed setup.shape old.mirror bank' set') (set_of old.cache bank' set') other (sound.dirty_named bank' set') stands' in
        record {
          lazy = was.lazy;
          named = λ dirty low.
              IsSlotNamed-kept setup.shape old.cache old.mirror new.mirror bank set slot bank' set' other form stands stands' names
              (was.named dirty low);
        })

    named_on_board : (bank' set' : ℕ)
        → All (IsDirtyNamed setup.shape (shadow_of setup.shape after) bank' set') (set_of old.cache bank' set')
    named_on_board =
        subst
        (λ mirror. (bank' set' : ℕ)
        → All (IsDirtyNamed setup.shape mirror bank' set') (set_of old.cache bank' set'))
        shadow_now named
