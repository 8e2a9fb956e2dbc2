-- What is known of a page's path level by level, as the laws ask for it: cached, dirty, named.
use Rattle.std.proofs.Common.{rules, ◌≡◌, ℕ, ◌+◌, ◌<◌, ◌≤◌, true, List, sym, ap, subst, ◌∙◌, arith}
use Rattle.std.specs.Prelude.{slice_index, option_map, unwrap_or}
use Rattle.std.specs.List.{Contains}
use Rattle.pmem_base.specs.declared.lines.Line.{Line}
use Rattle.pmem_base.specs.declared.registers.Regs.{Regs}
use Rattle.pmem_base.specs.Shape.{Shape, named_levels}
use Rattle.pmem_base.specs.Layout.{pages}
use Rattle.bonsai_tree.specs.Positions.{level_of, path_of, is_on_path}
use Rattle.bonsai_tree.proofs.PathPositions.{on_path-level}
use Rattle.seal_ledger.specs.Ledger.{LedgerState}
use Rattle.shadow_tables.specs.Entries.{slot_entry}
use Rattle.meta_cache.specs.declared.slot.Slot.{Slot}
use Rattle.meta_cache.specs.Sets.{slot_with}
use Rattle.meta_cache.specs.Banks.{Banks, set_of, set_index, slot_number, IsBanksOf}
use Rattle.meta_cache.proofs.SlotLemmas.{All-stands, slot_with-is}
use Rattle.suite.specs.Setup.{Setup}
use Rattle.pmem_engine.specs.Engine.{ChipState}
use Rattle.pmem_engine.specs.Invariants.{IsTrueSlot, IsTrusted}
use Rattle.pmem_engine.specs.Named.{IsSlotInShadow, ArePathSlotsNamed}

-- the number in its bank of the slot that a bank has for position x, or 0 where it has none
abbrev pub slot_number_at : Shape → Banks → ℕ → ℕ → ℕ
slot_number_at g cache bank x =
    unwrap_or (option_map (slot_number g (set_index g x)) (slot_with (set_of cache bank (set_index g x)) x)) 0

-- that of a slot's own position
pub slot_number_at-own : (g : Shape) (cache : Banks) (bank set : ℕ) (slot : Slot) → IsBanksOf g cache
    → set_index g slot.position ≡ set → Contains (set_of cache bank set) slot
    → slot_number_at g cache bank slot.position ≡ slot_number g set slot
slot_number_at-own g cache bank set slot form its_set stands = search (rules, slot_with-is)

-- each level's slot is named: then each slot of the cache that holds a block of the path is
pub ArePathSlotsNamed-levels : (setup : Setup) (engine : ChipState) (regs : Regs) (ledger : LedgerState)
    (shadow : List Line) (page : ℕ) → IsTrusted setup engine regs ledger → IsBanksOf setup.shape engine.cache
    → setup.shape.levels ≤ 6 → page < pages setup.shape
    → ((j : ℕ) → j < named_levels setup.shape
    → slot_entry setup.shape shadow j
    (slot_number_at setup.shape engine.cache j (slice_index (path_of setup.shape page) j))
    ≡ slice_index (path_of setup.shape page) j + 1)
    → ArePathSlotsNamed setup.shape engine.cache shadow page
ArePathSlotsNamed-levels setup engine regs ledger shadow page trusted form few inside each =
    record { each = λ bank set slot stands on low. named bank set slot stands on low }
  where
    named : (bank set : ℕ) (slot : Slot) → Contains (set_of engine.cache bank set) slot
        → is_on_path setup.shape page slot.position ≡ true → bank < named_levels setup.shape
        → IsSlotInShadow setup.shape shadow bank set slot
    named bank set slot stands on low =
        let own : IsTrueSlot setup.shape ledger.truth bank set slot =
        All-stands (IsTrueSlot setup.shape ledger.truth bank set) (set_of engine.cache bank set) slot
        (trusted.cached_true bank set) stands in
        let at = on_path-level setup.shape page slot.position few inside on in
        let entry : slot_entry setup.shape shadow (level_of slot.position)
        (slot_number_at setup.shape engine.cache (level_of slot.position) slot.position)
        ≡ slot.position + 1 =
        subst
        (λ x. slot_entry setup.shape shadow (level_of slot.position)
        (slot_number_at setup.shape engine.cache (level_of slot.position) x)
        ≡ x + 1)
        at.1 (each (level_of slot.position) (omega (arith, low, own.its_bank))) in
        ap (slot_entry setup.shape shadow bank)
        (sym (slot_number_at-own setup.shape engine.cache bank set slot form own.its_set stands))
        ∙ (ap (λ j. slot_entry setup.shape shadow j (slot_number_at setup.shape engine.cache j slot.position))
        (sym own.its_bank)
        ∙ entry)
