-- Slots of the cache whose entries name their positions.
use Rattle.std.specs.Prelude.{ℕ, ◌≡◌, ◌<◌, ◌+◌, true, List}
use Rattle.pmem_base.specs.declared.lines.Line.{Line}
use Rattle.pmem_base.specs.Shape.{Shape, named_levels}
use Rattle.bonsai_tree.specs.Positions.{is_on_path}
use Rattle.shadow_tables.specs.Entries.{slot_entry}
use Rattle.shadow_tables.specs.Naming.{entry_line}
use Rattle.meta_cache.specs.declared.slot.Slot.{Slot}
use Rattle.meta_cache.specs.Banks.{Banks, set_of, slot_number}
use Rattle.std.specs.List.{Contains}

-- the shadow line that the slot's entry stands in
abbrev pub named_slot_line : Shape → ℕ → ℕ → Slot → ℕ
named_slot_line g bank set slot = entry_line g bank (slot_number g set slot)

-- the slot's entry in these shadow lines names the slot's position
abbrev pub IsSlotInShadow : Shape → List Line → ℕ → ℕ → Slot → Type 0
IsSlotInShadow g shadow bank set slot = slot_entry g shadow bank (slot_number g set slot) ≡ slot.position + 1

-- each slot of the cache that holds a block of the page's path that may get dirty is named
pub record ArePathSlotsNamed (g : Shape) (cache : Banks) (shadow : List Line) (page : ℕ) : Type 0 where
  pub each :
      (bank set : ℕ) (slot : Slot) → Contains (set_of cache bank set) slot
      → is_on_path g page slot.position ≡ true → bank < named_levels g → IsSlotInShadow g shadow bank set slot
