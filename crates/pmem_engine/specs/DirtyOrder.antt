-- The order in which the dirty blocks of a bank are written: as `oldest_dirty_of` names one after another.
use Rattle.std.specs.Prelude.{ℕ, List, [], ◌∷◌, ◌++◌, if◌then◌else◌}
use Rattle.meta_cache.specs.declared.slot.Slot.{Slot}

-- the dirty positions of a set, the least recently used first
abbrev pub dirty_positions : List Slot → List ℕ
dirty_positions [] = []
dirty_positions (slot ∷ slots) =
    dirty_positions slots ++ (if slot.dirty then slot.position ∷ [] else [])

-- those of a bank, its sets from 0 up
abbrev pub dirty_order : List (List Slot) → List ℕ
dirty_order [] = []
dirty_order (slots ∷ sets) = dirty_positions slots ++ dirty_order sets
