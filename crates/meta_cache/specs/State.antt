-- A cache as contracts see it: its banks, and the geometry that it was made for.
use Rattle.std.specs.Prelude.{ℕ, ◌≡◌, ◌+◌, ◌≤◌, List, [], length, replicate, filter_map, slice_get, slice_set, option_map, Option, unwrap_or}
use Rattle.std.specs.List.{range_with_len}
use Rattle.pmem_base.specs.Shape.{Shape}
use Rattle.meta_cache.specs.Banks.{Slot, Banks, set_of, set_index}
use Rattle.meta_cache.specs.Sets.{IsSetOf, KeepsWays, oldest_dirty_in}

pub record CacheState : Type 0 where
  pub shape : Shape
  pub banks : Banks

-- the sets of a bank
abbrev pub bank_of : Banks → ℕ → List (List Slot)
bank_of banks bank = unwrap_or (slice_get banks bank) []

-- a bank of empty sets for each level
abbrev pub empty_banks : Shape → Banks
empty_banks g = replicate (g.levels + 1) (replicate g.sets [])

-- the set that position x of a bank belongs to
abbrev pub slots_of : CacheState → ℕ → ℕ → List Slot
slots_of cache bank x = set_of cache.banks bank (set_index cache.shape x)

-- a bank for each level, the sets of each, and slots that belong there
pub record IsCacheOf (g : Shape) (banks : Banks) : Type 0 where
  pub its_banks : length banks ≡ g.levels + 1
  pub its_sets : (bank : ℕ) → bank ≤ g.levels → length (bank_of banks bank) ≡ g.sets
  pub each_set : (bank set : ℕ) → IsSetOf g set (set_of banks bank set)

-- the cache with other slots in one set
abbrev pub with_slots : CacheState → ℕ → ℕ → List Slot → CacheState
with_slots cache bank set slots =
    record { shape = cache.shape; banks = slice_set cache.banks bank (slice_set (bank_of cache.banks bank) set slots) }

-- One set has these slots now, and nothing else changed: each slot that stays has its way, and every other
-- set is as it was.
pub record ChangesSet (old new : CacheState) (bank set : ℕ) (slots : List Slot) : Type 0 where
  pub exact : new ≡ with_slots old bank set slots
  pub shape : new.shape ≡ old.shape
  pub here : set_of new.banks bank set ≡ slots
  pub ways : KeepsWays (set_of old.banks bank set) slots
  pub elsewhere :
      (bank' set' : ℕ) → ((bank' ≡ bank) × (set' ≡ set) → ⊥)
      → set_of new.banks bank' set' ≡ set_of old.banks bank' set'

-- the oldest dirty position of a bank: that of the lowest set that has one
abbrev pub oldest_dirty_of : List (List Slot) → Option ℕ
oldest_dirty_of sets = slice_get (filter_map oldest_dirty_in sets) 0

-- a bank and its oldest dirty position
abbrev pub dirty_in_bank : Banks → ℕ → Option (ℕ × ℕ)
dirty_in_bank banks bank = option_map (λ x. (bank, x)) (oldest_dirty_of (bank_of banks bank))

-- the oldest dirty position: that of the lowest bank that has one
abbrev pub oldest_dirty : Banks → Option (ℕ × ℕ)
oldest_dirty banks = slice_get (filter_map (dirty_in_bank banks) (range_with_len 0 (length banks))) 0
