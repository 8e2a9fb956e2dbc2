-- The cache as lists: banks of sets of slots, each set with the most recently used first.
use Rattle.std.specs.Prelude.{ℕ, ◌≢◌, ◌<◌, ◌≤◌, ◌+◌, ◌*◌, ◌%◌, ◌==◌, ◌&&◌, Bool, List, [], slice_get, unwrap_or, All, AllPairs}
use Rattle.std.specs.List.{list_any}
pub use Rattle.meta_cache.specs.declared.slot.Slot.{Slot}
use Rattle.pmem_base.specs.Shape.{Shape}

-- one bank for each level
abbrev pub Banks : Type 0
Banks = List (List (List Slot))

-- the slots in use of a set of a bank
abbrev pub set_of : Banks → ℕ → ℕ → List Slot
set_of cache bank set = unwrap_or (slice_get (unwrap_or (slice_get cache bank) []) set) []

-- the set that position x belongs to
abbrev pub set_index : Shape → ℕ → ℕ
set_index g x = x % g.sets

-- a slot's number in its bank
abbrev pub slot_number : Shape → ℕ → Slot → ℕ
slot_number g set slot = set * g.ways + slot.way

-- whether position x is cached in the bank, and dirty
abbrev pub is_cached : Shape → Banks → ℕ → ℕ → Bool
is_cached g cache bank x =
    list_any (λ slot. slot.position == x) (set_of cache bank (set_index g x))

abbrev pub is_cached_dirty : Shape → Banks → ℕ → ℕ → Bool
is_cached_dirty g cache bank x =
    list_any (λ slot. slot.position == x && slot.dirty) (set_of cache bank (set_index g x))

-- a slot stands in a bank, a set and a way that there are
pub record IsInPlace (g : Shape) (bank set : ℕ) (slot : Slot) : Type 0 where
  pub its_bank : bank ≤ g.levels
  pub its_set : set < g.sets
  pub its_way : slot.way < g.ways

-- The form of a cache: slots stand in the banks, sets and ways that there are, and those of a set
-- differ in their ways and in their positions.
pub record IsBanksOf (g : Shape) (cache : Banks) : Type 0 where
  pub in_place : (bank set : ℕ) → All (IsInPlace g bank set) (set_of cache bank set)
  pub distinct_ways : (bank set : ℕ) → AllPairs (λ a b. a.way ≢ b.way) (set_of cache bank set)
  pub distinct_positions : (bank set : ℕ) → AllPairs (λ a b. a.position ≢ b.position) (set_of cache bank set)
