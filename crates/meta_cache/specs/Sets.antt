-- One set of slots, the most recently used first, and what each call makes of it.
use Rattle.std.specs.Prelude.{ℕ, ◌≡◌, ◌≢◌, ◌<◌, ◌≤◌, ◌-◌, ◌==◌, nat_lt, Bool, not, false, List, ◌∷◌, ◌++◌, length, take, filter, map, reverse, find, slice_get, Option, Some, None, option_map, IsTrue, All, AllPairs, if◌then◌else◌}
use Rattle.std.specs.List.{list_any, position_or_len, range_with_len}
use Rattle.pmem_base.specs.declared.lines.Line.{Line}
use Rattle.pmem_base.specs.Lines.{IsLine}
use Rattle.pmem_base.specs.Shape.{Shape}
use Rattle.meta_cache.specs.Banks.{Slot, set_index}

-- whether a slot holds position x
abbrev pub holds : List Slot → ℕ → Bool
holds slots x = list_any (λ slot. slot.position == x) slots

-- the slot of position x
abbrev pub slot_with : List Slot → ℕ → Option Slot
slot_with slots x = find (λ slot. slot.position == x) slots

-- the way of position x
abbrev pub way_in : List Slot → ℕ → Option ℕ
way_in slots x = option_map (λ slot. slot.way) (slot_with slots x)

-- each position that was there and still is has its way
abbrev pub KeepsWays : List Slot → List Slot → Type 0
KeepsWays before after =
    (x : ℕ) → IsTrue (holds before x) → IsTrue (holds after x) → way_in after x ≡ way_in before x

-- position x first, then the others in their order
unfoldable pub touched : List Slot → ℕ → List Slot
touched slots x =
    filter (λ slot. slot.position == x) slots ++ filter (λ slot. not (slot.position == x)) slots

-- the slot with another line
abbrev pub lined : Slot → Line → Slot
lined slot line = record slot { line = line }

-- the slot with another mark
abbrev pub slot_marked : Slot → Bool → Slot
slot_marked slot dirty = record slot { dirty = dirty }

-- another line in the slot of position x
unfoldable pub with_slot_line : List Slot → ℕ → Line → List Slot
with_slot_line slots x line =
    map (λ slot. if slot.position == x then lined slot line else slot) slots

-- another mark on the slot of position x
unfoldable pub with_mark : List Slot → ℕ → Bool → List Slot
with_mark slots x dirty =
    map (λ slot. if slot.position == x then slot_marked slot dirty else slot) slots

-- the slot to be evicted: the least recently used one, if no way is free
abbrev pub victim_of : ℕ → List Slot → Option Slot
victim_of ways slots = if nat_lt (length slots) ways then None else slice_get slots (ways - 1)

-- a slot has this position, this line and this mark
abbrev pub HasContents : ℕ → Line → Bool → Slot → Type 0
HasContents position line dirty slot = (slot.position ≡ position) × (slot.line ≡ line) × (slot.dirty ≡ dirty)

-- the lowest way that no slot has
abbrev pub free_way : ℕ → List Slot → ℕ
free_way ways slots =
    position_or_len (λ way. not (list_any (λ slot. slot.way == way) slots)) (range_with_len 0 ways)

-- the way for one slot more: the lowest free one, else the victim's
abbrev pub way_over : ℕ → List Slot → Option Slot → ℕ
way_over ways slots None = free_way ways slots
way_over ways slots (Some victim) = victim.way

unfoldable pub next_way : ℕ → List Slot → ℕ
next_way ways slots = way_over ways slots (victim_of ways slots)

-- the slots without the victim
abbrev pub without_victim : ℕ → List Slot → List Slot
without_victim ways slots = if nat_lt (length slots) ways then slots else take (ways - 1) slots

-- position x first, clean, in the lowest free way or instead of the victim
abbrev pub placed : ℕ → List Slot → ℕ → Line → List Slot
placed ways slots x line =
    record { way = next_way ways slots; position = x; line = line; dirty = false } ∷ without_victim ways slots

-- the least recently used position that is dirty
abbrev pub oldest_dirty_in : List Slot → Option ℕ
oldest_dirty_in slots = option_map (λ slot. slot.position) (find (λ slot. slot.dirty) (reverse slots))

-- no two slots hold one position
abbrev pub ArePositionsApart : List Slot → Type 0
ArePositionsApart slots = AllPairs (λ a b. a.position ≢ b.position) slots

-- the slots of set n: at most as many as there are ways, each with a position of this set and a
-- whole line, and no two with one way or one position
pub record IsSetOf (g : Shape) (n : ℕ) (slots : List Slot) : Type 0 where
  pub room : length slots ≤ g.ways
  pub its_ways : All (λ slot. slot.way < g.ways) slots
  pub its_positions : All (λ slot. set_index g slot.position ≡ n) slots
  pub whole_lines : All (λ slot. IsLine slot.line) slots
  pub distinct_ways : AllPairs (λ a b. a.way ≢ b.way) slots
  pub distinct_positions : ArePositionsApart slots
