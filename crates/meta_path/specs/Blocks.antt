-- A page's path, and the blocks of the tree, in the cache.
use Rattle.std.specs.Prelude.{ℕ, zero, suc, ◌≡◌, ◌+◌, ◌<◌, ◌≤◌, List, slice_index, option_map, unwrap_or, All, count_by, IsTrue}
use Rattle.pmem_base.specs.declared.lines.Line.{Line}
use Rattle.pmem_base.specs.Shape.{Shape}
use Rattle.pmem_base.specs.Layout.{meta_lines}
use Rattle.pmem_base.specs.Lines.{line_at, zero_line}
use Rattle.bonsai_tree.specs.Positions.{level_of, path_of}
use Rattle.meta_cache.specs.declared.slot.Slot.{Slot}
use Rattle.meta_cache.specs.Banks.{Banks, set_of, set_index, slot_number, is_cached}
use Rattle.meta_cache.specs.Sets.{slot_with}

-- the position at level j of the page's path
abbrev pub path_at : Shape → ℕ → ℕ → ℕ
path_at g page j = slice_index (path_of g page) j

-- the slots of the set that position x of a bank belongs to
abbrev pub slots_at : Shape → Banks → ℕ → ℕ → List Slot
slots_at g banks bank x = set_of banks bank (set_index g x)

-- the line that a bank has for position x, or zeros if it has none
abbrev pub line_in : Shape → Banks → ℕ → ℕ → Line
line_in g banks bank x =
    unwrap_or (option_map (λ slot. slot.line) (slot_with (slots_at g banks bank x) x)) zero_line

-- the line that is cached for position x, in the bank of its level
abbrev pub cached_line : Shape → Banks → ℕ → Line
cached_line g banks x = line_in g banks (level_of x) x

-- the number of the slot that a bank has for position x, or 0 if it has none
abbrev pub number_in : Shape → Banks → ℕ → ℕ → ℕ
number_in g banks bank x =
    unwrap_or (option_map (slot_number g (set_index g x)) (slot_with (slots_at g banks bank x) x)) 0

-- each block of the page's path is cached, in the bank of its level
pub record IsPathCached (g : Shape) (banks : Banks) (page : ℕ) : Type 0 where
  pub each : (j : ℕ) → j ≤ g.levels → IsTrue (is_cached g banks j (path_at g page j))

-- a slot of a bank has a metadata line of the bank's level
pub record IsOfItsBank (g : Shape) (bank : ℕ) (slot : Slot) : Type 0 where
  pub on_tree : slot.position < meta_lines g
  pub its_bank : level_of slot.position ≡ bank

-- so has each slot of the cache
pub record AreInTheirBanks (g : Shape) (banks : Banks) : Type 0 where
  pub each : (bank set : ℕ) → All (IsOfItsBank g bank) (set_of banks bank set)

-- each cached line is the true one
pub record AreCachedTrue (banks : Banks) (truth : List Line) : Type 0 where
  pub each :
      (bank set : ℕ) → All (λ slot. slot.line ≡ line_at truth slot.position) (set_of banks bank set)

-- how many slots of a set are dirty
abbrev pub dirty_in : List Slot → ℕ
dirty_in slots = count_by (λ slot. slot.dirty) slots

-- the sum of a number for each of 0 to n - 1
abbrev pub sum_below : (ℕ → ℕ) → ℕ → ℕ
sum_below f zero = 0
sum_below f (suc n) = sum_below f n + f n

-- how many slots of a bank, and of all banks, are dirty
abbrev pub bank_dirty_count : Shape → Banks → ℕ → ℕ
bank_dirty_count g banks bank = sum_below (λ set. dirty_in (set_of banks bank set)) g.sets

unfoldable pub dirty_count : Shape → Banks → ℕ
dirty_count g banks = sum_below (bank_dirty_count g banks) (g.levels + 1)
