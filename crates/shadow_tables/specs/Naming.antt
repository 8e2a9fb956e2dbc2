-- Which entry is a slot's, and what naming a position changes.
use Rattle.std.specs.Prelude.{ℕ, ◌≡◌, ◌+◌, ◌*◌, ◌/◌, ◌%◌, ◌<◌, ◌≤◌, ◌==◌, ◌&&◌, ◌⊎◌, nat_lt, nat_le, Bool, List, slice_set, IsTrue, if◌then◌else◌}
use Rattle.pmem_base.specs.declared.lines.Line.{Line}
use Rattle.pmem_base.specs.Shape.{Shape}
use Rattle.pmem_base.specs.Layout.{slots, meta_lines, shadow_counter_lines, level_start}
use Rattle.pmem_base.specs.Lines.{line_at, put_bytes, big_endian}
use Rattle.shadow_tables.specs.Entries.{slot_entry, is_named_in}

-- the shadow line with the entry of slot n of a bank
abbrev pub entry_line : Shape → ℕ → ℕ → ℕ
entry_line g bank n =
    if bank == g.levels then n / 16 else shadow_counter_lines g + (bank * slots g + n) / 16

-- the place of the entry in that line
abbrev pub entry_index : Shape → ℕ → ℕ → ℕ
entry_index g bank n = if bank == g.levels then n % 16 else (bank * slots g + n) % 16

-- a shadow line with this value as entry i
abbrev pub with_entry : Line → ℕ → ℕ → Line
with_entry line i value = put_bytes line (4 * i) (big_endian 4 value)

-- the line of a slot's entry once the entry names position x
abbrev pub naming_line : Shape → List Line → ℕ → ℕ → ℕ → Line
naming_line g shadow bank n x =
    with_entry (line_at shadow (entry_line g bank n)) (entry_index g bank n) (x + 1)

-- the shadow lines once the slot's entry names position x
abbrev pub with_named : Shape → List Line → ℕ → ℕ → ℕ → List Line
with_named g shadow bank n x =
    slice_set shadow (entry_line g bank n) (naming_line g shadow bank n x)

-- Slot n of a bank names position x now. Every other slot's entry is as it was, so a position that
-- was named still is, unless this very slot named it.
pub record Names (g : Shape) (old new : List Line) (bank n x : ℕ) : Type 0 where
  pub entry : slot_entry g new bank n ≡ x + 1
  pub others :
      (bank' n' : ℕ) → n' < slots g → ((bank' ≡ bank) × (n' ≡ n) → ⊥)
      → slot_entry g new bank' n' ≡ slot_entry g old bank' n'
  pub named : IsTrue (is_named_in g new bank x)
  pub still_named :
      (bank' y : ℕ) → bank' ≤ g.levels → IsTrue (is_named_in g old bank' y)
      → IsTrue (is_named_in g new bank' y) ⊎ (slot_entry g old bank n ≡ y + 1)

-- whether a bank's table may name position x: the counter table names counter blocks, the tree table nodes
abbrev pub is_of_table : Shape → ℕ → ℕ → Bool
is_of_table g bank x =
    if bank == g.levels then nat_le (level_start g.levels) x && nat_lt x (meta_lines g)
    else nat_lt x (level_start g.levels)
