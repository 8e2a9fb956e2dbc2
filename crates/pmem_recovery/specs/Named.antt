-- Which positions recovery has to make again, by the shadow lines, how many, and the next one.
use Rattle.std.specs.Prelude.{ℕ, ◌≡◌, ◌≤◌, ◌<◌, ◌+◌, ◌-◌, ◌==◌, Bool, true, false, List, length, filter, Option, Some, None}
use Rattle.std.specs.List.{list_any, range_with_len}
use Rattle.pmem_base.specs.declared.lines.Line.{Line}
use Rattle.pmem_base.specs.Shape.{Shape}
use Rattle.bonsai_tree.specs.Positions.{level_of}
use Rattle.shadow_tables.specs.Entries.{table_entry, is_doubted_in}

-- whether position x is doubted: its level is lazy, and these shadow lines name it, if the device has any
abbrev pub doubts : Shape → List Line → ℕ → Bool
doubts g shadow x = is_doubted_in g shadow (level_of x) x

-- whether one of the first entries of a table names it
abbrev pub is_among : List Line → ℕ → ℕ → ℕ → Bool
is_among shadow first count x =
    list_any (λ n. table_entry shadow first n == x + 1) (range_with_len 0 count)

-- how many positions from a on and below b are doubted
abbrev pub count_doubted : Shape → List Line → ℕ → ℕ → ℕ
count_doubted g shadow a b = length (filter (λ x. doubts g shadow x) (range_with_len a (b - a)))

-- the least number from one on and below another that passes a test
pub record IsNextAt (p : ℕ → Bool) (from end x : ℕ) : Type 0 where
  pub low : from ≤ x
  pub high : x < end
  pub passes : p x ≡ true
  pub before : (y : ℕ) → from ≤ y → y < x → p y ≡ false

abbrev pub IsNext : (ℕ → Bool) → ℕ → ℕ → Option ℕ → Type 0
IsNext p from end None = (y : ℕ) → from ≤ y → y < end → p y ≡ false
IsNext p from end (Some x) = IsNextAt p from end x
