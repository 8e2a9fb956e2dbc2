-- Entries when one of them is written.
use Rattle.std.proofs.Common.{rules, ◌≡◌, ◌≢◌, ℕ, ◌+◌, ◌*◌, ◌/◌, ◌%◌, ◌^◌, ◌≤◌, ◌<◌, true, List, length, get_or, set, mul-le-mul_right, sym, ap, ◌∙◌, inl, inr, arith}
use Rattle.std.specs.Prelude.{◌==◌}
use Rattle.std.specs.List.{range_with_len}
use Rattle.std.proofs.lemmas.Bool.{cases_eq, cases_lt, cases_order, eq-eqb, ne_eqb, cond-true, cond-false}
use Rattle.std.proofs.lemmas.List.{get_or-set_same, get_or-set_other}
use Rattle.std.proofs.lemmas.List.Folds.{list_any_at}
use Rattle.std.proofs.lemmas.List.FromFn.{length-range_with_len, get_or-range_with_len}
use Rattle.pmem_base.specs.declared.lines.Line.{Line}
use Rattle.pmem_base.specs.Shape.{Shape}
use Rattle.pmem_base.specs.Layout.{slots, shadow_counter_lines, shadow_lines}
use Rattle.pmem_base.specs.Lines.{line_at}
use Rattle.pmem_base.proofs.Parts.{part-put_bytes_same, part-put_bytes_before, part-put_bytes_behind}
use Rattle.pmem_base.proofs.LayoutLemmas.{number_low, shadow_lines-tables}
use Rattle.pmem_base.proofs.Digits.{from_big_endian-big_endian}
use Rattle.shadow_tables.specs.Entries.{entry_of, table_entry, slot_entry, is_named_in}
use Rattle.shadow_tables.specs.Naming.{entry_line, entry_index, with_entry}

-- ---- entries by their place

pub slot_entry-at_counter : (g : Shape) (shadow : List Line) (bank n : ℕ) → bank ≡ g.levels
    → slot_entry g shadow bank n ≡ table_entry shadow 0 n
slot_entry-at_counter g shadow bank n h = cond-true (bank == g.levels) _ _ (eq-eqb bank g.levels h)

pub slot_entry-at_node : (g : Shape) (shadow : List Line) (bank n : ℕ) → bank ≢ g.levels
    → slot_entry g shadow bank n ≡ table_entry shadow (shadow_counter_lines g) (bank * slots g + n)
slot_entry-at_node g shadow bank n h = cond-false (bank == g.levels) _ _ (ne_eqb bank g.levels h)

-- a slot's entry that names x is one of the entries of its level's table that do
pub is_named_in-slot : (g : Shape) (shadow : List Line) (bank n x : ℕ) → bank ≤ g.levels → n < slots g
    → slot_entry g shadow bank n ≡ x + 1 → is_named_in g shadow bank x ≡ true
is_named_in-slot g shadow bank n x low h names =
    elim (cases_eq bank g.levels) [
      | inl same ↦
          let at : get_or (range_with_len 0 (slots g)) n 0 ≡ n =
          omega (arith, get_or-range_with_len 0 (slots g) n 0 h) in
          cond-true (bank == g.levels) _ _ (eq-eqb bank g.levels same)
          ∙ list_any_at (λ n. table_entry shadow 0 n == x + 1) (range_with_len 0 (slots g)) n 0
          (omega (arith, length-range_with_len 0 (slots g)))
          (ap (λ m. table_entry shadow 0 m == x + 1) at
          ∙ eq-eqb (table_entry shadow 0 n) (x + 1) (sym (slot_entry-at_counter g shadow bank n same) ∙ names))
      | inr other ↦
          let m : ℕ = bank * slots g + n in
          let within : m < g.levels * slots g =
          number_low g.levels (slots g) bank n (omega arith) h in
          let at : get_or (range_with_len 0 (g.levels * slots g)) m 0 ≡ m =
          omega (arith, get_or-range_with_len 0 (g.levels * slots g) m 0 within) in
          cond-false (bank == g.levels) _ _ (ne_eqb bank g.levels other)
          ∙ list_any_at (λ n. table_entry shadow (shadow_counter_lines g) n == x + 1)
          (range_with_len 0 (g.levels * slots g)) m 0
          (omega (arith, within, length-range_with_len 0 (g.levels * slots g)))
          (ap (λ k. table_entry shadow (shadow_counter_lines g) k == x + 1) at
          ∙ eq-eqb (table_entry shadow (shadow_counter_lines g) m) (x + 1)
          (sym (slot_entry-at_node g shadow bank n other) ∙ names))
    ]

-- ---- one entry is changed

-- a line with entry i changed to this value
pub record IsEntryPut (old new : Line) (i value : ℕ) : Type 0 where
  pub entry : entry_of new i ≡ value
  pub others : (j : ℕ) → j < 16 → j ≢ i → entry_of new j ≡ entry_of old j

pub slot_entry_by_place : (g : Shape) (shadow : List Line) (bank n : ℕ)
    → slot_entry g shadow bank n ≡ entry_of (line_at shadow (entry_line g bank n)) (entry_index g bank n)
slot_entry_by_place g shadow bank n = search rules

same_row : (size bank bank' n n' : ℕ) → n < size → n' < size → bank * size + n ≡ bank' * size + n'
    → bank ≡ bank'
same_row size bank bank' n n' h h' e = search (rules, cases_order, mul-le-mul_right)

entry_line-at_counter : (g : Shape) (bank n : ℕ) → bank ≡ g.levels → entry_line g bank n ≡ n / 16
entry_line-at_counter g bank n h = cond-true (bank == g.levels) _ _ (eq-eqb bank g.levels h)

entry_line-at_node : (g : Shape) (bank n : ℕ) → bank ≢ g.levels
    → entry_line g bank n ≡ shadow_counter_lines g + (bank * slots g + n) / 16
entry_line-at_node g bank n h = cond-false (bank == g.levels) _ _ (ne_eqb bank g.levels h)

entry_index-at_counter : (g : Shape) (bank n : ℕ) → bank ≡ g.levels → entry_index g bank n ≡ n % 16
entry_index-at_counter g bank n h = cond-true (bank == g.levels) _ _ (eq-eqb bank g.levels h)

entry_index-at_node : (g : Shape) (bank n : ℕ) → bank ≢ g.levels
    → entry_index g bank n ≡ (bank * slots g + n) % 16
entry_index-at_node g bank n h = cond-false (bank == g.levels) _ _ (ne_eqb bank g.levels h)

-- two slots with one entry are one
pub entry_place_injective : (g : Shape) (bank n bank' n' : ℕ) → n < slots g → n' < slots g
    → entry_line g bank n ≡ entry_line g bank' n' → entry_index g bank n ≡ entry_index g bank' n'
    → (bank ≡ bank') × (n ≡ n')
entry_place_injective g bank n bank' n' h h' lines indexes =
    elim (cases_eq bank g.levels) [
      | inl same ↦ elim (cases_eq bank' g.levels) [
        | inl same' ↦ search (rules, entry_line-at_counter, entry_index-at_counter)
        | inr other' ↦
            absurd (omega (arith, entry_line-at_counter g bank n same, entry_line-at_node g bank' n' other'))
      ]
      | inr other ↦ elim (cases_eq bank' g.levels) [
        | inl same' ↦
            absurd (omega (arith, entry_line-at_node g bank n other, entry_line-at_counter g bank' n' same'))
        | inr other' ↦
            let e : bank * slots g + n ≡ bank' * slots g + n' =
            omega (
              arith,
              entry_line-at_node g bank n other,
              entry_line-at_node g bank' n' other',
              entry_index-at_node g bank n other,
              entry_index-at_node g bank' n' other',
            ) in
            let row : bank ≡ bank' = same_row (slots g) bank bank' n n' h h' e in
            let rows : bank * slots g ≡ bank' * slots g = ap (λ b. b * slots g) row in
            (row, omega arith)
      ]
    ]

pub entry_index_below : (g : Shape) (bank n : ℕ) → entry_index g bank n < 16
entry_index_below g bank n = search rules

-- the slot's own entry after its shadow line was written
pub slot_entry-put_same : (g : Shape) (shadow : List Line) (bank n value : ℕ) (line : Line)
    → entry_line g bank n < length shadow
    → IsEntryPut (line_at shadow (entry_line g bank n)) line (entry_index g bank n) value
    → slot_entry g (set shadow (entry_line g bank n) line) bank n ≡ value
slot_entry-put_same g shadow bank n value line within put = search (rules, slot_entry_by_place, get_or-set_same)

-- any other slot's entry
pub slot_entry-put_other : (g : Shape) (shadow : List Line) (bank n value : ℕ) (line : Line) (bank' n' : ℕ)
    → entry_line g bank n < length shadow
    → IsEntryPut (line_at shadow (entry_line g bank n)) line (entry_index g bank n) value
    → n < slots g → n' < slots g → ((bank ≡ bank') × (n ≡ n') → ⊥)
    → slot_entry g (set shadow (entry_line g bank n) line) bank' n' ≡ slot_entry g shadow bank' n'
slot_entry-put_other g shadow bank n value line bank' n' within put h h' apart =
    search (rules, slot_entry_by_place, cases_eq, get_or-set_same, entry_index_below, entry_place_injective, get_or-set_other)

-- the shadow line of an entry is one of the device's
pub entry_line_within : (g : Shape) (bank n : ℕ) → g.shadow ≡ true → bank ≤ g.levels → n < slots g
    → entry_line g bank n < shadow_lines g
entry_line_within g bank n tables low h =
    let all = shadow_lines-tables g tables in
    elim (cases_eq bank g.levels) [
      | inl same ↦ omega (arith, all, entry_line-at_counter g bank n same)
      | inr other ↦
          let within : bank * slots g + n < g.levels * slots g =
          number_low g.levels (slots g) bank n (omega arith) h in
          omega (arith, all, entry_line-at_node g bank n other)
    ]

-- ---- the bytes of an entry

pub IsEntryPut-with_entry : (line : Line) (i value : ℕ) → length line.0 ≡ 64 → i < 16 → value < 2 ^ 32
    → IsEntryPut line (with_entry line i value) i value
IsEntryPut-with_entry line i value long h small =
    search (rules, part-put_bytes_same, from_big_endian-big_endian, cases_lt, part-put_bytes_before, part-put_bytes_behind)
