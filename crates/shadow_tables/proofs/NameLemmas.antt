-- Naming a position by a slot's entry.
use Rattle.std.proofs.lemmas.Grind.{common_steps}
use Rattle.std.proofs.Common.{rules, ◌≡◌, ◌≢◌, ℕ, ◌+◌, ◌*◌, ◌/◌, ◌%◌, ◌^◌, ◌≤◌, ◌<◌, true, List, length, Option, Some, None, refl, sym, ap, subst, ◌∙◌, ◌⊎◌, inl, inr, arith}
use Rattle.std.specs.Prelude.{All, ◌==◌, IsNone, IfNone, OnSome}
use Rattle.std.specs.List.{list_any, range_with_len}
use Rattle.std.proofs.Math.Nat.{div-add-mod, div-lt_iff_lt-mul}
use Rattle.std.proofs.lemmas.Bool.{cases_eq, eq-eqb, eqb-true, ne_eqb, cond-true, cond-false}
use Rattle.std.proofs.lemmas.List.Folds.{Any-from_list_any}
use Rattle.std.proofs.lemmas.List.FromFn.{length-range_with_len, get_or-range_with_len}
use Rattle.pmem_base.specs.declared.lines.Line.{Line}
use Rattle.pmem_base.specs.Shape.{Shape}
use Rattle.pmem_base.specs.Layout.{slots, shadow_counter_lines, shadow_lines}
use Rattle.pmem_base.specs.Lines.{IsLine, line_at}
use Rattle.pmem_base.proofs.LineLemmas.{IsLine-line_at}
use Rattle.shadow_tables.specs.Entries.{table_entry, slot_entry, is_named_in}
use Rattle.shadow_tables.specs.Naming.{entry_line, entry_index, naming_line, with_named, Names}
use Rattle.shadow_tables.proofs.EntryLemmas.{IsEntryPut, IsEntryPut-with_entry, entry_index_below, entry_line_within, slot_entry-put_same, slot_entry-put_other, slot_entry-at_counter, slot_entry-at_node, is_named_in-slot}

-- a slot whose entry names the position, in a bank with the same table
pub record HasSlot (g : Shape) (shadow : List Line) (bank x : ℕ) : Type 0 where
  pub its_bank : ℕ
  pub slot : ℕ
  pub low : its_bank ≤ g.levels
  pub within : slot < slots g
  pub names : slot_entry g shadow its_bank slot ≡ x + 1
  pub one_table : (other : List Line) → is_named_in g other its_bank x ≡ is_named_in g other bank x

-- entry n of a table that passes, if some entry passes
record HasEntry (shadow : List Line) (first size x : ℕ) : Type 0 where
  number : ℕ
  within : number < size
  names : table_entry shadow first number ≡ x + 1

entry_found : (shadow : List Line) (first size x : ℕ)
    → list_any (λ n. table_entry shadow first n == x + 1) (range_with_len 0 size) ≡ true
    → HasEntry shadow first size x
entry_found shadow first size x found = search (rules, Any-from_list_any, length-range_with_len, get_or-range_with_len, eqb-true)

row_of : (size levels m : ℕ) → m < levels * size → (m / size < levels) × (m % size < size) × (m / size * size + m % size ≡ m)
row_of size levels m h = search (rules, div-add-mod, div-lt_iff_lt-mul)

-- a position that is named is named by a slot's entry
pub slot_that_names : (g : Shape) (shadow : List Line) (bank x : ℕ) → bank ≤ g.levels
    → is_named_in g shadow bank x ≡ true → HasSlot g shadow bank x
slot_that_names g shadow bank x low named =
    elim (cases_eq bank g.levels) [
      | inl same ↦
          let found : HasEntry shadow 0 (slots g) x = search (rules, entry_found, cond-true, eq-eqb) in
          record {
            its_bank = bank;
            slot = found.number;
            low = low;
            within = found.within;
            names = slot_entry-at_counter g shadow bank found.number same ∙ found.names;
            one_table = λ other. refl;
          }
      | inr other ↦
          let found : HasEntry shadow (shadow_counter_lines g) (g.levels * slots g) x = search (rules, entry_found, cond-false, ne_eqb) in
          let row = row_of (slots g) g.levels found.number found.within in
          let apart : found.number / slots g ≢ g.levels = λ e. absurd (omega (arith, row.0)) in
          record {
            its_bank = found.number / slots g;
            slot = found.number % slots g;
            low = omega (arith, row.0);
            within = row.1;
            names = slot_entry-at_node g shadow (found.number / slots g) (found.number % slots g) apart
                ∙ ap (table_entry shadow (shadow_counter_lines g)) row.2 ∙ found.names;
            one_table = λ shadows. cond-false (found.number / slots g == g.levels) _ _
                (ne_eqb (found.number / slots g) g.levels apart)
                ∙ sym (cond-false (bank == g.levels) _ _ (ne_eqb bank g.levels other));
          }
    ]

-- what the entry and the others say decides what is named
pub Names-from_entries : (g : Shape) (old new : List Line) (bank n x : ℕ) → bank ≤ g.levels → n < slots g
    → slot_entry g new bank n ≡ x + 1
    → ((bank' n' : ℕ) → n' < slots g → ((bank' ≡ bank) × (n' ≡ n) → ⊥)
    → slot_entry g new bank' n' ≡ slot_entry g old bank' n')
    → Names g old new bank n x
Names-from_entries g old new bank n x low h entry others =
    record {
      entry = entry;
      others = others;
      named = is_named_in-slot g new bank n x low h entry;
      still_named = λ bank' y low' named. still bank' y (slot_that_names g old bank' y low' named);
    }
  where
    kept : (bank' y : ℕ) (found : HasSlot g old bank' y) → ((found.its_bank ≡ bank) × (found.slot ≡ n) → ⊥)
        → is_named_in g new bank' y ≡ true
    kept bank' y found apart =
        sym (found.one_table new)
        ∙ is_named_in-slot g new found.its_bank found.slot y found.low found.within
        (others found.its_bank found.slot found.within apart ∙ found.names)

    still : (bank' y : ℕ) → HasSlot g old bank' y
        → (is_named_in g new bank' y ≡ true) ⊎ (slot_entry g old bank n ≡ y + 1)
    still bank' y found =
        elim (cases_eq found.its_bank bank) [
          | inl same ↦ elim (cases_eq found.slot n) [
            | inl here ↦ search rules
            | inr there ↦ inl (kept bank' y found (λ e. there e.1))
          ]
          | inr other ↦ inl (kept bank' y found (λ e. other e.0))
        ]

-- after its entry was written, the slot names the position
pub Names-with_named : (g : Shape) (shadow : List Line) (bank n x : ℕ) → g.shadow ≡ true → bank ≤ g.levels → n < slots g
    → length shadow ≡ shadow_lines g → All IsLine shadow → x + 1 < 2 ^ 32
    → Names g shadow (with_named g shadow bank n x) bank n x
Names-with_named g shadow bank n x tables low h long each small =
    Names-from_entries g shadow (with_named g shadow bank n x) bank n x low h
    (slot_entry-put_same g shadow bank n (x + 1) (naming_line g shadow bank n x) within put)
    (λ bank' n' h' apart.
    slot_entry-put_other g shadow bank n (x + 1) (naming_line g shadow bank n x) bank' n' within put h h'
    (λ e. apart (sym e.0, sym e.1)))
  where
    within : entry_line g bank n < length shadow
    within = omega (arith, long, entry_line_within g bank n tables low h)

    put : IsEntryPut (line_at shadow (entry_line g bank n)) (naming_line g shadow bank n x) (entry_index g bank n) (x + 1)
    put =
        IsEntryPut-with_entry (line_at shadow (entry_line g bank n)) (entry_index g bank n) (x + 1)
        (IsLine-line_at shadow (entry_line g bank n) each).long (entry_index_below g bank n) small

-- where the entry names the position already, nothing changes
pub Names-already : (g : Shape) (shadow : List Line) (bank n x : ℕ) → bank ≤ g.levels → n < slots g
    → slot_entry g shadow bank n ≡ x + 1 → Names g shadow shadow bank n x
Names-already g shadow bank n x low h entry = search (rules, Names-from_entries)

-- what naming answers says which of the two it was
pub Names-from_answer : {W : Type 0} (g : Shape) (old new : List Line) (bank n x : ℕ) (answer : Option W)
    → g.shadow ≡ true → bank ≤ g.levels → n < slots g → length old ≡ shadow_lines g → All IsLine old → x + 1 < 2 ^ 32
    → (IsNone answer → slot_entry g old bank n ≡ x + 1) → IfNone answer (new ≡ old)
    → OnSome answer (new ≡ with_named g old bank n x) → Names g old new bank n x
Names-from_answer g old new bank n x None tables low h long each small already same written = grind (arith, common_steps, Names-already)
Names-from_answer g old new bank n x (Some write) tables low h long each small already same written =
    subst (λ shadow. Names g old shadow bank n x) (sym written)
    (Names-with_named g old bank n x tables low h long each small)
