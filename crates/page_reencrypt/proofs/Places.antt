-- The place of a page's register.
use Rattle.std.proofs.Common.{rules}
use Rattle.std.proofs.Common.{ℕ, ◌≡◌, ◌≢◌, ◌<◌, ◌≤◌, true≢false, cond, List, length, get_or, Option, Some, None, IsNone, ◌↔◌, inl, inr, refl, sym, ap, ◌∙◌, arith}
use Rattle.std.specs.Prelude.{◌==◌, position, slice_get, All}
use Rattle.std.specs.Option.{option_and_then}
use Rattle.std.specs.List.{position_or_len}
use Rattle.std.proofs.lemmas.Bool.{cases_lt, lt-ltb, le-ltb, eqb-true, eqb-false}
use Rattle.std.proofs.lemmas.Option.{none-some, slice_get_past}
use Rattle.std.proofs.lemmas.List.Folds.{find_at}
use Rattle.std.proofs.lemmas.List.Sums.{fails_before_first, passes_at_first}
use Rattle.pmem_base.specs.declared.registers.Progress.{Progress}
use Rattle.pmem_base.specs.Registers.{empty_progress}
use Rattle.page_reencrypt.specs.Registers.{register_of}

-- the place of the page's register
abbrev pub place_in : List Progress → ℕ → Option ℕ
place_in registers page = position (λ register. register.page == page) registers

-- whether the page has a place
place_some : (registers : List Progress) (page : ℕ) → position_or_len (λ register. register.page == page) registers < length registers → place_in registers page ≡ Some (position_or_len (λ register. register.page == page) registers)
place_some registers page inside = search rules

place_none : (registers : List Progress) (page : ℕ) → length registers ≤ position_or_len (λ register. register.page == page) registers → place_in registers page ≡ None
place_none registers page past = search rules

pub register_at : (registers : List Progress) (page : ℕ) → option_and_then (λ n. slice_get registers n) (place_in registers page) ≡ register_of registers page
register_at registers page =
    let test = λ (register : Progress). register.page == page in
    let n = position_or_len test registers in
    elim (cases_lt n (length registers)) [
      | inl inside ↦
          ap (option_and_then (λ n. slice_get registers n)) (place_some registers page inside) ∙ sym (find_at test registers)
      | inr past ↦
          ap (option_and_then (λ n. slice_get registers n)) (place_none registers page past)
          ∙ sym (find_at test registers ∙ slice_get_past registers n past)
    ]

place_from_All : (registers : List Progress) (page : ℕ) → All (λ register. register.page ≢ page) registers → place_in registers page ≡ None
place_from_All registers page others =
    let test = λ (register : Progress). register.page == page in
    let n = position_or_len test registers in
    elim (cases_lt n (length registers)) [
      | inl inside ↦
          absurd (others n empty_progress inside (eqb-true (get_or registers n empty_progress).page page (passes_at_first test registers empty_progress inside)))
      | inr past ↦ place_none registers page past
    ]

All-from_place : (registers : List Progress) (page : ℕ) → place_in registers page ≡ None → All (λ register. register.page ≢ page) registers
All-from_place registers page none k d inside =
    let test = λ (register : Progress). register.page == page in
    let n = position_or_len test registers in
    elim (cases_lt n (length registers)) [
      | inl found ↦ absurd (none-some n (sym none ∙ place_some registers page found))
      | inr past ↦
          eqb-false (get_or registers k d).page page (fails_before_first test registers k d (omega (arith, inside, past)))
    ]

pub no_place : (place : Option ℕ) (registers : List Progress) (page : ℕ) → place ≡ place_in registers page → IsNone place ↔ All (λ register. register.page ≢ page) registers
no_place None registers page same = ((λ none. All-from_place registers page (sym same)), (λ others. refl))
no_place (Some n) registers page same =
    ((λ none. absurd (true≢false none)), (λ others. absurd (none-some n (sym (place_from_All registers page others) ∙ sym same))))
