-- One set of a cache changes.
use Rattle.std.proofs.Common.{◌≡◌, ℕ, ◌+◌, ◌<◌, ◌≤◌, List, [], length, get_or, set, replicate, sym, ap, subst, ◌∙◌, inl, inr, arith, rules}
use Rattle.std.proofs.lemmas.Bool.{cases_lt, cases_eq}
use Rattle.std.proofs.lemmas.Option.{unwrap_or-slice_get}
use Rattle.std.proofs.lemmas.List.{length-set, length-replicate, get_or-set_same, get_or-set_other, get_or-replicate, get_or_past, set-set, set-get_or, set_past}
use Rattle.std.proofs.lemmas.List.Elements.{All-nil}
use Rattle.pmem_base.specs.Shape.{Shape}
use Rattle.meta_cache.specs.Banks.{Slot, Banks, set_of}
use Rattle.meta_cache.specs.Sets.{IsSetOf, KeepsWays}
use Rattle.meta_cache.specs.State.{CacheState, bank_of, empty_banks, with_slots, IsCacheOf, ChangesSet}

pub bank_of-get_or : (banks : Banks) (bank : ℕ) → bank_of banks bank ≡ get_or banks bank []
bank_of-get_or banks bank = unwrap_or-slice_get banks bank []

pub set_of-get_or : (banks : Banks) (bank n : ℕ) → set_of banks bank n ≡ get_or (get_or banks bank []) n []
set_of-get_or banks bank n = search (rules, unwrap_or-slice_get, get_or, bank_of-get_or)

-- the banks with other slots in one set
abbrev pub with_set : Banks → ℕ → ℕ → List Slot → Banks
with_set banks bank n slots = set banks bank (set (get_or banks bank []) n slots)

-- the banks are those before but for one set
pub record IsInside (g : Shape) (banks : Banks) (bank n : ℕ) : Type 0 where
  pub form : IsCacheOf g banks
  pub its_bank : bank ≤ g.levels
  pub its_set : n < g.sets

bank_within : (g : Shape) (banks : Banks) (bank n : ℕ) → IsInside g banks bank n → bank < length banks
bank_within g banks bank n inside = omega (arith, inside.form.its_banks, inside.its_bank)

pub set_within : (g : Shape) (banks : Banks) (bank n : ℕ) → IsInside g banks bank n
    → n < length (get_or banks bank [])
set_within g banks bank n inside =
    omega (
      arith,
      inside.its_set,
      inside.form.its_sets bank inside.its_bank,
      ap (λ (sets : List (List Slot)). length sets) (bank_of-get_or banks bank),
    )

here_changed : (g : Shape) (banks : Banks) (bank n : ℕ) (slots : List Slot) → IsInside g banks bank n
    → set_of (with_set banks bank n slots) bank n ≡ slots
here_changed g banks bank n slots inside = search (rules, set_of-get_or, get_or, get_or-set_same, bank_within, set_within)

elsewhere_same : (g : Shape) (banks : Banks) (bank n : ℕ) (slots : List Slot) (bank' n' : ℕ) → IsInside g banks bank n
    → ((bank' ≡ bank) × (n' ≡ n) → ⊥)
    → set_of (with_set banks bank n slots) bank' n' ≡ set_of banks bank' n'
elsewhere_same g banks bank n slots bank' n' inside apart = search (rules, set_of-get_or, cases_eq, get_or, get_or-set_same, bank_within, get_or-set_other)

pub ChangesSet-with_set : (g : Shape) (banks : Banks) (bank n : ℕ) (slots : List Slot) → IsInside g banks bank n
    → KeepsWays (set_of banks bank n) slots
    → ChangesSet (record { shape = g; banks = banks }) (record { shape = g; banks = with_set banks bank n slots }) bank n slots
ChangesSet-with_set g banks bank n slots inside ways = search (rules, bank_of-get_or, here_changed, elsewhere_same)

-- ---- the cache with other slots in a set, as a value

-- a set has its own slots
pub with_slots-own : (cache : CacheState) (bank n : ℕ) → with_slots cache bank n (set_of cache.banks bank n) ≡ cache
with_slots-own cache bank n = search (rules, unwrap_or-slice_get, set-get_or, bank_of-get_or)

-- the later of two changes of a set stands
pub with_slots-twice : (cache : CacheState) (bank n : ℕ) (first second : List Slot)
    → with_slots (with_slots cache bank n first) bank n second ≡ with_slots cache bank n second
with_slots-twice cache bank n first second = search (rules, cases_lt, set-set, bank_of-get_or, get_or-set_same, set_past)

pub IsCacheOf-with_set : (g : Shape) (banks : Banks) (bank n : ℕ) (slots : List Slot) → IsInside g banks bank n
    → IsSetOf g n slots → IsCacheOf g (with_set banks bank n slots)
IsCacheOf-with_set g banks bank n slots inside form =
    record {
      its_banks = length-set banks bank (set (get_or banks bank []) n slots) ∙ inside.form.its_banks;
      its_sets = λ bank' low.
          ap (λ (sets : List (List Slot)). length sets) (bank_of-get_or (with_set banks bank n slots) bank') ∙ size bank' low;
      each_set = λ bank' n'. each bank' n';
    }
  where
    old_size : (bank' : ℕ) → bank' ≤ g.levels → length (get_or banks bank' []) ≡ g.sets
    old_size bank' low =
        ap (λ (sets : List (List Slot)). length sets) (sym (bank_of-get_or banks bank')) ∙ inside.form.its_sets bank' low

    size : (bank' : ℕ) → bank' ≤ g.levels → length (get_or (with_set banks bank n slots) bank' []) ≡ g.sets
    size bank' low =
        elim (cases_eq bank' bank) [
          | inl same ↦
              ap (λ b. length (get_or (with_set banks bank n slots) b [])) same
              ∙ ap (λ (sets : List (List Slot)). length sets)
              (get_or-set_same banks bank (set (get_or banks bank []) n slots) [] (bank_within g banks bank n inside))
              ∙ length-set (get_or banks bank []) n slots ∙ old_size bank inside.its_bank
          | inr other ↦
              ap (λ (sets : List (List Slot)). length sets)
              (get_or-set_other banks bank bank' (set (get_or banks bank []) n slots) [] other)
              ∙ old_size bank' low
        ]

    each : (bank' n' : ℕ) → IsSetOf g n' (set_of (with_set banks bank n slots) bank' n')
    each bank' n' =
        elim (cases_eq bank' bank) [
          | inl same ↦ elim (cases_eq n' n) [
            | inl here ↦
                subst (λ m. IsSetOf g m (set_of (with_set banks bank n slots) bank' m)) (sym here)
                (subst (λ b. IsSetOf g n (set_of (with_set banks bank n slots) b n)) (sym same)
                (subst (IsSetOf g n) (sym (here_changed g banks bank n slots inside)) form))
            | inr there ↦ kept bank' n' (λ e. there e.1)
          ]
          | inr other ↦ kept bank' n' (λ e. other e.0)
        ]
      where
        kept : (bank' n' : ℕ) → ((bank' ≡ bank) × (n' ≡ n) → ⊥)
            → IsSetOf g n' (set_of (with_set banks bank n slots) bank' n')
        kept bank' n' apart =
            subst (IsSetOf g n') (sym (elsewhere_same g banks bank n slots bank' n' inside apart))
            (inside.form.each_set bank' n')

-- ---- an empty cache, and the form that other crates know

pub IsSetOf-nil : (g : Shape) (n : ℕ) → IsSetOf g n []
IsSetOf-nil g n = search (rules, All-nil)

abbrev pub no_slots : List Slot
no_slots = []

abbrev pub empty_sets : Shape → List (List Slot)
empty_sets g = replicate g.sets no_slots

pub empty_banks_at : (g : Shape) (bank : ℕ) → bank < g.levels + 1
    → get_or (empty_banks g) bank [] ≡ empty_sets g
empty_banks_at g bank h = get_or-replicate (g.levels + 1) bank (empty_sets g) [] h

pub IsCacheOf-empty : (g : Shape) → IsCacheOf g (empty_banks g)
IsCacheOf-empty g =
    record {
      its_banks = length-replicate (g.levels + 1) (empty_sets g);
      its_sets = λ bank low.
          ap (λ (sets : List (List Slot)). length sets)
          (bank_of-get_or (empty_banks g) bank ∙ empty_banks_at g bank (omega arith))
          ∙ length-replicate g.sets no_slots;
      each_set = λ bank n. subst (IsSetOf g n) (sym (nothing bank n)) (IsSetOf-nil g n);
    }
  where
    none_at : (n : ℕ) → get_or (empty_sets g) n [] ≡ []
    none_at n =
        elim (cases_lt n g.sets) [
          | inl low ↦ get_or-replicate g.sets n no_slots no_slots low
          | inr past ↦ get_or_past (empty_sets g) n [] (omega (arith, length-replicate g.sets no_slots))
        ]

    nothing : (bank n : ℕ) → set_of (empty_banks g) bank n ≡ []
    nothing bank n =
        set_of-get_or (empty_banks g) bank n
        ∙ elim (cases_lt bank (g.levels + 1)) [
          | inl low ↦ ap (λ sets. get_or sets n []) (empty_banks_at g bank low) ∙ none_at n
          | inr past ↦ search (rules, get_or, get_or_past, length-replicate)
        ]
