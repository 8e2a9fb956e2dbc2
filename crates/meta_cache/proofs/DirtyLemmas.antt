-- What is found dirty is cached dirty, and where nothing is found nothing is dirty.
use Rattle.std.proofs.Common.{rules}
use Rattle.std.proofs.Common.{◌≡◌, ℕ, suc, ◌-◌, ◌<◌, ◌≤◌, Bool, true, false, cond, List, [], ◌∷◌, length, get_or, reverse, refl, sym, ap, subst, ◌∙◌, inl, inr, arith, Option, Some, None}
use Rattle.std.specs.Prelude.{◌==◌, ◌&&◌, find, slice_get, option_map, All, IfSome, IsNone}
use Rattle.std.specs.List.{list_any, filter_map, cons_option, range_with_len}
use Rattle.std.proofs.lemmas.Bool.{cases_lt, eq-eqb, and_from, and_right, false≢true}
use Rattle.std.proofs.lemmas.Option.{unwrap_or-slice_get}
use Rattle.std.proofs.lemmas.List.Elements.{All-nil, All-cons}
use Rattle.std.proofs.lemmas.List.{get_or-reverse, reverse-reverse, length-reverse, get_or_default, get_or_past}
use Rattle.std.proofs.lemmas.List.Folds.{list_any_at, list_any_none}
use Rattle.std.proofs.lemmas.List.FromFn.{length-range_with_len, get_or-range_with_len}
use Rattle.pmem_base.specs.Shape.{Shape}
use Rattle.pmem_base.proofs.ListLaws.{find_none}
use Rattle.meta_cache.specs.Banks.{Slot, Banks, set_of, set_index, is_cached_dirty}
use Rattle.meta_cache.specs.Sets.{oldest_dirty_in}
use Rattle.meta_cache.specs.State.{bank_of, IsCacheOf, oldest_dirty_of, dirty_in_bank, oldest_dirty}
use Rattle.meta_cache.proofs.SetLemmas.{blank}
use Rattle.meta_cache.proofs.CacheLemmas.{bank_of-get_or, set_of-get_or}

-- ---- in a list

-- an element that is found
record IsFound {X : Type 0} (p : X → Bool) (xs : List X) (x : X) : Type 0 where
  place : ℕ
  within : place < length xs
  here : get_or xs place x ≡ x
  passes : p x ≡ true

find_found : {X : Type 0} (p : X → Bool) (xs : List X) (x : X) → find p xs ≡ Some x → IsFound p xs x
find_found p [] x e = absurd cc
find_found {X = X} p (y ∷ xs) x e = by_test (p y) refl e (λ rest. find_found p xs x rest)
  where
    by_test : (test : Bool) → p y ≡ test → cond test (Some y) (find p xs) ≡ Some x
        → (find p xs ≡ Some x → IsFound p xs x) → IsFound p (y ∷ xs) x
    by_test true passes found again =
        let same : y ≡ x = cc in
        record { place = 0; within = omega arith; here = same; passes = ap p (sym same) ∙ passes }
    by_test false fails found again =
        let later : IsFound p xs x = again found in
        record { place = suc later.place; within = omega (arith, later.within); here = later.here; passes = later.passes }

-- the first answer is that of some element
record IsDirtyAnswer {X Y : Type 0} (f : X → Option Y) (xs : List X) (y : Y) : Type 0 where
  place : ℕ
  within : place < length xs
  answers : (d : X) → f (get_or xs place d) ≡ Some y

answer_found : {X Y : Type 0} (f : X → Option Y) (xs : List X) (y : Y) → slice_get (filter_map f xs) 0 ≡ Some y
    → IsDirtyAnswer f xs y
answer_found f [] y e = absurd cc
answer_found {X = X} {Y = Y} f (x ∷ xs) y e = by_answer (f x) refl e (λ rest. answer_found f xs y rest)
  where
    by_answer : (answer : Option Y) → f x ≡ answer → slice_get (cons_option answer (filter_map f xs)) 0 ≡ Some y
        → (slice_get (filter_map f xs) 0 ≡ Some y → IsDirtyAnswer f xs y) → IsDirtyAnswer f (x ∷ xs) y
    by_answer None silent found again =
        let later : IsDirtyAnswer f xs y = again found in
        record { place = suc later.place; within = omega (arith, later.within); answers = λ d. later.answers d }
    by_answer (Some z) answers found again =
        let same : z ≡ y = cc in
        record { place = 0; within = omega arith; answers = λ d. answers ∙ ap (λ (v : Y). Some v) same }

-- ---- in a set, a bank and a cache

position_found : (answer : Option Slot) (x : ℕ) → option_map (λ (slot : Slot). slot.position) answer ≡ Some x
    → (slot : Slot) × (answer ≡ Some slot) × (slot.position ≡ x)
position_found v0 x e = search rules

-- the oldest dirty position of a set is dirty there
record IsSlotDirtyAt (slots : List Slot) (x : ℕ) : Type 0 where
  place : ℕ
  within : place < length slots
  position : (d : Slot) → (get_or slots place d).position ≡ x
  dirty : (d : Slot) → (get_or slots place d).dirty ≡ true

dirty_at : (slots : List Slot) (x : ℕ) → oldest_dirty_in slots ≡ Some x → IsSlotDirtyAt slots x
dirty_at slots x e =
    let slot = position_found (find (λ (s : Slot). s.dirty) (reverse slots)) x e in
    let found : IsFound (λ (s : Slot). s.dirty) (reverse slots) slot.0 = search (rules, find_found) in
    let within : found.place < length slots = omega (arith, found.within, length-reverse slots) in
    let at : (d : Slot) → get_or slots (length slots - 1 - found.place) d ≡ slot.0 = search (rules, get_or_default, get_or-reverse) in
    record {
      place = length slots - 1 - found.place;
      within = omega arith;
      position = λ d. ap (λ (s : Slot). s.position) (at d) ∙ slot.2;
      dirty = λ d. ap (λ (s : Slot). s.dirty) (at d) ∙ found.passes;
    }

-- the oldest dirty position of a bank is cached dirty
pub oldest_of_bank_cached : (g : Shape) (banks : Banks) (bank x : ℕ) → IsCacheOf g banks
    → oldest_dirty_of (bank_of banks bank) ≡ Some x → is_cached_dirty g banks bank x ≡ true
oldest_of_bank_cached g banks bank x form e =
    let answer : IsDirtyAnswer oldest_dirty_in (bank_of banks bank) x = search (rules, answer_found) in
    let n : ℕ = answer.place in
    let set : get_or (bank_of banks bank) n [] ≡ set_of banks bank n = search (rules, get_or, bank_of-get_or, set_of-get_or) in
    let dirty : IsSlotDirtyAt (set_of banks bank n) x = search (rules, dirty_at) in
    let its : set_index g x ≡ n =
    ap (set_index g) (sym (dirty.position blank)) ∙ (form.each_set bank n).its_positions dirty.place blank dirty.within in
    ap (λ m. list_any (λ (s : Slot). s.position == x && s.dirty) (set_of banks bank m)) its
    ∙ list_any_at (λ (s : Slot). s.position == x && s.dirty) (set_of banks bank n) dirty.place blank dirty.within
    (and_from ((get_or (set_of banks bank n) dirty.place blank).position == x) (get_or (set_of banks bank n) dirty.place blank).dirty
    (eq-eqb (get_or (set_of banks bank n) dirty.place blank).position x (dirty.position blank)) (dirty.dirty blank))

pair_found : (answer : Option ℕ) (bank : ℕ) (found : ℕ × ℕ) → option_map (λ x. (bank, x)) answer ≡ Some found
    → (answer ≡ Some found.1) × (bank ≡ found.0)
pair_found v0 bank found e = search rules

-- the oldest dirty position is cached dirty in its bank
pub oldest_cached : (g : Shape) (banks : Banks) (found : ℕ × ℕ) → IsCacheOf g banks
    → oldest_dirty banks ≡ Some found → (found.0 ≤ g.levels) × (is_cached_dirty g banks found.0 found.1 ≡ true)
oldest_cached g banks found form e =
    let answer : IsDirtyAnswer (dirty_in_bank banks) (range_with_len 0 (length banks)) found = search (rules, answer_found) in
    let low : answer.place < length banks = omega (arith, answer.within, length-range_with_len 0 (length banks)) in
    let at : get_or (range_with_len 0 (length banks)) answer.place 0 ≡ answer.place =
    omega (arith, get_or-range_with_len 0 (length banks) answer.place 0 low) in
    let pair = pair_found (oldest_dirty_of (bank_of banks answer.place)) answer.place found
    (ap (dirty_in_bank banks) (sym at) ∙ answer.answers 0) in (
      omega (arith, low, form.its_banks, pair.1),
      ap (λ b. is_cached_dirty g banks b found.1) (sym pair.1)
          ∙ oldest_of_bank_cached g banks answer.place found.1 form pair.0,
    )

-- the same of an answer that may be none
pub oldest_of_bank_if : (g : Shape) (banks : Banks) (bank : ℕ) (answer : Option ℕ) → IsCacheOf g banks
    → answer ≡ oldest_dirty_of (bank_of banks bank) → IfSome answer (λ x. is_cached_dirty g banks bank x ≡ true)
oldest_of_bank_if g banks bank None form e = tt
oldest_of_bank_if g banks bank (Some x) form e = oldest_of_bank_cached g banks bank x form (sym e)

pub oldest_if : (g : Shape) (banks : Banks) (answer : Option (ℕ × ℕ)) → IsCacheOf g banks
    → answer ≡ oldest_dirty banks
    → IfSome answer (λ found. (found.0 ≤ g.levels) × (is_cached_dirty g banks found.0 found.1 ≡ true))
oldest_if g banks None form e = tt
oldest_if g banks (Some found) form e = oldest_cached g banks found form (sym e)

-- ---- where nothing is found

-- no answer at all
no_answers : {X Y : Type 0} (f : X → Option Y) (xs : List X) → slice_get (filter_map f xs) 0 ≡ None
    → All (λ x. f x ≡ None) xs
no_answers f [] none = All-nil (λ x. f x ≡ None)
no_answers {X = X} {Y = Y} f (x ∷ xs) none = by_answer (f x) refl none (λ rest. no_answers f xs rest)
  where
    by_answer : (answer : Option Y) → f x ≡ answer → slice_get (cons_option answer (filter_map f xs)) 0 ≡ None
        → (slice_get (filter_map f xs) 0 ≡ None → All (λ y. f y ≡ None) xs) → All (λ y. f y ≡ None) (x ∷ xs)
    by_answer None silent rest again = All-cons (λ y. f y ≡ None) x xs silent (again rest)
    by_answer (Some y) answers rest again = absurd cc

mapped_none : {X Y : Type 0} (f : X → Y) (answer : Option X) → option_map f answer ≡ None → answer ≡ None
mapped_none f v1 e = search rules

-- no slot of the set is dirty
all_clean : (slots : List Slot) → oldest_dirty_in slots ≡ None → All (λ (slot : Slot). slot.dirty ≡ false) slots
all_clean slots e =
    let none : find (λ (s : Slot). s.dirty) (reverse slots) ≡ None = search (rules, mapped_none) in
    subst (All (λ (slot : Slot). slot.dirty ≡ false)) (reverse-reverse slots)
    (All-reverse (reverse slots) (find_none (λ (s : Slot). s.dirty) (reverse slots) none))
  where
    All-reverse : (ys : List Slot) → All (λ (slot : Slot). slot.dirty ≡ false) ys
        → All (λ (slot : Slot). slot.dirty ≡ false) (reverse ys)
    All-reverse ys all =
        λ k d h.
        let low : k < length ys = omega (arith, h, length-reverse ys) in
        ap (λ (s : Slot). s.dirty) (get_or-reverse ys k d low) ∙ all (length ys - 1 - k) d (omega arith)

-- no position of the bank is cached dirty
pub bank_clean : (g : Shape) (banks : Banks) (bank x : ℕ) → oldest_dirty_of (bank_of banks bank) ≡ None
    → is_cached_dirty g banks bank x ≡ false
bank_clean g banks bank x e =
    list_any_none (λ (s : Slot). s.position == x && s.dirty) (set_of banks bank (set_index g x))
    (λ k d h.
    and_right ((get_or (set_of banks bank (set_index g x)) k d).position == x)
    (get_or (set_of banks bank (set_index g x)) k d).dirty
    (all_clean (set_of banks bank (set_index g x)) silent k d h))
  where
    silent : oldest_dirty_in (set_of banks bank (set_index g x)) ≡ None
    silent =
        ap oldest_dirty_in (unwrap_or-slice_get (bank_of banks bank) (set_index g x) [])
        ∙ elim (cases_lt (set_index g x) (length (bank_of banks bank))) [
          | inl low ↦ no_answers oldest_dirty_in (bank_of banks bank) e (set_index g x) [] low
          | inr past ↦ ap oldest_dirty_in (get_or_past (bank_of banks bank) (set_index g x) [] past)
        ]

-- no position of the cache is cached dirty
pub cache_clean : (g : Shape) (banks : Banks) (bank x : ℕ) → oldest_dirty banks ≡ None
    → is_cached_dirty g banks bank x ≡ false
cache_clean g banks bank x e =
    elim (cases_lt bank (length banks)) [
      | inl low ↦
          let at : get_or (range_with_len 0 (length banks)) bank 0 ≡ bank =
          omega (arith, get_or-range_with_len 0 (length banks) bank 0 low) in
          bank_clean g banks bank x
          (mapped_none (λ y. (bank, y)) (oldest_dirty_of (bank_of banks bank))
          (ap (dirty_in_bank banks) (sym at)
          ∙ no_answers (dirty_in_bank banks) (range_with_len 0 (length banks)) e bank 0
          (omega (arith, low, length-range_with_len 0 (length banks)))))
      | inr past ↦ search (rules, bank_clean, bank_of-get_or, get_or_past)
    ]

pub bank_clean_if : (g : Shape) (banks : Banks) (bank : ℕ) (answer : Option ℕ)
    → answer ≡ oldest_dirty_of (bank_of banks bank) → IsNone answer → (x : ℕ) → is_cached_dirty g banks bank x ≡ false
bank_clean_if g banks bank None e none x = bank_clean g banks bank x (sym e)
bank_clean_if g banks bank (Some y) e none x = absurd (false≢true (sym none))

pub cache_clean_if : (g : Shape) (banks : Banks) (answer : Option (ℕ × ℕ)) → answer ≡ oldest_dirty banks
    → IsNone answer → (bank x : ℕ) → is_cached_dirty g banks bank x ≡ false
cache_clean_if g banks None e none bank x = cache_clean g banks bank x (sym e)
cache_clean_if g banks (Some y) e none bank x = absurd (false≢true (sym none))
