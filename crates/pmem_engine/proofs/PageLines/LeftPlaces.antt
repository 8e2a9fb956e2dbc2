-- The places of a page's lines that aren't done, and the registers with the lowest of them done.
use Rattle.std.proofs.Common.{rules, ℕ, zero, suc, ◌≡◌, ◌≢◌, ◌<◌, ◌+◌, ◌++◌, inl, inr, Bool, true, false, List, [], ◌∷◌, length, get_or, cond, Some, None, refl, sym, ap, subst, ◌∙◌, arith}
use Rattle.std.specs.Prelude.{◌==◌, not, nat_lt, filter, slice_get, All, AllPairs}
use Rattle.std.specs.List.{range_with_len, remove}
use Rattle.std.proofs.Math.ListN.{set}
use Rattle.std.proofs.lemmas.Bool.{cases_Bool, cases_lt, lt-ltb, eq-eqb, and_from, true≢false}
use Rattle.std.proofs.lemmas.Option.{same_Some, none-some}
use Rattle.std.proofs.lemmas.List.{length-set, get_or-set_same}
use Rattle.std.proofs.lemmas.List.Elements.{All-weaker, All-from_get_or}
use Rattle.std.proofs.lemmas.List.Edits.{length-remove, get_or-remove_below, get_or-remove_above}
use Rattle.pmem_base.specs.declared.registers.Progress.{Progress}
use Rattle.pmem_base.specs.Shape.{Shape}
use Rattle.pmem_base.specs.Layout.{page_of, index_in_page}
use Rattle.pmem_base.specs.Registers.{places_of_page, is_done, not_done, with_done, empty_progress, IsProgress}
use Rattle.pmem_base.proofs.ListLaws.{All-middle}
use Rattle.page_reencrypt.specs.Registers.{register_of, register_held, registers_with_done}
use Rattle.page_reencrypt.proofs.DoneBits.{not_done-with_done, not_done-small, not_done-not_done}
use Rattle.page_reencrypt.proofs.Holding.{registers_with_done-at, All-registers_with_done, none_of_page, none_from_All, with_done-page}
use Rattle.page_reencrypt.proofs.AtPlace.{register_held-at}
use Rattle.pmem_engine.specs.Resealing.{line_of_page}

-- ---- places

-- numbers from s upwards don't hold one below s
above_kept : (test : ℕ → Bool) (k s n : ℕ) → k < s
    → filter (λ j. not (j == k)) (filter test (range_with_len s n)) ≡ filter test (range_with_len s n)
above_kept test k s zero below = refl
above_kept test k s (suc n) below =
    let rest = filter test (range_with_len (s + 1) n) in
    let later = above_kept test k (s + 1) n (omega (arith, below)) in
    let apart : s ≢ k = λ same. omega (arith, below, same) in
    elim (cases_Bool (test s)) [
      | inl passes ↦
          search rules
      | inr fails ↦
          search rules
    ]

abbrev tail_of : List ℕ → List ℕ
tail_of [] = []
tail_of (x ∷ xs) = xs

abbrev head_of : List ℕ → ℕ
head_of [] = 0
head_of (x ∷ xs) = x

abbrev is_empty : List ℕ → Bool
is_empty [] = true
is_empty (x ∷ xs) = false

-- the first of them left out
first_out : (test : ℕ → Bool) (s n i : ℕ) (left : List ℕ) → filter test (range_with_len s n) ≡ i ∷ left
    → filter (λ j. not (j == i)) (filter test (range_with_len s n)) ≡ left
first_out test s zero i left is = absurd (true≢false (ap is_empty is))
first_out test s (suc n) i left is =
    let rest = filter test (range_with_len (s + 1) n) in
    elim (cases_Bool (test s)) [
      | inl passes ↦
          let both : s ∷ rest ≡ i ∷ left = sym (ap (λ t. cond t (s ∷ rest) rest) passes) ∙ is in
          let first : s ≡ i = ap head_of both in
          ap (λ t. filter (λ j. not (j == i)) (cond t (s ∷ rest) rest)) passes
          ∙ ap (λ t. cond (not t) (s ∷ filter (λ j. not (j == i)) rest) (filter (λ j. not (j == i)) rest)) (eq-eqb s i first)
          ∙ subst (λ k. filter (λ j. not (j == k)) rest ≡ rest) first (above_kept test s (s + 1) n (omega arith))
          ∙ ap tail_of both
      | inr fails ↦
          ap (λ t. filter (λ j. not (j == i)) (cond t (s ∷ rest) rest)) fails
          ∙ first_out test (s + 1) n i left (sym (ap (λ t. cond t (s ∷ rest) rest) fails) ∙ is)
    ]

places_are : places_of_page ≡ range_with_len 0 64
unfolding places_of_page
places_are = refl

-- the places left once the lowest line is done
pub lowest_done : (register : Progress) (i : ℕ) (left : List ℕ) → not_done register ≡ i ∷ left
    → not_done (with_done register i) ≡ left
unfolding not_done
lowest_done register i left is =
    not_done-with_done register i
    ∙ subst
    (λ places.
    filter (λ j. not (is_done register j)) places ≡ i ∷ left
    → filter (λ j. not (j == i)) (filter (λ j. not (is_done register j)) places) ≡ left)
    (sym places_are) (first_out (λ j. not (is_done register j)) 0 64 i left) is

-- a list with a first element
pub first_and_rest : (xs : List ℕ) (i : ℕ) → slice_get xs 0 ≡ Some i → (rest : List ℕ) × (xs ≡ i ∷ rest)
first_and_rest [] i is = absurd (none-some i is)
first_and_rest (x ∷ xs) i is = (xs, ap (λ y. y ∷ xs) (same_Some x i is))

-- ---- the register that holds a line

module _ (items : List Progress) (n i : ℕ) (before after : List ℕ) (apart : AllPairs (λ x y. x.page ≢ y.page) items)
    (inside : n < length items) (places : not_done (get_or items n empty_progress) ≡ before ++ i ∷ after) where
  abbrev at_place : Progress
  at_place = get_or items n empty_progress

  pub place_small : i < 64
  place_small = All-middle (λ j. j < 64) before i after (subst (All (λ j. j < 64)) places (not_done-small at_place))

  not_yet : is_done at_place i ≡ false
  not_yet =
      All-middle (λ j. is_done at_place j ≡ false) before i after
      (subst (All (λ j. is_done at_place j ≡ false)) places (not_done-not_done at_place))

  pub page_of_line : page_of (line_of_page at_place i) ≡ at_place.page
  page_of_line = let small = place_small in omega (arith, small)

  pub place_of_line : index_in_page (line_of_page at_place i) ≡ i
  place_of_line = let small = place_small in omega (arith, small)

  pub line_held : register_held items (line_of_page at_place i) ≡ Some at_place
  line_held = search (rules, eq-eqb, and_from, register_held-at, not_yet, page_of_line, place_of_line)

-- ---- the registers with the lowest line of one of them done

-- a page that has no register gets none
pub others_kept : (items : List Progress) (a page : ℕ) → register_of items page ≡ None
    → register_of (registers_with_done items a) page ≡ None
others_kept items a page none =
    none_from_All (registers_with_done items a) page
    (All-registers_with_done (λ register. register.page ≢ page) (λ register. register.page ≢ page) a
    (λ register other some same. other (sym (with_done-page a register) ∙ same)) items (none_of_page items page none))

module _ (g : Shape) (items : List Progress) (n i : ℕ) (left : List ℕ) (all : All (IsProgress g) items)
    (apart : AllPairs (λ x y. x.page ≢ y.page) items) (inside : n < length items)
    (places : not_done (get_or items n empty_progress) ≡ i ∷ left) where
  abbrev register : Progress
  register = get_or items n empty_progress

  abbrev at : ℕ
  at = line_of_page register i

  small : i < 64
  small = place_small items n i [] left apart inside places

  its_page : page_of at ≡ register.page
  its_page = page_of_line items n i [] left apart inside places

  its_place : index_in_page at ≡ i
  its_place = place_of_line items n i [] left apart inside places

  by_place : registers_with_done items at
      ≡ cond (nat_lt 0 (length left)) (set items n (with_done register i)) (remove items n)
  by_place =
      registers_with_done-at items at n empty_progress
      (All-weaker (IsProgress g) (λ r. 0 < length (not_done r)) (λ r is. is.some_left) items all) apart inside (sym its_page)
      ∙ ap (λ k. cond (nat_lt 0 (length (not_done (with_done register k)))) (set items n (with_done register k)) (remove items n))
      its_place
      ∙ ap (λ l. cond (nat_lt 0 (length l)) (set items n (with_done register i)) (remove items n))
      (lowest_done register i left places)

  -- the last one of the page: its register goes
  with_last : left ≡ [] → registers_with_done items at ≡ remove items n
  with_last none =
      by_place ∙ ap (λ l. cond (nat_lt 0 (length l)) (set items n (with_done register i)) (remove items n)) none

  pub one_less : left ≡ [] → length (registers_with_done items at) + 1 ≡ length items
  one_less none = ap (λ l. length l + 1) (with_last none) ∙ length-remove items n inside

  elsewhere : All (λ r. r.page ≢ register.page) (remove items n)
  elsewhere =
      All-from_get_or (λ r. r.page ≢ register.page) (remove items n) empty_progress
      (λ k below.
      elim (cases_lt k n) [
        | inl before ↦
            λ same.
            apart k n empty_progress before inside
            (ap (λ r. r.page) (sym (get_or-remove_below items n empty_progress k before inside)) ∙ same)
        | inr from ↦
            λ same.
            apart n (k + 1) empty_progress (omega (arith, from))
            (let shorter = length-remove items n inside in omega (arith, below, shorter))
            (sym same ∙ ap (λ r. r.page) (get_or-remove_above items n empty_progress k from inside))
      ])

  pub page_closed : left ≡ [] → register_of (registers_with_done items at) register.page ≡ None
  page_closed none =
      ap (λ l. register_of l register.page) (with_last none)
      ∙ none_from_All (remove items n) register.page elsewhere

  -- or another one is left: its register stays
  with_more : 0 < length left → registers_with_done items at ≡ set items n (with_done register i)
  with_more some =
      by_place ∙ ap (λ t. cond t (set items n (with_done register i)) (remove items n)) (lt-ltb 0 (length left) some)

  pub as_many : 0 < length left → length (registers_with_done items at) ≡ length items
  as_many some = ap length (with_more some) ∙ length-set items n (with_done register i)

  register_now : 0 < length left → get_or (registers_with_done items at) n empty_progress ≡ with_done register i
  register_now some =
      ap (λ l. get_or l n empty_progress) (with_more some)
      ∙ get_or-set_same items n (with_done register i) empty_progress inside

  pub page_stays : 0 < length left → (get_or (registers_with_done items at) n empty_progress).page ≡ register.page
  page_stays some = ap (λ r. r.page) (register_now some)

  pub places_left : 0 < length left → not_done (get_or (registers_with_done items at) n empty_progress) ≡ left
  places_left some = ap not_done (register_now some) ∙ lowest_done register i left places
