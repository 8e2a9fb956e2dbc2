-- The oldest dirty block of a bank is the first of the bank's order, and once it is clean the order goes on
-- with the next one.
use Rattle.std.proofs.Common.{ℕ, suc, ◌≡◌, ◌<◌, ◌≤◌, ◌+◌, ◌⊎◌, inl, inr, Bool, true, false, cond, List, [], ◌∷◌, ◌++◌, length, get_or, Option, Some, None, refl, sym, ap, ap₂, subst, subst₂, ◌∙◌, arith, rules}
use Rattle.std.specs.Prelude.{slice_get, option_map, ◌==◌, All}
use Rattle.std.specs.List.{cons_option}
use Rattle.std.specs.Option.{option_or}
use Rattle.std.proofs.lemmas.Bool.{cases_eq, cond-true, cond-false, eq-eqb, ne_eqb}
use Rattle.std.proofs.lemmas.Grind.{reverse_onto}
use Rattle.std.proofs.lemmas.List.Folds.{find-append}
use Rattle.std.proofs.lemmas.Option.{unwrap_or-slice_get, none-some}
use Rattle.pmem_base.specs.Shape.{Shape}
use Rattle.meta_cache.specs.declared.slot.Slot.{Slot}
use Rattle.meta_cache.specs.Banks.{Banks, set_of, set_index}
use Rattle.meta_cache.specs.Sets.{slot_marked, with_mark, oldest_dirty_in, ArePositionsApart}
use Rattle.meta_cache.specs.State.{CacheState, bank_of, oldest_dirty_of, IsCacheOf, ChangesSet}
use Rattle.meta_cache.proofs.SetLemmas.{blank}
use Rattle.meta_path.specs.Blocks.{slots_at}
use Rattle.pmem_engine.specs.DirtyOrder.{dirty_positions, dirty_order}

-- ---- the first of an order

first_of : (xs ys : List ℕ) → slice_get (xs ++ ys) 0 ≡ option_or (slice_get xs 0) (slice_get ys 0)
first_of [] ys = refl
first_of (x ∷ xs) ys = refl

-- the order of a slot alone
abbrev own : Slot → List ℕ
own slot = cond slot.dirty (slot.position ∷ []) []

found_or : (found : Option Slot) (slot : Slot) (dirty : Bool)
    → option_map (λ (s : Slot). s.position) (option_or found (cond dirty (Some slot) None))
    ≡ option_or (option_map (λ (s : Slot). s.position) found) (slice_get (cond dirty (slot.position ∷ []) []) 0)
found_or (Some other) slot dirty = refl
found_or None slot true = refl
found_or None slot false = refl

first_of_set : (slots : List Slot) → slice_get (dirty_positions slots) 0 ≡ oldest_dirty_in slots
first_of_set [] = refl
first_of_set (slot ∷ slots) = search (rules, first_of, reverse_onto, find-append, found_or, (first_of_set slots))

answer_or : (answer : Option ℕ) (answers : List ℕ)
    → slice_get (cons_option answer answers) 0 ≡ option_or answer (slice_get answers 0)
answer_or None answers = refl
answer_or (Some x) answers = refl

pub first_of_bank : (sets : List (List Slot)) → slice_get (dirty_order sets) 0 ≡ oldest_dirty_of sets
first_of_bank [] = refl
first_of_bank (slots ∷ sets) = search (rules, first_of, first_of_set, answer_or, (first_of_bank sets))

-- ---- a set whose first one is cleaned

both_empty : (xs ys : List ℕ) → xs ++ ys ≡ [] → (xs ≡ []) × (ys ≡ [])
both_empty [] ys e = (refl, e)
both_empty (x ∷ xs) ys e = absurd cc

own_marked : (slot : Slot) (same : Bool) → own slot ≡ [] → own (cond same (slot_marked slot false) slot) ≡ []
own_marked slot true none = refl
own_marked slot false none = none

-- a set with no dirty slot stays so
none_marked : (slots : List Slot) (x : ℕ) → dirty_positions slots ≡ [] → dirty_positions (with_mark slots x false) ≡ []
unfolding with_mark
none_marked [] x none = refl
none_marked (slot ∷ slots) x none =
    let both : (dirty_positions slots ≡ []) × (own slot ≡ []) = both_empty (dirty_positions slots) (own slot) none in
    ap₂ (λ xs ys. xs ++ ys) (none_marked slots x both.0) (own_marked slot (slot.position == x) both.1)

-- the first one of a set's order stands in the set
record IsAt (slots : List Slot) (x : ℕ) : Type 0 where
  place : ℕ
  within : place < length slots
  position : (d : Slot) → (get_or slots place d).position ≡ x

first_stands : (slots : List Slot) (x : ℕ) (rest : List ℕ) → dirty_positions slots ≡ x ∷ rest → IsAt slots x
first_stands [] x rest e = absurd cc
first_stands (slot ∷ slots) x rest e =
    by (dirty_positions slots) refl e (λ later is. first_stands slots x later is)
  where
    alone : (dirty : Bool) → cond dirty (slot.position ∷ []) [] ≡ x ∷ rest → slot.position ≡ x
    alone true is = cc
    alone false is = absurd cc

    by : (xs : List ℕ) → dirty_positions slots ≡ xs → xs ++ own slot ≡ x ∷ rest
        → ((later : List ℕ) → dirty_positions slots ≡ x ∷ later → IsAt slots x) → IsAt (slot ∷ slots) x
    by [] none is again =
        record { place = 0; within = omega arith; position = λ d. alone slot.dirty is }
    by (y ∷ ys) some is again =
        let same : y ≡ x = cc in
        let later : IsAt slots x = again ys (some ∙ ap (λ z. z ∷ ys) same) in
        record { place = suc later.place; within = omega (arith, later.within); position = λ d. later.position d }

-- once it is clean the set's order goes on
rest_marked : (slots : List Slot) (x : ℕ) (rest : List ℕ) → ArePositionsApart slots → dirty_positions slots ≡ x ∷ rest
    → dirty_positions (with_mark slots x false) ≡ rest
unfolding with_mark
rest_marked [] x rest apart e = absurd cc
rest_marked (slot ∷ slots) x rest apart e =
    by (dirty_positions slots) refl e
    (λ later is. rest_marked slots x later (λ i j d less within. apart (suc i) (suc j) d (omega (arith, less)) (omega (arith, within))) is)
  where
    marked : Slot
    marked = cond (slot.position == x) (slot_marked slot false) slot

    alone : (dirty : Bool) → cond dirty (slot.position ∷ []) [] ≡ x ∷ rest → (slot.position ≡ x) × ([] ≡ rest)
    alone true is = (cc, cc)
    alone false is = absurd cc

    by : (xs : List ℕ) → dirty_positions slots ≡ xs → xs ++ own slot ≡ x ∷ rest
        → ((later : List ℕ) → dirty_positions slots ≡ x ∷ later → dirty_positions (with_mark slots x false) ≡ later)
        → dirty_positions (with_mark slots x false) ++ own marked ≡ rest
    by [] none is again =
        let its : (slot.position ≡ x) × ([] ≡ rest) = alone slot.dirty is in
        ap₂ (λ xs ys. xs ++ ys) (none_marked slots x none)
        (ap own (cond-true (slot.position == x) (slot_marked slot false) slot (eq-eqb slot.position x its.0)))
        ∙ its.1
    by (y ∷ ys) some is again =
        let same : y ≡ x = cc in
        let tail : ys ++ own slot ≡ rest = cc in
        let here : dirty_positions slots ≡ x ∷ ys = some ∙ ap (λ z. z ∷ ys) same in
        let at : IsAt slots x = first_stands slots x ys here in
        let other : slot.position ≡ x → ⊥ =
        λ is_x. apart 0 (suc at.place) slot (omega arith) (omega (arith, at.within)) (is_x ∙ sym (at.position slot)) in
        ap₂ (λ xs ys. xs ++ ys) (again ys here)
        (ap own (cond-false (slot.position == x) (slot_marked slot false) slot (ne_eqb slot.position x other)))
        ∙ tail

-- ---- a bank whose first one is cleaned

-- the sets from one on, of which that of position x has x cleaned, and the others are as they were
record IsCleanedIn (g : Shape) (x first : ℕ) (olds news : List (List Slot)) : Type 0 where
  count : length news ≡ length olds
  positions : (k : ℕ) → All (λ (s : Slot). set_index g s.position ≡ first + k) (get_or olds k [])
  apart : (k : ℕ) → ArePositionsApart (get_or olds k [])
  here : (k : ℕ) → set_index g x ≡ first + k → get_or news k [] ≡ with_mark (get_or olds k []) x false
  elsewhere : (k : ℕ) → (set_index g x ≡ first + k → ⊥) → get_or news k [] ≡ get_or olds k []

later_sets : (g : Shape) (x first : ℕ) (old new : List Slot) (olds news : List (List Slot))
    → IsCleanedIn g x first (old ∷ olds) (new ∷ news) → IsCleanedIn g x (first + 1) olds news
later_sets g x first old new olds news it =
    record {
      count = omega (arith, it.count);
      positions =
          λ k.
          subst (λ n. All (λ (s : Slot). set_index g s.position ≡ n) (get_or olds k [])) (shifted k) (it.positions (suc k));
      apart = λ k. it.apart (suc k);
      here = λ k is. it.here (suc k) (is ∙ sym (shifted k));
      elsewhere = λ k other. it.elsewhere (suc k) (λ is. other (is ∙ shifted k));
    }
  where
    shifted : (k : ℕ) → first + suc k ≡ first + 1 + k
    shifted k = omega arith

same_order : (olds news : List (List Slot)) → length news ≡ length olds → ((k : ℕ) → get_or news k [] ≡ get_or olds k [])
    → dirty_order news ≡ dirty_order olds
same_order [] [] long same = refl
same_order [] (new ∷ news) long same = absurd (omega (arith, long))
same_order (old ∷ olds) [] long same = absurd (omega (arith, long))
same_order (old ∷ olds) (new ∷ news) long same =
    ap₂ (λ slots rest. dirty_positions slots ++ rest) (same 0)
    (same_order olds news (omega (arith, long)) (λ k. same (suc k)))

order_rest : (g : Shape) (x first : ℕ) (olds news : List (List Slot)) (rest : List ℕ) → IsCleanedIn g x first olds news
    → dirty_order olds ≡ x ∷ rest → dirty_order news ≡ rest
order_rest g x first [] news rest it e = absurd cc
order_rest g x first (old ∷ olds) [] rest it e = absurd (omega (arith, it.count))
order_rest g x first (old ∷ olds) (new ∷ news) rest it e =
    by (dirty_positions old) refl e
    (λ is. order_rest g x (first + 1) olds news rest (later_sets g x first old new olds news it) is)
  where
    by : (xs : List ℕ) → dirty_positions old ≡ xs → xs ++ dirty_order olds ≡ x ∷ rest
        → (dirty_order olds ≡ x ∷ rest → dirty_order news ≡ rest) → dirty_positions new ++ dirty_order news ≡ rest
    by [] none is again = ap₂ (λ xs ys. xs ++ ys) (still (cases_eq (set_index g x) (first + 0))) (again is)
      where
        still : (set_index g x ≡ first + 0) ⊎ (set_index g x ≡ first + 0 → ⊥) → dirty_positions new ≡ []
        still (inl its) = ap dirty_positions (it.here 0 its) ∙ none_marked old x none
        still (inr other) = ap dirty_positions (it.elsewhere 0 other) ∙ none
    by (y ∷ ys) some is again =
        let same : y ≡ x = cc in
        let tail : ys ++ dirty_order olds ≡ rest = cc in
        let first_is : dirty_positions old ≡ x ∷ ys = some ∙ ap (λ z. z ∷ ys) same in
        let at : IsAt old x = first_stands old x ys first_is in
        let its : set_index g x ≡ first + 0 =
        ap (set_index g) (sym (at.position blank)) ∙ it.positions 0 at.place blank at.within in
        ap₂ (λ xs ys. xs ++ ys) (ap dirty_positions (it.here 0 its) ∙ rest_marked old x ys (it.apart 0) first_is)
        (same_order olds news (omega (arith, it.count))
        (λ k. it.elsewhere (suc k) (λ there. absurd (omega (arith, its, there)))))
        ∙ tail

-- a bank of a cache: its oldest dirty block is the first, and once it is clean the order goes on
pub order_cleaned : (g : Shape) (old new : CacheState) (bank x : ℕ) → bank ≤ g.levels → IsCacheOf g old.banks
    → IsCacheOf g new.banks
    → ChangesSet old new bank (set_index g x) (with_mark (slots_at g old.banks bank x) x false)
    → oldest_dirty_of (bank_of old.banks bank) ≡ Some x
    → dirty_order (bank_of old.banks bank) ≡ x ∷ dirty_order (bank_of new.banks bank)
order_cleaned g old new bank x low was now changes oldest =
    by (dirty_order (bank_of old.banks bank)) refl (first_of_bank (bank_of old.banks bank) ∙ oldest)
  where
    at : (banks : Banks) (k : ℕ) → set_of banks bank k ≡ get_or (bank_of banks bank) k []
    at banks k = unwrap_or-slice_get (bank_of banks bank) k []

    cleaned : IsCleanedIn g x 0 (bank_of old.banks bank) (bank_of new.banks bank)
    cleaned =
        record {
          count = now.its_sets bank low ∙ sym (was.its_sets bank low);
          positions =
              λ k.
              let shifted : k ≡ 0 + k = omega arith in
              subst₂ (λ (n : ℕ) (slots : List Slot). All (λ (s : Slot). set_index g s.position ≡ n) slots)
              shifted (at old.banks k) (was.each_set bank k).its_positions;
          apart = λ k. subst ArePositionsApart (at old.banks k) (was.each_set bank k).distinct_positions;
          here =
              λ k its.
              let own_set : set_index g x ≡ k = omega (arith, its) in
              sym (at new.banks k) ∙ ap (set_of new.banks bank) (sym own_set) ∙ changes.here
              ∙ ap (λ slots. with_mark slots x false) (ap (set_of old.banks bank) own_set ∙ at old.banks k);
          elsewhere =
              λ k other.
              let shifted : k ≡ 0 + k = omega arith in
              sym (at new.banks k) ∙ changes.elsewhere bank k (λ e. other (sym e.1 ∙ shifted)) ∙ at old.banks k;
        }

    by : (order : List ℕ) → dirty_order (bank_of old.banks bank) ≡ order → slice_get (dirty_order (bank_of old.banks bank)) 0 ≡ Some x
        → dirty_order (bank_of old.banks bank) ≡ x ∷ dirty_order (bank_of new.banks bank)
    by [] none is = absurd (none-some x (sym (ap (λ (order : List ℕ). slice_get order 0) none) ∙ is))
    by (y ∷ ys) some is =
        let first : Some y ≡ Some x = sym (ap (λ (order : List ℕ). slice_get order 0) some) ∙ is in
        let same : y ≡ x = cc in
        let whole : dirty_order (bank_of old.banks bank) ≡ x ∷ ys = some ∙ ap (λ z. z ∷ ys) same in
        whole
        ∙ ap (λ order. x ∷ order)
        (sym (order_rest g x 0 (bank_of old.banks bank) (bank_of new.banks bank) ys cleaned whole))
