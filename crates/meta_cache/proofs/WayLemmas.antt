-- A position keeps its way while its slot is there.
use Rattle.std.proofs.Common.{rules}
use Rattle.std.proofs.Common.{◌≡◌, ℕ, zero, suc, ◌-◌, Bool, true, false, cond, List, [], ◌∷◌, length, take, map, refl, sym, ap, ◌∙◌, Option, Some, None}
use Rattle.std.specs.Prelude.{◌==◌, ◌||◌, nat_lt, not, filter, find, is_some, option_map}
use Rattle.std.specs.Option.{option_or}
use Rattle.std.proofs.lemmas.Bool.{both_ways, eqb-true, cond-false}
use Rattle.std.proofs.lemmas.List.Folds.{find-append}
use Rattle.pmem_base.specs.declared.lines.Line.{Line}
use Rattle.meta_cache.specs.Banks.{Slot}
use Rattle.meta_cache.specs.Sets.{holds, slot_with, way_in, KeepsWays, touched, with_slot_line, with_mark, next_way, placed}
use Rattle.meta_cache.proofs.SetLemmas.{is_of, is_some-slot_with}
use Rattle.meta_cache.proofs.FormLemmas.{same_way_if, same_position_if}

-- ---- a search over a part of a list

find-filter_kept : {X : Type 0} (p q : X → Bool) (xs : List X) → ((x : X) → q x ≡ false → p x ≡ false)
    → find p (filter q xs) ≡ find p xs
find-filter_kept p q [] only = refl
find-filter_kept p q (x ∷ xs) only = search (rules, (find-filter_kept p q xs only))

find-filter_none : {X : Type 0} (p q : X → Bool) (xs : List X) → ((x : X) → q x ≡ true → p x ≡ false)
    → find p (filter q xs) ≡ None
find-filter_none p q [] none = refl
find-filter_none p q (x ∷ xs) none = search (rules, (find-filter_none p q xs none))

option_or-some : {X : Type 0} (found other : Option X) → is_some found ≡ true → option_or found other ≡ found
option_or-some v0 other e = search rules

-- ---- each change keeps the ways

ways-map : (f : Slot → Slot) → ((slot : Slot) → (f slot).position ≡ slot.position)
    → ((slot : Slot) → (f slot).way ≡ slot.way) → (slots : List Slot) (x : ℕ)
    → way_in (map f slots) x ≡ way_in slots x
ways-map f positions ways [] x = refl
ways-map f positions ways (slot ∷ slots) x = search (rules, (ways-map f positions ways slots x))

pub KeepsWays-with_slot_line : (slots : List Slot) (x : ℕ) (line : Line) → KeepsWays slots (with_slot_line slots x line)
unfolding with_slot_line
KeepsWays-with_slot_line slots x line y before after = search (rules, ways-map, same_position_if, same_way_if)

pub KeepsWays-with_mark : (slots : List Slot) (x : ℕ) (dirty : Bool) → KeepsWays slots (with_mark slots x dirty)
unfolding with_mark
KeepsWays-with_mark slots x dirty y before after = search (rules, ways-map, same_position_if, same_way_if)

-- one number is not another
apart : (position x y : ℕ) → (x == y) ≡ false → (position == x) ≡ true → (position == y) ≡ false
apart position x y e same = search rules

from_not : (test : Bool) → not test ≡ false → test ≡ true
from_not v0 e = search rules

pub KeepsWays-touched : (slots : List Slot) (x : ℕ) → KeepsWays slots (touched slots x)
unfolding touched
KeepsWays-touched slots x y before after =
    ap (λ found. option_map (λ (s : Slot). s.way) found)
    (find-append (is_of y) (filter (is_of x) slots) (filter (λ slot. not (is_of x slot)) slots)
    ∙ by_test (x == y) refl)
  where
    by_test : (test : Bool) → (x == y) ≡ test
        → option_or (find (is_of y) (filter (is_of x) slots))
        (find (is_of y) (filter (λ slot. not (is_of x slot)) slots)) ≡ slot_with slots y
    by_test true e =
        ap (λ first. option_or first (find (is_of y) (filter (λ slot. not (is_of x slot)) slots)))
        (find-filter_kept (is_of y) (is_of x) slots
        (λ slot fails. ap (λ n. slot.position == n) (sym (eqb-true x y e)) ∙ fails))
        ∙ option_or-some (slot_with slots y) (find (is_of y) (filter (λ slot. not (is_of x slot)) slots))
        (is_some-slot_with slots y ∙ before)
    by_test false e =
        ap (λ first. option_or first (find (is_of y) (filter (λ slot. not (is_of x slot)) slots)))
        (find-filter_none (is_of y) (is_of x) slots (λ slot passes. apart slot.position x y e passes))
        ∙ find-filter_kept (is_of y) (λ slot. not (is_of x slot)) slots
        (λ slot fails. apart slot.position x y e (from_not (is_of x slot) fails))

-- a search in the front of a list that finds something
slot_with-take : (n : ℕ) (slots : List Slot) (x : ℕ) → holds (take n slots) x ≡ true
    → slot_with (take n slots) x ≡ slot_with slots x
slot_with-take zero slots x held = absurd (both_ways false refl held)
slot_with-take (suc n) [] x held = refl
slot_with-take (suc n) (slot ∷ slots) x held =
    by_test (slot.position == x) held (λ h. slot_with-take n slots x h)
  where
    by_test : (test : Bool) → (test || holds (take n slots) x) ≡ true
        → (holds (take n slots) x ≡ true → slot_with (take n slots) x ≡ slot_with slots x)
        → cond test (Some slot) (slot_with (take n slots) x) ≡ cond test (Some slot) (slot_with slots x)
    by_test true h rest = refl
    by_test false h rest = rest h

pub KeepsWays-placed : (ways : ℕ) (slots : List Slot) (x : ℕ) (line : Line) → holds slots x ≡ false
    → KeepsWays slots (placed ways slots x line)
KeepsWays-placed ways slots x line absent y before after =
    ap (λ found. option_map (λ (s : Slot). s.way) found)
    (cond-false (x == y) (Some slot) (slot_with kept y) other ∙ by_room (nat_lt (length slots) ways) still)
  where
    slot : Slot
    slot = record { way = next_way ways slots; position = x; line = line; dirty = false }

    kept : List Slot
    kept = cond (nat_lt (length slots) ways) slots (take (ways - 1) slots)

    by_test : (test : Bool) → (x == y) ≡ test → (x == y) ≡ false
    by_test true e =
        absurd (both_ways (holds slots x) absent (ap (holds slots) (eqb-true x y e) ∙ before))
    by_test false e = e

    other : (x == y) ≡ false
    other = by_test (x == y) refl

    still : holds kept y ≡ true
    still = ap (λ test. test || holds kept y) (sym other) ∙ after

    by_room : (room : Bool) → holds (cond room slots (take (ways - 1) slots)) y ≡ true
        → slot_with (cond room slots (take (ways - 1) slots)) y ≡ slot_with slots y
    by_room true h = refl
    by_room false h = slot_with-take (ways - 1) slots y h
