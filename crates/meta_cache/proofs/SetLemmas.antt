-- Slots of one set: where a position is, and what a call makes of the set.
use Rattle.std.proofs.Common.{rules}
use Rattle.std.proofs.Common.{◌≡◌, ℕ, ◌+◌, ◌-◌, ◌<◌, ◌≤◌, Bool, true, false, List, [], ◌∷◌, ◌++◌, length, get_or, set, take, drop, refl, sym, ap, ap₂, ◌∙◌, inl, inr, subst, arith}
use Rattle.std.specs.Prelude.{◌==◌, not, is_some, remove, All, Any}
use Rattle.std.specs.List.{list_any, position_or_len, range_with_len}
use Rattle.std.proofs.lemmas.Bool.{cases_lt, eq-eqb, eqb-true, ne_eqb, cond-false, both_ways, le-ltb, not_from_true, not_from_false}
use Rattle.std.proofs.lemmas.List.{get_or-take, get_or-drop, length-take-le, length-drop}
use Rattle.std.proofs.lemmas.Option.{slice_get-get_or}
use Rattle.std.proofs.lemmas.List.Folds.{Any-from_list_any}
use Rattle.std.proofs.lemmas.List.FromFn.{length-range_with_len, get_or-range_with_len}
use Rattle.std.proofs.lemmas.List.Sums.{position_or_len_is, fails_before_first, passes_at_first}
use Rattle.pmem_base.specs.declared.lines.Line.{Line}
use Rattle.meta_cache.specs.Alone.{IsAlone}
use Rattle.meta_cache.specs.Banks.{Slot}
use Rattle.meta_cache.specs.Sets.{holds, slot_with, touched, lined, slot_marked, with_slot_line, with_mark, free_way, next_way, ArePositionsApart}
use Rattle.meta_cache.proofs.ListLemmas.{filter_alone, filter_others, map_alone}

-- whether a slot is that of position x
abbrev pub is_of : ℕ → Slot → Bool
is_of x slot = slot.position == x

-- what a read past the end would give
abbrev pub blank : Slot
blank = record { way = 0; position = 0; line = record { 0 = [] }; dirty = false }

-- ---- where a position is

pub first_place : (slots : List Slot) (i x : ℕ) (d : Slot) → i ≤ length slots
    → All (λ slot. (slot.position == x) ≡ false) (take i slots)
    → (i < length slots → (get_or slots i d).position ≡ x)
    → i ≡ position_or_len (λ (slot : Slot). slot.position == x) slots
first_place slots i x d h none here =
    sym
    (position_or_len_is (is_of x) slots i d h
    (λ k l.
    ap (is_of x) (sym (get_or-take i slots k d l))
    ∙ none k d (omega (arith, l, length-take-le i slots h)))
    (λ l. eq-eqb (get_or slots i d).position x (here l)))

pub alone_at : (slots : List Slot) (x : ℕ) (d : Slot) → holds slots x ≡ true → ArePositionsApart slots
    → IsAlone (λ slot. slot.position == x) slots (position_or_len (λ (slot : Slot). slot.position == x) slots) d
alone_at slots x d held apart =
    record { within = within; passes = passes; before = before; behind = behind }
  where
    found : Any (λ slot. is_of x slot ≡ true) slots
    found = Any-from_list_any (is_of x) slots held

    within : position_or_len (is_of x) slots < length slots
    within =
        elim (cases_lt (position_or_len (is_of x) slots) (length slots)) [
          | inl less ↦ less
          | inr past ↦
              absurd
              (both_ways (is_of x (get_or slots found.0 found.1))
              (fails_before_first (is_of x) slots found.0 found.1 (omega (arith, found.2, past)))
              (ap (is_of x) found.3 ∙ found.4))
        ]

    passes : is_of x (get_or slots (position_or_len (is_of x) slots) d) ≡ true
    passes = passes_at_first (is_of x) slots d within

    before : All (λ slot. is_of x slot ≡ false) (take (position_or_len (is_of x) slots) slots)
    before k e h =
        let low : k < position_or_len (is_of x) slots =
        omega (arith, h, length-take-le (position_or_len (is_of x) slots) slots (omega (arith, within))) in
        ap (is_of x) (get_or-take (position_or_len (is_of x) slots) slots k e low)
        ∙ fails_before_first (is_of x) slots k e low

    behind : All (λ slot. is_of x slot ≡ false) (drop (position_or_len (is_of x) slots + 1) slots)
    behind k e h =
        let high : position_or_len (is_of x) slots + 1 + k < length slots =
        omega (arith, h, length-drop (position_or_len (is_of x) slots + 1) slots) in
        ap (is_of x) (get_or-drop (position_or_len (is_of x) slots + 1) slots k e)
        ∙ ne_eqb (get_or slots (position_or_len (is_of x) slots + 1 + k) e).position x
        (λ same.
        apart (position_or_len (is_of x) slots) (position_or_len (is_of x) slots + 1 + k) e (omega arith) high
        (eqb-true (get_or slots (position_or_len (is_of x) slots) e).position x
        (passes_at_first (is_of x) slots e within)
        ∙ sym same))

-- whether a slot is found
pub is_some-slot_with : (slots : List Slot) (x : ℕ) → is_some (slot_with slots x) ≡ holds slots x
is_some-slot_with [] x = refl
is_some-slot_with (slot ∷ slots) x = search (rules, (is_some-slot_with slots x))

-- ---- what a call makes of the set

pub touched_is : (slots : List Slot) (x i : ℕ) (d : Slot) → IsAlone (λ slot. slot.position == x) slots i d
    → touched slots x ≡ get_or slots i d ∷ remove slots i
unfolding touched
touched_is slots x i d alone =
    ap₂ (λ a b. a ++ b) (filter_alone (is_of x) slots i d alone) (filter_others (is_of x) slots i d alone)

-- a slot that comes first already stays there
pub first_stays : (slots : List Slot) (x i : ℕ) → i ≡ 0 → i < length slots → ((d : Slot) → IsAlone (λ slot. slot.position == x) slots i d)
    → slots ≡ touched slots x
first_stays [] x i first within alone = absurd (omega (arith, within))
first_stays (y ∷ ys) x i first within alone =
    sym (touched_is (y ∷ ys) x 0 y (subst (λ n. IsAlone (λ slot. slot.position == x) (y ∷ ys) n y) first (alone y)))

pub with_line_is : (slots : List Slot) (x i : ℕ) (line : Line) (d : Slot)
    → IsAlone (λ slot. slot.position == x) slots i d
    → with_slot_line slots x line ≡ set slots i (lined (get_or slots i d) line)
unfolding with_slot_line
with_line_is slots x i line d alone = map_alone (is_of x) (λ slot. lined slot line) slots i d alone

pub with_mark_is : (slots : List Slot) (x i : ℕ) (dirty : Bool) (d : Slot)
    → IsAlone (λ slot. slot.position == x) slots i d
    → with_mark slots x dirty ≡ set slots i (slot_marked (get_or slots i d) dirty)
unfolding with_mark
with_mark_is slots x i dirty d alone = map_alone (is_of x) (λ slot. slot_marked slot dirty) slots i d alone

-- ---- a free way, and the oldest dirty slot

pub numbered : (ways k : ℕ) → k < ways → get_or (range_with_len 0 ways) k 0 ≡ k
numbered ways k l = omega (arith, get_or-range_with_len 0 ways k 0 l)

pub free_way_is : (ways w : ℕ) (slots : List Slot) → w ≤ ways
    → ((k : ℕ) → k < w → list_any (λ (slot : Slot). slot.way == k) slots ≡ true)
    → (w < ways → list_any (λ (slot : Slot). slot.way == w) slots ≡ false)
    → w ≡ free_way ways slots
free_way_is ways w slots h used free =
    sym
    (position_or_len_is (λ way. not (uses way)) (range_with_len 0 ways) w 0
    (omega (arith, length-range_with_len 0 ways))
    (λ k l.
    ap (λ way. not (uses way)) (numbered ways k (omega arith)) ∙ not_from_true (uses k) (used k l))
    (λ l.
    let less : w < ways = omega (arith, l, length-range_with_len 0 ways) in
    ap (λ way. not (uses way)) (numbered ways w less) ∙ not_from_false (uses w) (free less)))
  where
    uses : ℕ → Bool
    uses way = list_any (λ (slot : Slot). slot.way == way) slots

pub next_way-room : (ways : ℕ) (slots : List Slot) → length slots < ways → next_way ways slots ≡ free_way ways slots
unfolding next_way
next_way-room ways slots h = search rules

pub next_way-full : (ways : ℕ) (slots : List Slot) (d : Slot) → 1 ≤ ways → ways ≤ length slots
    → next_way ways slots ≡ (get_or slots (ways - 1) d).way
unfolding next_way
next_way-full ways slots d some h = search (rules, cond-false, le-ltb, slice_get-get_or)
