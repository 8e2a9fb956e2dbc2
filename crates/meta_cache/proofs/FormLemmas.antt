-- A set keeps its form through each call.
use Rattle.std.proofs.Common.{rules}
use Rattle.std.proofs.Common.{◌≡◌, ◌≢◌, ℕ, zero, suc, ◌+◌, ◌-◌, ◌<◌, ◌≤◌, Bool, true, false, cond, List, [], ◌∷◌, length, get_or, take, drop, map, refl, sym, ap, subst, ◌∙◌, ◌⊎◌, inl, inr, arith, Some}
use Rattle.std.specs.Prelude.{◌==◌, nat_lt, not, remove, option_map, All, AllPairs, Any}
use Rattle.std.specs.List.{list_any, position_or_len, range_with_len}
use Rattle.std.proofs.lemmas.Bool.{cases_lt, cases_order, eq-eqb, eqb-true, cond-true, cond-false, false≢true, both_ways, lt-ltb, le-ltb, not-true}
use Rattle.std.proofs.lemmas.List.{get_or-take, get_or_default, get_or-map, length-map, length-take-le}
use Rattle.std.proofs.lemmas.List.Edits.{length-remove, get_or-remove_below, get_or-remove_above}
use Rattle.std.proofs.lemmas.List.Elements.{All-head, All-tail, All-append, All-take, All-drop, All-map}
use Rattle.std.proofs.lemmas.List.Quantifiers.{all_pairs_remove}
use Rattle.std.proofs.lemmas.List.Folds.{Any-from_list_any, list_any_at}
use Rattle.std.proofs.lemmas.List.FromFn.{length-range_with_len, get_or-range_with_len}
use Rattle.std.proofs.lemmas.List.Sums.{fails_before_first, passes_at_first}
use Rattle.pmem_base.specs.declared.lines.Line.{Line}
use Rattle.pmem_base.specs.Lines.{IsLine}
use Rattle.pmem_base.specs.Shape.{Shape}
use Rattle.meta_cache.specs.Alone.{IsAlone}
use Rattle.meta_cache.specs.Banks.{Slot, set_index}
use Rattle.meta_cache.specs.Sets.{holds, slot_with, touched, with_slot_line, with_mark, free_way, next_way, placed, IsSetOf}
use Rattle.meta_cache.proofs.SetLemmas.{numbered, blank, is_of, alone_at, touched_is, next_way-room, next_way-full}

-- ---- pairs

-- one element in front that differs from the others
pub AllPairs-cons : {X : Type 0} (R : X → X → Type 0) (x : X) (xs : List X) → All (R x) xs → AllPairs R xs
    → AllPairs R (x ∷ xs)
AllPairs-cons {X = X} R x xs first rest = search rules

pub All-remove : {X : Type 0} (P : X → Type 0) (xs : List X) (i : ℕ) → All P xs → All P (remove xs i)
All-remove P xs i all = All-append P (take i xs) (drop (suc i) xs) (All-take P i xs all) (All-drop P (suc i) xs all)

-- an element differs from those that are left without it
pub apart_from_others : {X : Type 0} (R : X → X → Type 0) (xs : List X) (i : ℕ) (d : X)
    → ((x y : X) → R x y → R y x) → i < length xs → AllPairs R xs → All (R (get_or xs i d)) (remove xs i)
apart_from_others {X = X} R xs i d turned h pairs = λ k e l. other k e l (cases_lt k i)
  where
    shorter : length (remove xs i) + 1 ≡ length xs
    shorter = length-remove xs i h

    other : (k : ℕ) (e : X) → k < length (remove xs i) → (k < i) ⊎ (i ≤ k) → R (get_or xs i d) (get_or (remove xs i) k e)
    other k e l (inl less) =
        subst (λ x. R (get_or xs i d) x) (sym (get_or-remove_below xs i e k less h))
        (subst (λ x. R x (get_or xs k e)) (get_or_default xs i e d h)
        (turned (get_or xs k e) (get_or xs i e) (pairs k i e less h)))
    other k e l (inr more) =
        subst (λ x. R (get_or xs i d) x) (sym (get_or-remove_above xs i e k more h))
        (subst (λ x. R x (get_or xs (k + 1) e)) (get_or_default xs i e d h)
        (pairs i (k + 1) e (omega arith) (omega (arith, shorter, l))))

pub AllPairs-take : {X : Type 0} (R : X → X → Type 0) (n : ℕ) (xs : List X) → n ≤ length xs → AllPairs R xs
    → AllPairs R (take n xs)
AllPairs-take R n xs long pairs = search (rules, length-take-le, get_or, get_or-take)

-- ---- a change that keeps ways and positions

pub IsSetOf-map : (g : Shape) (n : ℕ) (f : Slot → Slot) (slots : List Slot)
    → ((slot : Slot) → (f slot).way ≡ slot.way) → ((slot : Slot) → (f slot).position ≡ slot.position)
    → ((slot : Slot) → IsLine slot.line → IsLine (f slot).line) → IsSetOf g n slots → IsSetOf g n (map f slots)
IsSetOf-map g n f slots ways positions lines form =
    record {
      room = omega (arith, length-map slots f, form.room);
      its_ways = All-map (λ (slot : Slot). slot.way < g.ways) f slots
          (λ k d h. omega (arith, ways (get_or slots k d), form.its_ways k d h));
      its_positions = All-map (λ (slot : Slot). set_index g slot.position ≡ n) f slots
          (λ k d h. ap (set_index g) (positions (get_or slots k d)) ∙ form.its_positions k d h);
      whole_lines = All-map (λ (slot : Slot). IsLine slot.line) f slots
          (λ k d h. lines (get_or slots k d) (form.whole_lines k d h));
      distinct_ways =
          λ i j d less h e.
          let low : j < length slots = omega (arith, h, length-map slots f) in
          form.distinct_ways i j d less low
          (sym (ways (get_or slots i d)) ∙ ap (λ (slot : Slot). slot.way) (sym (get_or-map f slots i d d (omega arith)))
          ∙ e ∙ ap (λ (slot : Slot). slot.way) (get_or-map f slots j d d low) ∙ ways (get_or slots j d));
      distinct_positions =
          λ i j d less h e.
          let low : j < length slots = omega (arith, h, length-map slots f) in
          form.distinct_positions i j d less low
          (sym (positions (get_or slots i d)) ∙ ap (λ (slot : Slot). slot.position) (sym (get_or-map f slots i d d (omega arith)))
          ∙ e ∙ ap (λ (slot : Slot). slot.position) (get_or-map f slots j d d low) ∙ positions (get_or slots j d));
    }

pub same_way_if : (test : Bool) (a b : Slot) → a.way ≡ b.way → (cond test a b).way ≡ b.way
same_way_if v0 a b e = search rules

pub same_position_if : (test : Bool) (a b : Slot) → a.position ≡ b.position → (cond test a b).position ≡ b.position
same_position_if v0 a b e = search rules

whole_if : (test : Bool) (a b : Slot) → IsLine a.line → IsLine b.line → IsLine (cond test a b).line
whole_if v0 a b ha hb = search rules

pub IsSetOf-with_slot_line : (g : Shape) (n : ℕ) (slots : List Slot) (x : ℕ) (line : Line) → IsLine line
    → IsSetOf g n slots → IsSetOf g n (with_slot_line slots x line)
unfolding with_slot_line
IsSetOf-with_slot_line g n slots x line whole form = search (rules, IsSetOf-map, same_way_if, same_position_if, whole_if)

pub IsSetOf-with_mark : (g : Shape) (n : ℕ) (slots : List Slot) (x : ℕ) (dirty : Bool)
    → IsSetOf g n slots → IsSetOf g n (with_mark slots x dirty)
unfolding with_mark
IsSetOf-with_mark g n slots x dirty form = search (rules, IsSetOf-map, same_way_if, same_position_if, whole_if)

-- ---- one slot comes first

-- one slot in front of others that are apart from it
pub IsSetOf-cons : (g : Shape) (n : ℕ) (slot : Slot) (slots : List Slot) → length slots < g.ways
    → slot.way < g.ways → set_index g slot.position ≡ n → IsLine slot.line
    → All (λ b. slot.way ≢ b.way) slots → All (λ b. slot.position ≢ b.position) slots → IsSetOf g n slots
    → IsSetOf g n (slot ∷ slots)
IsSetOf-cons g n slot slots room way position line ways positions form = search rules

pub IsSetOf-remove : (g : Shape) (n : ℕ) (slots : List Slot) (i : ℕ) → i < length slots → IsSetOf g n slots
    → IsSetOf g n (remove slots i)
IsSetOf-remove g n slots i h form =
    record {
      room = omega (arith, length-remove slots i h, form.room);
      its_ways = All-remove (λ (s : Slot). s.way < g.ways) slots i form.its_ways;
      its_positions = All-remove (λ (s : Slot). set_index g s.position ≡ n) slots i form.its_positions;
      whole_lines = All-remove (λ (s : Slot). IsLine s.line) slots i form.whole_lines;
      distinct_ways = all_pairs_remove (λ (a b : Slot). a.way ≢ b.way) slots i h form.distinct_ways;
      distinct_positions = all_pairs_remove (λ (a b : Slot). a.position ≢ b.position) slots i h form.distinct_positions;
    }

pub IsSetOf-touched : (g : Shape) (n : ℕ) (slots : List Slot) (x : ℕ) → holds slots x ≡ true
    → IsSetOf g n slots → IsSetOf g n (touched slots x)
IsSetOf-touched g n slots x held form =
    let i : ℕ = position_or_len (λ (slot : Slot). slot.position == x) slots in
    let alone : IsAlone (is_of x) slots i blank = alone_at slots x blank held form.distinct_positions in
    subst (IsSetOf g n) (sym (touched_is slots x i blank alone))
    (IsSetOf-cons g n (get_or slots i blank) (remove slots i)
    (omega (arith, length-remove slots i alone.within, form.room))
    (form.its_ways i blank alone.within) (form.its_positions i blank alone.within)
    (form.whole_lines i blank alone.within)
    (apart_from_others (λ (a b : Slot). a.way ≢ b.way) slots i blank (λ a b r e. r (sym e)) alone.within form.distinct_ways)
    (apart_from_others (λ (a b : Slot). a.position ≢ b.position) slots i blank (λ a b r e. r (sym e)) alone.within
    form.distinct_positions)
    (IsSetOf-remove g n slots i alone.within form))

-- ---- a way that is free

-- so many different ways take as many slots
pub ways_fit : (n : ℕ) (slots : List Slot)
    → ((w : ℕ) → w < n → list_any (λ (slot : Slot). slot.way == w) slots ≡ true) → n ≤ length slots
ways_fit zero slots used = omega arith
ways_fit (suc n) slots used =
    let found : Any (λ (slot : Slot). (slot.way == n) ≡ true) slots = search (rules, Any-from_list_any) in
    let fewer : n ≤ length (remove slots found.0) =
    ways_fit n (remove slots found.0) (λ w h. still w h found.0 found.2
    (ap (λ (slot : Slot). slot.way) (get_or_default slots found.0 blank found.1 found.2 ∙ found.3) ∙ eqb-true found.1.way n found.4)
    (Any-from_list_any (λ (slot : Slot). slot.way == w) slots (used w (omega arith)))) in
    omega (arith, fewer, length-remove slots found.0 found.2)
  where
    still : (w : ℕ) → w < n → (i : ℕ) → i < length slots → (get_or slots i blank).way ≡ n
        → Any (λ (slot : Slot). (slot.way == w) ≡ true) slots
        → list_any (λ (slot : Slot). slot.way == w) (remove slots i) ≡ true
    still w h i inside top found =
        let here : (get_or slots found.0 blank).way ≡ w = search (rules, get_or_default, eqb-true) in
        elim (cases_order found.0 i) [
          | inl same ↦ absurd (omega (arith, here, top, h, ap (λ k. (get_or slots k blank).way) same))
          | inr (inl less) ↦ search (rules, list_any_at, length-remove, eq-eqb, get_or, get_or-remove_below)
          | inr (inr more) ↦
              let next : found.0 - 1 + 1 ≡ found.0 = omega arith in
              list_any_at (λ (slot : Slot). slot.way == w) (remove slots i) (found.0 - 1) blank
              (omega (arith, found.2, length-remove slots i inside))
              (eq-eqb (get_or (remove slots i) (found.0 - 1) blank).way w
              (ap (λ (slot : Slot). slot.way)
              (get_or-remove_above slots i blank (found.0 - 1) (omega arith) inside
              ∙ ap (λ k. get_or slots k blank) next)
              ∙ here))
        ]

-- where slots are fewer than ways, the lowest free way is a way that no slot has
pub free_way_below : (ways : ℕ) (slots : List Slot) → length slots < ways → free_way ways slots < ways
free_way_below ways slots room =
    elim (cases_lt (free_way ways slots) ways) [
      | inl less ↦ less
      | inr past ↦
          absurd
          (omega (
            arith,
            room,
            ways_fit ways slots
                (λ w h.
                ap (λ k. list_any (λ (slot : Slot). slot.way == k) slots) (sym (numbered ways w h))
                ∙ not_false (list_any (λ (slot : Slot). slot.way == get_or (range_with_len 0 ways) w 0) slots)
                (fails_before_first (λ way. not (list_any (λ (slot : Slot). slot.way == way) slots)) (range_with_len 0 ways) w 0
                (omega arith))),
          ))
    ]
  where
    not_false : (b : Bool) → not b ≡ false → b ≡ true
    not_false true h = refl
    not_false false h = absurd (false≢true (sym h))

pub free_way_free : (ways : ℕ) (slots : List Slot) → length slots < ways
    → All (λ (slot : Slot). free_way ways slots ≢ slot.way) slots
free_way_free ways slots room =
    λ k d h e.
    let low : free_way ways slots < ways = free_way_below ways slots room in
    both_ways (uses (free_way ways slots))
    (not-true (uses (free_way ways slots))
    (ap (λ way. not (uses way))
    (sym (omega (arith, get_or-range_with_len 0 ways (free_way ways slots) 0 low)))
    ∙ passes_at_first (λ way. not (uses way)) (range_with_len 0 ways) 0 (omega (arith, low, length-range_with_len 0 ways))))
    (list_any_at (λ (slot : Slot). slot.way == free_way ways slots) slots k d h
    (eq-eqb (get_or slots k d).way (free_way ways slots) (sym e)))
  where
    uses : ℕ → Bool
    uses way = list_any (λ (slot : Slot). slot.way == way) slots

-- ---- one slot more

-- no slot holds the position
pub apart_from_all : (slots : List Slot) (x : ℕ) → holds slots x ≡ false
    → All (λ (slot : Slot). x ≢ slot.position) slots
apart_from_all slots x none = search (rules, both_ways, list_any_at, is_of, eq-eqb, get_or)

IsSetOf-take : (g : Shape) (n m : ℕ) (slots : List Slot) → m ≤ length slots → IsSetOf g n slots
    → IsSetOf g n (take m slots)
IsSetOf-take g n m slots h form =
    record {
      room = omega (arith, length-take-le m slots h, form.room);
      its_ways = All-take (λ (s : Slot). s.way < g.ways) m slots form.its_ways;
      its_positions = All-take (λ (s : Slot). set_index g s.position ≡ n) m slots form.its_positions;
      whole_lines = All-take (λ (s : Slot). IsLine s.line) m slots form.whole_lines;
      distinct_ways = AllPairs-take (λ (a b : Slot). a.way ≢ b.way) m slots h form.distinct_ways;
      distinct_positions = AllPairs-take (λ (a b : Slot). a.position ≢ b.position) m slots h form.distinct_positions;
    }

pub IsSetOf-placed : (g : Shape) (n : ℕ) (slots : List Slot) (x : ℕ) (line : Line) → 1 ≤ g.ways → IsLine line
    → set_index g x ≡ n → holds slots x ≡ false → IsSetOf g n slots
    → IsSetOf g n (placed g.ways slots x line)
IsSetOf-placed g n slots x line some whole its none form =
    elim (cases_lt (length slots) g.ways) [
      | inl room ↦ search (rules, cond-true, lt-ltb, next_way-room, IsSetOf-cons, free_way_below, free_way_free, apart_from_all)
      | inr full ↦
          let last : g.ways - 1 < length slots = omega arith in
          subst (λ kept. IsSetOf g n (slot (next_way g.ways slots) ∷ kept))
          (sym (cond-false (nat_lt (length slots) g.ways) slots (take (g.ways - 1) slots) (le-ltb (length slots) g.ways full)))
          (subst (λ way. IsSetOf g n (slot way ∷ take (g.ways - 1) slots)) (sym (next_way-full g.ways slots blank some full))
          (IsSetOf-cons g n (slot (get_or slots (g.ways - 1) blank).way) (take (g.ways - 1) slots)
          (omega (arith, length-take-le (g.ways - 1) slots (omega arith)))
          (form.its_ways (g.ways - 1) blank last) its whole
          (λ k d h e.
          let low : k < g.ways - 1 = omega (arith, h, length-take-le (g.ways - 1) slots (omega arith)) in
          form.distinct_ways k (g.ways - 1) d low last
          (ap (λ (s : Slot). s.way) (sym (get_or-take (g.ways - 1) slots k d low)) ∙ sym e
          ∙ ap (λ (s : Slot). s.way) (get_or_default slots (g.ways - 1) blank d last)))
          (All-take (λ (s : Slot). x ≢ s.position) (g.ways - 1) slots (apart_from_all slots x none))
          (IsSetOf-take g n (g.ways - 1) slots (omega arith) form)))
    ]
  where
    slot : ℕ → Slot
    slot way = record { way = way; position = x; line = line; dirty = false }

-- ---- a slot's number

-- what holds of each slot holds of the one that is found
found_has : (P : ℕ → Type 0) (slots : List Slot) (x way : ℕ)
    → option_map (λ (slot : Slot). slot.way) (slot_with slots x) ≡ Some way → All (λ (slot : Slot). P slot.way) slots
    → P way
found_has P [] x way e all = absurd cc
found_has P (slot ∷ slots) x way e all = by_test (slot.position == x) e (λ rest. found_has P slots x way rest (All-tail (λ (s : Slot). P s.way) slot slots all))
  where
    by_test : (test : Bool)
        → option_map (λ (s : Slot). s.way) (cond test (Some slot) (slot_with slots x)) ≡ Some way
        → (option_map (λ (s : Slot). s.way) (slot_with slots x) ≡ Some way → P way) → P way
    by_test true here again = let same : slot.way ≡ way = cc in subst P same (All-head (λ (s : Slot). P s.way) slot slots all)
    by_test false later again = again later

pub way_low : (g : Shape) (n : ℕ) (slots : List Slot) (x way : ℕ) → IsSetOf g n slots
    → option_map (λ (slot : Slot). slot.way) (slot_with slots x) ≡ Some way → way < g.ways
way_low g n slots x way form e = found_has (λ w. w < g.ways) slots x way e form.its_ways
