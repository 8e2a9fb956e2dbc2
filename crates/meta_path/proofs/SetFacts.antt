-- One set of slots: its slots, its dirty ones, and the block to give way.
use Rattle.std.proofs.lemmas.Grind.{common_steps}
use Rattle.std.proofs.Common.{rules, ◌≡◌, ◌≢◌, ℕ, zero, suc, ◌+◌, ◌-◌, ◌<◌, ◌≤◌, Bool, true, false, cond, List, [], ◌∷◌, ◌++◌, length, get_or, take, drop, map, refl, sym, ap, ap₂, subst, ◌∙◌, ◌⊎◌, inl, inr, arith, Option, Some, None}
use Rattle.std.specs.Prelude.{◌==◌, ◌||◌, nat_lt, not, filter, slice_get, All, Contains, IfSome}
use Rattle.std.proofs.lemmas.Bool.{cases_Bool, cases_lt, eq-eqb, eqb-true, ne_eqb, cond-true, cond-false, both_ways, le-ltb, lt-ltb, not_from_false}
use Rattle.std.proofs.lemmas.Option.{slice_get_within, slice_get-get_or, get_or_from_slice_get, none-some, slice_get_read}
use Rattle.std.proofs.lemmas.List.{drop_all, length-append, length-take-le, take-append-drop, drop_more, get_or_append_left, get_or-append_right, map-append}
use Rattle.std.proofs.lemmas.List.Elements.{All-head, All-tail, Contains-append_left, Contains-append_right, Contains-append_cases}
use Rattle.std.proofs.lemmas.List.Folds.{map_fixed, list_any_none, Any-from_list_any}
use Rattle.std.proofs.lemmas.List.Filters.{sum_by-filter_both}
use Rattle.std.proofs.lemmas.List.Sums.{sum_by-append}
use Rattle.pmem_base.specs.declared.lines.Line.{Line}
use Rattle.pmem_base.specs.Shape.{Shape}
use Rattle.pmem_base.specs.Layout.{meta_line}
use Rattle.meta_cache.specs.declared.slot.Slot.{Slot}
use Rattle.meta_cache.specs.Sets.{holds, slot_with, touched, slot_marked, with_slot_line, with_mark, victim_of, next_way, without_victim, placed, ArePositionsApart}
use Rattle.meta_cache.proofs.SetLemmas.{blank}
use Rattle.meta_path.specs.Blocks.{dirty_in}
use Rattle.meta_path.specs.Levels.{victim_write, room_write, without_dirty}

-- ---- elements of lists

pub contains_here : {X : Type 0} (x : X) (xs : List X) → Contains (x ∷ xs) x
contains_here x xs = (0, omega arith, refl)

pub contains_later : {X : Type 0} (y : X) (xs : List X) (x : X) → Contains xs x → Contains (y ∷ xs) x
contains_later y xs x found = Contains-append_right (y ∷ []) xs x found

only_one : {X : Type 0} (y x : X) → Contains (y ∷ []) x → y ≡ x
only_one y x (zero, within, is) = is
only_one y x (suc k, within, is) = absurd (omega arith)

pub contains_cases : {X : Type 0} (y : X) (xs : List X) (x : X) → Contains (y ∷ xs) x → (y ≡ x) ⊎ Contains xs x
contains_cases y xs x found = search (rules, Contains-append_cases, only_one)

pub contains_none : {X : Type 0} (x : X) → Contains [] x → ⊥
contains_none x (k, within, is) = omega arith

-- what a filter keeps
pub filter_contains : {X : Type 0} (p : X → Bool) (xs : List X) (x : X) → Contains (filter p xs) x → Contains xs x
filter_contains p [] x found = found
filter_contains {X = X} p (y ∷ xs) x found = by_test (p y) found (λ kept. filter_contains p xs x kept)
  where
    by_place : (y ≡ x) ⊎ Contains (filter p xs) x → (Contains (filter p xs) x → Contains xs x) → Contains (y ∷ xs) x
    by_place (inl first) rest = subst (λ (z : X). Contains (y ∷ xs) z) first (contains_here y xs)
    by_place (inr later) rest = contains_later y xs x (rest later)

    by_test : (test : Bool) → Contains (cond test (y ∷ filter p xs) (filter p xs)) x
        → (Contains (filter p xs) x → Contains xs x) → Contains (y ∷ xs) x
    by_test true kept rest = by_place (contains_cases y (filter p xs) x kept) rest
    by_test false kept rest = contains_later y xs x (rest kept)

pub contains_filter : {X : Type 0} (p : X → Bool) (xs : List X) (x : X) → Contains xs x → p x ≡ true
    → Contains (filter p xs) x
contains_filter p [] x found passes = found
contains_filter {X = X} p (y ∷ xs) x found passes =
    by_place (contains_cases y xs x found) (λ later. contains_filter p xs x later passes)
  where
    kept : (test : Bool) → Contains (filter p xs) x → Contains (cond test (y ∷ filter p xs) (filter p xs)) x
    kept true later = contains_later y (filter p xs) x later
    kept false later = later

    by_place : (y ≡ x) ⊎ Contains xs x → (Contains xs x → Contains (filter p xs) x) → Contains (filter p (y ∷ xs)) x
    by_place (inl first) rest =
        subst (λ (kept : List X). Contains kept x)
        (sym (cond-true (p y) (y ∷ filter p xs) (filter p xs) (ap p first ∙ passes)))
        (subst (λ (z : X). Contains (y ∷ filter p xs) z) first (contains_here y (filter p xs)))
    by_place (inr later) rest = kept (p y) (rest later)

-- what a map makes of each
pub contains_map : {X : Type 0} (f : X → X) (xs : List X) (x : X) → Contains xs x → Contains (map f xs) (f x)
contains_map f [] x found = absurd (contains_none x found)
contains_map {X = X} f (y ∷ xs) x found = by_place (contains_cases y xs x found) (λ later. contains_map f xs x later)
  where
    by_place : (y ≡ x) ⊎ Contains xs x → (Contains xs x → Contains (map f xs) (f x)) → Contains (map f (y ∷ xs)) (f x)
    by_place (inl first) rest = subst (λ (z : X). Contains (f y ∷ map f xs) (f z)) first (contains_here (f y) (map f xs))
    by_place (inr later) rest = contains_later (f y) (map f xs) (f x) (rest later)

pub map_contains : {X : Type 0} (f : X → X) (xs : List X) (y : X) → Contains (map f xs) y
    → (x : X) × Contains xs x × (f x ≡ y)
map_contains f [] y found = absurd (contains_none y found)
map_contains {X = X} f (x ∷ xs) y found =
    by_place (contains_cases (f x) (map f xs) y found) (λ later. map_contains f xs y later)
  where
    by_place : (f x ≡ y) ⊎ Contains (map f xs) y → (Contains (map f xs) y → (z : X) × Contains xs z × (f z ≡ y))
        → (z : X) × Contains (x ∷ xs) z × (f z ≡ y)
    by_place (inl first) rest = (x, contains_here x xs, first)
    by_place (inr later) rest =
        let found : (z : X) × Contains xs z × (f z ≡ y) = rest later in
        (found.0, contains_later x xs found.0 found.1, found.2)

-- where each slot of a set became one that R holds of, each slot now is from one before, and each one before is there
module _ (R : ℕ → Slot → Slot → Type 0) (old new : ℕ → ℕ → List Slot)
    (each : (bank set : ℕ) → (f : Slot → Slot) × (new bank set ≡ map f (old bank set))
    × ((slot : Slot) → Contains (old bank set) slot → R bank slot (f slot))) where
  pub slots_from : (bank set : ℕ) (now : Slot) → Contains (new bank set) now
      → (before : Slot) × Contains (old bank set) before × R bank before now
  slots_from bank set now found =
      let here = each bank set in
      let from = map_contains here.0 (old bank set) now (subst (λ slots. Contains slots now) here.1 found) in
      (from.0, from.1, subst (R bank from.0) from.2 (here.2 from.0 from.1))

  pub slots_to : (bank set : ℕ) (before : Slot) → Contains (old bank set) before
      → (now : Slot) × Contains (new bank set) now × R bank before now
  slots_to bank set before found =
      let here = each bank set in (
        here.0 before,
        subst (λ slots. Contains slots (here.0 before)) (sym here.1) (contains_map here.0 (old bank set) before found),
        here.2 before found,
      )

-- ---- positions of a set

-- a slot of the set makes its position held
pub holds_slot : (slots : List Slot) (slot : Slot) → Contains slots slot → holds slots slot.position ≡ true
holds_slot slots slot v2 = grind (arith, common_steps)

-- a held position has a slot
pub slot_held : (slots : List Slot) (x : ℕ) → holds slots x ≡ true
    → (slot : Slot) × Contains slots slot × (slot.position ≡ x)
slot_held slots x held = search (rules, Any-from_list_any, eqb-true)

-- ---- a use changes the order alone

pub touched_contains : (slots : List Slot) (x : ℕ) (slot : Slot) → Contains (touched slots x) slot → Contains slots slot
unfolding touched
touched_contains slots x slot found =
    by_part (Contains-append_cases (filter is slots) (filter (λ s. not (is s)) slots) slot found)
  where
    is : Slot → Bool
    is s = s.position == x

    by_part : Contains (filter is slots) slot ⊎ Contains (filter (λ s. not (is s)) slots) slot → Contains slots slot
    by_part (inl first) = filter_contains is slots slot first
    by_part (inr other) = filter_contains (λ s. not (is s)) slots slot other

pub contains_touched : (slots : List Slot) (x : ℕ) (slot : Slot) → Contains slots slot → Contains (touched slots x) slot
unfolding touched
contains_touched slots x slot found = by_test (cases_Bool (slot.position == x))
  where
    is : Slot → Bool
    is s = s.position == x

    by_test : ((slot.position == x) ≡ true) ⊎ ((slot.position == x) ≡ false)
        → Contains (filter is slots ++ filter (λ s. not (is s)) slots) slot
    by_test (inl same) =
        Contains-append_left (filter is slots) (filter (λ s. not (is s)) slots) slot
        (contains_filter is slots slot found same)
    by_test (inr other) =
        Contains-append_right (filter is slots) (filter (λ s. not (is s)) slots) slot
        (contains_filter (λ s. not (is s)) slots slot found (not_from_false (is slot) other))

pub dirty_in-touched : (slots : List Slot) (x : ℕ) → dirty_in (touched slots x) ≡ dirty_in slots
unfolding touched
dirty_in-touched slots x = search (rules, sum_by-append, sum_by-filter_both)

-- ---- the block to give way

-- a full set: the block to give way stands last, behind the others
pub record IsFull (ways : ℕ) (slots : List Slot) (front : List Slot) (victim : Slot) : Type 0 where
  pub split : slots ≡ front ++ victim ∷ []
  pub long : length front + 1 ≡ ways

pub victim_last : (ways : ℕ) (slots : List Slot) (victim : Slot) → length slots ≤ ways
    → victim_of ways slots ≡ Some victim → IsFull ways slots (take (ways - 1) slots) victim
victim_last ways slots victim room some =
    elim (cases_lt (length slots) ways) [
      | inl less ↦
          absurd (none-some victim (sym (cond-true (nat_lt (length slots) ways) None (slice_get slots (ways - 1)) (lt-ltb (length slots) ways less)) ∙ some))
      | inr full ↦
          let last : slice_get slots (ways - 1) ≡ Some victim = search (rules, cond-false, le-ltb) in
          let within : ways - 1 < length slots = slice_get_within slots (ways - 1) victim last in
          let front : length (take (ways - 1) slots) ≡ ways - 1 = length-take-le (ways - 1) slots (omega arith) in
          let back : drop (ways - 1) slots ≡ victim ∷ [] =
          drop_more slots (ways - 1) victim within
          ∙ ap₂ (λ s rest. s ∷ rest) (get_or_from_slice_get slots (ways - 1) victim victim last) (drop_all (ways - 1 + 1) slots (omega arith)) in
          record {
            split = sym (take-append-drop (ways - 1) slots) ∙ ap (λ rest. take (ways - 1) slots ++ rest) back;
            long = omega arith;
          }
    ]

-- the others of a set where none gives way
pub no_victim : (ways : ℕ) (slots : List Slot) → 1 ≤ ways → victim_of ways slots ≡ None
    → (length slots < ways) × (without_victim ways slots ≡ slots)
no_victim ways slots some none =
    elim (cases_lt (length slots) ways) [
      | inl less ↦ (less, cond-true (nat_lt (length slots) ways) slots (take (ways - 1) slots) (lt-ltb (length slots) ways less))
      | inr full ↦
          absurd (none-some (get_or slots (ways - 1) blank)
          (sym none ∙ cond-false (nat_lt (length slots) ways) None (slice_get slots (ways - 1)) (le-ltb (length slots) ways full)
          ∙ slice_get-get_or slots (ways - 1) blank (omega arith)))
    ]

-- a full set, seen from its parts
full_long : (ways : ℕ) (front : List Slot) (victim : Slot) → length front + 1 ≡ ways
    → ways ≤ length (front ++ victim ∷ [])
full_long ways front victim long = omega (arith, length-append front (victim ∷ []))

victim_of-full : (ways : ℕ) (front : List Slot) (victim : Slot) → length front + 1 ≡ ways
    → victim_of ways (front ++ victim ∷ []) ≡ Some victim
victim_of-full ways front victim long =
    cond-false (nat_lt (length (front ++ victim ∷ [])) ways) None (slice_get (front ++ victim ∷ []) (ways - 1))
    (le-ltb (length (front ++ victim ∷ [])) ways (full_long ways front victim long))
    ∙ slice_get_read (front ++ victim ∷ []) (length (front ++ victim ∷ [])) (ways - 1) victim refl
    (omega (arith, full_long ways front victim long))
    (sym (get_or-append_right front (victim ∷ []) (length front) (ways - 1) victim refl (omega arith)
    ∙ ap (λ k. get_or (victim ∷ []) k victim) none))
  where
    none : ways - 1 - length front ≡ 0
    none = omega arith

without_victim-full : (ways : ℕ) (front : List Slot) (victim : Slot) → length front + 1 ≡ ways
    → without_victim ways (front ++ victim ∷ []) ≡ front
without_victim-full ways front victim long = grind (arith, common_steps)

next_way-full : (ways : ℕ) (front : List Slot) (victim : Slot) → length front + 1 ≡ ways
    → next_way ways (front ++ victim ∷ []) ≡ victim.way
unfolding next_way
next_way-full ways front victim long = search (rules, victim_of-full)

placed-full : (ways : ℕ) (front : List Slot) (victim : Slot) (x : ℕ) (line : Line) → length front + 1 ≡ ways
    → placed ways (front ++ victim ∷ []) x line
    ≡ record { way = victim.way; position = x; line = line; dirty = false } ∷ front
placed-full ways front victim x line long = search (rules, next_way-full, without_victim-full)

-- the block to give way is none of the others
apart_front : (front : List Slot) (victim : Slot) → ArePositionsApart (front ++ victim ∷ [])
    → All (λ slot. slot.position ≢ victim.position) front
apart_front front victim apart = search (rules, length-append, get_or_append_left, get_or-append_right)

-- marking the last slot leaves the others
with_mark-last : (front : List Slot) (victim : Slot) (dirty : Bool) → ArePositionsApart (front ++ victim ∷ [])
    → with_mark (front ++ victim ∷ []) victim.position dirty ≡ front ++ slot_marked victim dirty ∷ []
unfolding with_mark
with_mark-last front victim dirty apart =
    map-append mark front (victim ∷ [])
    ∙ ap₂ (λ a b. a ++ b ∷ [])
    (map_fixed mark front
    (λ k d h.
    cond-false ((get_or front k d).position == victim.position) (slot_marked (get_or front k d) dirty) (get_or front k d)
    (ne_eqb (get_or front k d).position victim.position (apart_front front victim apart k d h))))
    (cond-true (victim.position == victim.position) (slot_marked victim dirty) victim
    (eq-eqb victim.position victim.position refl))
  where
    mark : Slot → Slot
    mark slot = cond (slot.position == victim.position) (slot_marked slot dirty) slot

-- ---- room is made

-- the set with its dirty block to give way cleaned takes x as the set itself does
pub placed-without_dirty : (ways : ℕ) (slots : List Slot) (x : ℕ) (line : Line) → length slots ≤ ways
    → ArePositionsApart slots
    → placed ways (without_dirty slots (victim_of ways slots)) x line ≡ placed ways slots x line
placed-without_dirty ways slots x line room apart = by_victim (victim_of ways slots) refl
  where
    cleaned : (victim : Slot) → victim_of ways slots ≡ Some victim
        → placed ways (with_mark slots victim.position false) x line ≡ placed ways slots x line
    cleaned victim some =
        let front : List Slot = take (ways - 1) slots in
        let full : IsFull ways slots front victim = victim_last ways slots victim room some in
        ap (λ set. placed ways (with_mark set victim.position false) x line) full.split
        ∙ ap (λ set. placed ways set x line) (with_mark-last front victim false (subst ArePositionsApart full.split apart))
        ∙ placed-full ways front (slot_marked victim false) x line full.long
        ∙ sym (placed-full ways front victim x line full.long)
        ∙ ap (λ set. placed ways set x line) (sym full.split)

    by_mark : (victim : Slot) (dirty : Bool) → victim_of ways slots ≡ Some victim
        → placed ways (cond dirty (with_mark slots victim.position false) slots) x line ≡ placed ways slots x line
    by_mark victim true some = cleaned victim some
    by_mark victim false some = refl

    by_victim : (victim : Option Slot) → victim_of ways slots ≡ victim
        → placed ways (without_dirty slots victim) x line ≡ placed ways slots x line
    by_victim None none = refl
    by_victim (Some victim) some = by_mark victim victim.dirty some

-- and what gives way of it is clean
pub clean_victim : (ways : ℕ) (slots : List Slot) → length slots ≤ ways → ArePositionsApart slots
    → IfSome (victim_of ways (without_dirty slots (victim_of ways slots))) (λ slot. slot.dirty ≡ false)
clean_victim ways slots room apart = by_victim (victim_of ways slots) refl
  where
    Clean : List Slot → Type 0
    Clean set = IfSome (victim_of ways set) (λ slot. slot.dirty ≡ false)

    cleaned : (victim : Slot) → victim_of ways slots ≡ Some victim → Clean (with_mark slots victim.position false)
    cleaned victim some =
        let front : List Slot = take (ways - 1) slots in
        let full : IsFull ways slots front victim = victim_last ways slots victim room some in
        subst Clean
        (sym (ap (λ set. with_mark set victim.position false) full.split
        ∙ with_mark-last front victim false (subst ArePositionsApart full.split apart)))
        (subst (λ found. IfSome found (λ (slot : Slot). slot.dirty ≡ false))
        (sym (victim_of-full ways front (slot_marked victim false) full.long)) refl)

    by_mark : (victim : Slot) (dirty : Bool) → victim.dirty ≡ dirty → victim_of ways slots ≡ Some victim
        → Clean (cond dirty (with_mark slots victim.position false) slots)
    by_mark victim true is some = cleaned victim some
    by_mark victim false is some =
        subst (λ found. IfSome found (λ (slot : Slot). slot.dirty ≡ false)) (sym some) is

    by_victim : (victim : Option Slot) → victim_of ways slots ≡ victim → Clean (without_dirty slots victim)
    by_victim None none = subst (λ found. IfSome found (λ (slot : Slot). slot.dirty ≡ false)) (sym none) tt
    by_victim (Some victim) some = by_mark victim victim.dirty refl some

-- a mark changes no position
pub holds-with_mark : (slots : List Slot) (y : ℕ) (dirty : Bool) (x : ℕ) → holds (with_mark slots y dirty) x ≡ holds slots x
unfolding with_mark
holds-with_mark [] y dirty x = refl
holds-with_mark (slot ∷ slots) y dirty x = search (rules, (holds-with_mark slots y dirty x))

pub holds-with_line : (slots : List Slot) (y : ℕ) (line : Line) (x : ℕ) → holds (with_slot_line slots y line) x ≡ holds slots x
unfolding with_slot_line
holds-with_line [] y line x = refl
holds-with_line (slot ∷ slots) y line x = search (rules, (holds-with_line slots y line x))

pub holds-without_dirty : (slots : List Slot) (victim : Option Slot) (x : ℕ)
    → holds (without_dirty slots victim) x ≡ holds slots x
holds-without_dirty slots None x = refl
holds-without_dirty slots (Some victim) x = by_mark victim.dirty
  where
    by_mark : (dirty : Bool) → holds (cond dirty (with_mark slots victim.position false) slots) x ≡ holds slots x
    by_mark true = holds-with_mark slots victim.position false x
    by_mark false = refl

-- the slot that gives way is that of its position
pub slot_with-victim : (ways : ℕ) (slots : List Slot) (victim : Slot) → length slots ≤ ways → ArePositionsApart slots
    → victim_of ways slots ≡ Some victim → slot_with slots victim.position ≡ Some victim
slot_with-victim ways slots victim room apart some =
    let front : List Slot = take (ways - 1) slots in
    let full : IsFull ways slots front victim = victim_last ways slots victim room some in
    ap (λ set. slot_with set victim.position) full.split
    ∙ last_found front victim (apart_front front victim (subst ArePositionsApart full.split apart))
  where
    last_found : (front : List Slot) (victim : Slot) → All (λ slot. slot.position ≢ victim.position) front
        → slot_with (front ++ victim ∷ []) victim.position ≡ Some victim
    last_found [] victim none =
        cond-true (victim.position == victim.position) (Some victim) None (eq-eqb victim.position victim.position refl)
    last_found (slot ∷ front) victim none =
        cond-false (slot.position == victim.position) (Some slot) (slot_with (front ++ victim ∷ []) victim.position)
        (ne_eqb slot.position victim.position (All-head (λ (s : Slot). s.position ≢ victim.position) slot front none))
        ∙ last_found front victim (All-tail (λ (s : Slot). s.position ≢ victim.position) slot front none)

pub victim_contained : (ways : ℕ) (slots : List Slot) (victim : Slot) → length slots ≤ ways
    → victim_of ways slots ≡ Some victim → Contains slots victim
victim_contained ways slots victim room some =
    let front : List Slot = take (ways - 1) slots in
    subst (λ set. Contains set victim) (sym (victim_last ways slots victim room some).split)
    (Contains-append_right front (victim ∷ []) victim (contains_here victim []))

-- ---- one slot more

-- a slot of the set after x was placed
pub placed_contains : (ways : ℕ) (slots : List Slot) (x : ℕ) (line : Line) (slot : Slot) → length slots ≤ ways → 1 ≤ ways
    → Contains (placed ways slots x line) slot
    → (record { way = next_way ways slots; position = x; line = line; dirty = false } ≡ slot) ⊎ Contains slots slot
placed_contains ways slots x line slot room some found =
    by_place (contains_cases new (without_victim ways slots) slot found)
  where
    new : Slot
    new = record { way = next_way ways slots; position = x; line = line; dirty = false }

    kept : (victim : Option Slot) → victim_of ways slots ≡ victim → Contains (without_victim ways slots) slot → Contains slots slot
    kept None none later = subst (λ set. Contains set slot) (no_victim ways slots some none).1 later
    kept (Some victim) is later =
        let front : List Slot = take (ways - 1) slots in
        let full : IsFull ways slots front victim = victim_last ways slots victim room is in
        subst (λ set. Contains set slot) (sym full.split)
        (Contains-append_left front (victim ∷ []) slot
        (subst (λ set. Contains set slot)
        (ap (without_victim ways) full.split ∙ without_victim-full ways front victim full.long) later))

    by_place : (new ≡ slot) ⊎ Contains (without_victim ways slots) slot → (new ≡ slot) ⊎ Contains slots slot
    by_place (inl first) = inl first
    by_place (inr later) = inr (kept (victim_of ways slots) refl later)

-- a slot of the set before x was placed
pub contains_placed : (ways : ℕ) (slots : List Slot) (x : ℕ) (line : Line) (slot : Slot) → length slots ≤ ways → 1 ≤ ways
    → Contains slots slot
    → Contains (placed ways slots x line) slot ⊎ (victim_of ways slots ≡ Some slot)
contains_placed ways slots x line slot room some found = by_victim (victim_of ways slots) refl
  where
    new : Slot
    new = record { way = next_way ways slots; position = x; line = line; dirty = false }

    by_part : (victim : Slot) → Contains (take (ways - 1) slots) slot ⊎ Contains (victim ∷ []) slot
        → victim_of ways slots ≡ Some victim → IsFull ways slots (take (ways - 1) slots) victim
        → Contains (placed ways slots x line) slot ⊎ (victim_of ways slots ≡ Some slot)
    by_part victim (inl kept) is full =
        inl
        (contains_later new (without_victim ways slots) slot
        (subst (λ set. Contains set slot)
        (sym (ap (without_victim ways) full.split ∙ without_victim-full ways (take (ways - 1) slots) victim full.long)) kept))
    by_part victim (inr last) is full = inr (is ∙ ap Some (only_one victim slot last))

    by_victim : (victim : Option Slot) → victim_of ways slots ≡ victim
        → Contains (placed ways slots x line) slot ⊎ (victim_of ways slots ≡ Some slot)
    by_victim None none =
        inl (contains_later new (without_victim ways slots) slot
        (subst (λ set. Contains set slot) (sym (no_victim ways slots some none).1) found))
    by_victim (Some victim) is =
        let full : IsFull ways slots (take (ways - 1) slots) victim = victim_last ways slots victim room is in
        by_part victim
        (Contains-append_cases (take (ways - 1) slots) (victim ∷ []) slot (subst (λ set. Contains set slot) full.split found))
        is full

-- what gave way is there no more
pub placed_gone : (ways : ℕ) (slots : List Slot) (x : ℕ) (line : Line) (victim : Slot) → length slots ≤ ways
    → ArePositionsApart slots → victim_of ways slots ≡ Some victim → holds slots x ≡ false
    → holds (placed ways slots x line) victim.position ≡ false
placed_gone ways slots x line victim room apart is absent =
    let front : List Slot = take (ways - 1) slots in
    let full : IsFull ways slots front victim = victim_last ways slots victim room is in
    let other : x ≢ victim.position =
    λ e. both_ways _ absent (ap (holds slots) e ∙ holds_slot slots victim (victim_contained ways slots victim room is)) in
    ap (λ set. holds (placed ways set x line) victim.position) full.split
    ∙ ap (λ set. holds set victim.position) (placed-full ways front victim x line full.long)
    ∙ ap₂ (λ a b. a || b) (ne_eqb x victim.position other) (list_any_none (λ (s : Slot). s.position == victim.position) front
    (λ k d h. ne_eqb (get_or front k d).position victim.position (apart_front front victim (subst ArePositionsApart full.split apart) k d h)))

-- dirty slots before, and after with the write that made room
pub dirty_in-placed : (g : Shape) (slots : List Slot) (x : ℕ) (line : Line) → length slots ≤ g.ways → 1 ≤ g.ways
    → dirty_in (placed g.ways slots x line) + length (room_write g slots) ≡ dirty_in slots
dirty_in-placed g slots x line room some = by_victim (victim_of g.ways slots) refl
  where
    dirty : Slot → ℕ
    dirty s = cond s.dirty 1 0

    one : (victim : Slot) (mark : Bool)
        → length {A = ℕ × Line} (cond mark ((meta_line g victim.position, victim.line) ∷ []) []) ≡ cond mark 1 0
    one victim true = refl
    one victim false = refl

    by_victim : (victim : Option Slot) → victim_of g.ways slots ≡ victim
        → dirty_in (placed g.ways slots x line) + length (room_write g slots) ≡ dirty_in slots
    by_victim None none =
        omega (
          arith,
          ap dirty_in (no_victim g.ways slots some none).1,
          ap (λ victim. length (victim_write g victim)) none,
        )
    by_victim (Some victim) is =
        let front : List Slot = take (g.ways - 1) slots in
        let full : IsFull g.ways slots front victim = victim_last g.ways slots victim room is in
        let kept : dirty_in (without_victim g.ways slots) ≡ dirty_in front = search (rules, without_victim-full) in
        let before : dirty_in slots ≡ dirty_in front + dirty victim = search (rules, sum_by-append) in
        let written : length (room_write g slots) ≡ dirty victim = search rules in
        omega arith
