-- Slots that stand in a cache: cached and dirty positions, ways and numbers.
use Rattle.std.proofs.lemmas.Grind.{common_steps}
use Rattle.std.proofs.Common.{rules}
use Rattle.std.proofs.Common.{◌≡◌, ◌≢◌, ℕ, zero, suc, ◌+◌, ◌*◌, ◌<◌, ◌≤◌, Bool, true, false, cond, Some, List, [], ◌∷◌, map, length, get_or, mul-le-mul_right, sym, ap, ap₂, subst, ◌∙◌, inl, inr, arith}
use Rattle.std.specs.Prelude.{◌==◌}
use Rattle.std.specs.List.{All, AllPairs, Contains}
use Rattle.std.proofs.lemmas.Bool.{cases_order, cond-true, cond-false, eqb-true, eq-eqb, ne_eqb, and_parts, and_from, false≢true}
use Rattle.std.proofs.lemmas.List.{get_or_default, get_or-map, length-map}
use Rattle.std.proofs.lemmas.List.Folds.{Any-from_list_any, list_any_at}
use Rattle.pmem_base.specs.Shape.{Shape}
use Rattle.pmem_base.specs.Layout.{slots}
use Rattle.meta_cache.specs.declared.slot.Slot.{Slot}
use Rattle.meta_cache.specs.KeptSlots.{IsFromBefore, IsStillDirty}
use Rattle.meta_cache.specs.Sets.{slot_with, with_mark, slot_marked, ArePositionsApart}
use Rattle.meta_cache.specs.Banks.{Banks, set_of, set_index, slot_number, is_cached, is_cached_dirty, IsInPlace, IsBanksOf}

-- what holds of each slot of a set holds of one that stands in it
pub All-stands : (P : Slot → Type 0) (set : List Slot) (slot : Slot) → All P set → Contains set slot → P slot
All-stands P set slot all stands = subst P stands.2 (all stands.0 slot stands.1)

pub stands_at : (set : List Slot) (k : ℕ) (d : Slot) → k < length set → Contains set (get_or set k d)
stands_at set k d h = search (rules, get_or_default, get_or)

pub All-from_stands : (P : Slot → Type 0) (set : List Slot) → ((slot : Slot) → Contains set slot → P slot) → All P set
All-from_stands P set each = λ k d h. each (get_or set k d) (stands_at set k d h)

-- a position that is cached dirty has a dirty slot
pub dirty_slot : (g : Shape) (cache : Banks) (bank x : ℕ) → is_cached_dirty g cache bank x ≡ true
    → (slot : Slot) × Contains (set_of cache bank (set_index g x)) slot × (slot.position ≡ x) × (slot.dirty ≡ true)
dirty_slot g cache bank x dirty = search (rules, Any-from_list_any, and_parts, eqb-true)

-- a position that is cached has a slot
pub cached_slot : (g : Shape) (cache : Banks) (bank x : ℕ) → is_cached g cache bank x ≡ true
    → (slot : Slot) × Contains (set_of cache bank (set_index g x)) slot × (slot.position ≡ x)
cached_slot g cache bank x cached = search (rules, Any-from_list_any, eqb-true)

-- a dirty slot in its position's set makes the position cached dirty
pub is_cached_dirty_from : (g : Shape) (cache : Banks) (bank : ℕ) (slot : Slot)
    → Contains (set_of cache bank (set_index g slot.position)) slot → slot.dirty ≡ true
    → is_cached_dirty g cache bank slot.position ≡ true
is_cached_dirty_from g cache bank slot stands dirty = search (rules, list_any_at, and_from, eq-eqb)

-- two slots of a set with one way are one
pub same_way : (set : List Slot) (a b : Slot) → AllPairs (λ a b. a.way ≢ b.way) set → Contains set a → Contains set b
    → a.way ≡ b.way → a ≡ b
same_way set a b distinct sa sb way =
    elim (cases_order sa.0 sb.0) [
      | inl same ↦
          sym sa.2 ∙ ap (λ k. get_or set k a) same ∙ get_or_default set sb.0 a b sb.1 ∙ sb.2
      | inr (inl less) ↦
          absurd
          (distinct sa.0 sb.0 a less sb.1
          (ap (λ (s : Slot). s.way) sa.2 ∙ way
          ∙ sym (ap (λ (s : Slot). s.way) (get_or_default set sb.0 a b sb.1 ∙ sb.2))))
      | inr (inr greater) ↦
          absurd
          (distinct sb.0 sa.0 b greater sa.1
          (ap (λ (s : Slot). s.way) sb.2 ∙ sym way
          ∙ sym (ap (λ (s : Slot). s.way) (get_or_default set sa.0 b a sa.1 ∙ sa.2))))
    ]

pub in_place_of : (g : Shape) (cache : Banks) (bank set : ℕ) (slot : Slot) → IsBanksOf g cache
    → Contains (set_of cache bank set) slot → IsInPlace g bank set slot
in_place_of g cache bank set slot form stands = search rules

-- a slot's number is one of its bank's
pub slot_number_within : (g : Shape) (set : ℕ) (slot : Slot) → set < g.sets → slot.way < g.ways
    → slot_number g set slot < slots g
slot_number_within g set slot low h = search rules

-- a number belongs to one set and way
pub slot_number_parts : (g : Shape) (set set' : ℕ) (a b : Slot) → a.way < g.ways → b.way < g.ways
    → slot_number g set a ≡ slot_number g set' b → (set ≡ set') × (a.way ≡ b.way)
slot_number_parts g set set' a b ha hb e =
    elim (cases_order set set') [
      | inl same ↦
          let rows : set * g.ways ≡ set' * g.ways = ap (λ s. s * g.ways) same in (same, omega arith)
      | inr (inl less) ↦
          let more : (set + 1) * g.ways ≤ set' * g.ways = mul-le-mul_right g.ways (omega arith) in absurd (omega arith)
      | inr (inr greater) ↦
          let more : (set' + 1) * g.ways ≤ set * g.ways = mul-le-mul_right g.ways (omega arith) in
          absurd (omega arith)
    ]

-- two slots of a cache with one bank and number are one
pub same_slot : (g : Shape) (cache : Banks) (bank set bank' set' : ℕ) (a b : Slot) → IsBanksOf g cache
    → Contains (set_of cache bank set) a → Contains (set_of cache bank' set') b → bank ≡ bank'
    → slot_number g set a ≡ slot_number g set' b → a ≡ b
same_slot g cache bank set bank' set' a b form sa sb banks numbers =
    let way_a : a.way < g.ways = (in_place_of g cache bank set a form sa).its_way in
    let way_b : b.way < g.ways = (in_place_of g cache bank' set' b form sb).its_way in
    let parts : (set ≡ set') × (a.way ≡ b.way) = slot_number_parts g set set' a b way_a way_b numbers in
    let one_set : set_of cache bank' set' ≡ set_of cache bank set = ap₂ (set_of cache) (sym banks) (sym parts.0) in
    same_way (set_of cache bank set) a b (form.distinct_ways bank set) sa
    (subst (λ slots. Contains slots b) one_set sb) parts.1

-- a position whose dirty slots are still dirty is still cached dirty
pub is_cached_dirty_still : (g : Shape) (old new : Banks) (bank x : ℕ)
    → ((slot : Slot) → Contains (set_of old bank (set_index g x)) slot → slot.dirty ≡ true → slot.position ≡ x
    → IsStillDirty (set_of new bank (set_index g x)) slot)
    → is_cached_dirty g old bank x ≡ true → is_cached_dirty g new bank x ≡ true
is_cached_dirty_still g old new bank x still dirty = by_slot (dirty_slot g old bank x dirty)
  where
    from_now : (slot : Slot) → slot.position ≡ x → IsStillDirty (set_of new bank (set_index g x)) slot
        → is_cached_dirty g new bank x ≡ true
    from_now slot same kept =
        ap (is_cached_dirty g new bank) (sym (kept.position ∙ same))
        ∙ is_cached_dirty_from g new bank kept.now
        (subst (λ y. Contains (set_of new bank (set_index g y)) kept.now) (sym (kept.position ∙ same)) kept.stands)
        kept.dirty

    by_slot : ((slot : Slot) × Contains (set_of old bank (set_index g x)) slot × (slot.position ≡ x)
        × (slot.dirty ≡ true)) → is_cached_dirty g new bank x ≡ true
    by_slot s = from_now s.0 s.2 (still s.0 s.1 s.3 s.2)

-- ---- a slot and its look-up

slot_with-at : (slots : List Slot) (k : ℕ) (d slot : Slot) → ArePositionsApart slots → k < length slots
    → get_or slots k d ≡ slot → slot_with slots slot.position ≡ Some slot
slot_with-at [] k d slot apart h e = absurd (omega (arith, h))
slot_with-at (first ∷ rest) zero d slot apart h e = search (rules, cond-true, eq-eqb)
slot_with-at (first ∷ rest) (suc k) d slot apart h e =
    cond-false (first.position == slot.position) (Some first) (slot_with rest slot.position)
    (ne_eqb first.position slot.position
    (λ same. apart 0 (suc k) d (omega arith) h (same ∙ ap (λ (s : Slot). s.position) (sym e))))
    ∙ slot_with-at rest k d slot
    (λ i j d less inside. apart (suc i) (suc j) d (omega (arith, less)) (omega (arith, inside))) (omega (arith, h)) e

-- a slot is what a look-up of its position finds
pub slot_with-is : (slots : List Slot) (slot : Slot) → ArePositionsApart slots → Contains slots slot
    → slot_with slots slot.position ≡ Some slot
slot_with-is slots slot apart stands = slot_with-at slots stands.0 slot slot apart stands.1 stands.2

-- ---- what the calls on a set make of its slots

pub IsFromBefore-same : (set : List Slot) (slot : Slot) → Contains set slot → IsFromBefore set slot
IsFromBefore-same set slot stands = search rules

-- an element of a changed list is a changed element
contained-map : (f : Slot → Slot) (slots : List Slot) (slot : Slot) → Contains (map f slots) slot
    → (before : Slot) × Contains slots before × (f before ≡ slot)
contained-map f slots slot stands =
    let within : stands.0 < length slots = omega (arith, stands.1, length-map slots f) in (
      get_or slots stands.0 slot,
      stands_at slots stands.0 slot within,
      sym (get_or-map f slots stands.0 slot slot within) ∙ stands.2,
    )

map-contained : (f : Slot → Slot) (slots : List Slot) (slot : Slot) → Contains slots slot
    → Contains (map f slots) (f slot)
map-contained f slots slot stands = search (rules, length-map, get_or-map)

-- a block is cleaned: each slot was there before, ..
pub IsFromBefore-cleaned : (slots : List Slot) (x : ℕ) (slot : Slot) → Contains (with_mark slots x false) slot
    → IsFromBefore slots slot
unfolding with_mark
IsFromBefore-cleaned slots x slot stands =
    let found = contained-map (λ s. cond (s.position == x) (slot_marked s false) s) slots slot stands in
    at found.0 found.1 (found.0.position == x) found.2
  where
    at : (before : Slot) → Contains slots before → (test : Bool) → cond test (slot_marked before false) before ≡ slot
        → IsFromBefore slots slot
    at before stands true e =
        record {
          before = before;
          stands = stands;
          way = ap (λ (s : Slot). s.way) e;
          position = ap (λ (s : Slot). s.position) e;
          same_line = ap (λ (s : Slot). s.line) e;
          dirty = λ dirty. absurd (false≢true (ap (λ (s : Slot). s.dirty) e ∙ dirty));
        }
    at before stands false e = subst (IsFromBefore slots) e (IsFromBefore-same slots before stands)

-- .. and each other dirty block is still dirty
pub IsStillDirty-cleaned : (slots : List Slot) (x : ℕ) (slot : Slot) → Contains slots slot → slot.dirty ≡ true
    → slot.position ≢ x → IsStillDirty (with_mark slots x false) slot
unfolding with_mark
IsStillDirty-cleaned slots x slot stands dirty apart = grind (arith, common_steps, cond-false, ne_eqb, map-contained)
