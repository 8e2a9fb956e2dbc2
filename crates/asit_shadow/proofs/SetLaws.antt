-- Values set at the places of a list of positions, in a list of any kind: the cache after a write.
use Rattle.std.proofs.Common.{ℕ, ◌≡◌, ◌<◌, List, [], ◌∷◌, length, get_or, true, false, None, refl, sym, ap, subst, inl, inr, ◌∙◌, arith}
use Rattle.asit_shadow.proofs.Common.{◌==◌, ◌||◌, slice_set, Option, list_any, cases_Bool, cases_eq, or_parts, or_right, eqb-false, eqb-true, ne_eqb, false_from_ne_true, false≢true, length-set, get_or-set_same, get_or-set_other, Shape, IsShape, Node, tree_lines, tree_slots, slot_of, CachedNode, line_path, set_each, dirty_node, HasPathCached}
use Rattle.asit_shadow.specs.Paths.{cache_with}
use Rattle.asit_shadow.proofs.SlotPlaces.{slot_of-inside, on_path-inside, path_slots-apart, any_from}

pub length-set_each : {X : Type 0} (place : ℕ → ℕ) (value : ℕ → X) (xs : List ℕ) (list : List X) → length (set_each place value xs list) ≡ length list
length-set_each place value [] list = refl
length-set_each place value (x ∷ xs) list = length-set_each place value xs (slice_set list (place x) (value x)) ∙ length-set list (place x) (value x)

-- a place that no position has is as it was
pub set_none : {X : Type 0} (place : ℕ → ℕ) (value : ℕ → X) (xs : List ℕ) (list : List X) (p : ℕ) (d : X) → list_any (λ x. place x == p) xs ≡ false → get_or (set_each place value xs list) p d ≡ get_or list p d
set_none place value [] list p d none = refl
set_none place value (x ∷ xs) list p d none =
    let parts = or_parts (place x == p) (list_any (λ x. place x == p) xs) none in
    set_none place value xs (slice_set list (place x) (value x)) p d parts.1
    ∙ get_or-set_other list (place x) p (value x) d (λ e. eqb-false (place x) p parts.0 (sym e))

-- the place of one that no other has holds its value
pub set_one : {X : Type 0} (place : ℕ → ℕ) (value : ℕ → X) (xs : List ℕ) (list : List X) (y : ℕ) (d : X) → list_any (λ z. z == y) xs ≡ true → place y < length list
    → ((x : ℕ) → list_any (λ z. z == x) xs ≡ true → place x ≡ place y → x ≡ y) → get_or (set_each place value xs list) (place y) d ≡ value y
set_one place value [] list y d here room apart = absurd cc
set_one place value (x ∷ xs) list y d here room apart =
    let count = length-set list (place x) (value x) in
    let more : (z : ℕ) → list_any (λ w. w == z) xs ≡ true → place z ≡ place y → z ≡ y =
    λ z on same. apart z (or_right (x == z) (list_any (λ w. w == z) xs) on) same in
    elim (cases_Bool (list_any (λ z. z == y) xs)) [
      | inl later ↦ set_one place value xs (slice_set list (place x) (value x)) y d later (omega (arith, room, count)) more
      | inr last ↦
          let first : x ≡ y =
          elim (cases_eq x y) [
            | inl same ↦ same
            | inr other ↦ absurd (false≢true (sym (ap (λ b. b || list_any (λ z. z == y) xs) (ne_eqb x y other) ∙ last) ∙ here))
          ] in
          let none : list_any (λ z. place z == place y) xs ≡ false =
          false_from_ne_true (list_any (λ z. place z == place y) xs)
          (λ t.
          let found = any_from (λ z. place z == place y) xs t in
          let same = more found.0 found.1 (eqb-true (place found.0) (place y) found.2) in
          false≢true (sym last ∙ subst (λ w. list_any (λ z. z == w) xs ≡ true) same found.1)) in
          set_none place value xs (slice_set list (place x) (value x)) (place y) d none
          ∙ (ap (λ p. get_or (slice_set list (place x) (value x)) p d) (ap place (sym first))
          ∙ (get_or-set_same list (place x) (value x) d (subst (λ w. place w < length list) (sym first) room) ∙ ap value first))
    ]

-- the law: the cache with a path's nodes dirty
pub cache_with-HasPathCached : (g : Shape) (a : ℕ) (nodes : List Node) (cache : List (Option CachedNode)) → IsShape g → a < tree_lines g → length cache ≡ tree_slots g → HasPathCached g a nodes cache (cache_with g a nodes cache)
unfolding cache_with
cache_with-HasPathCached g a nodes cache shape inside size =
    record {
      count = length-set_each (slot_of g) (dirty_node nodes) (line_path g a) cache;
      on_path =
          λ x on.
          set_one (slot_of g) (dirty_node nodes) (line_path g a) cache x None on
          (omega (arith, size, slot_of-inside g x shape (on_path-inside g a x inside on)))
          (λ y on_y same. path_slots-apart g a y x shape inside on_y on same);
      others = λ i off. set_none (slot_of g) (dirty_node nodes) (line_path g a) cache i None off;
    }
