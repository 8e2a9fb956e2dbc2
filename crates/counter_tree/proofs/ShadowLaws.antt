-- Two lists of slot lines with one root: on the path of the first slot that differs, the first
-- position from the top at which their trees differ has one digest for two lines.
use Rattle.std.proofs.Common.{ℕ, zero, suc, ◌≡◌, ◌≢◌, ◌<◌, ◌≤◌, ◌+◌, ◌-◌, ◌^◌, List, [], ◌∷◌, length, refl, sym, ap, subst, inl, inr, ◌⊎◌, ◌∙◌, arith, rules}
use Rattle.counter_tree.proofs.Common.{level_start, All, cases_Bool, cases_lt, false≢true, Line, IsLine, line_of, line_at, same_bytes, same_bytes-from, same_bytes-true, IsLine-line_at, Formulas, AreInRange, parent, child_slot, child_position, child_digest, IsAtLevel, parent-IsAtLevel, level_start-suc, IsAtLevel-place, AreSixteen, child_digest-node_over, shadow_tree_line, root_of, up, FirstDiffers, IsShadowDifference}
use Rattle.counter_tree.proofs.Positions.{node_over-IsLine}

-- ---- lines are equal or differ

pub cases_line : (a b : Line) → (a ≡ b) ⊎ (a ≢ b)
cases_line a b =
    elim (cases_Bool (same_bytes a.0 b.0)) [
      | inl same ↦ inl (ap line_of (same_bytes-true a.0 b.0 same))
      | inr other ↦ inr (λ e. false≢true (sym other ∙ same_bytes-from a.0 b.0 (ap (λ (l : Line). l.0) e)))
    ]

-- two lists of as many lines that aren't equal have a first slot that differs
pub first_differs : (a b : List Line) → length a ≡ length b → a ≢ b → (i : ℕ) × FirstDiffers a b i
first_differs [] [] same apart = absurd (apart refl)
first_differs [] (y ∷ b) same apart = absurd (omega (arith, same))
first_differs (x ∷ a) [] same apart = absurd (omega (arith, same))
first_differs (x ∷ a) (y ∷ b) same apart =
    elim (cases_line x y) [
      | inr other ↦ (0, record { within = omega arith; differ = other; before = λ j low. absurd (omega (arith, low)) })
      | inl equal ↦
          let more = first_differs a b (omega (arith, same)) (λ e. apart (cc (equal, e))) in (
            suc more.0,
            record {
              within = omega (arith, more.1.within);
              differ = more.1.differ;
              before = go x y a b more.0 equal more.1.before;
            },
          )
    ]
  where
    go : (x y : Line) (a b : List Line) (i : ℕ) → x ≡ y → ((j : ℕ) → j < i → line_at a j ≡ line_at b j) → (j : ℕ) → j < suc i → line_at (x ∷ a) j ≡ line_at (y ∷ b) j
    go x y a b i equal before zero low = equal
    go x y a b i equal before (suc j) low = before j (omega (arith, low))

-- ---- lines of a shadow tree are lines

pub shadow_line-IsLine : (f : Formulas) (h : ℕ) (slots : List Line) (j x : ℕ) → AreInRange f → All IsLine slots → IsLine (shadow_tree_line f h slots j x)
shadow_line-IsLine f h slots zero x in_range whole = IsLine-line_at slots (x - level_start h) whole
shadow_line-IsLine f h slots (suc j) x in_range whole =
    node_over-IsLine f x (shadow_tree_line f h slots j) in_range (λ i small. shadow_line-IsLine f h slots j (child_position x i) in_range whole)

sixteen : (f : Formulas) (h : ℕ) (slots : List Line) (j x : ℕ) → AreInRange f → All IsLine slots → AreSixteen f x (shadow_tree_line f h slots j)
sixteen f h slots j x in_range whole = λ i small. (in_range.digests (child_position x i) (shadow_tree_line f h slots j (child_position x i)) (shadow_line-IsLine f h slots j (child_position x i) in_range whole)).long

-- a node's entry is its child's digest
child_entry : (f : Formulas) (h : ℕ) (slots : List Line) (j y : ℕ) → AreInRange f → All IsLine slots → 1 ≤ y → child_digest (shadow_tree_line f h slots (suc j) (parent y)) (child_slot y) ≡ f.digest_of y (shadow_tree_line f h slots j y)
child_entry f h slots j y in_range whole below = search (rules, child_digest-node_over, sixteen)

-- ---- the path of a leaf

pub up-IsAtLevel : (m k y : ℕ) → IsAtLevel (m + k) y → IsAtLevel k (up m y)
up-IsAtLevel zero k y at = search rules
up-IsAtLevel (suc m) k y at =
    let more : suc m + k ≡ m + suc k = omega arith in
    parent-IsAtLevel k (up m y) (up-IsAtLevel m (suc k) y (subst (λ n. IsAtLevel n y) more at))

up-low : (h m y : ℕ) → IsAtLevel h y → suc m ≤ h → 1 ≤ up m y
up-low h m y at deep =
    let sum : h ≡ m + suc (h - suc m) = omega (arith, deep) in
    let level = up-IsAtLevel m (suc (h - suc m)) y (subst (λ n. IsAtLevel n y) sum at) in
    omega (arith, level.from, level_start-suc (h - suc m))

pub up-top : (h y : ℕ) → IsAtLevel h y → up h y ≡ 0
up-top h y at =
    let sum : h ≡ h + 0 = omega arith in
    let level = up-IsAtLevel h 0 y (subst (λ n. IsAtLevel n y) sum at) in
    omega (arith, level.below)

-- ---- the first position from the top

-- with equal lines above, the first difference is here or below
descend : (f : Formulas) (h : ℕ) (a b : List Line) (i m : ℕ) → FirstDiffers a b i → m ≤ h
    → ((n : ℕ) → m < n → n ≤ h → shadow_tree_line f h a n (up n (level_start h + i)) ≡ shadow_tree_line f h b n (up n (level_start h + i)))
    → (n : ℕ) × (x : ℕ) × IsShadowDifference f h a b i n x
descend f h a b i zero first small above = search rules
descend f h a b i (suc m) first small above =
    elim (cases_line (shadow_tree_line f h a (suc m) (up (suc m) (level_start h + i))) (shadow_tree_line f h b (suc m) (up (suc m) (level_start h + i)))) [
      | inr other ↦ (
        suc m,
        up (suc m) (level_start h + i),
        record {
          slot = first;
          height = small;
          its_place = refl;
          above = above;
          differ = other;
        },
      )
      | inl same ↦ descend f h a b i m first (omega (arith, small)) (more f h a b i m same above)
    ]
  where
    more : (f : Formulas) (h : ℕ) (a b : List Line) (i m : ℕ)
        → shadow_tree_line f h a (suc m) (up (suc m) (level_start h + i)) ≡ shadow_tree_line f h b (suc m) (up (suc m) (level_start h + i))
        → ((n : ℕ) → suc m < n → n ≤ h → shadow_tree_line f h a n (up n (level_start h + i)) ≡ shadow_tree_line f h b n (up n (level_start h + i)))
        → (n : ℕ) → m < n → n ≤ h → shadow_tree_line f h a n (up n (level_start h + i)) ≡ shadow_tree_line f h b n (up n (level_start h + i))
    more f h a b i m same above n low high =
        elim (cases_lt (suc m) n) [
          | inl less ↦ above n less high
          | inr le ↦
              let here : suc m ≡ n = omega (arith, low, le) in
              subst (λ z. shadow_tree_line f h a z (up z (level_start h + i)) ≡ shadow_tree_line f h b z (up z (level_start h + i))) here same
        ]

-- two different lists of as many slot lines have such a position
pub shadow_differs : (f : Formulas) (h : ℕ) (a b : List Line) → length a ≡ length b → a ≢ b → (i : ℕ) × (m : ℕ) × (x : ℕ) × IsShadowDifference f h a b i m x
shadow_differs f h a b same apart =
    let first = first_differs a b same apart in
    let found = descend f h a b first.0 h first.1 (omega arith) (λ n low high. absurd (omega (arith, low, high))) in
    (first.0, found.0, found.1, found.2)

-- the law: under one root its two lines have one digest
pub shadow_clash : (f : Formulas) (h : ℕ) (a b : List Line) (i m x : ℕ) → AreInRange f → All IsLine a → All IsLine b → length a ≤ 4 ^ h → root_of f h a ≡ root_of f h b → IsShadowDifference f h a b i m x → f.digest_of x (shadow_tree_line f h a m x) ≡ f.digest_of x (shadow_tree_line f h b m x)
shadow_clash f h a b i m x in_range wa wb room root it =
    let at : IsAtLevel h (level_start h + i) = IsAtLevel-place h i (omega (arith, it.slot.within, room)) in
    elim (cases_lt m h) [
      | inr top ↦ search (rules, up-top)
      | inl deep ↦
          let low = up-low h m (level_start h + i) at (omega (arith, deep)) in
          let same = it.above (suc m) (omega arith) (omega (arith, deep)) in
          subst (λ z. f.digest_of z (shadow_tree_line f h a m z) ≡ f.digest_of z (shadow_tree_line f h b m z)) (sym it.its_place)
          (sym (child_entry f h a m (up m (level_start h + i)) in_range wa low)
          ∙ (ap (λ node. child_digest node (child_slot (up m (level_start h + i)))) same
          ∙ child_entry f h b m (up m (level_start h + i)) in_range wb low))
    ]

pub IsShadowDifference-once : (f : Formulas) (h : ℕ) (a b : List Line) (i m x j n y : ℕ) → IsShadowDifference f h a b i m x → IsShadowDifference f h a b j n y → x ≡ y
IsShadowDifference-once f h a b i m x j n y one two = search rules
