-- Where two lists of slot lines, and the lines of their shadow trees, differ.
use Rattle.std.proofs.Common.{ℕ, suc, ◌≡◌, ◌≢◌, ◌<◌, ◌≤◌, ◌+◌, ◌-◌, ◌^◌, List, length, refl, sym, subst, ◌∙◌, inl, inr, arith, rules}
use Rattle.counter_tree.proofs.Common.{cases_eq, Line, level_start, line_at, Formulas, IsAtLevel, level_start-next, level_start-suc, up, shadow_tree_line, ChipTree, IsChipTree, IsAtLevelOf, IsShadowTree, FirstDiffers, IsShadowDifference, IsTopDifference}
use Rattle.counter_tree.proofs.ShadowLaws.{cases_line, up-IsAtLevel}
use Rattle.counter_tree.proofs.ChipTree.{chip-line}
use Rattle.counter_tree.proofs.ChipLemmas.{level-within, leaf-level}

-- one place more at which two lists are equal
pub same-more : (a b : List Line) (i : ℕ) → line_at a i ≡ line_at b i → ((j : ℕ) → j < i → line_at a j ≡ line_at b j) → (j : ℕ) → j < i + 1 → line_at a j ≡ line_at b j
same-more a b i here before j below = search rules

-- ---- up from a leaf

-- the position some levels above a leaf
pub up-level : (tree : ChipTree) (leaf m d : ℕ) → IsAtLevelOf tree tree.height leaf → m + d ≡ tree.height → IsAtLevel d (up m leaf)
up-level tree leaf m d at sum =
    up-IsAtLevel m d leaf (subst (λ n. IsAtLevel n leaf) (sym sum) (record { from = at.from; below = at.below }))

pub up-within : (tree : ChipTree) (leaf m : ℕ) → IsChipTree tree → IsAtLevelOf tree tree.height leaf → m ≤ tree.height → up m leaf < length tree.lines
up-within tree leaf m it at few =
    let level = up-level tree leaf m (tree.height - m) at (omega (arith, few)) in
    level-within tree (tree.height - m) (up m leaf) it (record { within = omega arith; from = level.from; below = level.below })

pub up-below_top : (tree : ChipTree) (leaf m : ℕ) → IsAtLevelOf tree tree.height leaf → m < tree.height → 1 ≤ up m leaf
up-below_top tree leaf m at few =
    let level = up-level tree leaf m (suc (tree.height - suc m)) at (omega (arith, few)) in
    omega (arith, level.from, level_start-suc (tree.height - suc m))

-- a slot's leaf
pub leaf-is : (tree : ChipTree) (i : ℕ) → i < 4 ^ tree.height → IsAtLevelOf tree tree.height (level_start tree.height + i)
leaf-is tree i inside = leaf-level tree i (level_start tree.height) refl inside

pub level-before : (level top h : ℕ) → top ≡ h → level < top → level < h
level-before level top h is below = omega (arith, is, below)

-- ---- the highest difference

pub highest-first : (a b : List Line) (leaf : ℕ) → line_at a leaf ≢ line_at b leaf → IsTopDifference 0 a b leaf leaf
highest-first a b leaf differ = search rules

-- one level more
pub highest-more : (a b : List Line) (leaf level x found result : ℕ)
    → x ≡ up (suc level) leaf
    → (line_at a x ≡ line_at b x → result ≡ found)
    → (line_at a x ≢ line_at b x → result ≡ x)
    → IsTopDifference level a b leaf found → IsTopDifference (suc level) a b leaf result
highest-more a b leaf level x found result place same other so_far =
    elim (cases_line (line_at a x) (line_at b x)) [
      | inr apart ↦
          let is : result ≡ x = other apart in
          record {
            height = suc level;
            within = omega arith;
            its_place = is ∙ place;
            differ = subst (λ z. line_at a z ≢ line_at b z) (sym is) apart;
            above = λ n low high. absurd (omega (arith, low, high));
          }
      | inl equal ↦
          let is : result ≡ found = same equal in
          record {
            height = so_far.height;
            within = omega (arith, so_far.within);
            its_place = is ∙ so_far.its_place;
            differ = subst (λ z. line_at a z ≢ line_at b z) (sym is) so_far.differ;
            above = λ n low high.
                elim (cases_eq n (suc level)) [
                  | inl last ↦ search rules
                  | inr before ↦ so_far.above n low (omega (arith, high, before))
                ];
          }
    ]

-- ---- two shadow trees on the chip show where their slot lines' trees first differ from the top

-- a line on a leaf's path
path_line : (f : Formulas) (h : ℕ) (slots lines : List Line) (i m : ℕ) → IsShadowTree f h slots lines → i < 4 ^ h → m ≤ h → line_at lines (up m (level_start h + i)) ≡ shadow_tree_line f h slots m (up m (level_start h + i))
path_line f h slots lines i m it inside few =
    let sum : h ≡ m + (h - m) = omega (arith, few) in
    chip-line f h slots lines m (h - m) (up m (level_start h + i)) it (omega (arith, few))
    (up-IsAtLevel m (h - m) (level_start h + i)
    (subst (λ n. IsAtLevel n (level_start h + i)) sum (record { from = omega arith; below = omega (arith, inside, level_start-next h) })))

pub shadow_top : (f : Formulas) (h : ℕ) (first second a b : List Line) (i x : ℕ)
    → IsShadowTree f h first a → IsShadowTree f h second b → i < 4 ^ h → FirstDiffers first second i
    → IsTopDifference h a b (level_start h + i) x
    → (m : ℕ) × IsShadowDifference f h first second i m x × (line_at a x ≡ shadow_tree_line f h first m x) × (line_at b x ≡ shadow_tree_line f h second m x)
shadow_top f h first second a b i x one two inside slot top = search (rules, path_line)
