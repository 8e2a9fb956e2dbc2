-- Positions and levels: children and parents are inverse, each level is an interval, and a parent is one level up.
use Rattle.std.proofs.Common.{ℕ, zero, suc, ◌≡◌, ◌<◌, ◌≤◌, ◌+◌, ◌-◌, ◌*◌, ◌/◌, ◌^◌, cond, inl, inr, refl, sym, ap, subst, ◌∙◌, arith, add-one, rules}
use Rattle.std.proofs.Math.Nat.{pow-suc}
use Rattle.std.specs.Prelude.{nat_le}
use Rattle.std.proofs.lemmas.Bool.{cases_Bool, cases_lt, leb-true, leb-false}
use Rattle.pmem_base.specs.Shape.{Shape}
use Rattle.pmem_base.specs.Layout.{pages, meta_lines, level_start}
use Rattle.bonsai_tree.specs.Positions.{parent, child_slot, child_position, level_up_to, level_of, counter_position}

-- ---- children and parents

pub parent-child : (x i : ℕ) → i < 4 → parent (child_position x i) ≡ x
parent-child x i small = omega (arith, small)

pub child-of_parent : (x : ℕ) → 1 ≤ x → child_position (parent x) (child_slot x) ≡ x
child-of_parent x below = omega (arith, below)

-- ---- where levels begin

pow_of_four : (j : ℕ) → (q : ℕ) × (4 ^ j ≡ 3 * q + 1)
pow_of_four zero = (0, refl)
pow_of_four (suc j) =
    let h = pow_of_four j in
    (4 * h.0 + 1, omega (arith, pow-suc 4 j, h.1))

-- a level begins where the one above would have its children
pub level_start-suc : (j : ℕ) → level_start (suc j) ≡ 4 * level_start j + 1
level_start-suc j = let h = pow_of_four j in omega (arith, pow-suc 4 j, h.1)

pub level_start-pow : (j : ℕ) → 3 * level_start j + 1 ≡ 4 ^ j
level_start-pow j = let h = pow_of_four j in omega (arith, h.1)

-- a level has 4 ^ j positions
pub level_start-next : (j : ℕ) → level_start (suc j) ≡ level_start j + 4 ^ j
level_start-next j = omega (arith, level_start-suc j, level_start-pow j)

-- levels begin one after the other
level_start-more : (j d : ℕ) → level_start j ≤ level_start (d + j)
level_start-more j zero = search rules
level_start-more j (suc d) =
    let up = level_start-more j d in
    let next = level_start-suc (d + j) in
    let same : suc d + j ≡ suc (d + j) = omega arith in
    subst (λ n. level_start j ≤ level_start n) (sym same) (omega (arith, up, next))

pub level_start-le : (i j : ℕ) → i ≤ j → level_start i ≤ level_start j
level_start-le i j le =
    let same : j - i + i ≡ j = omega (arith, le) in
    subst (λ n. level_start i ≤ level_start n) same (level_start-more i (j - i))

-- ---- the positions of a level

-- position x is j levels below the top
pub record IsAtLevel (j x : ℕ) : Type 0 where
  pub from : level_start j ≤ x
  pub below : x < level_start (suc j)

-- they are an interval of 4 ^ j
pub IsAtLevel-place : (j i : ℕ) → i < 4 ^ j → IsAtLevel j (level_start j + i)
IsAtLevel-place j i inside = record { from = omega arith; below = omega (arith, inside, level_start-next j) }

-- the parent is one level up
pub parent-IsAtLevel : (j x : ℕ) → IsAtLevel (suc j) x → IsAtLevel j (parent x)
parent-IsAtLevel j x at = search (rules, level_start-suc)

-- the children are one level down
pub child-IsAtLevel : (j x i : ℕ) → IsAtLevel j x → i < 4 → IsAtLevel (suc j) (child_position x i)
child-IsAtLevel j x i at small = search (rules, level_start-suc)

-- a position is at one level
pub IsAtLevel-once : (i j x : ℕ) → IsAtLevel i x → IsAtLevel j x → i ≡ j
IsAtLevel-once i j x one two = search (rules, cases_lt, level_start-le)

-- a position at a level above is an inner one
pub IsAtLevel-inner : (n j x : ℕ) → j < n → IsAtLevel j x → x < level_start n
IsAtLevel-inner n j x above at = omega (arith, level_start-le (suc j) n (omega (arith, above)), at.below)

-- ---- the level of a position

pub level_up_to-is : (n x : ℕ) → x < level_start (suc n) → IsAtLevel (level_up_to n x) x
level_up_to-is zero x below = record { from = omega arith; below = below }
level_up_to-is (suc n) x below =
    elim (cases_Bool (nat_le (level_start (suc n)) x)) [
      | inl high ↦
          subst (λ t. IsAtLevel (cond t (suc n) (level_up_to n x)) x) (sym high)
          (record { from = leb-true (level_start (suc n)) x high; below = below })
      | inr low ↦
          subst (λ t. IsAtLevel (cond t (suc n) (level_up_to n x)) x) (sym low)
          (level_up_to-is n x (leb-false (level_start (suc n)) x low))
    ]

pub meta_lines-level : (g : Shape) → meta_lines g ≡ level_start (suc g.levels)
meta_lines-level g = ap (λ n. (4 ^ n - 1) / 3) (add-one g.levels)

pub level_of-IsAtLevel : (g : Shape) (x : ℕ) → g.levels ≤ 6 → x < meta_lines g → IsAtLevel (level_of x) x
level_of-IsAtLevel g x few inside = search (rules, level_up_to-is, level_start-le, meta_lines-level)

-- the level of a position at level j, at most 6
pub level_of-at : (j x : ℕ) → j ≤ 6 → IsAtLevel j x → level_of x ≡ j
level_of-at j x few at =
    IsAtLevel-once (level_of x) j x
    (level_up_to-is 6 x (omega (arith, level_start-le (suc j) 7 (omega (arith, few)), at.below))) at

-- a metadata line is at most on the last level
pub level_of-le : (g : Shape) (x : ℕ) → g.levels ≤ 6 → x < meta_lines g → level_of x ≤ g.levels
level_of-le g x few inside = search (rules, level_of-IsAtLevel, cases_lt, level_start-le, meta_lines-level)

-- ---- counter blocks

pub meta_lines-counters : (g : Shape) → meta_lines g ≡ level_start g.levels + pages g
meta_lines-counters g = meta_lines-level g ∙ level_start-next g.levels

-- a page's counter block is on the last level
pub counter_position-IsAtLevel : (g : Shape) (page : ℕ) → page < pages g → IsAtLevel g.levels (counter_position g page)
counter_position-IsAtLevel g page inside = IsAtLevel-place g.levels page inside

pub counter_position-lt : (g : Shape) (page : ℕ) → page < pages g → counter_position g page < meta_lines g
counter_position-lt g page inside = omega (arith, meta_lines-counters g, inside)

-- a position of the last level is that of a page's counter block
pub counter_position-of_last : (g : Shape) (x : ℕ) → IsAtLevel g.levels x → (x - counter_position g 0 < pages g) × (counter_position g (x - counter_position g 0) ≡ x)
counter_position-of_last g x at = (omega (arith, at.from, at.below, level_start-next g.levels), omega (arith, at.from))
