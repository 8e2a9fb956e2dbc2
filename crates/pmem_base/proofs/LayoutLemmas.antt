-- Bounds on the pages and the metadata lines of a memory, and on the number of a slot; which levels are named.
use Rattle.std.proofs.Common.{◌≡◌, ℕ, ◌≤◌, ◌<◌, ◌+◌, ◌*◌, ◌^◌, Bool, true, false, refl, ap, lit<, mul-le-mul_right, arith}
use Rattle.std.proofs.Math.Nat.{pow-le-pow_right}
use Rattle.std.specs.Prelude.{if◌then◌else◌}
use Rattle.pmem_base.specs.Shape.{Shape, lazy_levels, named_levels}
use Rattle.pmem_base.specs.Layout.{meta_lines, shadow_counter_lines, shadow_tree_lines, shadow_lines}

-- a memory has 4 to 4096 pages
pub pages-least : (levels : ℕ) → 1 ≤ levels → 4 ≤ 4 ^ levels
pages-least levels least = pow-le-pow_right {n = 4} (lit< tt) {i = 1} {j = levels} least

pub pages-most : (levels : ℕ) → levels ≤ 6 → 4 ^ levels ≤ 4096
pages-most levels most = pow-le-pow_right {n = 4} (lit< tt) {i = levels} {j = 6} most

pub ruleset page_bounds = (pages-least, pages-most)

-- a memory has at most 5461 metadata lines
pub meta_lines-most : (g : Shape) → g.levels ≤ 6 → meta_lines g ≤ 5461
meta_lines-most g few =
    let most : 4 ^ (g.levels + 1) ≤ 4 ^ 7 = pow-le-pow_right {n = 4} (lit< tt) {i = g.levels + 1} {j = 7} (omega (arith, few)) in
    omega (arith, most)

-- of the numbers of sets in order, each with as many ways
pub number_low : (sets ways n way : ℕ) → n < sets → way < ways → n * ways + way < sets * ways
number_low sets ways n way low h =
    let more : (n + 1) * ways ≤ sets * ways = mul-le-mul_right ways (omega arith) in omega arith

-- ---- the policy

-- a level whose blocks are named is lazy, and there are shadow tables
pub named-shadow : (g : Shape) (j : ℕ) → j < named_levels g → g.shadow ≡ true
named-shadow g j = by g.shadow
  where
    by : (tables : Bool) → j < (if tables then lazy_levels g else 0) → tables ≡ true
    by true h = refl
    by false h = absurd (omega (arith, h))

pub named-lazy : (g : Shape) (j : ℕ) → j < named_levels g → j < lazy_levels g
named-lazy g j = by g.shadow
  where
    by : (tables : Bool) → j < (if tables then lazy_levels g else 0) → j < lazy_levels g
    by true h = h
    by false h = absurd (omega (arith, h))

-- the shadow lines of a device with shadow tables
pub shadow_lines-tables : (g : Shape) → g.shadow ≡ true → shadow_lines g ≡ shadow_counter_lines g + shadow_tree_lines g
shadow_lines-tables g tables = ap (λ b. if b then shadow_counter_lines g + shadow_tree_lines g else 0) tables

-- with shadow tables they are the lazy ones
pub named-all : (g : Shape) → g.shadow ≡ true → named_levels g ≡ lazy_levels g
named-all g tables = ap (λ b. if b then lazy_levels g else 0) tables
