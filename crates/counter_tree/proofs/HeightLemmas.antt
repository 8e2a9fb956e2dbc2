-- The height of the shadow tree, by the number of slots.
use Rattle.std.proofs.Common.{ℕ, ◌≡◌, ◌<◌, ◌≤◌, ◌^◌, Bool, List, [], ◌∷◌, Some, cond, ◌∙◌, rules}
use Rattle.std.specs.Option.{unwrap_or}
use Rattle.counter_tree.proofs.Common.{nat_le, find, mul-le-mul, pow-le-pow_right, Shape, IsShape, tree_slots, first_height}
use Rattle.counter_tree.specs.Shadow.{shadow_height}

-- what is found, by whether height h has room
abbrev tried : (h n : ℕ) (more : List ℕ) → Bool → ℕ
tried h n more fits = unwrap_or (cond fits (Some h) (find (λ k. nat_le n (4 ^ k)) more)) 5

-- a height with room for n is the first one
here : (h n : ℕ) (more : List ℕ) → n ≤ 4 ^ h → first_height (h ∷ more) n ≡ h
here h n more fits = search rules

-- without room it is a later one
past : (h n : ℕ) (more : List ℕ) → 4 ^ h < n → first_height (h ∷ more) n ≡ first_height more n
past h n more more_slots = search rules

pub height_one : (g : Shape) → tree_slots g ≤ 4 → shadow_height g ≡ 1
unfolding shadow_height
height_one g fits = here 1 (tree_slots g) (2 ∷ 3 ∷ 4 ∷ []) fits

pub height_two : (g : Shape) → 4 < tree_slots g → tree_slots g ≤ 16 → shadow_height g ≡ 2
unfolding shadow_height
height_two g one fits = past 1 (tree_slots g) (2 ∷ 3 ∷ 4 ∷ []) one ∙ here 2 (tree_slots g) (3 ∷ 4 ∷ []) fits

pub height_three : (g : Shape) → 16 < tree_slots g → tree_slots g ≤ 64 → shadow_height g ≡ 3
unfolding shadow_height
height_three g two fits = search rules

pub height_four : (g : Shape) → 64 < tree_slots g → tree_slots g ≤ 256 → shadow_height g ≡ 4
unfolding shadow_height
height_four g three fits = search rules

pub height_five : (g : Shape) → 256 < tree_slots g → shadow_height g ≡ 5
unfolding shadow_height
height_five g four = search rules

-- lower heights have no room where the one below hasn't
pub low-heights : (n top h : ℕ) → 4 ^ top < n → h ≤ top → 4 ^ h < n
low-heights n top h more_slots low = search (rules, pow-le-pow_right)

-- the tree has a leaf for each slot
pub shadow_height-room : (g : Shape) → IsShape g → tree_slots g ≤ 4 ^ shadow_height g
unfolding shadow_height
shadow_height-room g shape = search (rules, mul-le-mul)
