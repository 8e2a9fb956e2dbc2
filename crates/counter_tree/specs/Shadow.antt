-- The shadow tree: a hash tree over the slot lines, kept on the chip, with its root in the registers.
use Rattle.pmem_base.specs.Layout.{level_start}
use Rattle.std.specs.Prelude.{false, ℕ, zero, suc, ◌≡◌, ◌≢◌, ◌<◌, ◌≤◌, ◌+◌, ◌-◌, ◌^◌, nat_le, true, List, [], ◌∷◌, find, length, replicate, All}
use Rattle.std.specs.Option.{unwrap_or}
use Rattle.pmem_base.specs.declared.lines.Line.{Line}
use Rattle.pmem_base.specs.Lines.{IsLine, line_at, zero_line}
use Rattle.pmem_base.specs.Shape.{Shape}
use Rattle.suite.specs.Formulas.{Formulas}
use Rattle.bonsai_tree.specs.Positions.{parent}
use Rattle.bonsai_tree.specs.Nodes.{node_over, IsHashTree}
use Rattle.bonsai_tree.specs.Paths.{lines_with, root_with}
use Rattle.counter_tree.specs.Layout.{tree_slots}

-- the first of these heights with as many leaves as n, and 5 if none has
abbrev pub first_height : List ℕ → ℕ → ℕ
first_height heights n = unwrap_or (find (λ h. nat_le n (4 ^ h)) heights) 5

-- the height of the shadow tree: the least of at least 1 with a leaf for each slot
unfoldable pub shadow_height : Shape → ℕ
shadow_height g = first_height (1 ∷ 2 ∷ 3 ∷ 4 ∷ []) (tree_slots g)

-- the line of a tree of height h over these slot lines, at position x that is j levels above the
-- leaves; leaves past the slots are zero
abbrev pub shadow_tree_line : Formulas → ℕ → List Line → ℕ → ℕ → Line
shadow_tree_line f h slots zero x = line_at slots (x - level_start h)
shadow_tree_line f h slots (suc j) x = node_over f x (shadow_tree_line f h slots j)

-- the digest of its top
abbrev pub root_of : Formulas → ℕ → List Line → List ℕ
root_of f h slots = f.digest_of 0 (shadow_tree_line f h slots h 0)

-- the root over the slots of a tree
unfoldable pub shadow_root : Shape → Formulas → List Line → List ℕ
shadow_root g f slots = root_of f (shadow_height g) slots

-- the digests that its lines take
abbrev pub shadow_digests : Shape → ℕ
shadow_digests g = level_start (suc (shadow_height g))

-- m steps up from y
abbrev pub up : ℕ → ℕ → ℕ
up zero y = y
up (suc m) y = parent (up m y)

-- two lists of slot lines first differ at slot i
pub record FirstDiffers (first second : List Line) (i : ℕ) : Type 0 where
  pub within : i < length first
  pub differ : line_at first i ≢ line_at second i
  pub before : (j : ℕ) → j < i → line_at first j ≡ line_at second j

-- on the path of the first slot that differs, x is the first position from the top at which two
-- trees have different lines; it is m levels above the leaves
pub record IsShadowDifference (f : Formulas) (h : ℕ) (first second : List Line) (i m x : ℕ) : Type 0 where
  pub slot : FirstDiffers first second i
  pub height : m ≤ h
  pub its_place : x ≡ up m (level_start h + i)
  pub above :
      (n : ℕ) → m < n → n ≤ h
      → shadow_tree_line f h first n (up n (level_start h + i)) ≡ shadow_tree_line f h second n (up n (level_start h + i))
  pub differ : shadow_tree_line f h first m x ≢ shadow_tree_line f h second m x

-- ---- the tree's lines, kept on the chip

-- a shape whose tree has height h, so that the definitions of hash trees apply to the shadow tree
abbrev pub shape_of_height : ℕ → Shape
shape_of_height h = record { levels = h; sets = 1; ways = 1; loss = 1; major = 0; persist = 0; shadow = true; durable = false; combines = false }

-- the leaves of these lines of a tree of height h are these slot lines, and zero past them
abbrev pub AreLeaves : ℕ → List Line → List Line → Type 0
AreLeaves h slots lines = (i : ℕ) → i < 4 ^ h → line_at lines (level_start h + i) ≡ line_at slots i

-- these are all lines of the tree of height h over the slot lines
pub record IsShadowTree (f : Formulas) (h : ℕ) (slots tree : List Line) : Type 0 where
  pub tree_lines : IsHashTree (shape_of_height h) f tree
  pub whole : All IsLine tree
  pub leaves : AreLeaves h slots tree

-- the tree with another slot line, and its root
unfoldable pub tree_with : Formulas → ℕ → List Line → ℕ → Line → List Line
tree_with f h tree i line = lines_with (shape_of_height h) f tree i line

unfoldable pub tree_root_with : Formulas → ℕ → List Line → ℕ → Line → List ℕ
tree_root_with f h tree i line = root_with (shape_of_height h) f (line_at tree) i line

-- ---- how the chip keeps it

-- the levels below the top, and the lines from the top down
pub record ChipTree : Type 0 where
  pub height : ℕ
  pub lines : List Line

-- 1 to 5 levels below the top, and all their lines
pub record IsChipTree (tree : ChipTree) : Type 0 where
  pub least : 1 ≤ tree.height
  pub most : tree.height ≤ 5
  pub count : length tree.lines ≡ level_start (suc tree.height)
  pub whole : All IsLine tree.lines

-- the shadow tree of a geometry as it is taken, before it is filled
abbrev pub unfilled_tree : Shape → ChipTree
unfilled_tree g =
    record { height = shadow_height g; lines = replicate (level_start (suc (shadow_height g))) zero_line }

-- position x of it is that many levels below the top
pub record IsAtLevelOf (tree : ChipTree) (level x : ℕ) : Type 0 where
  pub within : level ≤ tree.height
  pub from : level_start level ≤ x
  pub below : x < level_start (suc level)

-- on the path of a leaf, x is the highest position at which two lists of a tree's lines differ, up to
-- `top` levels above the leaf
pub record IsTopDifference (top : ℕ) (first second : List Line) (leaf x : ℕ) : Type 0 where
  pub height : ℕ
  pub within : height ≤ top
  pub its_place : x ≡ up height leaf
  pub differ : line_at first x ≢ line_at second x
  pub above :
      (n : ℕ) → height < n → n ≤ top → line_at first (up n leaf) ≡ line_at second (up n leaf)
