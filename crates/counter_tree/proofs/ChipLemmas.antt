-- The tree on the chip: how many lines it has, how it is made anew, and how a line is put into it.
use Rattle.std.proofs.Common.{ℕ, suc, ◌≡◌, ◌<◌, ◌≤◌, ◌+◌, ◌-◌, ◌*◌, ◌^◌, List, length, sym, subst, arith, rules}
use Rattle.std.proofs.Common.{replicate}
use Rattle.counter_tree.proofs.Common.{slice_set, length-replicate, All-zero_lines, Line, level_start, line_at, put_lines, put_lines-append, Formulas, parent, child_slot, node_over, node_above, new_path, new_root, with_child_digest, IsAtLevel, parent-IsAtLevel, level_start-suc, level_start-le, ChipTree, IsChipTree, IsAtLevelOf, AreLeaves, IsShadowTree}
use Rattle.pmem_base.specs.Lines.{zero_line}

-- a node's children are lines of the tree
pub children-within : (tree : ChipTree) (x : ℕ) → IsChipTree tree → x < level_start tree.height → 4 * x + 1 + 3 < length tree.lines
children-within tree x it inner = omega (arith, it.count, level_start-suc tree.height, inner)

pub few_inner : (tree : ChipTree) → IsChipTree tree → level_start tree.height ≤ 341
few_inner tree it = level_start-le tree.height 5 it.most

-- a position at a level is that of a line
pub level-within : (tree : ChipTree) (level x : ℕ) → IsChipTree tree → IsAtLevelOf tree level x → x < length tree.lines
level-within tree level x it at =
    omega (arith, it.count, level_start-le (suc level) (suc tree.height) (omega (arith, at.within)), at.below)

pub level-above : (tree : ChipTree) (level j x above : ℕ) → level ≡ suc j → above ≡ parent x → IsAtLevelOf tree level x → IsAtLevelOf tree j above
level-above tree level j x above is up at =
    let here : IsAtLevelOf tree (suc j) x = subst (λ n. IsAtLevelOf tree n x) is at in
    let its : IsAtLevel j (parent x) = parent-IsAtLevel j x (record { from = here.from; below = here.below }) in
    subst (IsAtLevelOf tree j) (sym up) (record { within = omega (arith, here.within); from = its.from; below = its.below })

-- below the top there is a parent
pub level-low : (tree : ChipTree) (level x : ℕ) → 0 < level → IsAtLevelOf tree level x → 1 ≤ x
level-low tree level x low at =
    let first : level_start 1 ≤ level_start level = level_start-le 1 level (omega (arith, low)) in
    omega (arith, at.from, first)

-- the line goes in after the path above it
pub put-more : (f : Formulas) (lines made : List Line) (level j x above : ℕ) (line node : Line)
    → level ≡ suc j → above ≡ parent x → node ≡ node_above f (line_at lines) x line
    → made ≡ put_lines (new_path f (line_at lines) j above node) lines
    → slice_set made x line ≡ put_lines (new_path f (line_at lines) level x line) lines
put-more f lines made level j x above line node is up over rest = search (rules, put_lines-append)

pub root-more : (f : Formulas) (lines : List Line) (level j x above : ℕ) (line node : Line) (root : List ℕ)
    → level ≡ suc j → above ≡ parent x → node ≡ node_above f (line_at lines) x line
    → root ≡ new_root f (line_at lines) j above node
    → root ≡ new_root f (line_at lines) level x line
root-more f lines level j x above line node root is up over rest = search rules

-- the node above, as it is made
pub node-is : (f : Formulas) (lines : List Line) (x slot above : ℕ) (line old node : Line) (digest : List ℕ)
    → above ≡ parent x → slot ≡ child_slot x → old ≡ line_at lines above → digest ≡ f.digest_of x line
    → node ≡ with_child_digest old slot digest → node ≡ node_above f (line_at lines) x line
node-is f lines x slot above line old node digest up its from of is = search rules

-- ---- the tree made anew

-- one node more, above those made so far
pub nodes-more : (f : Formulas) (lines new : List Line) (n x : ℕ) (node : Line)
    → x < length lines → node ≡ node_over f x (line_at lines) → new ≡ slice_set lines x node
    → ((y : ℕ) → suc x ≤ y → y < n → line_at lines y ≡ node_over f y (line_at lines))
    → (y : ℕ) → x ≤ y → y < n → line_at new y ≡ node_over f y (line_at new)
nodes-more f lines new n x node inside its is below y from within = search rules

-- all of it
pub filled : (f : Formulas) (tree : ChipTree) (slots leaves : List Line) (h : ℕ)
    → IsChipTree tree → tree.height ≡ h → AreLeaves h slots leaves
    → ((x : ℕ) → x < level_start h → line_at tree.lines x ≡ node_over f x (line_at tree.lines))
    → ((x : ℕ) → level_start h ≤ x → line_at tree.lines x ≡ line_at leaves x)
    → IsShadowTree f h slots tree.lines
filled f tree slots leaves h it height leaf nodes kept = search rules

-- a slot's leaf stands at the last level
pub leaf-level : (tree : ChipTree) (i first : ℕ) → first ≡ level_start tree.height → i < 4 ^ tree.height → IsAtLevelOf tree tree.height (first + i)
leaf-level tree i first is inside = search rules

-- zero lines are a tree on the chip
pub zero_tree : (height n : ℕ) (lines : List Line) → 1 ≤ height → height ≤ 5 → n ≡ level_start (suc height) → lines ≡ replicate n zero_line → IsChipTree (record { height = height; lines = lines })
zero_tree height n lines least most many zeros = search (rules, length-replicate, All-zero_lines)
