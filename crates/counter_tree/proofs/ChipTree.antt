-- The shadow tree that is kept on the chip: its lines are those over the slot lines, also after one of
-- them is replaced along its path.
use Rattle.std.proofs.Common.{ℕ, zero, suc, ◌≡◌, ◌<◌, ◌+◌, ◌-◌, ◌^◌, List, length, ap, ◌∙◌, arith, rules}
use Rattle.counter_tree.proofs.Common.{slice_set, cases_eq, Line, IsLine, line_at, line_at-set_same, line_at-set_other, Formulas, AreInRange, child_position, IsAtLevel, child-IsAtLevel, IsAtLevel-inner, node_over-same, shadow_tree_line, root_of, shape_of_height, IsShadowTree}
use Rattle.bonsai_tree.proofs.Trees.{lines_with-IsTreeWith}
use Rattle.counter_tree.specs.Shadow.{tree_with, tree_root_with}

-- each line is that of the tree over the slot lines
pub chip-line : (f : Formulas) (h : ℕ) (slots tree : List Line) (j d x : ℕ) → IsShadowTree f h slots tree → d + j ≡ h → IsAtLevel d x → line_at tree x ≡ shadow_tree_line f h slots j x
chip-line f h slots tree zero d x it sum at = search rules
chip-line f h slots tree (suc j) d x it sum at =
    it.tree_lines.inner x (IsAtLevel-inner h d x (omega (arith, sum)) at)
    ∙ node_over-same f x (line_at tree) (shadow_tree_line f h slots j)
    (λ i small. chip-line f h slots tree j (suc d) (child_position x i) it (omega (arith, sum)) (child-IsAtLevel d x i at small))

-- the law: its top's digest is the root over the slot lines
pub chip-root : (f : Formulas) (h : ℕ) (slots tree : List Line) → IsShadowTree f h slots tree → f.digest_of 0 (line_at tree 0) ≡ root_of f h slots
chip-root f h slots tree it =
    ap (f.digest_of 0) (chip-line f h slots tree h 0 0 it (omega arith) (record { from = omega arith; below = omega arith }))

-- the law: another slot line goes in along its path
pub chip-with : (f : Formulas) (h : ℕ) (slots tree : List Line) (i : ℕ) (line : Line) → AreInRange f → IsShadowTree f h slots tree → i < 4 ^ h → i < length slots → IsLine line → IsShadowTree f h (slice_set slots i line) (tree_with f h tree i line)
unfolding tree_with
chip-with f h slots tree i line in_range it inside in_list good =
    let new = lines_with-IsTreeWith (shape_of_height h) f tree i line in_range it.tree_lines it.whole inside good in
    search (rules, cases_eq, line_at-set_same, line_at-set_other)

-- and the new root is found along that path
pub chip-root_with : (f : Formulas) (h : ℕ) (slots tree : List Line) (i : ℕ) (line : Line) → AreInRange f → IsShadowTree f h slots tree → i < 4 ^ h → i < length slots → IsLine line → tree_root_with f h tree i line ≡ root_of f h (slice_set slots i line)
unfolding tree_root_with tree_with
chip-root_with f h slots tree i line in_range it inside in_list good =
    let new = lines_with-IsTreeWith (shape_of_height h) f tree i line in_range it.tree_lines it.whole inside good in
    new.top ∙ chip-root f h (slice_set slots i line) (tree_with f h tree i line) (chip-with f h slots tree i line in_range it inside in_list good)
