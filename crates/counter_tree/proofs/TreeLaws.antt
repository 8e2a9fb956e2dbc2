-- A write raises one counter on each level, and the counter tree stays one.
use Rattle.std.proofs.Common.{ℕ, zero, suc, ◌≡◌, ◌≢◌, ◌<◌, ◌≤◌, ◌+◌, ◌-◌, ◌/◌, ◌^◌, List, [], ◌∷◌, length, false, refl, sym, ap, subst, inl, inr, ◌∙◌, arith, rules}
use Rattle.std.proofs.lemmas.List.Folds.{list_any-append}
use Rattle.std.proofs.lemmas.Grind.{get_or_default_zero}
use Rattle.counter_tree.proofs.Common.{◌==◌, slice_set, list_any, length-set, get_or-set_same, get_or-set_other, cases_eq, or_parts, eqb-false, Shape, meta_lines, level_start, parent, child_slot, path_down_to, counter_position, IsAtLevel, parent-IsAtLevel, level_start-suc, meta_lines-level, Node, IsNode, counter, total, zero_node, tree_lines, node_at, line_position, entry_for, IsCounterTree, raised, with_raised, raised_up, IsRaised}
use Rattle.counter_tree.proofs.Positions.{parent-lt}
use Rattle.counter_tree.specs.Trees.{raised_nodes}

-- ---- one counter raised

pub raised-same : (node : Node) (i : ℕ) → i < 4 → length node.0 ≡ 4 → counter (raised node i) i ≡ counter node i + 1
raised-same node i small four = get_or-set_same node.0 i (counter node i + 1) 0 (omega (arith, small, four))

-- ---- one node set

pub node_at-set_same : (nodes : List Node) (x : ℕ) (node : Node) → x < length nodes → node_at (slice_set nodes x node) x ≡ node
node_at-set_same nodes x node inside = get_or-set_same nodes x node zero_node inside

pub node_at-set_other : (nodes : List Node) (x y : ℕ) (node : Node) → y ≢ x → node_at (slice_set nodes x node) y ≡ node_at nodes y
node_at-set_other nodes x y node apart = get_or-set_other nodes x y node zero_node apart

-- the counter for another position is as it was
pub entry_for-with_raised_other : (nodes : List Node) (x y : ℕ) → 1 ≤ x → 1 ≤ y → x ≢ y → parent y < length nodes → entry_for (with_raised nodes y) x ≡ entry_for nodes x
entry_for-with_raised_other nodes x y a b apart inside = search rules

-- the counter for this one is one greater
pub entry_for-with_raised_same : (nodes : List Node) (y : ℕ) → parent y < length nodes → length (node_at nodes (parent y)).0 ≡ 4 → entry_for (with_raised nodes y) y ≡ entry_for nodes y + 1
entry_for-with_raised_same nodes y inside four = search rules

-- ---- a tree in which one node is a step ahead of its parent

pub record IsTreeBut (g : Shape) (y : ℕ) (nodes : List Node) : Type 0 where
  pub whole : length nodes ≡ meta_lines g
  pub four : (x : ℕ) → x < meta_lines g → length (node_at nodes x).0 ≡ 4
  pub versions : (x : ℕ) → 1 ≤ x → x < meta_lines g → x ≢ y → total (node_at nodes x) ≡ entry_for nodes x
  pub ahead : 1 ≤ y → y < meta_lines g → total (node_at nodes y) ≡ entry_for nodes y + 1

-- once its parent's counter is raised, the parent is the one ahead
with_raised-IsTreeBut : (g : Shape) (y : ℕ) (nodes : List Node) → 1 ≤ y → parent y < meta_lines g → IsTreeBut g y nodes → IsTreeBut g (parent y) (with_raised nodes y)
with_raised-IsTreeBut g y nodes below inside tree = search rules

-- up to the top
raised_up-IsTreeBut : (g : Shape) (j y : ℕ) (nodes : List Node) → IsAtLevel j y → level_start j ≤ meta_lines g → IsTreeBut g y nodes → IsTreeBut g 0 (raised_up j y nodes)
raised_up-IsTreeBut g zero y nodes at room tree = search rules
raised_up-IsTreeBut g (suc j) y nodes at room tree =
    let next = level_start-suc j in
    let above = parent-IsAtLevel j y at in
    raised_up-IsTreeBut g j (parent y) (with_raised nodes y) above (omega (arith, room, next))
    (with_raised-IsTreeBut g y nodes (omega (arith, at.from, next)) (omega (arith, above.below, room)) tree)

-- nodes as deep as y stay
pub raised_up-deep : (j y x : ℕ) (nodes : List Node) → IsAtLevel j y → level_start j ≤ x → node_at (raised_up j y nodes) x ≡ node_at nodes x
raised_up-deep zero y x nodes at deep = refl
raised_up-deep (suc j) y x nodes at deep =
    let next = level_start-suc j in
    let above = parent-IsAtLevel j y at in
    raised_up-deep j (parent y) x (with_raised nodes y) above (omega (arith, deep, next))
    ∙ node_at-set_other nodes (parent y) x (raised (node_at nodes (parent y)) (child_slot y)) (omega (arith, above.below, deep))

-- nodes off the path stay
raised_up-off : (j y x : ℕ) (nodes : List Node) → list_any (λ z. z == x) (path_down_to j (parent y)) ≡ false → node_at (raised_up (suc j) y nodes) x ≡ node_at nodes x
raised_up-off zero y x nodes off = search rules
raised_up-off (suc j) y x nodes off =
    let parts = or_parts (list_any (λ z. z == x) (path_down_to j (parent (parent y)))) (list_any (λ z. z == x) (parent y ∷ [])) (sym (list_any-append (λ z. z == x) (path_down_to j (parent (parent y))) (parent y ∷ [])) ∙ off) in
    raised_up-off j (parent y) x (with_raised nodes y) parts.0
    ∙ node_at-set_other nodes (parent y) x (raised (node_at nodes (parent y)) (child_slot y))
    (λ same. eqb-false (parent y) x (or_parts (parent y == x) false parts.1).0 (sym same))

-- the top's version is one greater
raised_up-top : (g : Shape) (j y : ℕ) (nodes : List Node) → IsAtLevel (suc j) y → level_start (suc j) ≤ meta_lines g → length nodes ≡ meta_lines g → length (node_at nodes 0).0 ≡ 4 → total (node_at (raised_up (suc j) y nodes) 0) ≡ total (node_at nodes 0) + 1
raised_up-top g zero y nodes at room whole four = search rules
raised_up-top g (suc j) y nodes at room whole four =
    let next = level_start-suc (suc j) in
    let deeper = level_start-suc j in
    let above = parent-IsAtLevel (suc j) y at in
    let new = raised (node_at nodes (parent y)) (child_slot y) in
    let apart : 0 ≢ parent y = omega (arith, above.from, deeper) in
    let same : node_at (with_raised nodes y) 0 ≡ node_at nodes 0 = node_at-set_other nodes (parent y) 0 new apart in
    raised_up-top g j (parent y) (with_raised nodes y) above (omega (arith, room, next))
    (length-set nodes (parent y) new ∙ whole) (ap (λ n. length n.0) same ∙ four)
    ∙ ap (λ n. total n + 1) same

-- ---- data lines as children

pub lines-are_children : (g : Shape) → 1 ≤ g.levels → level_start (suc (suc g.levels)) ≡ meta_lines g + tree_lines g
lines-are_children g some = search rules

pub line_position-IsAtLevel : (g : Shape) (a : ℕ) → 1 ≤ g.levels → a < tree_lines g → IsAtLevel (suc g.levels) (line_position g a)
line_position-IsAtLevel g a some inside = search rules

-- the node of data line a
pub line_position-parent : (g : Shape) (a : ℕ) → parent (line_position g a) ≡ counter_position g (a / 4)
line_position-parent g a = omega (arith, meta_lines-level g, level_start-suc g.levels)

-- ---- the law

IsCounterTree-but : (g : Shape) (y : ℕ) (nodes : List Node) → meta_lines g ≤ y → IsCounterTree g nodes → IsTreeBut g y nodes
IsCounterTree-but g y nodes past tree = search rules

-- a write of a data line, while the top's version can rise
pub raised_nodes-IsRaised : (g : Shape) (a : ℕ) (nodes : List Node) → 1 ≤ g.levels → a < tree_lines g → total (node_at nodes 0) < 2 ^ 64 - 1 → IsCounterTree g nodes → IsRaised g a nodes (raised_nodes g a nodes)
unfolding raised_nodes
raised_nodes-IsRaised g a nodes some inside can_rise tree =
    let y = line_position g a in
    let at = line_position-IsAtLevel g a some inside in
    let size = meta_lines-level g in
    let room : level_start (suc g.levels) ≤ meta_lines g = omega (arith, size) in
    let next = level_start-suc g.levels in
    let new = raised_up (suc g.levels) (line_position g a) nodes in
    let up = parent-IsAtLevel g.levels (line_position g a) at in
    let positive : 0 < meta_lines g = omega (arith, size, next) in
    let low : (b : ℕ) → 1 ≤ line_position g b = λ b. omega (arith, positive) in
    let in_list : parent (line_position g a) < length nodes = omega (arith, up.below, size, tree.whole) in
    let but = raised_up-IsTreeBut g (suc g.levels) (line_position g a) nodes at room (IsCounterTree-but g (line_position g a) nodes (omega arith) tree) in
    let top : total (node_at (raised_up (suc g.levels) (line_position g a) nodes) 0) ≡ total (node_at nodes 0) + 1 = search (rules, raised_up-top) in
    let last : (b : ℕ) → b < tree_lines g → entry_for (raised_up (suc g.levels) (line_position g a) nodes) (line_position g b) ≡ entry_for (with_raised nodes (line_position g a)) (line_position g b) = search (rules, parent-IsAtLevel, line_position-IsAtLevel, raised_up-deep) in
    record {
      tree = search rules;
      own = last a inside ∙ entry_for-with_raised_same nodes (line_position g a) in_list (tree.four (parent (line_position g a)) (omega (arith, up.below, size)));
      others = search (rules, entry_for-with_raised_other);
      off_path = search (raised_up-off, line_position-parent);
      top = top;
    }

-- ---- versions are at most the top's

-- a counter is at most its node's version
pub counter-le_total : (node : Node) (i : ℕ) → i < 4 → counter node i ≤ total node
counter-le_total node zero small = omega arith
counter-le_total node (suc zero) small = omega arith
counter-le_total node (suc (suc zero)) small = omega arith
counter-le_total node (suc (suc (suc zero))) small = omega arith
counter-le_total node (suc (suc (suc (suc i)))) small = absurd (omega (arith, small))

pub versions_down : (g : Shape) (nodes : List Node) (most x : ℕ) → IsCounterTree g nodes → x ≤ most → x < meta_lines g → total (node_at nodes x) ≤ total (node_at nodes 0)
versions_down g nodes zero x tree few inside = search rules
versions_down g nodes (suc most) x tree few inside =
    elim (cases_eq x 0) [
      | inl top ↦ subst (λ z. total (node_at nodes z) ≤ total (node_at nodes 0)) (sym top) (omega arith)
      | inr apart ↦
          let low : 1 ≤ x = omega (arith, apart) in
          let less = parent-lt x low in
          let above = versions_down g nodes most (parent x) tree (omega (arith, less, few)) (omega (arith, less, inside)) in
          let its = tree.versions x low inside in
          let small = counter-le_total (node_at nodes (parent x)) (child_slot x) (omega arith) in
          omega (arith, above, its, small)
    ]

-- each node of a tree has four counters of 64 bits, and so has its version
pub tree-version : (g : Shape) (nodes : List Node) (x : ℕ) → IsCounterTree g nodes → x < meta_lines g → total (node_at nodes x) < 2 ^ 64
tree-version g nodes x tree inside =
    omega (arith, versions_down g nodes x x tree (omega arith) inside, tree.top)

pub tree-IsNode : (g : Shape) (nodes : List Node) (x : ℕ) → IsCounterTree g nodes → x < meta_lines g → IsNode (node_at nodes x)
tree-IsNode g nodes x tree inside = search (rules, tree-version, get_or_default_zero)
