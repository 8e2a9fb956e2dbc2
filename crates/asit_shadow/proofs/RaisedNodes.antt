-- What a write makes of each node of its path.
use Rattle.std.proofs.Common.{ℕ, zero, suc, ◌≡◌, ◌≢◌, ◌<◌, ◌≤◌, ◌+◌, ◌-◌, ◌/◌, List, length, refl, sym, ap, subst, ◌∙◌, arith, rules}
use Rattle.asit_shadow.proofs.Common.{cond-true, cond-false, eq-eqb, ne_eqb, Shape, meta_lines, parent, child_slot, IsAtLevel, parent-IsAtLevel, level_start-suc, level_start-le, path_of-block, path_of-parent, Node, tree_lines, up, node_at, raised, with_raised, raised_up, line_position, parent-lt, up-IsAtLevel, node_at-set_same, node_at-set_other, line_position-parent, line_position-IsAtLevel, raised_up-deep, path_node, position_below}
use Rattle.counter_tree.specs.Trees.{raised_nodes}

-- ---- steps up

up-parent : (m y : ℕ) → up m (parent y) ≡ up (suc m) y
up-parent zero y = refl
up-parent (suc m) y = ap parent (up-parent m y)

-- a node above y, which is j levels below the top
raised_up-at : (j m d y : ℕ) (nodes : List Node) → m + suc d ≡ j → IsAtLevel j y → up (suc m) y < length nodes → parent y < length nodes → node_at (raised_up j y nodes) (up (suc m) y) ≡ raised (node_at nodes (up (suc m) y)) (child_slot (up m y))
raised_up-at zero m d y nodes depth at inside near = absurd (omega (arith, depth))
raised_up-at (suc j) zero d y nodes depth at inside near = search (rules, raised_up-deep, parent-IsAtLevel, node_at-set_same)
raised_up-at (suc j) (suc m) d y nodes depth at inside near =
    let above = parent-IsAtLevel j y at in
    let here = up-IsAtLevel (suc m) d (parent y) (subst (λ n. IsAtLevel n (parent y)) (omega (arith, depth)) above) in
    let deep = level_start-le (suc d) j (omega (arith, depth)) in
    let apart : up (suc m) (parent y) ≢ parent y = λ e. omega (arith, here.below, above.from, deep, e) in
    let near_too : parent (parent y) < length nodes = omega (arith, near, parent-lt (parent y) (low j d (parent y) above (omega (arith, depth)))) in
    let made = raised_up-at j m d (parent y) (with_raised nodes y) (omega (arith, depth)) above
    (subst (λ n. up (suc m) (parent y) < n) (sym (long nodes y)) (subst (λ p. p < length nodes) (sym (up-parent (suc m) y)) inside))
    (subst (λ n. parent (parent y) < n) (sym (long nodes y)) near_too) in
    ap (node_at (raised_up j (parent y) (with_raised nodes y))) (sym (up-parent (suc m) y))
    ∙ (made
    ∙ (ap (λ n. raised n (child_slot (up m (parent y)))) (node_at-set_other nodes (parent y) (up (suc m) (parent y)) (raised (node_at nodes (parent y)) (child_slot y)) apart)
    ∙ (ap (λ p. raised (node_at nodes p) (child_slot (up m (parent y)))) (up-parent (suc m) y)
    ∙ ap (λ p. raised (node_at nodes (up (suc (suc m)) y)) (child_slot p)) (up-parent m y))))
  where
    long : (nodes : List Node) (y : ℕ) → length (with_raised nodes y) ≡ length nodes
    long nodes y = Rattle.std.proofs.lemmas.List.length-set nodes (parent y) (raised (node_at nodes (parent y)) (child_slot y))

    low : (j d x : ℕ) → IsAtLevel j x → suc d ≤ j → 1 ≤ x
    low zero d x at more = absurd (omega (arith, more))
    low (suc j) d x at more = omega (arith, at.from, level_start-suc j)

-- ---- the path of a data line

path_node-up : (g : Shape) (a d n : ℕ) → d + n ≡ g.levels → path_node g a n ≡ up (suc d) (line_position g a)
path_node-up g a zero n depth =
    ap (path_node g a) (omega (arith, depth)) ∙ (path_of-block g (a / 4) ∙ sym (line_position-parent g a))
path_node-up g a (suc d) n depth =
    sym (path_of-parent g (a / 4) n (omega (arith, depth))) ∙ ap parent (path_node-up g a d (suc n) (omega (arith, depth)))

position_below-up : (g : Shape) (a d n : ℕ) → d + n ≡ g.levels → position_below g a n ≡ up d (line_position g a)
position_below-up g a zero n depth = search (rules, cond-true, eq-eqb)
position_below-up g a (suc d) n depth = search (rules, cond-false, ne_eqb, path_node-up)

-- a node of the path has one counter more, for the position below it
pub raised_nodes-on_path : (g : Shape) (a n : ℕ) (nodes : List Node) → 1 ≤ g.levels → a < tree_lines g → n ≤ g.levels → length nodes ≡ meta_lines g → path_node g a n < meta_lines g → path_node g a g.levels < meta_lines g → node_at (raised_nodes g a nodes) (path_node g a n) ≡ raised (node_at nodes (path_node g a n)) (child_slot (position_below g a n))
unfolding raised_nodes
raised_nodes-on_path g a n nodes some inside within size here last =
    let d : ℕ = g.levels - n in
    let depth : (g.levels - n) + n ≡ g.levels = omega (arith, within) in
    let is = path_node-up g a (g.levels - n) n depth in
    let below = position_below-up g a (g.levels - n) n depth in
    let block : parent (line_position g a) ≡ path_node g a g.levels = line_position-parent g a ∙ sym (path_of-block g (a / 4)) in
    ap (node_at (raised_up (suc g.levels) (line_position g a) nodes)) is
    ∙ (raised_up-at (suc g.levels) (g.levels - n) n (line_position g a) nodes (omega (arith, depth)) (line_position-IsAtLevel g a some inside)
    (omega (arith, ap (λ (p : ℕ). p) is, here, size)) (omega (arith, block, last, size))
    ∙ (ap (λ p. raised (node_at nodes p) (child_slot (up (g.levels - n) (line_position g a)))) (sym is)
    ∙ ap (λ p. raised (node_at nodes (path_node g a n)) (child_slot p)) (sym below)))
