-- All writes made are the version of the top.
use Rattle.std.proofs.Common.{ℕ, zero, suc, ◌≡◌, ◌<◌, ◌≤◌, ◌+◌, ◌-◌, ◌*◌, ◌^◌, List, length, take, drop, get_or, refl, sym, ap, ◌∙◌, arith, rules}
use Rattle.std.proofs.lemmas.List.Sums.{sum_by-append}
use Rattle.asit_shadow.proofs.Common.{sum, drop-drop, drop-cons, take-add, take-length, pow-suc, Shape, IsShape, level_start, child_position, IsAtLevel, child-IsAtLevel, level_start-suc, meta_lines-level, total, tree_lines, lines-are_children, PlainTree, writes_below, node_above_lines, true_version, writes_made}
use Rattle.bonsai_tree.specs.Positions.{level_of}
use Rattle.asit_shadow.specs.Plain.{true_node}

-- the sum of n numbers from o on
part : ℕ → ℕ → List ℕ → ℕ
part n o list = sum (take n (drop o list))

part-more : (n m o : ℕ) (list : List ℕ) → part (n + m) o list ≡ part n o list + part m (o + n) list
unfolding part
part-more n m o list = search (rules, take-add, sum_by-append, drop-drop)

part-one : (o : ℕ) (list : List ℕ) → o < length list → part 1 o list ≡ get_or list o 0
unfolding part
part-one o list inside = search (rules, drop-cons)

part-all : (n : ℕ) (list : List ℕ) → length list ≡ n → part n 0 list ≡ sum list
unfolding part
part-all n list whole = ap (λ k. sum (take k list)) (sym whole) ∙ ap sum (take-length list)

-- four parts in a row
part-four : (p o : ℕ) (list : List ℕ) → part (4 * p) (4 * o) list ≡ part p (4 * o) list + part p (4 * o + p) list + part p (4 * o + 2 * p) list + part p (4 * o + 3 * p) list
part-four p o list =
    let four : 4 * p ≡ p + (p + (p + p)) = omega arith in
    let a = part-more p (p + (p + p)) (4 * o) list in
    let b = part-more p (p + p) (4 * o + p) list in
    let c = part-more p p (4 * o + p + p) list in
    let two : 4 * o + p + p ≡ 4 * o + 2 * p = omega arith in
    let three : 4 * o + p + p + p ≡ 4 * o + 3 * p = omega arith in
    let d = ap (λ n. part p n list) two in
    let e = ap (λ n. part p n list) three in
    ap (λ n. part n (4 * o) list) four ∙ omega (arith, a, b, c, d, e)

-- the writes below a position are those of its lines, which stand in a row
below-part : (g : Shape) (counts : List ℕ) (j d y : ℕ) → 1 ≤ g.levels → length counts ≡ tree_lines g → d + j ≡ suc g.levels → IsAtLevel d y → writes_below g counts j y ≡ part (4 ^ j) ((y - level_start d) * 4 ^ j) counts
below-part g counts zero d y some whole sum at = search (rules, IsAtLevel, meta_lines-level, part, part-one, lines-are_children)
below-part g counts (suc j) d y some whole sum at =
    let P = 4 ^ j in
    let q = y - level_start d in
    let next = level_start-suc d in
    let child = λ (i : ℕ) (small : i < 4). below-part g counts j (suc d) (child_position y i) some whole (omega (arith, sum)) (child-IsAtLevel d y i at small) in
    let place : (i : ℕ) → (child_position y i - level_start (suc d)) ≡ 4 * (y - level_start d) + i = λ i. omega (arith, next, at.from) in
    let moved = λ (i : ℕ) (small : i < 4) (o : ℕ) (same : (4 * (y - level_start d) + i) * 4 ^ j ≡ o). child i small ∙ ap (λ n. part (4 ^ j) n counts) (ap (λ n. n * 4 ^ j) (place i) ∙ same) in
    let a = moved 0 (omega arith) (4 * ((y - level_start d) * 4 ^ j)) (omega arith) in
    let b = moved 1 (omega arith) (4 * ((y - level_start d) * 4 ^ j) + 4 ^ j) (omega arith) in
    let c = moved 2 (omega arith) (4 * ((y - level_start d) * 4 ^ j) + 2 * 4 ^ j) (omega arith) in
    let e = moved 3 (omega arith) (4 * ((y - level_start d) * 4 ^ j) + 3 * 4 ^ j) (omega arith) in
    let power : 4 ^ suc j ≡ 4 * 4 ^ j = omega (arith, pow-suc 4 j) in
    let wide : (y - level_start d) * 4 ^ suc j ≡ 4 * ((y - level_start d) * 4 ^ j) = ap (λ n. (y - level_start d) * n) power ∙ omega arith in
    let all = part-four (4 ^ j) ((y - level_start d) * 4 ^ j) counts in
    let goal = ap (λ n. part n ((y - level_start d) * 4 ^ suc j) counts) power ∙ ap (λ n. part (4 * 4 ^ j) n counts) wide in
    omega (arith, a, b, c, e, all, goal)

-- the law
pub true_version-top : (g : Shape) (plain : PlainTree) → IsShape g → length plain.counts ≡ tree_lines g → true_version g plain 0 ≡ writes_made plain
unfolding true_node
true_version-top g plain shape whole =
    let top : level_of 0 ≡ 0 = refl in
    let j : g.levels - level_of 0 ≡ g.levels = omega (arith, top) in
    let below = below-part g plain.counts (suc g.levels) 0 0 shape.at_least_one_level whole (omega arith) (record { from = omega arith; below = omega arith }) in
    let zero_place : (0 - level_start 0) * 4 ^ suc g.levels ≡ 0 = omega arith in
    let size : length plain.counts ≡ 4 ^ suc g.levels = whole ∙ ap (λ n. 4 ^ n) (omega arith) in
    ap (λ n. total (node_above_lines g plain.counts n 0)) j
    ∙ (below ∙ (ap (λ o. part (4 ^ suc g.levels) o plain.counts) zero_place ∙ part-all (4 ^ suc g.levels) plain.counts size))
