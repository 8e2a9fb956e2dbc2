-- Values set at the places of a list of pairs; and a path's nodes as such a list.
use Rattle.std.proofs.Common.{ℕ, zero, suc, ◌≡◌, ◌≢◌, ◌<◌, ◌≤◌, ◌+◌, ◌/◌, List, [], ◌∷◌, ◌++◌, length, map, get_or, true, Some, refl, sym, ap, subst, inl, inr, ◌∙◌, arith, rules}
use Rattle.std.proofs.lemmas.Simd.{map-map}
use Rattle.asit_shadow.proofs.Common.{Option, slice_set, cases_Bool, false≢true, ext_get_or, length-set, length-map, get_or-set_same, get_or-set_other, get_or-map, Line, put_lines, Shape, IsShape, meta_lines, child_slot, length-path_of, on_path-level, path_of-level, path_of-on_path, Node, LineSeal, tree_lines, zero_node, IsRaised, is_on_line_path, node_at, raised, slot_of, CachedNode, line_path, path_entries, set_each, dirty_node, path_node, set_pairs, pair_at, position_below, slot_entries, dirty_entries, armed_lines}
use Rattle.bonsai_tree.specs.Positions.{level_of}
use Rattle.counter_tree.specs.Trees.{raised_nodes}
use Rattle.asit_shadow.specs.Paths.{slots_with, cache_with, write_group}
use Rattle.asit_shadow.proofs.SlotPlaces.{page_of_line, on_path-inside}
use Rattle.asit_shadow.proofs.RaisedNodes.{raised_nodes-on_path}

-- ---- values set in order

pub length-set_pairs : {X : Type 0} (pairs : List (ℕ × X)) (list : List X) → length (set_pairs pairs list) ≡ length list
length-set_pairs [] list = refl
length-set_pairs (pair ∷ rest) list = length-set_pairs rest (slice_set list pair.0 pair.1) ∙ length-set list pair.0 pair.1

pub set_pairs-append : {X : Type 0} (pairs more : List (ℕ × X)) (list : List X) → set_pairs (pairs ++ more) list ≡ set_pairs more (set_pairs pairs list)
set_pairs-append [] more list = refl
set_pairs-append (pair ∷ rest) more list = set_pairs-append rest more (slice_set list pair.0 pair.1)

-- no pair at or after the n-th has this place
pub set_pairs-other : {X : Type 0} (pairs : List (ℕ × X)) (list : List X) (p : ℕ) (d : X) (e : ℕ × X) → ((i : ℕ) → i < length pairs → (get_or pairs i e).0 ≢ p) → get_or (set_pairs pairs list) p d ≡ get_or list p d
set_pairs-other [] list p d e apart = refl
set_pairs-other (pair ∷ rest) list p d e apart =
    set_pairs-other rest (slice_set list pair.0 pair.1) p d e (λ i within. apart (suc i) (omega (arith, within)))
    ∙ get_or-set_other list pair.0 p pair.1 d (λ same. apart 0 (omega arith) (sym same))

-- the place of the n-th pair, which no later one has, holds its value
pub set_pairs-at : {X : Type 0} (pairs : List (ℕ × X)) (list : List X) (n : ℕ) (d : X) (e : ℕ × X) → n < length pairs → (get_or pairs n e).0 < length list → ((i : ℕ) → n < i → i < length pairs → (get_or pairs i e).0 ≢ (get_or pairs n e).0) → get_or (set_pairs pairs list) (get_or pairs n e).0 d ≡ (get_or pairs n e).1
set_pairs-at [] list n d e within room apart = absurd (omega (arith, within))
set_pairs-at (pair ∷ rest) list zero d e within room apart =
    set_pairs-other rest (slice_set list pair.0 pair.1) pair.0 d e (λ i inside. apart (suc i) (omega arith) (omega (arith, inside)))
    ∙ get_or-set_same list pair.0 pair.1 d room
set_pairs-at (pair ∷ rest) list (suc n) d e within room apart =
    set_pairs-at rest (slice_set list pair.0 pair.1) n d e (omega (arith, within))
    (subst (λ m. (get_or rest n e).0 < m) (sym (length-set list pair.0 pair.1)) room)
    (λ i later inside. apart (suc i) (omega (arith, later)) (omega (arith, inside)))

-- ---- a path's nodes

-- the pairs are those of the path with the nodes of a list
pub record IsPairing (g : Shape) (a : ℕ) (pairs : List (ℕ × Node)) (nodes : List Node) : Type 0 where
  pub its : pairs ≡ map (λ x. (x, node_at nodes x)) (line_path g a)

pub pair-position : (g : Shape) (a n : ℕ) (pairs : List (ℕ × Node)) → map (λ pair. pair.0) pairs ≡ line_path g a → n ≤ g.levels → (pair_at pairs n).0 ≡ path_node g a n
pair-position g a n pairs positions within = search (rules, length-map, length-path_of, get_or-map)

-- positions of two levels are two
path-apart : (g : Shape) (a i n : ℕ) → IsShape g → a < tree_lines g → i ≤ g.levels → n ≤ g.levels → i ≢ n → path_node g a i ≢ path_node g a n
path-apart g a i n shape inside in_i in_n apart same =
    let page = page_of_line g a inside in
    apart (sym (path_of-level g (a / 4) i shape.at_most_six_levels page in_i) ∙ (ap level_of same ∙ path_of-level g (a / 4) n shape.at_most_six_levels page in_n))

pub pairs-count : (g : Shape) (a : ℕ) (pairs : List (ℕ × Node)) → map (λ pair. pair.0) pairs ≡ line_path g a → length pairs ≡ g.levels + 1
pairs-count g a pairs positions = search (rules, length-map, length-path_of)

-- each pair's node stands in the list that they are set in
pub pair-node : (g : Shape) (a n : ℕ) (pairs : List (ℕ × Node)) (nodes : List Node) → IsShape g → a < tree_lines g → map (λ pair. pair.0) pairs ≡ line_path g a → length nodes ≡ meta_lines g → n ≤ g.levels → node_at (set_pairs pairs nodes) (path_node g a n) ≡ (pair_at pairs n).1
pair-node g a n pairs nodes shape inside positions size within =
    let count = pairs-count g a pairs positions in
    let here = pair-position g a n pairs positions within in
    let on = on_path-inside g a (path_node g a n) inside (path_of-on_path g (a / 4) n within) in
    ap (node_at (set_pairs pairs nodes)) (sym here)
    ∙ set_pairs-at pairs nodes n zero_node (0, zero_node) (omega (arith, count, within))
    (subst (λ p. p < length nodes) (sym here) (omega (arith, on, size)))
    (λ i later in_i same.
    path-apart g a i n shape inside (omega (arith, in_i, count)) within (λ e. omega (arith, later, e))
    (sym (pair-position g a i pairs positions (omega (arith, in_i, count))) ∙ (same ∙ here)))

pub pairs-are : (g : Shape) (a : ℕ) (pairs : List (ℕ × Node)) (nodes : List Node) → IsShape g → a < tree_lines g → map (λ pair. pair.0) pairs ≡ line_path g a → length nodes ≡ meta_lines g → IsPairing g a pairs (set_pairs pairs nodes)
pairs-are g a pairs nodes shape inside positions size =
    let count = pairs-count g a pairs positions in
    let long = length-path_of g (a / 4) in
    let made : ℕ → ℕ × Node = λ x. (x, node_at (set_pairs pairs nodes) x) in
    record {
      its =
          ext_get_or (0, zero_node) pairs (map (λ x. (x, node_at (set_pairs pairs nodes) x)) (line_path g a))
          (count ∙ (sym long ∙ sym (length-map (line_path g a) (λ (x : ℕ). (x, node_at (set_pairs pairs nodes) x)))))
          (λ i in_i.
          let within : i ≤ g.levels = omega (arith, in_i, count) in
          let position : (get_or pairs i (0, zero_node)).0 ≡ path_node g a i = pair-position g a i pairs positions within in
          let node : (get_or pairs i (0, zero_node)).1 ≡ node_at (set_pairs pairs nodes) (path_node g a i) = sym (pair-node g a i pairs nodes shape inside positions size within) in
          both (get_or pairs i (0, zero_node)) (path_node g a i) (node_at (set_pairs pairs nodes) (path_node g a i)) position node
          ∙ sym (get_or-map (λ (x : ℕ). (x, node_at (set_pairs pairs nodes) x)) (line_path g a) i 0 (0, zero_node) (omega (arith, within, long))));
    }
  where
    both : (pair : ℕ × Node) (x : ℕ) (node : Node) → pair.0 ≡ x → pair.1 ≡ node → pair ≡ (x, node)
    both pair x node p n = ap (λ y. (y, pair.1)) p ∙ ap (λ m. (x, m)) n

-- ---- what is made of the pairs is made of the path

entries-are : (g : Shape) (place : ℕ → ℕ) (a : ℕ) (pairs : List (ℕ × Node)) (nodes : List Node) → IsPairing g a pairs nodes → slot_entries g place pairs ≡ path_entries g place a nodes
entries-are g place a pairs nodes it = search (rules, map-map)

pub lines-are : (g : Shape) (a : ℕ) (seal : LineSeal) (pairs : List (ℕ × Node)) (nodes : List Node) → IsPairing g a pairs nodes → armed_lines g a seal pairs ≡ write_group g a seal nodes
unfolding write_group
lines-are g a seal pairs nodes it = search (rules, entries-are)

pub slots-are : (g : Shape) (a : ℕ) (pairs : List (ℕ × Node)) (nodes : List Node) (slots : List Line) → IsPairing g a pairs nodes → put_lines (slot_entries g (λ i. i) pairs) slots ≡ slots_with g a nodes slots
unfolding slots_with
slots-are g a pairs nodes slots it = ap (λ entries. put_lines entries slots) (entries-are g (λ i. i) a pairs nodes it)

each-pairs : {X : Type 0} (place : ℕ → ℕ) (value : ℕ → X) (xs : List ℕ) (list : List X) → set_pairs (map (λ x. (place x, value x)) xs) list ≡ set_each place value xs list
each-pairs place value [] list = refl
each-pairs place value (x ∷ xs) list = each-pairs place value xs (slice_set list (place x) (value x))

pub cache-is : (g : Shape) (a : ℕ) (pairs : List (ℕ × Node)) (nodes : List Node) (cache : List (Option CachedNode)) → IsPairing g a pairs nodes → set_pairs (dirty_entries g pairs) cache ≡ cache_with g a nodes cache
unfolding cache_with
cache-is g a pairs nodes cache it =
    ap (λ entries. set_pairs entries cache)
    (ap (dirty_entries g) it.its
    ∙ map-map (λ (pair : ℕ × Node). (slot_of g pair.0, Some (record { x = pair.0; node = pair.1; dirty = true }))) (λ x. (x, node_at nodes x)) (line_path g a))
    ∙ each-pairs (slot_of g) (dirty_node nodes) (line_path g a) cache

-- from cached true nodes they are those of the write
pub nodes-are : (g : Shape) (a : ℕ) (pairs : List (ℕ × Node)) (nodes : List Node) → IsShape g → a < tree_lines g → map (λ pair. pair.0) pairs ≡ line_path g a → IsRaised g a nodes (raised_nodes g a nodes) → length nodes ≡ meta_lines g
    → ((n : ℕ) → n ≤ g.levels → (pair_at pairs n).1 ≡ raised (node_at nodes (path_node g a n)) (child_slot (position_below g a n))) → set_pairs pairs nodes ≡ raised_nodes g a nodes
nodes-are g a pairs nodes shape inside positions made size each =
    ext_get_or zero_node (set_pairs pairs nodes) (raised_nodes g a nodes)
    (length-set_pairs pairs nodes ∙ (size ∙ sym made.tree.whole))
    (λ x in_x.
    elim (cases_Bool (is_on_line_path g a x)) [
      | inl on ↦
          let page = page_of_line g a inside in
          let level = on_path-level g (a / 4) x shape.at_most_six_levels page on in
          let same : path_node g a (level_of x) ≡ x = level.1 in
          let last = on_path-inside g a (path_node g a g.levels) inside (path_of-on_path g (a / 4) g.levels (omega arith)) in
          subst (λ y. node_at (set_pairs pairs nodes) y ≡ node_at (raised_nodes g a nodes) y) same
          (pair-node g a (level_of x) pairs nodes shape inside positions size level.0
          ∙ (each (level_of x) level.0
          ∙ sym (raised_nodes-on_path g a (level_of x) nodes shape.at_least_one_level inside level.0 size
          (on_path-inside g a (path_node g a (level_of x)) inside (path_of-on_path g (a / 4) (level_of x) level.0)) last)))
      | inr off ↦
          set_pairs-other pairs nodes x zero_node (0, zero_node)
          (λ i in_i same.
          let within : i ≤ g.levels = omega (arith, in_i, pairs-count g a pairs positions) in
          let on : is_on_line_path g a x ≡ true =
          subst (λ y. is_on_line_path g a y ≡ true) (sym (pair-position g a i pairs positions within) ∙ same) (path_of-on_path g (a / 4) i within) in
          false≢true (sym off ∙ on))
          ∙ sym (made.off_path x off)
    ])
