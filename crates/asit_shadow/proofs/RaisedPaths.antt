-- A path's nodes as they are raised, from the top down.
use Rattle.std.proofs.Common.{ℕ, suc, ◌≡◌, ◌<◌, ◌≤◌, ◌+◌, ◌/◌, ◌-◌, ◌^◌, ◌++◌, ◌∷◌, List, [], take, true, sym, ap, subst, inl, inr, ◌∙◌, arith, rules}
use Rattle.asit_shadow.proofs.Common.{Option, ◌==◌, cases_eq, cond-true, cond-false, eq-eqb, ne_eqb, get_or_append_left, length-append, map-append, take_all, take_more, All-nil, All-push, get_or-append_seam, same_Some, Shape, IsShape, child_slot, meta_lines-level, level_start-suc, length-path_of, Node, tree_lines, total, zero_node, raised, line_position, CachedNode, IsCached, IsCachedAs, IsHeldNode, line_path, path_node, IsPathRaised, IsRaisedTo, pair_at, position_below}
use Rattle.asit_shadow.proofs.PathSteps.{next-low}

-- no level yet
pub raised-none : (g : Shape) (cache : List (Option CachedNode)) (a : ℕ) → IsRaisedTo g cache a 0 []
raised-none g cache a = search (rules, All-nil)

-- what a slot holds is one node
same-cached : (g : Shape) (cache : List (Option CachedNode)) (x : ℕ) (first second : Node) → IsCachedAs g cache x first → IsCachedAs g cache x second → first ≡ second
same-cached g cache x first second one two = search (rules, same_Some)

-- a node that was read from its slot, and raised
pub node-raised : (g : Shape) (cache : List (Option CachedNode)) (x slot : ℕ) (read made old : Node) → (IsCached g cache x → IsCachedAs g cache x read) → (total read < 2 ^ 64 - 1 → made ≡ raised read slot) → IsCachedAs g cache x old → total old < 2 ^ 64 - 1 → made ≡ raised old slot
node-raised g cache x slot read made old reads raises cached small = search (rules, same-cached)

-- one level more
pub raised-more : (g : Shape) (cache : List (Option CachedNode)) (a n : ℕ) (pairs : List (ℕ × Node)) (x : ℕ) (node : Node) → n ≤ g.levels → x ≡ path_node g a n → IsHeldNode g (record { x = x; node = node; dirty = true })
    → ((old : Node) → IsCachedAs g cache x old → total old < 2 ^ 64 - 1 → node ≡ raised old (child_slot (position_below g a n))) → IsRaisedTo g cache a n pairs → IsRaisedTo g cache a (n + 1) (pairs ++ (x, node) ∷ [])
raised-more g cache a n pairs x node within place held made before =
    let long = length-path_of g (a / 4) in
    record {
      count = length-append pairs ((x, node) ∷ []) ∙ omega (arith, before.count);
      positions =
          map-append (λ (pair : ℕ × Node). pair.0) pairs ((x, node) ∷ [])
          ∙ (ap (λ (xs : List ℕ). xs ++ x ∷ []) before.positions
          ∙ (ap (λ y. take n (line_path g a) ++ y ∷ []) place ∙ sym (take_more (line_path g a) n 0 (omega (arith, long, within)))));
      whole = All-push (λ (pair : ℕ × Node). IsHeldNode g (record { x = pair.0; node = pair.1; dirty = true })) pairs (x, node) before.whole held;
      each_raised =
          λ level old low cached small.
          elim (cases_eq level n) [
            | inl same ↦
                subst (λ m. (pair_at (pairs ++ (x, node) ∷ []) m).1 ≡ raised old (child_slot (position_below g a m))) (sym same)
                (ap (λ m. (pair_at (pairs ++ (x, node) ∷ []) m).1) (sym before.count)
                ∙ (ap (λ (p : ℕ × Node). p.1) (get_or-append_seam pairs (x, node) [] (0, zero_node))
                ∙ made old (subst (λ p. IsCachedAs g cache p old) (ap (path_node g a) same ∙ sym place) cached) small))
            | inr other ↦
                ap (λ (p : ℕ × Node). p.1) (get_or_append_left pairs ((x, node) ∷ []) (0, zero_node) level (omega (arith, low, other, before.count)))
                ∙ before.each_raised level old (omega (arith, low, other)) cached small
          ];
    }

-- all levels
pub raised-all : (g : Shape) (cache : List (Option CachedNode)) (a n : ℕ) (pairs : List (ℕ × Node)) → n ≡ g.levels + 1 → IsRaisedTo g cache a n pairs → IsPathRaised g cache a pairs
raised-all g cache a n pairs all it = search (rules, take_all, length-path_of)

-- the position below a level isn't the top
pub below-low : (g : Shape) (a n : ℕ) → IsShape g → a < tree_lines g → n ≤ g.levels → 1 ≤ position_below g a n
below-low g a n shape inside within =
    elim (cases_eq n g.levels) [
      | inl last ↦
          subst (λ p. 1 ≤ p) (sym (cond-true (n == g.levels) (line_position g a) (path_node g a (n + 1)) (eq-eqb n g.levels last))) (line_low g a shape)
      | inr other ↦
          let next : n + 1 ≡ suc n = omega arith in
          let low = next-low g a n (path_node g a (n + 1)) shape inside (omega (arith, within, other)) (ap (path_node g a) next) in
          subst (λ p. 1 ≤ p) (sym (cond-false (n == g.levels) (line_position g a) (path_node g a (n + 1)) (ne_eqb n g.levels other))) (omega (arith, low))
    ]
  where
    line_low : (g : Shape) (a : ℕ) → IsShape g → 1 ≤ line_position g a
    line_low g a shape = omega (arith, meta_lines-level g, level_start-suc g.levels)
