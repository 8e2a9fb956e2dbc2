-- What is true of every engine, after a change of its cache.
use Rattle.std.proofs.Common.{ℕ, ◌≡◌, ◌<◌, ◌≤◌, ◌+◌, List, length, Some, None, sym, ap, subst, inl, inr, ◌∙◌, rules}
use Rattle.asit_shadow.proofs.Common.{Option, IfSome, slice_set, cases_eq, get_or-set_same, get_or-set_other, get_or_past, same_Some, none-some, Shape, CachedNode, cache_at, IsHeldNode}

pub held-set : (g : Shape) (cache : List (Option CachedNode)) (i : ℕ) (held : CachedNode) → i < length cache → IsHeldNode g held → ((j : ℕ) (one : CachedNode) → cache_at cache j ≡ Some one → IsHeldNode g one)
    → (j : ℕ) (one : CachedNode) → cache_at (slice_set cache i (Some held)) j ≡ Some one → IsHeldNode g one
held-set g cache i held room good each j one here =
    elim (cases_eq j i) [
      | inl same ↦
          subst (IsHeldNode g)
          (same_Some held one
          (sym (get_or-set_same cache i (Some held) None room) ∙ (ap (cache_at (slice_set cache i (Some held))) (sym same) ∙ here)))
          good
      | inr other ↦ each j one (sym (get_or-set_other cache i j (Some held) None other) ∙ here)
    ]

-- a fact of each slot so far, one slot more
pub set-below : (Q : ℕ → Option CachedNode → Type 0) (cache : List (Option CachedNode)) (i : ℕ) (it : Option CachedNode) → i < length cache → Q i it → ((j : ℕ) → j < i → Q j (cache_at cache j))
    → (j : ℕ) → j < i + 1 → Q j (cache_at (slice_set cache i it) j)
set-below Q cache i it room here before j less = search (rules, cases_eq, get_or-set_same, get_or-set_other)

-- what is said of a slot's holder, of the slot
pub of-some : (P : CachedNode → Type 0) (it : Option CachedNode) → IfSome it P → (one : CachedNode) → it ≡ Some one → P one
of-some P None good one is = absurd cc
of-some P (Some held) good one is = subst P (same_Some held one is) good

-- past the slots nobody is held
pub held-past : (cache : List (Option CachedNode)) (i : ℕ) (held : CachedNode) → length cache ≤ i → cache_at cache i ≡ Some held → ⊥
held-past cache i held past here = none-some held (sym (get_or_past cache i None past) ∙ here)
