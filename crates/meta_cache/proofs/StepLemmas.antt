-- A call changes one set through the bank that it stands in.
use Rattle.std.proofs.Common.{rules}
use Rattle.std.proofs.Common.{◌≡◌, ℕ, ◌<◌, ◌≤◌, true, false, List, [], get_or, set, sym, subst}
use Rattle.std.proofs.lemmas.List.{get_or_default}
use Rattle.pmem_base.specs.Shape.{Shape}
use Rattle.meta_cache.specs.Banks.{Slot, Banks, set_of, set_index, is_cached}
use Rattle.meta_cache.specs.Sets.{holds, IsSetOf, KeepsWays}
use Rattle.meta_cache.specs.State.{CacheState, slots_of, IsCacheOf, ChangesSet}
use Rattle.meta_cache.proofs.CacheLemmas.{set_of-get_or, with_set, IsInside, ChangesSet-with_set, IsCacheOf-with_set}

-- what the code does: the bank is read at `from`, one of its sets is changed, and it is written back
pub record IsStep (change : List Slot → List Slot) (g : Shape) (banks : Banks) (now : CacheState) (bank x n from : ℕ)
    (here new : List (List Slot)) : Type 0 where
  pub view : let state : CacheState = record { shape = g; banks = banks } in state ≡ now
  pub form : IsCacheOf g banks
  pub low : bank ≤ now.shape.levels
  pub index : n ≡ set_index now.shape x
  pub within : n < now.shape.sets
  pub place : from ≡ bank
  pub read : here ≡ get_or banks from here
  pub written : new ≡ set here n (change (get_or here n []))

-- the arguments of a step, for each lemma below
pub inside : (change : List Slot → List Slot) (g : Shape) (banks : Banks) (now : CacheState) (bank x n from : ℕ)
    (here new : List (List Slot)) → IsStep change g banks now bank x n from here new → IsInside g banks bank n
inside change g banks now bank x n from here new step = search rules

-- the set that is changed is that of the position
pub its_slots : (change : List Slot → List Slot) (g : Shape) (banks : Banks) (now : CacheState) (bank x n from : ℕ)
    (here new : List (List Slot)) → IsStep change g banks now bank x n from here new
    → set_of banks bank n ≡ slots_of now bank x
its_slots change g banks now bank x n from here new step = search rules

new_banks : (change : List Slot → List Slot) (g : Shape) (banks : Banks) (now : CacheState) (bank x n from : ℕ)
    (here new : List (List Slot)) → IsStep change g banks now bank x n from here new
    → set banks from new ≡ with_set banks bank n (change (set_of banks bank n))
new_banks change g banks now bank x n from here new step = search (rules, inside, get_or_default, get_or, set_of-get_or)

-- the cache keeps its form where the set does
pub keeps_form : (change : List Slot → List Slot) (g : Shape) (banks : Banks) (now : CacheState) (bank x n from : ℕ)
    (here new : List (List Slot)) → IsStep change g banks now bank x n from here new
    → IsSetOf g n (change (set_of banks bank n)) → IsCacheOf g (set banks from new)
keeps_form change g banks now bank x n from here new step form =
    subst (IsCacheOf g) (sym (new_banks change g banks now bank x n from here new step))
    (IsCacheOf-with_set g banks bank n (change (set_of banks bank n))
    (inside change g banks now bank x n from here new step) form)

-- the set of the position is changed, and no other one
pub changes_set : (change : List Slot → List Slot) (g : Shape) (banks : Banks) (now : CacheState) (bank x n from : ℕ)
    (here new : List (List Slot)) → IsStep change g banks now bank x n from here new
    → KeepsWays (slots_of now bank x) (change (slots_of now bank x))
    → ChangesSet now (record { shape = g; banks = set banks from new }) bank (set_index now.shape x)
    (change (slots_of now bank x))
changes_set change g banks now bank x n from here new step ways =
    subst (λ m. ChangesSet now (record { shape = g; banks = set banks from new }) bank m (change (set_of now.banks bank m)))
    step.index
    (subst
    (λ (state : CacheState).
    ChangesSet state (record { shape = g; banks = set banks from new }) bank n (change (set_of state.banks bank n)))
    step.view
    (subst
    (λ changed.
    ChangesSet (record { shape = g; banks = banks }) (record { shape = g; banks = changed }) bank n
    (change (set_of banks bank n)))
    (sym (new_banks change g banks now bank x n from here new step))
    (ChangesSet-with_set g banks bank n (change (set_of banks bank n))
    (inside change g banks now bank x n from here new step)
    (subst (λ slots. KeepsWays slots (change slots)) (sym (its_slots change g banks now bank x n from here new step)) ways))))

-- a position that is cached is in its set
pub is_there : (change : List Slot → List Slot) (g : Shape) (banks : Banks) (now : CacheState) (bank x n from : ℕ)
    (here new : List (List Slot)) → IsStep change g banks now bank x n from here new
    → is_cached now.shape now.banks bank x ≡ true → holds (set_of banks bank n) x ≡ true
is_there change g banks now bank x n from here new step cached = search rules

pub is_absent : (change : List Slot → List Slot) (g : Shape) (banks : Banks) (now : CacheState) (bank x n from : ℕ)
    (here new : List (List Slot)) → IsStep change g banks now bank x n from here new
    → is_cached now.shape now.banks bank x ≡ false → holds (set_of banks bank n) x ≡ false
is_absent change g banks now bank x n from here new step cached = search rules
