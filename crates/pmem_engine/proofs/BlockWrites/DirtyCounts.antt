-- How many blocks of a bank are dirty.
use Rattle.std.proofs.Common.{rules, ℕ, zero, suc, ◌≡◌, ◌≤◌, ◌+◌, ◌*◌, Bool, true, false, cond, List, [], ◌∷◌, refl, sym, ap, subst, ◌∙◌, arith, mod-lt}
use Rattle.std.specs.Prelude.{All, Contains}
use Rattle.std.proofs.lemmas.Bool.{true≢false}
use Rattle.std.proofs.lemmas.List.Sums.{count_by-le-length, sum_by-cons}
use Rattle.std.proofs.lemmas.List.Elements.{All-head, All-tail}
use Rattle.pmem_base.specs.Shape.{Shape}
use Rattle.meta_cache.specs.declared.slot.Slot.{Slot}
use Rattle.meta_cache.specs.Banks.{Banks, set_of, set_index, is_cached_dirty}
use Rattle.meta_cache.specs.Sets.{with_mark}
use Rattle.meta_cache.specs.State.{CacheState, ChangesSet}
use Rattle.meta_cache.proofs.SlotLemmas.{All-stands, All-from_stands, is_cached_dirty_from}
use Rattle.meta_path.specs.Blocks.{slots_at, dirty_in, sum_below, bank_dirty_count}
use Rattle.meta_path.proofs.PathFacts.{AreSets}
use Rattle.meta_path.proofs.KeepLemmas.{sum_below-one}
use Rattle.meta_path.proofs.WriteLemmas.{dirty_in-cleaned}

-- one less once a dirty block is clean
pub dirty_in_bank-cleaned : (g : Shape) (old new : CacheState) (bank x : ℕ) → AreSets g old.banks → 1 ≤ g.sets
    → is_cached_dirty g old.banks bank x ≡ true
    → ChangesSet old new bank (set_index g x) (with_mark (slots_at g old.banks bank x) x false)
    → bank_dirty_count g new.banks bank + 1 ≡ bank_dirty_count g old.banks bank
dirty_in_bank-cleaned g old new bank x sets some dirty changes =
    sum_below-one (λ set. dirty_in (set_of new.banks bank set)) (λ set. dirty_in (set_of old.banks bank set)) g.sets
    (set_index g x) 1 (mod-lt x (omega (arith, some)))
    (ap (λ slots. dirty_in slots + 1) changes.here
    ∙ dirty_in-cleaned (slots_at g old.banks bank x) x (sets.each bank (set_index g x)).distinct_positions dirty)
    (λ set h other. ap dirty_in (changes.elsewhere bank set (λ e. other e.1)))

sum_below-few : (f : ℕ → ℕ) → ((k : ℕ) → f k ≤ 8) → (n : ℕ) → sum_below f n ≤ n * 8
sum_below-few f few zero = omega arith
sum_below-few f few (suc n) = omega (arith, sum_below-few f few n, few n)

-- at most 64 sets of 8 ways
pub dirty_in_bank-few : (g : Shape) (banks : Banks) (bank : ℕ) → AreSets g banks → g.sets ≤ 64 → g.ways ≤ 8
    → bank_dirty_count g banks bank ≤ 512
dirty_in_bank-few g banks bank sets few_sets few_ways = search (rules, count_by-le-length, sum_below-few)

-- none where no position is dirty
abbrev marks : Slot → ℕ
marks slot = cond slot.dirty 1 0

dirty_in-none : (slots : List Slot) → All (λ slot. slot.dirty ≡ false) slots → dirty_in slots ≡ 0
dirty_in-none [] clean = refl
dirty_in-none (slot ∷ slots) clean =
    let first : marks slot ≡ 0 = ap (λ (b : Bool). cond b 1 0) (All-head (λ (s : Slot). s.dirty ≡ false) slot slots clean) in
    let rest : dirty_in slots ≡ 0 = dirty_in-none slots (All-tail (λ (s : Slot). s.dirty ≡ false) slot slots clean) in
    omega (arith, first, rest, sum_by-cons marks slot slots)

sum_below-none : (f : ℕ → ℕ) → ((k : ℕ) → f k ≡ 0) → (n : ℕ) → sum_below f n ≡ 0
sum_below-none f none zero = refl
sum_below-none f none (suc n) = omega (arith, sum_below-none f none n, none n)

pub dirty_in_bank-none : (g : Shape) (banks : Banks) (bank : ℕ) → AreSets g banks
    → ((x : ℕ) → is_cached_dirty g banks bank x ≡ false) → bank_dirty_count g banks bank ≡ 0
dirty_in_bank-none g banks bank sets clean =
    sum_below-none (λ set. dirty_in (set_of banks bank set)) (λ set. dirty_in-none (set_of banks bank set) (all set)) g.sets
  where
    not_dirty : (set : ℕ) (slot : Slot) → Contains (set_of banks bank set) slot → (b : Bool) → slot.dirty ≡ b → slot.dirty ≡ false
    not_dirty set slot stands false is = is
    not_dirty set slot stands true is =
        let own : set_index g slot.position ≡ set = search (rules, All-stands) in
        absurd (true≢false
        (sym (is_cached_dirty_from g banks bank slot (subst (λ n. Contains (set_of banks bank n) slot) (sym own) stands) is)
        ∙ clean slot.position))

    all : (set : ℕ) → All (λ slot. slot.dirty ≡ false) (set_of banks bank set)
    all set =
        All-from_stands (λ (s : Slot). s.dirty ≡ false) (set_of banks bank set)
        (λ slot stands. not_dirty set slot stands slot.dirty refl)
