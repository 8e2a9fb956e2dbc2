-- Each block of a cache has a position of the tree: what a touch, a block that comes in and a mark keep of that.
use Rattle.std.proofs.Common.{ℕ, zero, suc, ◌<◌, ◌-◌, ◌∷◌, [], Bool, true, false, List, Option, Some, None, subst}
use Rattle.std.specs.Prelude.{All, IfSome, if◌then◌else◌, slice_set, slice_get, unwrap_or, take, filter, not, option_map, nat_lt, length, ◌==◌}
use Rattle.std.specs.List.{cons_option, filter_map, range_with_len}
use Rattle.std.proofs.lemmas.List.Elements.{All-nil, All-cons, All-head, All-tail, All-append, All-filter, All-take}
use Rattle.pmem_base.specs.declared.lines.Line.{Line}
use Rattle.meta_cache.specs.declared.slot.Slot.{Slot}
use Rattle.meta_cache.specs.Banks.{Banks, set_of}
use Rattle.meta_cache.specs.Sets.{touched, placed, without_victim, with_mark, slot_marked, victim_of}
use Rattle.meta_cache.specs.State.{CacheState, bank_of, with_slots, oldest_dirty_of, dirty_in_bank, oldest_dirty}
use Rattle.pmem_engine.proofs.BlockWrites.OldestFirst.{first_of_bank}
use Rattle.meta_path.specs.Levels.{dirty_position}
use Rattle.pmem_engine.specs.DirtyOrder.{dirty_positions, dirty_order}

get_set : {X : Type 0} (Q : X → Type 0) (xs : List X) (i : ℕ) (x d : X) → Q x → ((j : ℕ) → Q (unwrap_or (slice_get xs j) d))
    → (j : ℕ) → Q (unwrap_or (slice_get (slice_set xs i x) j) d)
get_set Q [] i x d its all j = all j
get_set Q (y ∷ ys) zero x d its all zero = its
get_set Q (y ∷ ys) zero x d its all (suc j) = all (suc j)
get_set Q (y ∷ ys) (suc i) x d its all zero = all zero
get_set Q (y ∷ ys) (suc i) x d its all (suc j) = get_set Q ys i x d its (λ j. all (suc j)) j

pub each_of : {X : Type 0} (Q : X → Type 0) (xs : List X) (d : X) → ((j : ℕ) → Q (unwrap_or (slice_get xs j) d)) → All Q xs
each_of Q [] d all = All-nil Q
each_of Q (x ∷ xs) d all = All-cons Q x xs (all zero) (each_of Q xs d (λ j. all (suc j)))

-- what a list of choices finds
some_of : {X : Type 0} (P : X → Type 0) (xs : List X) (i : ℕ) → All P xs → IfSome (slice_get xs i) P
some_of P [] i all = tt
some_of P (x ∷ xs) zero all = All-head P x xs all
some_of P (x ∷ xs) (suc i) all = some_of P xs i (All-tail P x xs all)

module _ (m : ℕ) where
  abbrev pub On : Slot → Type 0
  On slot = slot.position < m

  abbrev pub AreOn : List Slot → Type 0
  AreOn slots = All On slots

  abbrev pub Tree : Banks → Type 0
  Tree banks = (bank set : ℕ) → AreOn (set_of banks bank set)

  pub tree_with : (cache : CacheState) (bank set : ℕ) (slots : List Slot) → Tree cache.banks → AreOn slots → Tree (with_slots cache bank set slots).banks
  tree_with cache bank set slots its on =
      get_set (λ sets. (set : ℕ) → AreOn (unwrap_or (slice_get sets set) [])) cache.banks bank (slice_set (bank_of cache.banks bank) set slots) []
      (get_set AreOn (bank_of cache.banks bank) set slots [] on (its bank)) its

  pub on_touched : (slots : List Slot) (x : ℕ) → AreOn slots → AreOn (touched slots x)
  unfolding touched
  on_touched slots x on =
      All-append On (filter (λ slot. slot.position == x) slots) (filter (λ slot. not (slot.position == x)) slots)
      (All-filter (λ slot. slot.position == x) On slots on) (All-filter (λ slot. not (slot.position == x)) On slots on)

  pub on_placed : (ways : ℕ) (slots : List Slot) (x : ℕ) (line : Line) → x < m → AreOn slots → AreOn (placed ways slots x line)
  on_placed ways slots x line its on = All-cons On _ (without_victim ways slots) its (by_room (nat_lt (length slots) ways))
    where
      by_room : (free : Bool) → AreOn (if free then slots else take (ways - 1) slots)
      by_room true = on
      by_room false = All-take On (ways - 1) slots on

  pub on_marked : (slots : List Slot) (x : ℕ) (dirty : Bool) → AreOn slots → AreOn (with_mark slots x dirty)
  unfolding with_mark
  on_marked [] x dirty on = All-nil On
  on_marked (slot ∷ slots) x dirty on =
      All-cons On (if slot.position == x then slot_marked slot dirty else slot) (with_mark slots x dirty) (by_test (slot.position == x))
      (on_marked slots x dirty (All-tail On slot slots on))
    where
      by_test : (its : Bool) → On (if its then slot_marked slot dirty else slot)
      by_test true = All-head On slot slots on
      by_test false = All-head On slot slots on

  pub dirty_victim : (slots : List Slot) (ways : ℕ) → AreOn slots → IfSome (dirty_position (victim_of ways slots)) (λ x. x < m)
  dirty_victim slots ways on = by_room (nat_lt (length slots) ways)
    where
      if_dirty : (slot : Slot) (dirty : Bool) → On slot → IfSome (if dirty then Some slot.position else None) (λ x. x < m)
      if_dirty slot true its = its
      if_dirty slot false its = tt

      of_slot : (found : Option Slot) → IfSome found On → IfSome (dirty_position found) (λ x. x < m)
      of_slot None its = tt
      of_slot (Some slot) its = if_dirty slot slot.dirty its

      by_room : (free : Bool) → IfSome (dirty_position (if free then None else slice_get slots (ways - 1))) (λ x. x < m)
      by_room true = tt
      by_room false = of_slot (slice_get slots (ways - 1)) (some_of On slots (ways - 1) on)

  -- the dirty positions of a bank, in order
  on_positions : (slots : List Slot) → AreOn slots → All (λ x. x < m) (dirty_positions slots)
  on_positions [] on = All-nil (λ x. x < m)
  on_positions (slot ∷ slots) on =
      All-append (λ x. x < m) (dirty_positions slots) (if slot.dirty then slot.position ∷ [] else []) (on_positions slots (All-tail On slot slots on)) (by_test slot.dirty)
    where
      by_test : (dirty : Bool) → All (λ x. x < m) (if dirty then slot.position ∷ [] else [])
      by_test true = All-cons (λ x. x < m) slot.position [] (All-head On slot slots on) (All-nil (λ x. x < m))
      by_test false = All-nil (λ x. x < m)

  pub on_order : (sets : List (List Slot)) → All AreOn sets → All (λ x. x < m) (dirty_order sets)
  on_order [] on = All-nil (λ x. x < m)
  on_order (slots ∷ sets) on = All-append (λ x. x < m) (dirty_positions slots) (dirty_order sets) (on_positions slots (All-head AreOn slots sets on))
      (on_order sets (All-tail AreOn slots sets on))

  -- the oldest of all banks
  at_head : {Y : Type 0} (P : Y → Type 0) (found : Option Y) (rest : List Y) → IfSome found P → IfSome (slice_get rest 0) P
      → IfSome (slice_get (cons_option found rest) 0) P
  at_head P None rest its later = later
  at_head P (Some y) rest its later = its

  on_first : {X Y : Type 0} (P : Y → Type 0) (h : X → Option Y) (xs : List X) → ((x : X) → IfSome (h x) P) → IfSome (slice_get (filter_map h xs) 0) P
  on_first P h [] each = tt
  on_first P h (x ∷ xs) each = at_head P (h x) (filter_map h xs) (each x) (on_first P h xs each)

  on_oldest : (sets : List (List Slot)) → All AreOn sets → IfSome (oldest_dirty_of sets) (λ x. x < m)
  on_oldest sets on =
      subst (λ (found : Option ℕ). IfSome found (λ x. x < m)) (first_of_bank sets) (some_of (λ x. x < m) (dirty_order sets) 0 (on_order sets on))

  pub on_oldest_block : (banks : Banks) → Tree banks → IfSome (oldest_dirty banks) (λ block. block.1 < m)
  on_oldest_block banks on =
      on_first (λ (block : ℕ × ℕ). block.1 < m) (dirty_in_bank banks) (range_with_len 0 (length banks))
      (λ bank. of_bank bank (oldest_dirty_of (bank_of banks bank)) (on_oldest (bank_of banks bank) (each_of AreOn (bank_of banks bank) [] (on bank))))
    where
      of_bank : (bank : ℕ) (found : Option ℕ) → IfSome found (λ x. x < m) → IfSome {T = ℕ × ℕ} (option_map (λ x. (bank, x)) found) (λ block. block.1 < m)
      of_bank bank None its = tt
      of_bank bank (Some x) its = its
