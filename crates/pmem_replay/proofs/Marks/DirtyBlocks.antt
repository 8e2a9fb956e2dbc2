-- No more blocks are dirty than may be.
use Rattle.std.proofs.Common.{ℕ, ◌≡◌, ◌≢◌, ◌≤◌, ◌+◌, inl, inr, Bool, true, false, List, IsTrue, refl, sym, subst, arith}
use Rattle.std.specs.Prelude.{◌&&◌, ◌==◌, not, count_by, All, slice_index_or, if◌then◌else◌}
use Rattle.std.specs.List.{Contains, list_any, range_with_len}
use Rattle.std.proofs.lemmas.Bool.{eq-eqb, eqb-true, eqb-false, ltb-true, cases_Bool, and_from, and_parts}
use Rattle.std.proofs.lemmas.List.Sums.{count_by-le-length}
use Rattle.std.proofs.lemmas.List.FromFn.{length-range_with_len}
use Rattle.pmem_base.specs.declared.lines.Line.{Line}
use Rattle.pmem_base.specs.Shape.{Shape, IsShape, lazy_levels, is_lazy}
use Rattle.pmem_base.specs.Layout.{pages, meta_lines, slots}
use Rattle.bonsai_tree.specs.Positions.{level_of, is_on_path}
use Rattle.meta_cache.specs.declared.slot.Slot.{Slot}
use Rattle.meta_cache.specs.Banks.{Banks, set_of, set_index, is_cached_dirty, IsBanksOf}
use Rattle.meta_cache.proofs.SlotLemmas.{stands_at, is_cached_dirty_from}
use Rattle.meta_path.specs.Blocks.{dirty_in, bank_dirty_count, dirty_count}
use Rattle.plain_model.specs.State.{PlainState, is_flagged}
use Rattle.plain_model.specs.Bounds.{can_be_dirty, dirty_bound, dirty_blocks}
use Rattle.pmem_engine.specs.Invariants.{IsTrueSlot}
use Rattle.pmem_replay.proofs.Marks.DirtyCounts.{keys_bound, count_by-le, count_by-none, sum_below-le, sum_below-same, classes_bound}
use Rattle.pmem_replay.proofs.Marks.AfterMarks.{is_touched_block}

-- each cached block is a metadata line of its bank's level and in its set, and a dirty one may be dirty
pub record AreAccounted (g : Shape) (cache : Banks) (state : PlainState) : Type 0 where
  pub whole_shape : IsShape g
  pub whole_cache : IsBanksOf g cache
  pub truth : List Line
  pub true_slots : (bank set : ℕ) → All (IsTrueSlot g truth bank set) (set_of cache bank set)
  pub dirty : (bank x : ℕ) → is_cached_dirty g cache bank x ≡ true → IsTrue (can_be_dirty g state x)

-- may be dirty, and is of the bank's level
abbrev of_bank : Shape → PlainState → ℕ → ℕ → Bool
of_bank g state bank x = can_be_dirty g state x && (level_of x == bank)

module _ (g : Shape) (cache : Banks) (state : PlainState) (accounted : AreAccounted g cache state) where
  set_bound : (bank set : ℕ) → dirty_in (set_of cache bank set) ≤ count_by (λ x. of_bank g state bank x && (set_index g x == set)) (range_with_len 0 (meta_lines g))
  set_bound bank set =
      keys_bound (λ slot. slot.dirty) (λ slot. slot.position) (λ x. of_bank g state bank x && (set_index g x == set)) (meta_lines g) (set_of cache bank set)
      (accounted.whole_cache.distinct_positions bank set)
      (λ k d within dirty.
      let slot : Slot = slice_index_or (set_of cache bank set) k d in
      let its = accounted.true_slots bank set k d within in
      let stands = stands_at (set_of cache bank set) k d within in
      let cached : is_cached_dirty g cache bank slot.position ≡ true =
      is_cached_dirty_from g cache bank slot
      (subst (λ s. Contains (set_of cache bank s) slot) (sym its.its_set) stands) dirty in (
        and_from (of_bank g state bank slot.position) (set_index g slot.position == set)
            (and_from (can_be_dirty g state slot.position) (level_of slot.position == bank) (accounted.dirty bank slot.position cached)
            (eq-eqb (level_of slot.position) bank its.its_bank))
            (eq-eqb (set_index g slot.position) set its.its_set),
        its.on_tree,
      ))

  -- the dirty blocks of a bank
  pub bank_bound : (bank : ℕ) → bank_dirty_count g cache bank ≤ count_by (of_bank g state bank) (range_with_len 0 (meta_lines g))
  bank_bound bank =
      let sets =
      sum_below-le (λ set. dirty_in (set_of cache bank set))
      (λ set. count_by (λ x. of_bank g state bank x && (set_index g x == set)) (range_with_len 0 (meta_lines g))) g.sets
      (λ set small. set_bound bank set) in
      omega (arith, sets, classes_bound (of_bank g state bank) (set_index g) (range_with_len 0 (meta_lines g)) g.sets)

  -- all dirty blocks
  pub dirty_count-le : dirty_count g cache ≤ dirty_bound g state
  unfolding dirty_count
  dirty_count-le =
      let banks =
      sum_below-le (bank_dirty_count g cache) (λ bank. count_by (of_bank g state bank) (range_with_len 0 (meta_lines g))) (g.levels + 1)
      (λ bank small. bank_bound bank) in
      omega (arith, banks, classes_bound (can_be_dirty g state) level_of (range_with_len 0 (meta_lines g)) (g.levels + 1))

  -- so the dirty counter blocks are no more than may be dirty, and no more than the bank has slots
  pub dirty_blocks-le : (bank : ℕ) → bank_dirty_count g cache bank ≤ dirty_bound g state
  dirty_blocks-le bank =
      omega (
        arith,
        bank_bound bank,
        count_by-le (of_bank g state bank) (can_be_dirty g state) (range_with_len 0 (meta_lines g))
            (λ x both. (and_parts (can_be_dirty g state x) (level_of x == bank) both).0),
      )

  set_slots : (bank set : ℕ) → dirty_in (set_of cache bank set) ≤ g.ways
  set_slots bank set =
      let ways =
      keys_bound (λ slot. slot.dirty) (λ slot. slot.way) (λ way. true) g.ways (set_of cache bank set)
      (accounted.whole_cache.distinct_ways bank set)
      (λ k d within dirty. (refl, (accounted.whole_cache.in_place bank set k d within).its_way)) in
      omega (arith, ways, count_by-le-length (λ (way : ℕ). true) (range_with_len 0 g.ways), length-range_with_len 0 g.ways)

  pub dirty_slots-le : (bank : ℕ) → bank_dirty_count g cache bank ≤ slots g
  dirty_slots-le bank =
      let sets = sum_below-le (λ set. dirty_in (set_of cache bank set)) (λ set. g.ways) g.sets (λ set small. set_slots bank set) in
      omega (arith, sets, sum_below-same g.ways g.sets)

  -- and no counter block is dirty if their level is strict
  pub dirty_counters-le : bank_dirty_count g cache g.levels ≤ dirty_blocks g
  dirty_counters-le = by (g.persist == 0) refl
    where
      strict : (x : ℕ) → g.persist ≢ 0 → of_bank g state g.levels x ≡ false
      strict x some =
          elim (cases_Bool (of_bank g state g.levels x)) [
            | inl both ↦
                let parts = and_parts (can_be_dirty g state x) (level_of x == g.levels) both in
                let may = and_parts (is_touched_block g state.touched x) (not (is_flagged state.flushed x)) parts.0 in
                let lazy =
                (and_parts (is_lazy g (level_of x))
                (list_any (λ page. is_flagged state.touched page && is_on_path g page x) (range_with_len 0 (pages g))) may.0).0 in
                absurd (omega (arith, ltb-true (level_of x) (lazy_levels g) lazy, eqb-true (level_of x) g.levels parts.1, some))
            | inr none ↦ none
          ]

      by : (lazy : Bool) → (g.persist == 0) ≡ lazy → bank_dirty_count g cache g.levels ≤ (if lazy then slots g else 0)
      by true is = dirty_slots-le g.levels
      by false is =
          let some : g.persist ≢ 0 = eqb-false g.persist 0 is in
          let none : count_by (of_bank g state g.levels) (range_with_len 0 (meta_lines g)) ≡ 0 =
          count_by-none (of_bank g state g.levels) (range_with_len 0 (meta_lines g)) (λ x. strict x some) in
          omega (arith, bank_bound g.levels, none)
