-- The dirty counter blocks are written back one after another, and another stop-loss number is latched, as their plans have it.
use Rattle.std.proofs.Common.{◌≡◌, ℕ, ◌+◌, List, [], ◌∷◌, Some, None, Bool, true, false, Result, Ok, Err, refl, sym, subst, ◌∙◌}
use Rattle.std.specs.Prelude.{slice_get, nat_lt, ◌==◌, if◌then◌else◌}
use Rattle.std.proofs.lemmas.Option.{none-some}
use Rattle.pmem_base.specs.declared.faults.Cut.{Cut}
use Rattle.pmem_base.specs.declared.registers.Regs.{Regs}
use Rattle.pmem_base.specs.Shape.{Shape}
use Rattle.board.specs.Device.{Device}
use Rattle.board.specs.Steps.{HasLatched, WasCut}
use Rattle.call_plan.specs.Plans.{Plan, done, latch, bind, for_each, the_cut}
use Rattle.call_plan.specs.Following.{Follows}
use Rattle.call_plan.proofs.Steps.{is_done, latch_then, latch_cut}
use Rattle.call_plan.proofs.Bind.{bind_ok, bind_err, mapped_follows}
use Rattle.call_plan.proofs.Loops.{HasReached, reached_ok, reached_err, reached_end}
use Rattle.meta_cache.specs.State.{bank_of, oldest_dirty_of}
use Rattle.meta_path.specs.Blocks.{bank_dirty_count}
use Rattle.pmem_engine.specs.Engine.{ChipState}
use Rattle.pmem_engine.specs.DirtyOrder.{dirty_order}
use Rattle.pmem_engine.specs.Flushed.{with_loss}
use Rattle.pmem_engine.specs.Plans.{block_plan, dirty_counter_blocks, counter_block_turn, counter_blocks_plan, make_way_plan, latch_loss_plan}
use Rattle.pmem_engine.proofs.BlockWrites.OldestFirst.{first_of_bank}
use Rattle.pmem_engine.proofs.PageLines.LeftPlaces.{first_and_rest}

-- the blocks that are left from here
abbrev pub blocks_left : ChipState → Plan (ChipState × Cut) (ChipState × Unit {0})
blocks_left engine = for_each counter_block_turn (dirty_counter_blocks engine) (engine, tt)

-- a list with no first element
none_first : (xs : List ℕ) → slice_get xs 0 ≡ None → xs ≡ []
none_first [] none = refl
none_first (x ∷ xs) none = absurd (none-some x (sym none))

module _ {whole : Plan (ChipState × Cut) (ChipState × Unit {0})} {start now : Device} (old : ChipState)
    (so_far : HasReached whole start (blocks_left old) now) where
  -- the oldest was written back
  pub block_more : (x : ℕ) (new : ChipState) {mid : Device} → new.shape ≡ old.shape
      → dirty_counter_blocks old ≡ x ∷ dirty_order (bank_of new.cache old.shape.levels)
      → Follows (block_plan old.shape.levels x old) now mid (Ok (new, tt)) → HasReached whole start (blocks_left new) mid
  unfolding for_each
  block_more x new {mid = mid} shape order it =
      let later : List ℕ = dirty_order (bank_of new.cache old.shape.levels) in
      let here : HasReached whole start (for_each counter_block_turn (x ∷ later) (old, tt)) now =
      subst (λ (xs : List ℕ). HasReached whole start (for_each counter_block_turn xs (old, tt)) now) order so_far in
      subst (λ (s : Shape). HasReached whole start (for_each counter_block_turn (dirty_order (bank_of new.cache s.levels)) (new, tt)) mid) (sym shape)
      (reached_ok (block_plan old.shape.levels x old) (λ t. for_each counter_block_turn later t) here it)

  -- its write was cut
  pub block_stopped : (x : ℕ) {left : ChipState × Cut} {mid : Device} → oldest_dirty_of (bank_of old.cache old.shape.levels) ≡ Some x
      → Follows (block_plan old.shape.levels x old) now mid (Err left) → Follows whole start mid (Err left)
  unfolding for_each
  block_stopped x oldest it =
      let first = first_and_rest (dirty_counter_blocks old) x (first_of_bank (bank_of old.cache old.shape.levels) ∙ oldest) in
      reached_err (block_plan old.shape.levels x old) (λ t. for_each counter_block_turn first.0 t)
      (subst (λ (xs : List ℕ). HasReached whole start (for_each counter_block_turn xs (old, tt)) now) first.1 so_far) it

  -- none is left
  pub blocks_over : oldest_dirty_of (bank_of old.cache old.shape.levels) ≡ None → Follows whole start now (Ok (old, tt))
  unfolding for_each
  blocks_over none =
      reached_end (subst (λ (xs : List ℕ). HasReached whole start (for_each counter_block_turn xs (old, tt)) now)
      (none_first (dirty_counter_blocks old) (first_of_bank (bank_of old.cache old.shape.levels) ∙ none)) so_far)

-- all of them, and how many there were
module _ (engine : ChipState) {old new : Device} where
  pub blocks_written : (after : ChipState) (count : ℕ) → count ≡ bank_dirty_count engine.shape engine.cache engine.shape.levels
      → Follows (blocks_left engine) old new (Ok (after, tt)) → Follows (counter_blocks_plan engine) old new (Ok (after, count))
  unfolding counter_blocks_plan
  blocks_written after count is it =
      subst (λ (n : ℕ). Follows (counter_blocks_plan engine) old new (Ok (after, n))) (sym is) (mapped_follows _ _ it)

  pub blocks_cut : {left : ChipState × Cut} → Follows (blocks_left engine) old new (Err left) → Follows (counter_blocks_plan engine) old new (Err left)
  unfolding counter_blocks_plan
  blocks_cut it = mapped_follows _ _ it

-- ---- another number

-- the latch, once that was written
abbrev latching : ℕ → Regs → ChipState × ℕ → Plan (ChipState × Cut) (ChipState × ℕ)
latching n regs end = latch (end.0, the_cut) (with_loss regs n) (done (end.0, end.1 + 1))

module _ (n : ℕ) (regs : Regs) (engine : ChipState) {old new : Device} where
  pub way_free : {end : Result (ChipState × ℕ) (ChipState × Cut)} → nat_lt n regs.loss ≡ false
      → Follows (let plan : Plan (ChipState × Cut) (ChipState × ℕ) = done (engine, 0) in plan) old new end → Follows (make_way_plan n regs engine) old new end
  unfolding make_way_plan
  way_free {end = end} greater it =
      subst (λ (b : Bool). Follows {E = ChipState × Cut} {T = ChipState × ℕ} (if b then counter_blocks_plan engine else done (engine, 0)) old new end)
      (sym greater) it

  pub way_made : {end : Result (ChipState × ℕ) (ChipState × Cut)} → nat_lt n regs.loss ≡ true → Follows (counter_blocks_plan engine) old new end
      → Follows (make_way_plan n regs engine) old new end
  unfolding make_way_plan
  way_made {end = end} smaller it =
      subst (λ (b : Bool). Follows {E = ChipState × Cut} {T = ChipState × ℕ} (if b then counter_blocks_plan engine else done (engine, 0)) old new end)
      (sym smaller) it

  by_test : {end : Result (ChipState × ℕ) (ChipState × Cut)} (same : Bool) → (n == regs.loss) ≡ same
      → Follows {E = ChipState × Cut} {T = ChipState × ℕ} (if same then done (engine, 0) else bind (make_way_plan n regs engine) (latching n regs)) old new end
      → Follows (latch_loss_plan n regs engine) old new end
  unfolding latch_loss_plan
  by_test {end = end} same is it =
      subst (λ (b : Bool). Follows {E = ChipState × Cut} {T = ChipState × ℕ} (if b then done (engine, 0) else bind (make_way_plan n regs engine) (latching n regs))
      old new end) (sym is) it

  -- the number is latched already
  pub loss_same : {end : Result (ChipState × ℕ) (ChipState × Cut)} → (n == regs.loss) ≡ true
      → Follows (let plan : Plan (ChipState × Cut) (ChipState × ℕ) = done (engine, 0) in plan) old new end → Follows (latch_loss_plan n regs engine) old new end
  loss_same same it = by_test true same it

  -- a write before it was cut
  pub loss_stopped : {left : ChipState × Cut} → (n == regs.loss) ≡ false → Follows (make_way_plan n regs engine) old new (Err left)
      → Follows (latch_loss_plan n regs engine) old new (Err left)
  loss_stopped other it = by_test false other (bind_err (latching n regs) it)

  module _ {mid : Device} (after : ChipState) (count : ℕ) (other : (n == regs.loss) ≡ false)
      (first : Follows (make_way_plan n regs engine) old mid (Ok (after, count))) where
    -- the latch was
    pub loss_cut : WasCut mid new → Follows (latch_loss_plan n regs engine) old new (Err (after, the_cut))
    loss_cut was =
        by_test false other (bind_ok (latching n regs) first (latch_cut (after, the_cut) (with_loss regs n) (done (after, count + 1)) was))

    -- it is latched
    pub loss_latched : HasLatched mid (with_loss regs n) new → Follows (latch_loss_plan n regs engine) old new (Ok (after, count + 1))
    loss_latched was =
        by_test false other (bind_ok (latching n regs) first (latch_then (after, the_cut) was (is_done (after, count + 1) new)))
