-- The plans of a block that is written back, at each of their ends.
use Rattle.std.proofs.Common.{rules, ◌≡◌, ℕ, Option, Some, None, Ok, Err, sym, subst}
use Rattle.pmem_base.specs.declared.lines.Line.{Line}
use Rattle.pmem_base.specs.Layout.{meta_line}
use Rattle.board.specs.Device.{Device}
use Rattle.board.specs.Steps.{HasWritten, WasCut}
use Rattle.call_plan.specs.Plans.{the_cut}
use Rattle.call_plan.specs.Following.{Follows}
use Rattle.call_plan.proofs.Steps.{is_done, write_then, write_cut}
use Rattle.call_plan.proofs.Bind.{bind_ok, bind_err}
use Rattle.meta_cache.specs.Sets.{victim_of}
use Rattle.meta_cache.specs.State.{CacheState, slots_of, oldest_dirty}
use Rattle.meta_path.specs.Blocks.{line_in}
use Rattle.meta_path.specs.Levels.{dirty_position}
use Rattle.meta_path.specs.Plans.{cleaned, write_back_plan, found_plan, oldest_plan, room_of, room_plan}

module _ (cache : CacheState) (bank x : ℕ) (old new : Device) where
  pub block_written : (at : ℕ) (line : Line) → at ≡ meta_line cache.shape x → line ≡ line_in cache.shape cache.banks bank x
      → HasWritten old at line new → Follows (write_back_plan cache bank x) old new (Ok (cleaned cache bank x, tt))
  unfolding write_back_plan
  block_written at line place is was =
      let done_so : HasWritten old (meta_line cache.shape x) (line_in cache.shape cache.banks bank x) new = search rules in
      write_then (cache, the_cut) done_so (is_done (cleaned cache bank x, tt) new)

  pub block_cut : WasCut old new → Follows (write_back_plan cache bank x) old new (Err (cache, the_cut))
  unfolding write_back_plan
  block_cut was = search (rules, write_cut)

-- ---- the oldest dirty block

pub oldest_none : (cache : CacheState) (d : Device) → oldest_dirty cache.banks ≡ None
    → Follows (oldest_plan cache) d d (Ok (cache, None))
unfolding found_plan
oldest_none cache d is = search (rules, is_done)

module _ (cache next : CacheState) (bank x : ℕ) (old new : Device) (is : oldest_dirty cache.banks ≡ Some (bank, x)) where
  pub oldest_ok : Follows (write_back_plan cache bank x) old new (Ok (next, tt))
      → Follows (oldest_plan cache) old new (Ok (next, Some x))
  unfolding found_plan
  oldest_ok it = search (rules, bind_ok, is_done)

  pub oldest_err : Follows (write_back_plan cache bank x) old new (Err (next, the_cut))
      → Follows (oldest_plan cache) old new (Err (next, the_cut))
  unfolding found_plan
  oldest_err it = search (rules, bind_err)

-- ---- room

abbrev to_give_way : CacheState → ℕ → ℕ → Option ℕ
to_give_way cache bank x = dirty_position (victim_of cache.shape.ways (slots_of cache bank x))

pub room_none : (cache : CacheState) (bank x : ℕ) (d : Device) → to_give_way cache bank x ≡ None
    → Follows (room_plan cache bank x) d d (Ok (cache, tt))
unfolding room_of
room_none cache bank x d is = search (rules, is_done)

module _ (cache next : CacheState) (bank x position : ℕ) (old new : Device) (is : to_give_way cache bank x ≡ Some position) where
  pub room_ok : Follows (write_back_plan cache bank position) old new (Ok (next, tt))
      → Follows (room_plan cache bank x) old new (Ok (next, tt))
  unfolding room_of
  room_ok it = subst (λ found. Follows (room_of cache bank found) old new (Ok (next, tt))) (sym is) it

  pub room_err : Follows (write_back_plan cache bank position) old new (Err (next, the_cut))
      → Follows (room_plan cache bank x) old new (Err (next, the_cut))
  unfolding room_of
  room_err it = subst (λ found. Follows (room_of cache bank found) old new (Err (next, the_cut))) (sym is) it
