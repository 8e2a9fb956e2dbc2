-- What naming a page's path in the shadow tables does, as a plan over the copy of the shadow lines; and what writing a
-- block back does, as a plan over the cache.
use Rattle.std.specs.Prelude.{ℕ, false, List, Option, Some, None, if◌then◌else◌}
use Rattle.pmem_base.specs.declared.faults.Cut.{Cut}
use Rattle.pmem_base.specs.declared.lines.Line.{Line}
use Rattle.pmem_base.specs.Shape.{Shape, named_levels}
use Rattle.pmem_base.specs.Layout.{shadow_line, meta_line}
use Rattle.call_plan.specs.Plans.{Plan, done, write, bind, repeated, the_cut}
use Rattle.shadow_tables.specs.Naming.{entry_line, naming_line, with_named}
use Rattle.meta_cache.specs.Banks.{Banks, set_index}
use Rattle.meta_cache.specs.Sets.{with_mark, victim_of}
use Rattle.meta_cache.specs.State.{CacheState, slots_of, with_slots, oldest_dirty}
use Rattle.meta_path.specs.Blocks.{path_at, line_in}
use Rattle.meta_path.specs.Levels.{dirty_position}
use Rattle.meta_path.specs.Naming.{path_number, is_slot_named}

-- ---- naming

-- Slot n of a bank names position x. If it doesn't yet, the copy's line is changed, and then written.
unfoldable pub slot_plan : Shape → ℕ → ℕ → ℕ → List Line → Plan (List Line × Cut) (List Line × Unit {0})
slot_plan g bank n x mirror =
    if is_slot_named g mirror bank n x then done (mirror, tt)
    else write (with_named g mirror bank n x, the_cut) (shadow_line g (entry_line g bank n))
    (naming_line g mirror bank n x) (done (with_named g mirror bank n x, tt))

-- the slot of the path's block at level j
abbrev pub naming_turn : Shape → Banks → ℕ → ℕ → List Line × Unit {0} → Plan (List Line × Cut) (List Line × Unit {0})
naming_turn g banks page j before =
    slot_plan g j (path_number g banks page j) (path_at g page j) before.0

-- the slots of the path's blocks that may get dirty, from the top down: none without shadow tables
abbrev pub naming_plan : Shape → Banks → ℕ → List Line → Plan (List Line × Cut) (List Line × Unit {0})
naming_plan g banks page mirror = repeated (naming_turn g banks page) 0 (named_levels g) (mirror, tt)

-- ---- writing back

-- the cache with the block at x of a bank clean
abbrev pub cleaned : CacheState → ℕ → ℕ → CacheState
cleaned cache bank x =
    with_slots cache bank (set_index cache.shape x) (with_mark (slots_of cache bank x) x false)

-- the block at x of a bank is written to its place, and is clean
unfoldable pub write_back_plan : CacheState → ℕ → ℕ → Plan (CacheState × Cut) (CacheState × Unit {0})
write_back_plan cache bank x =
    write (cache, the_cut) (meta_line cache.shape x) (line_in cache.shape cache.banks bank x)
    (done (cleaned cache bank x, tt))

-- the block found, if one is, is written back, and its position answered
unfoldable pub found_plan : CacheState → Option (ℕ × ℕ) → Plan (CacheState × Cut) (CacheState × Option ℕ)
found_plan cache None = done (cache, None)
found_plan cache (Some found) = bind (write_back_plan cache found.0 found.1) (λ end. done (end.0, Some found.1))

-- that is the oldest dirty block
abbrev pub oldest_plan : CacheState → Plan (CacheState × Cut) (CacheState × Option ℕ)
oldest_plan cache = found_plan cache (oldest_dirty cache.banks)

-- a block at such a position, if any, is written back
unfoldable pub room_of : CacheState → ℕ → Option ℕ → Plan (CacheState × Cut) (CacheState × Unit {0})
room_of cache bank None = done (cache, tt)
room_of cache bank (Some position) = write_back_plan cache bank position

-- that is the one that would be evicted for x, if it is dirty
abbrev pub room_plan : CacheState → ℕ → ℕ → Plan (CacheState × Cut) (CacheState × Unit {0})
room_plan cache bank x = room_of cache bank (dirty_position (victim_of cache.shape.ways (slots_of cache bank x)))
