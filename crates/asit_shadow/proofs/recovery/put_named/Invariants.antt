-- The slots so far.
use Rattle.std.proofs.Common.{ℕ, ◌≡◌, ◌<◌, Some}
use Rattle.asit_shadow.proofs.Common.{shape_of, line_at, slot_read, CachedNode, cache_at, IsHeldNode, held_of, IsNameable, cached_named}
use Rattle.asit_shadow.proofs.recovery.put_named.Given as goal

abbrev pub invariant-slots : goal.invariant-slots
invariant-slots l =
    record {
      held :
          (j : ℕ) (held : CachedNode) → j < l.i → cache_at l.cache j ≡ Some held
          → IsHeldNode (shape_of l.fn.geo) held;
      named :
          (j : ℕ) → j < l.i → IsNameable (shape_of l.fn.geo) (slot_read (line_at l.fn.slots j))
          → cache_at l.cache j ≡ held_of (slot_read (line_at l.fn.slots j));
      value : (j : ℕ) → j < l.i → cache_at l.cache j ≡ cached_named (shape_of l.fn.geo) (slot_read (line_at l.fn.slots j));
    }
