-- The last dirty slot so far.
use Rattle.std.proofs.Common.{◌≡◌, take}
use Rattle.meta_cache.specs.Sets.{oldest_dirty_in}
use Rattle.meta_cache.proofs.set.Set.oldest_dirty.Given as goal

abbrev pub invariant-slots : goal.invariant-slots
invariant-slots l = l.oldest ≡ oldest_dirty_in (take l.slot-index l.slot-items)
