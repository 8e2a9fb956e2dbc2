-- The ways before are in use.
use Rattle.std.proofs.Common.{ℕ, ◌≡◌, ◌<◌, true}
use Rattle.std.specs.Prelude.{◌==◌}
use Rattle.std.specs.List.{list_any}
use Rattle.meta_cache.specs.declared.slot.Slot.{Slot}
use Rattle.meta_cache.proofs.set.Set.free_way.Given as goal

abbrev pub invariant-ways : goal.invariant-ways
invariant-ways l = (k : ℕ) → k < l.way → list_any (λ (slot : Slot). slot.way == k) l.self ≡ true
