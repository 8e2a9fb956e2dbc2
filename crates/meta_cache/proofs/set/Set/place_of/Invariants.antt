-- The slots before hold other positions.
use Rattle.std.proofs.Common.{◌≡◌, false, take}
use Rattle.std.specs.Prelude.{◌==◌, All}
use Rattle.meta_cache.specs.declared.slot.Slot.{Slot}
use Rattle.meta_cache.proofs.set.Set.place_of.Given as goal

abbrev pub invariant-slots : goal.invariant-slots
invariant-slots l = All (λ (slot : Slot). (slot.position == l.x) ≡ false) (take l.i l.slot-items)
