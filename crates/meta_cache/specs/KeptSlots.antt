-- What became of the slots of a set.
use Rattle.std.specs.Prelude.{◌≡◌, true, List}
use Rattle.std.specs.List.{Contains}
use Rattle.meta_cache.specs.declared.slot.Slot.{Slot}

-- the slot stood in this set before, in its way, with its line, and is dirty only if it was
pub record IsFromBefore (set : List Slot) (slot : Slot) : Type 0 where
  pub before : Slot
  pub stands : Contains set before
  pub way : before.way ≡ slot.way
  pub position : before.position ≡ slot.position
  pub same_line : before.line ≡ slot.line
  pub dirty : slot.dirty ≡ true → before.dirty ≡ true

-- the position of this slot is still there, and dirty
pub record IsStillDirty (set : List Slot) (slot : Slot) : Type 0 where
  pub now : Slot
  pub stands : Contains set now
  pub position : now.position ≡ slot.position
  pub dirty : now.dirty ≡ true
