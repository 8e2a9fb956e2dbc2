-- The marks that are left lead on from the flags so far.
use Rattle.std.proofs.Common.{◌≡◌, drop}
use Rattle.pmem_base.specs.Geo.{shape_of}
use Rattle.plain_model.specs.State.{PlainState}
use Rattle.plain_model.specs.After.{after_marks}
use Rattle.pmem_replay.specs.Flagged.{HasDirtyingOf, with_dirtying}
use Rattle.pmem_replay.proofs.dirtied.Dirtied.note_all.Given as goal

abbrev pub invariant-marks : goal.invariant-marks
invariant-marks l =
    HasDirtyingOf (shape_of l.geo) l.self
    × ((state : PlainState)
    → after_marks (shape_of l.geo) (with_dirtying state l.self) (drop l.mark-index l.marks)
    ≡ after_marks (shape_of l.geo) (with_dirtying state l.fn.self) l.marks)
