use Rattle.std.proofs.Common.{◌≡◌, take}
use Rattle.split_counters.specs.Blocks.{number_of_minors}
use Rattle.split_counters.proofs.bytes.packed_group.Given as goal

abbrev pub invariant-loop-minor : goal.invariant-loop-minor
invariant-loop-minor l = l.number ≡ number_of_minors (take l.minor-index l.minors)
