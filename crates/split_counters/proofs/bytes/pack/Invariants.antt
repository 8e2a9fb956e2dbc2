use Rattle.std.proofs.Common.{◌≡◌, ◌+◌, ◌*◌, length, take}
use Rattle.split_counters.proofs.Groups.{packed_front}
use Rattle.split_counters.proofs.bytes.pack.Given as goal

abbrev pub invariant-loop-group : goal.invariant-loop-group
invariant-loop-group l =
    (take (7 * l.group + 8) l.bytes ≡ packed_front l.block.major l.block.minors l.group)
    × (length l.bytes ≡ 64)
