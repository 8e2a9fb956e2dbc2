use Rattle.std.proofs.Common.{◌≡◌, ◌*◌, length, take, drop}
use Rattle.split_counters.proofs.Groups.{unpacked_front}
use Rattle.split_counters.proofs.bytes.unpack.Given as goal

abbrev pub invariant-loop-group : goal.invariant-loop-group
invariant-loop-group l =
    (take (8 * l.group) l.minors ≡ unpacked_front (drop 8 l.line.0) l.group)
    × (length l.minors ≡ 64)
