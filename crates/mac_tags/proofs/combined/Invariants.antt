use Rattle.std.proofs.Common.{◌≡◌, length, map, take, bit_xor}
use Rattle.mac_tags.proofs.combined.Given as goal

abbrev pub invariant-loop-i : goal.invariant-loop-i
invariant-loop-i l = record {
  long : length l.out ≡ 64;
  done : take l.i l.out ≡ map (λ b. bit_xor b l.byte) (take l.i l.block);
}
