use Rattle.std.proofs.Common.{◌≡◌, ℕ, ◌<◌, ◌+◌, ◌%◌, length, get_or}
use Rattle.std.specs.Prelude.{bit_xor, slice_index}
use Rattle.suite.proofs.weak.WeakSuiteSuite.pad.Given as goal

abbrev pub invariant-loop-j : goal.invariant-loop-j
invariant-loop-j l = record {
  long : length l.pad.0 ≡ 64;
  done : (k : ℕ) → k < l.j → get_or l.pad.0 k 0 ≡ bit_xor (slice_index l.self.key 0) ((l.first + k) % 256);
}
