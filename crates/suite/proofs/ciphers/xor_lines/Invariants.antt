use Rattle.std.proofs.Common.{◌≡◌, ◌<◌, ℕ, length, get_or}
use Rattle.std.specs.Prelude.{bit_xor}
use Rattle.suite.proofs.ciphers.xor_lines.Given as goal

abbrev pub invariant-loop-i : goal.invariant-loop-i
invariant-loop-i l = record {
  long : length l.out.0 ≡ 64;
  done : (k : ℕ) → k < l.i → get_or l.out.0 k 0 ≡ bit_xor (get_or l.line.0 k 0) (get_or l.pad.0 k 0);
}
