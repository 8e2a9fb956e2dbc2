use Rattle.std.proofs.Common.{◌≡◌, ℕ, ◌<◌, ◌≤◌, length, get_or}
use Rattle.aes_block.specs.Field.{sub_byte}
use Rattle.aes_block.proofs.bytes.sub_bytes.Given as goal

abbrev pub invariant-loop-byte : goal.invariant-loop-byte
invariant-loop-byte l = record {
  len : length l.state ≡ 16;
  done : (k : ℕ) → k < l.byte-index → get_or l.state k 0 ≡ sub_byte (get_or l.initial.state k 0);
  rest : (k : ℕ) → l.byte-index ≤ k → get_or l.state k 0 ≡ get_or l.initial.state k 0;
}
