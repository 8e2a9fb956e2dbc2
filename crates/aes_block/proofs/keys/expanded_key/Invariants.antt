use Rattle.std.proofs.Common.{◌≡◌, ℕ, ◌-◌, ◌<◌, ◌^◌, take, get_or, length}
use Rattle.aes_block.specs.Cipher.{expanded_key}
use Rattle.aes_block.specs.Words.{bytes_of}
use Rattle.aes_block.proofs.keys.expanded_key.Given as goal

abbrev pub invariant-loop-i : goal.invariant-loop-i
invariant-loop-i l = record {
  len : length l.words ≡ 44;
  in_range : (k : ℕ) → get_or l.words k 0 < 2 ^ 32;
  so_far : bytes_of (take l.i l.words) ≡ expanded_key l.key (l.i - 4);
}
