use Rattle.std.proofs.Common.{◌≡◌, ◌*◌, length, take}
use Rattle.std.specs.List.{range_with_len, flat_map}
use Rattle.aes_block.specs.Cipher.{aes128_of}
use Rattle.suite.specs.Aes.{pad_input}
use Rattle.suite.proofs.aes.four_blocks.Given as goal

abbrev pub invariant-loop-j : goal.invariant-loop-j
invariant-loop-j l = record {
  long : length l.pad.0 ≡ 64;
  done : take (16 * l.j) l.pad.0 ≡ flat_map (λ j. aes128_of l.cipher (pad_input l.at l.ctr j)) (range_with_len 0 l.j);
}
