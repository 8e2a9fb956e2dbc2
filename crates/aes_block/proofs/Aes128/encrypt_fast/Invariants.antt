use Rattle.std.proofs.Common.{◌≡◌, ◌-◌}
use Rattle.aes_block.specs.Cipher.{after_rounds}
use Rattle.aes_block.specs.Words.{bytes_of}
use Rattle.aes_block.proofs.Aes128.encrypt_fast.Given as goal

abbrev pub invariant-loop-round : goal.invariant-loop-round
invariant-loop-round l = bytes_of l.state ≡ after_rounds (bytes_of l.words) l.block (l.round - 1)
