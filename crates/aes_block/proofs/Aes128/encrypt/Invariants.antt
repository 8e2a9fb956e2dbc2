use Rattle.std.proofs.Common.{◌≡◌, ◌-◌}
use Rattle.aes_block.specs.Cipher.{after_rounds}
use Rattle.aes_block.specs.Words.{bytes_of}
use Rattle.aes_block.proofs.Aes128.encrypt.Given as goal

abbrev pub invariant-loop-round : goal.invariant-loop-round
invariant-loop-round l = l.state ≡ after_rounds (bytes_of l.self-inside.words) l.block (l.round - 1)
