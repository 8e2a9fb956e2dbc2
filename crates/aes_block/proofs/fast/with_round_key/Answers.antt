use Rattle.std.proofs.Common.{◌*◌, rules, refl, arith}
use Rattle.aes_block.specs.Cipher.{xor_with}
use Rattle.aes_block.proofs.FastLemmas.{bytes_of-with_round_key}
use Rattle.aes_block.proofs.fast.with_round_key.Goals as goal

pub returns : goal.returns
unfolding xor_with
returns c =
    bytes_of-with_round_key c.args.state.now c.args.words.now c.args.round (4 * c.args.round) (search rules) refl (omega arith)
