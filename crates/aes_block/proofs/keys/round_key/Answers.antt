use Rattle.std.proofs.Common.{refl, ◌∙◌, ◌*◌, sym, arith}
use Rattle.aes_block.proofs.WordLemmas.{round_key-bytes_of}
use Rattle.aes_block.proofs.keys.round_key.Goals as goal

pub returns : goal.returns
returns c = c.store.ensures ∙ sym (round_key-bytes_of c.args.words.now c.args.round (4 * c.args.round) refl (omega arith))
