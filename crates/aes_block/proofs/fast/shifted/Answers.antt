use Rattle.std.proofs.Common.{rules}
use Rattle.aes_block.proofs.FastLemmas.{bytes_of-shifted}
use Rattle.aes_block.proofs.fast.shifted.Goals as goal

pub returns : goal.returns
returns c =
    bytes_of-shifted c.args.state.now c.to_be_bytes-a.result c.to_be_bytes-b.result c.to_be_bytes-c.result
    c.to_be_bytes-d.result _ _ _ _
    (record {
      len = search rules;
      first = c.to_be_bytes-a.ensures;
      second = c.to_be_bytes-b.ensures;
      third = c.to_be_bytes-c.ensures;
      fourth = c.to_be_bytes-d.ensures;
    })
    c.substituted_word.ensures c.substituted_word-2.ensures c.substituted_word-3.ensures c.substituted_word-4.ensures
