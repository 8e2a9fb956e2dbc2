use Rattle.std.proofs.Common.{rules}
use Rattle.aes_block.proofs.FastLemmas.{bytes_of-mixed}
use Rattle.aes_block.proofs.fast.mixed.Goals as goal

pub returns : goal.returns
returns c =
    bytes_of-mixed c.args.state.now _ _ _ _ _ _ _ _
    (record {
      len = search rules;
      first = c.to_be_bytes-a.ensures;
      second = c.to_be_bytes-b.ensures;
      third = c.to_be_bytes-c.ensures;
      fourth = c.to_be_bytes-d.ensures;
    })
    c.mixed_word.ensures c.mixed_word-2.ensures c.mixed_word-3.ensures c.mixed_word-4.ensures
