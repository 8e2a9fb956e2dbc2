use Rattle.std.proofs.Common.{rules}
use Rattle.aes_block.proofs.WordLemmas.{bytes_of-load}
use Rattle.aes_block.proofs.words.load.Goals as goal

pub returns : goal.returns
returns c =
    bytes_of-load c.args.bytes.now (search rules) (search rules) _ _ _ _ c.from_be_bytes.ensures c.from_be_bytes-2.ensures
    c.from_be_bytes-3.ensures c.from_be_bytes-4.ensures
