use Rattle.std.proofs.Common.{ap, sym, rules}
use Rattle.aes_block.specs.Words.{bytes_of}
use Rattle.aes_block.proofs.ListLemmas.{cells_of}
use Rattle.aes_block.proofs.words.store.Goals as goal

pub returns : goal.returns
unfolding bytes_of
returns c =
    rw (c.to_be_bytes-first.ensures, c.to_be_bytes-second.ensures, c.to_be_bytes-third.ensures, c.to_be_bytes-fourth.ensures)
    (sym (ap bytes_of (cells_of 4 c.args.words.now (search rules))))
