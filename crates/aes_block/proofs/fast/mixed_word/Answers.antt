use Rattle.std.proofs.Common.{rules}
use Rattle.aes_block.proofs.FastLemmas.{mixed_word-is}
use Rattle.aes_block.proofs.fast.mixed_word.Goals as goal

pub returns : goal.returns
returns c = mixed_word-is c.args.a c.args.b c.args.c c.args.d (search rules) (search rules) (search rules) (search rules)
