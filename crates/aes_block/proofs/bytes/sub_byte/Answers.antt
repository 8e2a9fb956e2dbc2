use Rattle.std.proofs.Common.{rules}
use Rattle.aes_block.proofs.Entries.{S_BOX-at}
use Rattle.aes_block.proofs.bytes.sub_byte.Goals as goal

pub returns : goal.returns
returns c = S_BOX-at c.args.byte (search rules)
