use Rattle.split_counters.proofs.MinorBits.{packed-HasMinorBits}
use Rattle.split_counters.proofs.bytes.minors_have_seven_bits.Goals as goal

pub returns : goal.returns
returns c = packed-HasMinorBits c.args.block.now c.block_is_kept.ensures.range
