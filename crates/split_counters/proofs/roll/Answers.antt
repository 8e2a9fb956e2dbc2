use Rattle.std.proofs.Common.{arith}
use Rattle.split_counters.specs.Blocks.{zero_minors}
use Rattle.split_counters.proofs.Packing.{zero_block}
use Rattle.split_counters.proofs.roll.Goals as goal

pub returns-in-Some-clause-valid : goal.returns-in-Some-clause-valid
unfolding zero_minors
returns-in-Some-clause-valid c = zero_block c.in-Some.major (omega (arith, c.in-Some.ensures))
