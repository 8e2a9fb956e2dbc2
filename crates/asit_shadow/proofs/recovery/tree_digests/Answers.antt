-- Powers of 4 that are small.
use Rattle.std.proofs.Common.{◌+◌, arith}
use Rattle.asit_shadow.proofs.Common.{one-le-pow, pages-most}
use Rattle.asit_shadow.proofs.recovery.tree_digests.Goals as goal

pub pow-requires : goal.pow-requires
pow-requires c = omega (arith, pages-most (c.from.result + 1) (omega (arith, c.shadow_height.ensures.most, c.from.ensures)))

pub overflow_sub-result : goal.overflow_sub-result
overflow_sub-result c = omega (arith, one-le-pow (c.from.result + 1) 4 (omega arith), c.pow.ensures)
