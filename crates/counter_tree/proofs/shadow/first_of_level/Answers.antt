use Rattle.std.proofs.Common.{arith}
use Rattle.counter_tree.proofs.Common.{one-le-pow, pages-most}
use Rattle.counter_tree.proofs.shadow.first_of_level.Goals as goal

pub pow-requires : goal.pow-requires
pow-requires c = omega (arith, pages-most c.from.result (omega (arith, c.requires, c.from.ensures)))

pub overflow_sub-result : goal.overflow_sub-result
overflow_sub-result c = omega (arith, one-le-pow c.from.result 4 (omega arith), c.pow.ensures)

pub returns-clause-bound : goal.returns-clause-bound
returns-clause-bound c = omega (arith, pages-most c.from.result (omega (arith, c.requires, c.from.ensures)), c.pow.ensures)
