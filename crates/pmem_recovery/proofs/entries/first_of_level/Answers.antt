use Rattle.std.proofs.Common.{arith}
use Rattle.std.proofs.Math.Nat.{one-le-pow}
use Rattle.pmem_base.proofs.LayoutLemmas.{pages-most}
use Rattle.pmem_recovery.proofs.entries.first_of_level.Goals as goal

pub pow-requires : goal.pow-requires
pow-requires c = omega (arith, pages-most c.from.result (omega (arith, c.requires, c.from.ensures)))

pub overflow_sub-result : goal.overflow_sub-result
overflow_sub-result c = omega (arith, one-le-pow c.from.result 4 (omega arith), c.pow.ensures)

pub returns-clause-bound : goal.returns-clause-bound
returns-clause-bound c = omega (arith, pages-most c.from.result (omega (arith, c.requires, c.from.ensures)), c.pow.ensures)
