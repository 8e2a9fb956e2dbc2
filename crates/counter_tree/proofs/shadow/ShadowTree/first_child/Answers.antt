-- The children are lines of the tree.
use Rattle.std.proofs.Common.{arith}
use Rattle.counter_tree.proofs.ChipLemmas.{children-within, few_inner}
use Rattle.counter_tree.proofs.shadow.ShadowTree.first_child.Goals as goal

pub overflow_mul-result : goal.overflow_mul-result
overflow_mul-result c = omega (arith, few_inner c.args.self.now c.is_whole.ensures, c.requires)

pub overflow_add-result : goal.overflow_add-result
overflow_add-result c = omega (arith, few_inner c.args.self.now c.is_whole.ensures, c.requires)

pub returns-clause-within : goal.returns-clause-within
returns-clause-within c = omega (arith, children-within c.args.self.now c.args.x c.is_whole.ensures c.requires)

pub returns-clause-bound : goal.returns-clause-bound
returns-clause-bound c = omega (arith, few_inner c.args.self.now c.is_whole.ensures, c.requires)
