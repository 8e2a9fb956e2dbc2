-- The lists are equal up to where they first differ.
use Rattle.std.proofs.Common.{rules}
use Rattle.counter_tree.proofs.Common.{lines-equal}
use Rattle.counter_tree.proofs.DifferenceLemmas.{same-more}
use Rattle.counter_tree.proofs.differences.first_difference.Goals as goal

pub slots-preserved : goal.slots-preserved
slots-preserved c = search (rules, same-more)

pub returns-clause-none : goal.returns-clause-none
returns-clause-none c = search (rules, lines-equal)
