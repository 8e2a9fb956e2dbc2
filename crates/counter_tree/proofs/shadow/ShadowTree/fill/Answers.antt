-- Leaves, nodes and the top's digest.
use Rattle.std.proofs.lemmas.Grind.{common_steps}
use Rattle.std.proofs.Common.{arith, rules}
use Rattle.counter_tree.proofs.Common.{level_start-suc}
use Rattle.counter_tree.proofs.ChipLemmas.{filled}
use Rattle.counter_tree.proofs.ChipTree.{chip-root}
use Rattle.counter_tree.proofs.shadow.ShadowTree.fill.Goals as goal

pub line-requires : goal.line-requires
line-requires g c = omega (arith, c.is_whole.ensures.count, level_start-suc c.make_nodes.new.self.height)

pub returns-clause-tree : goal.returns-clause-tree
returns-clause-tree g c = search (rules, filled)

pub returns-clause-root : goal.returns-clause-root
returns-clause-root g c = search (rules, chip-root, filled)

pub returns-clause-digests : goal.returns-clause-digests
returns-clause-digests g c = grind (arith, common_steps, level_start-suc)
