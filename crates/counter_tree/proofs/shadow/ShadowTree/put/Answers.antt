-- A slot's line goes in along its path.
use Rattle.std.proofs.Common.{rules}
use Rattle.bonsai_tree.specs.Paths.{path_with, root_with, lines_with}
use Rattle.counter_tree.specs.Shadow.{tree_with, tree_root_with}
use Rattle.counter_tree.proofs.shadow.ShadowTree.put.Goals as goal

pub returns-clause-lines : goal.returns-clause-lines
unfolding tree_with path_with lines_with
returns-clause-lines g c = search rules

pub returns-clause-root : goal.returns-clause-root
unfolding tree_root_with root_with
returns-clause-root g c = search rules
