-- The other slots keep their digests.
use Rattle.std.proofs.Common.{rules}
use Rattle.bonsai_tree.proofs.Slots.{child_digest-with_other}
use Rattle.bonsai_tree.proofs.nodes.set_child.Goals as goal

pub returns-clause-others : goal.returns-clause-others
returns-clause-others c other below apart = search (rules, child_digest-with_other)
