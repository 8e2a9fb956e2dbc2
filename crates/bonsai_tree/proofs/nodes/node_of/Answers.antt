-- Each turn copies one digest in behind the others.
use Rattle.std.proofs.Common.{rules}
use Rattle.bonsai_tree.proofs.Slots.{digests_copied}
use Rattle.bonsai_tree.proofs.nodes.node_of.Goals as goal

pub loop-slot-preserved : goal.loop-slot-preserved
loop-slot-preserved c = search (rules, digests_copied)
