use Rattle.std.proofs.Common.{◌≡◌, ◌*◌, length, take}
use Rattle.std.specs.List.{concat}
use Rattle.bonsai_tree.proofs.nodes.node_of.Given as goal

abbrev pub invariant-loop-slot : goal.invariant-loop-slot
invariant-loop-slot l = record {
  long : length l.node.0 ≡ 64;
  done : take (16 * l.slot) l.node.0 ≡ concat (take l.slot l.digests);
}
