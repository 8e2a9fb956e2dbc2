-- One slot holds another node.
use Rattle.std.proofs.Common.{◌<◌, Some, length, ◌∙◌, arith, rules}
use Rattle.asit_shadow.proofs.Common.{length-set, shape_of, tree_slots, IsHeldNode}
use Rattle.asit_shadow.proofs.EngineLemmas.{held-set}
use Rattle.asit_shadow.proofs.engine.TreeEngine.hold.Goals as goal

pub invariant_of-self : goal.invariant_of-self
invariant_of-self c =
    let slot : c.args.i < tree_slots (shape_of c.self.inside.geo) = search rules in
    let good : IsHeldNode (shape_of c.self.inside.geo) c.args.held = search rules in
    let room : c.args.i < length c.self.inside.cache.items = omega (arith, c.self.invariant.slot_count, slot) in
    record {
      slot_count = length-set c.self.inside.cache.items c.args.i (Some c.args.held) ∙ c.self.invariant.slot_count;
      each_held = held-set (shape_of c.self.inside.geo) c.self.inside.cache.items c.args.i c.args.held room good c.self.invariant.each_held;
      tree_whole = c.self.invariant.tree_whole;
      tree_height = c.self.invariant.tree_height;
    }
