-- A node's position is below 5461.
use Rattle.std.proofs.Common.{arith}
use Rattle.counter_tree.proofs.Common.{shape_of, meta_lines-most}
use Rattle.counter_tree.proofs.slots.slot_of.Goals as goal

pub level-requires : goal.level-requires
level-requires c =
    omega (arith, meta_lines-most (shape_of c.args.geo.now) c.layout_is_one_to_one.ensures.ranges.at_most_six_levels, c.requires)
