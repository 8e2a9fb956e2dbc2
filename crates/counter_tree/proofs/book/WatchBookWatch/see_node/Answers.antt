-- A position of the tree is below 5461.
use Rattle.std.proofs.Common.{arith}
use Rattle.counter_tree.proofs.Common.{shape_of, meta_lines-most}
use Rattle.counter_tree.proofs.book.WatchBookWatch.see_node.Goals as goal

pub forged_node-requires : goal.forged_node-requires
forged_node-requires g c =
    omega (arith, meta_lines-most (shape_of c.args.self.now.geo) c.layout_is_one_to_one.ensures.ranges.at_most_six_levels, c.requires, c.args.self.now.counts.node_count)
