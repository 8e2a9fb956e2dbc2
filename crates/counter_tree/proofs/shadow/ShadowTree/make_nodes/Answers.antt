-- One node more.
use Rattle.std.proofs.Common.{◌-◌, ◌*◌, List, length, length-set, sym, ap, ◌∙◌, arith, rules}
use Rattle.counter_tree.proofs.Common.{Line, risen_times, level_start, line_at, line_at-set_other, node_over, level_start-suc, risen_times-add}
use Rattle.counter_tree.proofs.ChipLemmas.{nodes-more}
use Rattle.counter_tree.proofs.shadow.ShadowTree.make_nodes.Goals as goal

pub nodes-preserved : goal.nodes-preserved
nodes-preserved g c =
    let inv = c.nodes.invariant in
    let x = c.first_of_level-nodes.result - 1 - c.nodes.made in
    let keys = inv.keys in
    record {
      height = c.set_line.ensures.height ∙ inv.height;
      count = ap (λ (ls : List Line). length ls) c.set_line.ensures.lines ∙ (length-set c.nodes.self.lines x c.node-node.result ∙ inv.count);
      made_so_far =
          λ y from within.
          nodes-more (g.S.Suite.formulas_of (g.S.Suite.keys c.args.suite.now)) c.nodes.self.lines c.set_line.new.self.lines c.first_of_level-nodes.result x c.node-node.result
          (omega (arith, inv.count, c.is_whole.ensures.count, level_start-suc c.args.self.now.height, c.first_of_level-nodes.ensures.value, ap level_start c.height.ensures, c.nodes-test.true))
          (c.node-node.ensures.node ∙ ap (λ k. node_over (g.S.Suite.formulas_of k) x (line_at c.nodes.self.lines)) keys)
          c.set_line.ensures.lines
          (λ z low in_nodes. inv.made_so_far z (omega (arith, low)) in_nodes)
          y (omega (arith, from)) within;
      leaves = search (rules, line_at-set_other);
      digests =
          c.node-node.ensures.digests ∙ (ap (risen_times 4) inv.digests
          ∙ (sym (risen_times-add (4 * c.nodes.made) 4 (g.S.Suite.digests c.args.suite.now))
          ∙ ap (λ n. risen_times n (g.S.Suite.digests c.args.suite.now)) (omega arith)));
      keys = c.node-node.ensures.keys ∙ keys;
      pads = c.node-node.ensures.pads ∙ inv.pads;
      tags = c.node-node.ensures.tags ∙ inv.tags;
    }
