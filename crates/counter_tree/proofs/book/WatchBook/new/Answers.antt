-- A new watch has its geometry's counts, zero nodes and zero lines.
use Rattle.std.proofs.Common.{replicate, ap, ◌∙◌}
use Rattle.counter_tree.proofs.Common.{None, shape_of, zero_node, ChipTree}
use Rattle.pmem_base.specs.Lines.{zero_line}
use Rattle.counter_tree.proofs.BookLemmas.{none-copied, new-counts, zero-nodes, zero-lines}
use Rattle.counter_tree.proofs.book.WatchBook.new.Goals as goal

pub invariant_of-result : goal.invariant_of-result
invariant_of-result g c =
    let zero_slots = c.in_ok-slots.ensures.items_if_clones_equal (λ y e. e) ∙ ap (replicate c.tree_slots.result) c.default.ensures in
    record {
      counts =
          new-counts (shape_of c.args.geo.now) c.tree_lines.result c.metas.result c.tree_slots.result c.in_ok-seals.seals.items c.in_ok-nodes.nodes.items c.in_ok-slots.slots.items
          None zero_node zero_line
          (c.in_ok-seals.ensures.items_if_clones_equal (none-copied _ (λ s e. e))) c.tree_lines.ensures.value
          (c.in_ok-nodes.ensures.items_if_clones_equal (λ y e. e)) c.metas.ensures.value
          zero_slots c.tree_slots.ensures.value;
      trees = record {
        seen_height = ap (λ (t : ChipTree). t.height) c.in_ok-new.ensures.made;
        kept_height = ap (λ (t : ChipTree). t.height) c.in_ok-new-2.ensures.made;
      };
      whole_nodes = zero-nodes c.metas.result c.in_ok-nodes.nodes.items (c.in_ok-nodes.ensures.items_if_clones_equal (λ y e. e));
      whole_slots = zero-lines c.tree_slots.result c.in_ok-slots.slots.items zero_slots;
    }
