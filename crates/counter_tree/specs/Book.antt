-- What a watch in memory keeps.
use Rattle.std.specs.Prelude.{ℕ, ◌≡◌, List, Option, None, length, replicate}
use Rattle.pmem_base.specs.declared.lines.Line.{Line}
use Rattle.pmem_base.specs.Lines.{zero_line}
use Rattle.pmem_base.specs.Layout.{meta_lines}
use Rattle.pmem_base.specs.Shape.{Shape}
use Rattle.suite.specs.Setup.{Setup}
use Rattle.counter_tree.specs.declared.nodes.Node.{Node}
use Rattle.counter_tree.specs.declared.watch.LineSeal.{LineSeal}
use Rattle.counter_tree.specs.Nodes.{zero_node}
use Rattle.counter_tree.specs.Layout.{tree_lines, tree_slots}
use Rattle.counter_tree.specs.Shadow.{shadow_height}
use Rattle.counter_tree.specs.Watch.{WatchState}

-- no seals, zero nodes, empty slots and no exhibit
abbrev pub new_watch : Setup → WatchState
new_watch setup =
    record {
      setup = setup;
      seals = replicate (tree_lines setup.shape) None;
      nodes = replicate (meta_lines setup.shape) zero_node;
      slots = replicate (tree_slots setup.shape) zero_line;
      exhibit = None;
    }

-- it is of its geometry
pub record IsBookOf (g : Shape) (seals : List (Option LineSeal)) (nodes : List Node) (slots : List Line) : Type 0 where
  pub seal_count : length seals ≡ tree_lines g
  pub node_count : length nodes ≡ meta_lines g
  pub slot_count : length slots ≡ tree_slots g

-- its two shadow trees have the height of the geometry's
pub record HasRoomForTrees (g : Shape) (seen kept : ℕ) : Type 0 where
  pub seen_height : seen ≡ shadow_height g
  pub kept_height : kept ≡ shadow_height g
