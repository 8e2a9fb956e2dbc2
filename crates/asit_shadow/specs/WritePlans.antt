-- What a write does of the board, as a plan.
use Rattle.std.specs.Prelude.{ℕ, zero, suc, ◌-◌, ◌*◌, ◌%◌, ◌^◌, ◌==◌, List, [], ◌∷◌, ◌++◌, length, slice_set, Option, Some, if◌then◌else◌}
use Rattle.std.specs.Option.{unwrap_or}
use Rattle.pmem_base.specs.declared.lines.Line.{Line}
use Rattle.pmem_base.specs.declared.registers.Regs.{Regs}
use Rattle.pmem_base.specs.Counts.{risen, risen_times}
use Rattle.pmem_base.specs.Lines.{put_lines}
use Rattle.pmem_base.specs.Shape.{Shape}
use Rattle.bonsai_tree.specs.Positions.{child_slot}
use Rattle.suite.specs.Formulas.{Formulas, cipher_of}
use Rattle.suite.specs.Setup.{Setup}
use Rattle.call_plan.specs.Plans.{Plan, stop, bind, mapped}
use Rattle.commit_regs.specs.Plans.{group_plan}
use Rattle.counter_tree.specs.declared.nodes.Node.{Node}
use Rattle.counter_tree.specs.declared.watch.LineSeal.{LineSeal}
use Rattle.counter_tree.specs.Nodes.{counter, total, version_counter, zero_node}
use Rattle.counter_tree.specs.Shadow.{ChipTree, tree_with, tree_root_with}
use Rattle.counter_tree.specs.Slots.{slot_of, slot_line}
use Rattle.counter_tree.specs.Trees.{raised}
use Rattle.counter_tree.specs.Watch.{WatchState}
use Rattle.asit_shadow.specs.declared.cache.CachedNode.{CachedNode}
use Rattle.asit_shadow.specs.declared.fault.TreeFault.{TreeFault}
use Rattle.asit_shadow.specs.declared.fault.TreeFault.TheVariants as Fail
use Rattle.asit_shadow.specs.State.{TreeState, cache_at, top_node}
use Rattle.asit_shadow.specs.Paths.{path_node}
use Rattle.asit_shadow.specs.Writing.{set_pairs, position_below, pair_at, slot_entries, dirty_entries, armed_lines}
use Rattle.asit_shadow.specs.Plans.{TreeChip, tree_chip_of, node_in, fetch_plan, called_plan}

-- ---- the path's nodes with their new counters

-- a node with one counter more; one whose version is the greatest number stays as it is
abbrev pub raised_node : Node → ℕ → Node
raised_node node slot = if total node == 2 ^ 64 - 1 then node else raised node slot

-- node x as its slot holds it, and zeros if another one stands there
abbrev pub cached_node : Shape → List (Option CachedNode) → ℕ → Node
cached_node g cache x = unwrap_or (node_in (cache_at cache (slot_of g x)) x) zero_node

-- the node of a level, with one more in the counter of the position below it
abbrev pub raised_pair : Shape → List (Option CachedNode) → ℕ → ℕ → ℕ × Node
raised_pair g cache a level =
    (path_node g a level, raised_node (cached_node g cache (path_node g a level)) (child_slot (position_below g a level)))

-- the first n levels, from the top down
unfoldable pub raised_path : Shape → List (Option CachedNode) → ℕ → ℕ → List (ℕ × Node)
raised_path g cache a zero = []
raised_path g cache a (suc n) = raised_path g cache a n ++ raised_pair g cache a n ∷ []

-- ---- what is armed

-- the seal of a plain line under a counter
abbrev pub seal_of : Formulas → ℕ → ℕ → Line → LineSeal
seal_of f a count plain =
    record {
      counter = count;
      cipher = cipher_of f a (version_counter count) plain;
      tag = f.tag_of a (version_counter count) (cipher_of f a (version_counter count) plain);
    }

-- the shadow tree with one node's slot line, and its root
abbrev pub named_one : Formulas → Shape → ℕ × Node → ChipTree × List ℕ → ChipTree × List ℕ
named_one f g pair at = (
  record { height = at.0.height; lines = tree_with f at.0.height at.0.lines (slot_of g pair.0) (slot_line pair.0 pair.1) },
  tree_root_with f at.0.height at.0.lines (slot_of g pair.0) (slot_line pair.0 pair.1),
)

-- the same with each of these nodes', in order
unfoldable pub named_all : Formulas → Shape → List (ℕ × Node) → ChipTree × List ℕ → ChipTree × List ℕ
named_all f g [] at = at
named_all f g (pair ∷ later) at = named_all f g later (named_one f g pair at)

-- the registers that arm a write, with a root
abbrev pub write_armed : Shape → ℕ → LineSeal → List (ℕ × Node) → List ℕ → Regs → Regs
write_armed g a seal pairs root regs = record regs { root = root; group = record { items = armed_lines g a seal pairs } }

-- the watch after a write was reported to it
abbrev pub told_write : Shape → ℕ → LineSeal → List (ℕ × Node) → WatchState → WatchState
told_write g a seal pairs watch =
    record watch {
      seals = slice_set watch.seals a (Some seal);
      nodes = set_pairs pairs watch.nodes;
      slots = put_lines (slot_entries g (λ i. i) pairs) watch.slots;
    }

-- the engine with its path's nodes dirty in their slots, and with another shadow tree
abbrev pub with_tree : TreeState → ChipTree → TreeState
with_tree engine tree = record engine { tree = tree }

abbrev pub with_stored : List (ℕ × Node) → TreeState → TreeState
with_stored pairs engine = record engine { cache = set_pairs (dirty_entries engine.shape pairs) engine.cache }

-- ---- a write

-- the chip as the group is armed: a pad and a tag for the line, and a path of the shadow tree for each node
abbrev pub named_chip : Setup → List (ℕ × Node) → Regs → TreeChip → TreeChip
named_chip setup pairs regs chip =
    tree_chip_of (with_tree chip.engine (named_all setup.formulas setup.shape pairs (chip.engine.tree, regs.root)).0) chip.watch
    (risen chip.pads) (risen chip.tags) (risen_times (length pairs * suc chip.engine.tree.height) chip.digests)

-- and once it is: the write is reported to the watch, and the path is stored
abbrev pub stored_chip : Shape → ℕ → LineSeal → List (ℕ × Node) → TreeChip → TreeChip
stored_chip g a seal pairs chip =
    tree_chip_of (with_stored pairs chip.engine) (told_write g a seal pairs chip.watch) chip.pads chip.tags chip.digests

-- the group of a seal and of the path's new nodes is armed and finished; the answer is the seal's counter
unfoldable pub seal_plan : Setup → ℕ → LineSeal → List (ℕ × Node) → Regs → TreeChip → Plan (TreeChip × TreeFault) (TreeChip × ℕ)
seal_plan setup a seal pairs regs chip =
    mapped (λ left. (left.0, Fail.Cut)) (λ end. (end.0, seal.counter))
    (group_plan
    (write_armed setup.shape a seal pairs (named_all setup.formulas setup.shape pairs (chip.engine.tree, regs.root)).1 regs)
    (named_chip setup pairs regs chip) (stored_chip setup.shape a seal pairs (named_chip setup pairs regs chip)))

-- the line is sealed under the counter that its path's new nodes have for it
abbrev pub seal_under_plan : Setup → ℕ → Line → List (ℕ × Node) → Regs → TreeChip → Plan (TreeChip × TreeFault) (TreeChip × ℕ)
seal_under_plan setup a plain pairs regs chip =
    seal_plan setup a (seal_of setup.formulas a (counter (pair_at pairs setup.shape.levels).1 (a % 4)) plain) pairs regs chip

abbrev pub raise_plan : Setup → ℕ → Line → Regs → TreeChip × Node → Plan (TreeChip × TreeFault) (TreeChip × ℕ)
raise_plan setup a plain regs fetched =
    seal_under_plan setup a plain (raised_path setup.shape fetched.0.engine.cache a (suc setup.shape.levels)) regs fetched.0

-- spent, or the path is fetched, and the line is sealed
unfoldable pub write_line_plan : Setup → Regs → ℕ → Line → TreeChip → Plan (TreeChip × TreeFault) (TreeChip × ℕ)
write_line_plan setup regs a plain chip =
    if total (top_node chip.engine.cache) == 2 ^ 64 - 1 then stop (chip, Fail.Spent)
    else bind (fetch_plan setup a chip) (raise_plan setup a plain regs)

abbrev pub write_plan : Setup → Regs → ℕ → Line → TreeChip → Plan (TreeChip × TreeFault) (TreeChip × ℕ)
write_plan setup regs a plain chip = called_plan chip (write_line_plan setup regs a plain chip)
