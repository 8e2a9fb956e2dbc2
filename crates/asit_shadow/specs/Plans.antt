-- What the engine's calls do of the board, as plans: functions of the state next to it, and of the registers.
use Rattle.std.specs.Prelude.{ℕ, suc, ◌%◌, ◌==◌, ◌||◌, not, false, slice_set, Option, Some, None, if◌then◌else◌}
use Rattle.pmem_base.specs.declared.faults.Cut.{Cut}
use Rattle.pmem_base.specs.declared.lines.Line.{Line}
use Rattle.pmem_base.specs.Counts.{risen}
use Rattle.suite.specs.Setup.{Setup}
use Rattle.suite.specs.declared.Suite.{Ghosts as SuiteOf}
use Rattle.bonsai_tree.specs.Positions.{child_slot}
use Rattle.call_plan.specs.Plans.{Plan, done, stop, write, bind, mapped, lifted, repeated, the_cut}
use Rattle.call_effects.specs.Outcomes.{is_going}
use Rattle.counter_tree.specs.declared.nodes.Node.{Node}
use Rattle.counter_tree.specs.declared.accepted.FetchFault.{FetchFault}
use Rattle.counter_tree.specs.declared.accepted.FetchFault.TheVariants as Missed
use Rattle.counter_tree.specs.Layout.{line_of_node}
use Rattle.counter_tree.specs.Nodes.{counter, node_line}
use Rattle.counter_tree.specs.Plans.{ReadParts, read_parts, node_plan, line_plan}
use Rattle.counter_tree.specs.Slots.{slot_of}
use Rattle.counter_tree.specs.Watch.{WatchState}
use Rattle.counter_tree.specs.declared.watch.Watch.{Ghosts as WatchOf}
use Rattle.asit_shadow.specs.declared.cache.CachedNode.{CachedNode}
use Rattle.asit_shadow.specs.declared.fault.TreeFault.{TreeFault}
use Rattle.asit_shadow.specs.declared.fault.TreeFault.TheVariants as Fail
use Rattle.asit_shadow.specs.State.{TreeState, cache_at, top_node}
use Rattle.asit_shadow.specs.Calls.{outcome_of_tree_fault}
use Rattle.asit_shadow.specs.Paths.{path_node}

-- ---- the state next to the board

-- the engine, the watch, and the suite's counts of pads, tags and digests
pub record TreeChip : Type 0 where
  pub engine : TreeState
  pub watch : WatchState
  pub pads : ℕ
  pub tags : ℕ
  pub digests : ℕ

abbrev pub tree_chip_of : TreeState → WatchState → ℕ → ℕ → ℕ → TreeChip
tree_chip_of engine watch pads tags digests =
    record { engine = engine; watch = watch; pads = pads; tags = tags; digests = digests }

-- as a call finds it at a moment
module _ {S W : Type 0} (suite : SuiteOf S) (watch : WatchOf W) where
  abbrev pub tree_chip_at : TreeState → S → W → TreeChip
  tree_chip_at engine s w = tree_chip_of engine (watch.watched w) (suite.pads s) (suite.tags s) (suite.digests s)

  abbrev pub read_parts_at : S → W → ReadParts
  read_parts_at s w = read_parts (watch.watched w) (suite.pads s) (suite.tags s)

abbrev pub with_engine : TreeChip → TreeState → TreeChip
with_engine chip engine = tree_chip_of engine chip.watch chip.pads chip.tags chip.digests

abbrev pub with_tags : TreeChip → ℕ → TreeChip
with_tags chip tags = tree_chip_of chip.engine chip.watch chip.pads tags chip.digests

-- what a read of a node or of a data line works on
abbrev pub read_parts_of : TreeChip → ReadParts
read_parts_of chip = read_parts chip.watch chip.pads chip.tags

abbrev pub with_read : TreeChip → ReadParts → TreeChip
with_read chip parts = tree_chip_of chip.engine parts.watch parts.pads parts.tags chip.digests

-- why nothing was accepted, as a fault of a call
abbrev pub fault_of_node : ℕ → FetchFault → TreeFault
fault_of_node x Missed.Cut = Fail.Cut
fault_of_node x Missed.Refused = Fail.Node x
fault_of_node x Missed.Shown = Fail.Shown

abbrev pub fault_of_line : ℕ → FetchFault → TreeFault
fault_of_line a Missed.Cut = Fail.Cut
fault_of_line a Missed.Refused = Fail.Tag a
fault_of_line a Missed.Shown = Fail.Shown

-- ---- a node

-- the node of a slot is written to its place with its tag, if it is dirty
unfoldable pub room_plan : Setup → Option CachedNode → ℕ → Plan (ℕ × Cut) (ℕ × Unit {0})
room_plan setup None tags = done (tags, tt)
room_plan setup (Some held) tags =
    if held.dirty then
    write (risen tags, the_cut) (line_of_node setup.shape held.x) (node_line setup.formulas held.x held.node)
    (done (risen tags, tt))
    else done (tags, tt)

-- the engine with node x clean in its slot
abbrev pub with_clean : TreeState → ℕ → Node → TreeState
with_clean engine x node =
    record engine { cache = slice_set engine.cache (slot_of engine.shape x) (Some (record { x = x; node = node; dirty = false })) }

-- room is made, and the node that was read takes its slot
unfoldable pub place_plan : Setup → ℕ → TreeChip × Node → Plan (TreeChip × TreeFault) (TreeChip × Node)
place_plan setup x at =
    mapped (λ left. (with_tags at.0 left.0, Fail.Cut))
    (λ end. (with_engine (with_tags at.0 end.0) (with_clean at.0.engine x at.1), at.1))
    (room_plan setup (cache_at at.0.engine.cache (slot_of at.0.engine.shape x)) at.0.tags)

-- node x, if a slot holds it
abbrev pub node_in : Option CachedNode → ℕ → Option Node
node_in None x = None
node_in (Some held) x = if held.x == x then Some held.node else None

-- a cached node is used; the line of another one is read under its version, and it is placed
unfoldable pub level_of : Setup → ℕ → ℕ → TreeChip → Option Node → Plan (TreeChip × TreeFault) (TreeChip × Node)
level_of setup x version chip None =
    bind (lifted (with_read chip) (fault_of_node x) (node_plan setup x version (read_parts_of chip))) (place_plan setup x)
level_of setup x version chip (Some node) = done (chip, node)

abbrev pub level_plan : Setup → ℕ → ℕ → TreeChip → Plan (TreeChip × TreeFault) (TreeChip × Node)
level_plan setup x version chip =
    level_of setup x version chip (node_in (cache_at chip.engine.cache (slot_of chip.engine.shape x)) x)

-- ---- the path of data line a

-- the next node of the path, under the version that the one above has for it
abbrev pub fetch_turn : Setup → ℕ → ℕ → TreeChip × Node → Plan (TreeChip × TreeFault) (TreeChip × Node)
fetch_turn setup a level before =
    level_plan setup (path_node setup.shape a (suc level)) (counter before.1 (child_slot (path_node setup.shape a (suc level))))
    before.0

-- the whole path, from the top down; the answer is its last node
abbrev pub fetch_plan : Setup → ℕ → TreeChip → Plan (TreeChip × TreeFault) (TreeChip × Node)
fetch_plan setup a chip = repeated (fetch_turn setup a) 0 setup.shape.levels (chip, top_node chip.engine.cache)

-- ---- a call

-- the engine after a fault: down after a cut and an exhibit
abbrev pub ended_engine : TreeState → TreeFault → TreeState
ended_engine engine fault = record engine { down = engine.down || not (is_going (outcome_of_tree_fault fault)) }

-- an engine that is down does nothing, and one that a cut or an exhibit stops is down
unfoldable pub called_plan : {A : Type 0} → TreeChip → Plan (TreeChip × TreeFault) (TreeChip × A) → Plan (TreeChip × TreeFault) (TreeChip × A)
called_plan chip plan =
    if chip.engine.down then stop (chip, Fail.Down)
    else mapped (λ left. (with_engine left.0 (ended_engine left.0.engine left.1), left.1)) (λ end. end) plan

-- ---- a read

-- the line is read under the counter that the path's last node has for it
abbrev pub data_plan : Setup → ℕ → TreeChip × Node → Plan (TreeChip × TreeFault) (TreeChip × Line)
data_plan setup a fetched =
    lifted (with_read fetched.0) (fault_of_line a)
    (line_plan setup a (counter fetched.1 (a % 4)) (read_parts_of fetched.0))

-- the path is fetched, and the line is read
unfoldable pub read_line_plan : Setup → ℕ → TreeChip → Plan (TreeChip × TreeFault) (TreeChip × Line)
read_line_plan setup a chip = bind (fetch_plan setup a chip) (data_plan setup a)

abbrev pub read_plan : Setup → ℕ → TreeChip → Plan (TreeChip × TreeFault) (TreeChip × Line)
read_plan setup a chip = called_plan chip (read_line_plan setup a chip)
