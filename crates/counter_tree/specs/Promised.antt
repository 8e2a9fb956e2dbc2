-- What fetching a node or a data line promises of what it is called with: a clause names the geometry, the board, the suite
-- and the watch, before and after.
use Rattle.std.specs.Prelude.{ℕ, Result}
use Rattle.pmem_base.specs.declared.geometry.Geo.{Geo}
use Rattle.pmem_base.specs.declared.lines.Line.{Line}
use Rattle.pmem_base.specs.Geo.{shape_of}
use Rattle.board.specs.Device.{Device}
use Rattle.board.specs.declared.device.Board.{Ghosts as BoardOf}
use Rattle.suite.specs.Setup.{Setup}
use Rattle.suite.specs.declared.Suite.{Ghosts as SuiteOf}
use Rattle.call_plan.specs.Plans.{ended}
use Rattle.call_plan.specs.Following.{Follows}
use Rattle.counter_tree.specs.declared.accepted.FetchFault.{FetchFault}
use Rattle.counter_tree.specs.declared.nodes.Node.{Node}
use Rattle.counter_tree.specs.declared.watch.Watch.{Ghosts as WatchOf}
use Rattle.counter_tree.specs.Accepted.{IsNodeFetched, IsLineFetched}
use Rattle.counter_tree.specs.Plans.{ReadParts, read_parts, node_plan, line_plan}

module _ {B S W : Type 0} (board : BoardOf B) (suite : SuiteOf S) (watch : WatchOf W) (geo : Geo)
    (b : B) (s : S) (w : W) (later_b : B) (later_s : S) (later_w : W) where
  abbrev setup : Setup
  setup = record { shape = shape_of geo; formulas = suite.formulas_of (suite.keys s) }

  abbrev device : Device
  device = board.device b

  abbrev later_device : Device
  later_device = board.device later_b

  abbrev parts : ReadParts
  parts = read_parts (watch.watched w) (suite.pads s) (suite.tags s)

  abbrev later_parts : ReadParts
  later_parts = read_parts (watch.watched later_w) (suite.pads later_s) (suite.tags later_s)

  -- node x, which has this version
  abbrev pub FetchesNode : ℕ → ℕ → Result Node FetchFault → Type 0
  FetchesNode x version answer =
      IsNodeFetched setup x version device later_device (watch.watched w) (watch.watched later_w) answer

  abbrev pub FollowsNode : ℕ → ℕ → Result Node FetchFault → Type 0
  FollowsNode x version answer = Follows (node_plan setup x version parts) device later_device (ended answer later_parts)

  -- the data line, which has this counter
  abbrev pub FetchesLine : ℕ → ℕ → Result Line FetchFault → Type 0
  FetchesLine at counter answer =
      IsLineFetched setup at counter device later_device (watch.watched w) (watch.watched later_w) answer

  abbrev pub FollowsLine : ℕ → ℕ → Result Line FetchFault → Type 0
  FollowsLine at counter answer = Follows (line_plan setup at counter parts) device later_device (ended answer later_parts)
