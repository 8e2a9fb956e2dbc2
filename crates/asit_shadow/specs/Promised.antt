-- What the functions of the engine promise of what they are called with: each relation, and that the board followed
-- the function's plan. A clause names the engine, the board, the suite and the watch, before and after.
use Rattle.std.specs.Prelude.{ℕ, ◌≢◌, ◌+◌, false, List, Option, Result, Err}
use Rattle.pmem_base.specs.declared.faults.Cut.{Cut}
use Rattle.pmem_base.specs.declared.geometry.Geo.{Geo}
use Rattle.pmem_base.specs.declared.lines.Line.{Line}
use Rattle.pmem_base.specs.Geo.{shape_of}
use Rattle.pmem_base.specs.Layout.{meta_lines}
use Rattle.board.specs.Device.{Device}
use Rattle.board.specs.declared.device.Board.{Ghosts as BoardOf}
use Rattle.suite.specs.Setup.{Setup}
use Rattle.suite.specs.declared.Suite.{Ghosts as SuiteOf}
use Rattle.call_plan.specs.Plans.{ended, lifted}
use Rattle.call_plan.specs.Following.{Follows}
use Rattle.counter_tree.specs.declared.nodes.Node.{Node}
use Rattle.counter_tree.specs.declared.watch.Watch.{Ghosts as WatchOf}
use Rattle.counter_tree.specs.Layout.{tree_lines}
use Rattle.counter_tree.specs.Plans.{node_plan}
use Rattle.counter_tree.specs.Shadow.{ChipTree, shadow_digests}
use Rattle.call_effects.specs.declared.recovery.Work.{Work}
use Rattle.call_effects.specs.SuiteStates.{SuiteRise, suite_at, setup_with}
use Rattle.asit_shadow.specs.declared.cache.CachedNode.{CachedNode}
use Rattle.asit_shadow.specs.declared.fault.TreeFault.{TreeFault}
use Rattle.asit_shadow.specs.declared.recovery.TreeRec.{TreeRec}
use Rattle.asit_shadow.specs.declared.recovery.TreeRec.TheVariants as Stop
use Rattle.asit_shadow.specs.State.{TreeState, cache_at}
use Rattle.asit_shadow.specs.Parts.{TreeEngineParts, tree_parts_at, tree_setup_at}
use Rattle.asit_shadow.specs.Calls.{IsLineRead, HasReadTreeLine, HasWrittenTreeLine}
use Rattle.asit_shadow.specs.Fetching.{HasFetchedNode, HasNoNode, IsNodePathFetched, IsFetchStopped}
use Rattle.asit_shadow.specs.Writing.{HasWrittenUp}
use Rattle.asit_shadow.specs.Recovering.{Rest, rest_at, HasTreeRecovered, FillsRoom}
use Rattle.asit_shadow.specs.Formatting.{HasTreeFormatted}
use Rattle.asit_shadow.specs.Plans.{TreeChip, tree_chip_at, read_parts_at, with_read, fault_of_node, room_plan, level_plan, fetch_plan, read_line_plan, read_plan}
use Rattle.asit_shadow.specs.WritePlans.{write_line_plan, write_plan}
use Rattle.asit_shadow.specs.RecoverPlans.{RecoverParts, recover_parts_at, recovery_work, fill_plan, filled_end, tree_recover_plan}

module _ {B S W : Type 0} (board : BoardOf B) (suite : SuiteOf S) (watch : WatchOf W)
    (engine : TreeState) (b : B) (s : S) (w : W) (later_engine : TreeState) (later_b : B) (later_s : S) (later_w : W) where
  abbrev setup : Setup
  setup = tree_setup_at suite engine s

  abbrev old : TreeEngineParts
  old = tree_parts_at board watch engine b w

  abbrev new : TreeEngineParts
  new = tree_parts_at board watch later_engine later_b later_w

  abbrev device : Device
  device = board.device b

  abbrev later_device : Device
  later_device = board.device later_b

  abbrev chip : TreeChip
  chip = tree_chip_at suite watch engine s w

  abbrev later_chip : TreeChip
  later_chip = tree_chip_at suite watch later_engine later_s later_w

  -- ---- the relations

  abbrev pub ReadsLine : ℕ → Result Line TreeFault → Type 0
  ReadsLine at answer = HasReadTreeLine setup at old new answer

  abbrev pub WritesLine : ℕ → Line → Result ℕ TreeFault → Type 0
  WritesLine at line answer = HasWrittenTreeLine setup at line old new answer

  -- of an engine that isn't down
  abbrev pub ReadsUp : ℕ → Result Line TreeFault → Type 0
  ReadsUp at answer = IsLineRead setup at old new answer

  abbrev pub WritesUp : ℕ → Line → Result ℕ TreeFault → Type 0
  WritesUp at line answer = HasWrittenUp setup at line old new answer

  abbrev pub FetchesPath : ℕ → Node → Type 0
  FetchesPath at = IsNodePathFetched setup at old new

  abbrev pub StopsFetch : ℕ → TreeFault → Type 0
  StopsFetch at = IsFetchStopped setup at old new

  abbrev pub FetchesNode : ℕ → ℕ → Node → Type 0
  FetchesNode x version = HasFetchedNode setup x version old new

  abbrev pub MissesNode : ℕ → ℕ → TreeFault → Type 0
  MissesNode x version = HasNoNode setup x version old new

  -- ---- the plans

  abbrev pub FollowsRead : ℕ → Result Line TreeFault → Type 0
  FollowsRead at answer = Follows (read_plan setup at chip) device later_device (ended answer later_chip)

  abbrev pub FollowsReadUp : ℕ → Result Line TreeFault → Type 0
  FollowsReadUp at answer = Follows (read_line_plan setup at chip) device later_device (ended answer later_chip)

  abbrev pub FollowsWrite : ℕ → Line → Result ℕ TreeFault → Type 0
  FollowsWrite at line answer =
      Follows (write_plan setup device.regs at line chip) device later_device (ended answer later_chip)

  abbrev pub FollowsWriteUp : ℕ → Line → Result ℕ TreeFault → Type 0
  FollowsWriteUp at line answer =
      Follows (write_line_plan setup device.regs at line chip) device later_device (ended answer later_chip)

  abbrev pub FollowsFetch : ℕ → Result Node TreeFault → Type 0
  FollowsFetch at answer = Follows (fetch_plan setup at chip) device later_device (ended answer later_chip)

  abbrev pub FollowsLevel : ℕ → ℕ → Result Node TreeFault → Type 0
  FollowsLevel x version answer =
      Follows (level_plan setup x version chip) device later_device (ended answer later_chip)

-- of a slot whose node gives way; the suite's tags go on
module _ {B S : Type 0} (board : BoardOf B) (suite : SuiteOf S) (engine : TreeState) (b : B) (s : S) (later_b : B) (later_s : S) where
  abbrev pub FollowsRoom : ℕ → Result (Unit {0}) Cut → Type 0
  FollowsRoom i answer =
      Follows (room_plan (tree_setup_at suite engine s) (cache_at engine.cache i) (suite.tags s)) (board.device b)
      (board.device later_b) (ended answer (suite.tags later_s))

-- if there is no engine: a read of a node, recovery, formatting
module _ {B S W : Type 0} (board : BoardOf B) (suite : SuiteOf S) (watch : WatchOf W) (geo : Geo) (b : B) (s : S) (w : W)
    (later_b : B) (later_s : S) (later_w : W) where
  abbrev of_geo : Setup
  of_geo = setup_with suite geo s

  abbrev rest : Rest
  rest = rest_at board watch b w

  abbrev later_rest : Rest
  later_rest = rest_at board watch later_b later_w

  abbrev at_start : RecoverParts
  at_start = recover_parts_at suite watch s w

  abbrev at_end : RecoverParts
  at_end = recover_parts_at suite watch later_s later_w

  -- whatever chip the read is a part of
  abbrev pub FollowsTaken : ℕ → ℕ → Result Node TreeFault → Type 0
  FollowsTaken x version answer =
      (chip : TreeChip)
      → Follows (lifted (with_read chip) (fault_of_node x) (node_plan of_geo x version (read_parts_at suite watch s w)))
      (board.device b) (board.device later_b) (ended answer (with_read chip (read_parts_at suite watch later_s later_w)))

  abbrev pub Recovers : Result (TreeState × Work) TreeRec → Type 0
  Recovers answer = HasTreeRecovered of_geo rest later_rest (suite.digests s) (suite.digests later_s) answer

  -- every answer except running out of memory
  abbrev pub FollowsRecovery : Result (TreeState × Work) TreeRec → Type 0
  FollowsRecovery answer =
      answer ≢ Err Stop.Memory
      → Follows (tree_recover_plan of_geo (board.device b).regs at_start) (board.device b) (board.device later_b)
      (ended answer at_end)

  -- into a cache and a shadow tree
  abbrev pub FillsTaken : List (Option CachedNode) → ChipTree → Result (Unit {0}) TreeRec → Type 0
  FillsTaken cache tree answer =
      FillsRoom of_geo rest later_rest (suite.digests s) (suite.digests later_s) cache tree answer

  abbrev pub FollowsFill : List Line → List (Option CachedNode) → ChipTree → Result (Unit {0}) TreeRec → Type 0
  FollowsFill slots cache tree answer =
      Follows (fill_plan of_geo (board.device b).regs slots at_start) (board.device b) (board.device later_b)
      (filled_end answer at_end (record { shape = shape_of geo; cache = cache; tree = tree; down = false })
      (recovery_work (shape_of geo)))

  abbrev pub Formats : TreeState → Type 0
  Formats = HasTreeFormatted of_geo rest later_rest

-- formatting makes a pad for each data line, a tag for each line that has one, and the digests of a shadow tree
module _ {S : Type 0} (suite : SuiteOf S) (geo : Geo) (s later_s : S) where
  abbrev pub CountsFormat : Type 0
  CountsFormat =
      SuiteRise (tree_lines (shape_of geo)) (tree_lines (shape_of geo) + meta_lines (shape_of geo))
      (shadow_digests (shape_of geo)) (suite_at suite s) (suite_at suite later_s)
