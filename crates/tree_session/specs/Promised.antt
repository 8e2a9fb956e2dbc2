-- What a call promises of what it is called with: the engine's relation, and that the device followed the plan. A clause
-- names what it is called with, and what it leaves.
use Rattle.std.specs.Prelude.{ℕ, ◌≡◌, ◌≢◌, Result, Err, IfOk}
use Rattle.pmem_base.specs.declared.geometry.Geo.{Geo}
use Rattle.pmem_base.specs.declared.lines.Line.{Line}
use Rattle.pmem_base.specs.Geo.{shape_of}
use Rattle.board.specs.declared.memory.MemBoard.{MemBoard}
use Rattle.board.specs.Device.{Device}
use Rattle.suite.specs.Setup.{Setup}
use Rattle.suite.specs.declared.Suite.{Ghosts as SuiteOf}
use Rattle.watched_board.specs.declared.taken.Taken.{Taken}
use Rattle.access_log.specs.Traced.{as_seen}
use Rattle.watched_call.specs.Seen.{as_found}
use Rattle.call_plan.specs.Plans.{ended}
use Rattle.call_plan.specs.Following.{Follows}
use Rattle.counter_tree.specs.declared.watch.Watch.{Ghosts as WatchOf}
use Rattle.call_effects.specs.declared.recovery.Work.{Work}
use Rattle.call_effects.specs.SuiteStates.{setup_with}
use Rattle.asit_shadow.specs.declared.fault.TreeFault.{TreeFault}
use Rattle.asit_shadow.specs.declared.recovery.TreeRec.{TreeRec}
use Rattle.asit_shadow.specs.declared.recovery.TreeRec.TheVariants as Stop
use Rattle.asit_shadow.specs.State.{TreeState}
use Rattle.asit_shadow.specs.Parts.{TreeEngineParts, IsTreeUsable, tree_parts_of, tree_setup_at}
use Rattle.asit_shadow.specs.Calls.{HasReadTreeLine, HasWrittenTreeLine}
use Rattle.asit_shadow.specs.Recovering.{HasTreeRecovered, IsRestUsable, Rest, rest_of}
use Rattle.asit_shadow.specs.Formatting.{HasTreeFormatted}
use Rattle.asit_shadow.specs.Plans.{TreeChip, tree_chip_at, read_plan}
use Rattle.asit_shadow.specs.WritePlans.{write_plan}
use Rattle.asit_shadow.specs.RecoverPlans.{recover_parts_at, tree_recover_plan}
use Rattle.tree_session.specs.During.{rest_now}

-- a call of the engine
module _ {S W : Type 0} (suite : SuiteOf S) (watch : WatchOf W) (engine : TreeState) (device : Device) (s : S) (w : W)
    (later_engine : TreeState) (later_device : Device) (later_s : S) (later_w : W) where
  abbrev setup : Setup
  setup = tree_setup_at suite engine s

  abbrev old : TreeEngineParts
  old = tree_parts_of engine device (watch.watched w)

  abbrev new : TreeEngineParts
  new = tree_parts_of later_engine later_device (watch.watched later_w)

  abbrev chip : TreeChip
  chip = tree_chip_at suite watch engine s w

  abbrev later_chip : TreeChip
  later_chip = tree_chip_at suite watch later_engine later_s later_w

  abbrev pub ReadsLineOver : ℕ → Result Line TreeFault → Type 0
  ReadsLineOver at answer = HasReadTreeLine setup at old new answer

  abbrev pub FollowsReadOver : ℕ → Result Line TreeFault → Type 0
  FollowsReadOver at answer = Follows (read_plan setup at chip) device later_device (ended answer later_chip)

  abbrev pub WritesLineOver : ℕ → Line → Result ℕ TreeFault → Type 0
  WritesLineOver at line answer = HasWrittenTreeLine setup at line old new answer

  abbrev pub FollowsWriteOver : ℕ → Line → Result ℕ TreeFault → Type 0
  FollowsWriteOver at line answer =
      Follows (write_plan setup device.regs at line chip) device later_device (ended answer later_chip)

  -- the engine serves the device as before, under the same keys
  abbrev pub StaysUsable : Type 0
  StaysUsable =
      IsTreeUsable engine.shape new × (suite.keys later_s ≡ suite.keys s) × (later_engine.shape ≡ engine.shape)

-- the same over the watched board, with the steps that were taken
module _ {S W : Type 0} (suite : SuiteOf S) (watch : WatchOf W) (engine : TreeState) (board : MemBoard) (s : S) (w : W)
    (later_engine : TreeState) (later_board : MemBoard) (taken : Taken) (later_s : S) (later_w : W) where
  abbrev found : Device
  found = as_found board

  abbrev left : Device
  left = as_seen later_board taken

  abbrev pub ReadsLine : ℕ → Result Line TreeFault → Type 0
  ReadsLine at answer = ReadsLineOver suite watch engine found s w later_engine left later_s later_w at answer

  abbrev pub FollowsRead : ℕ → Result Line TreeFault → Type 0
  FollowsRead at answer = FollowsReadOver suite watch engine found s w later_engine left later_s later_w at answer

  abbrev pub WritesLine : ℕ → Line → Result ℕ TreeFault → Type 0
  WritesLine at line answer =
      WritesLineOver suite watch engine found s w later_engine left later_s later_w at line answer

  abbrev pub FollowsWrite : ℕ → Line → Result ℕ TreeFault → Type 0
  FollowsWrite at line answer =
      FollowsWriteOver suite watch engine found s w later_engine left later_s later_w at line answer

-- if there is no engine: recovery
module _ {S W : Type 0} (suite : SuiteOf S) (watch : WatchOf W) (geo : Geo) (device : Device) (s : S) (w : W)
    (later_device : Device) (later_s : S) (later_w : W) where
  abbrev rest : Rest
  rest = rest_of device (watch.watched w)

  abbrev later_rest : Rest
  later_rest = rest_of later_device (watch.watched later_w)

  abbrev pub RecoversOver : Result (TreeState × Work) TreeRec → Type 0
  RecoversOver answer =
      HasTreeRecovered (setup_with suite geo s) rest later_rest (suite.digests s) (suite.digests later_s) answer

  -- every answer except running out of memory
  abbrev pub FollowsRecoveryOver : Result (TreeState × Work) TreeRec → Type 0
  FollowsRecoveryOver answer =
      answer ≢ Err Stop.Memory
      → Follows (tree_recover_plan (setup_with suite geo s) device.regs (recover_parts_at suite watch s w)) device later_device
      (ended answer (recover_parts_at suite watch later_s later_w))

  -- the device can be recovered again, an engine serves it, and keys and counts of pads and tags are as before
  abbrev pub StaysRecoverable : Result (TreeState × Work) TreeRec → Type 0
  StaysRecoverable answer =
      IsRestUsable (shape_of geo) later_rest × IfOk answer (λ made. made.0.shape ≡ shape_of geo)
      × (suite.keys later_s ≡ suite.keys s) × (suite.pads later_s ≡ suite.pads s) × (suite.tags later_s ≡ suite.tags s)

-- the same over the watched board
module _ {S W : Type 0} (suite : SuiteOf S) (watch : WatchOf W) (geo : Geo) (board : MemBoard) (s : S) (w : W)
    (later_board : MemBoard) (taken : Taken) (later_s : S) (later_w : W) where
  abbrev pub Recovers : Result (TreeState × Work) TreeRec → Type 0
  Recovers answer = RecoversOver suite watch geo (as_found board) s w (as_seen later_board taken) later_s later_w answer

  abbrev pub FollowsRecovery : Result (TreeState × Work) TreeRec → Type 0
  FollowsRecovery answer =
      FollowsRecoveryOver suite watch geo (as_found board) s w (as_seen later_board taken) later_s later_w answer

-- formatting, which isn't watched
module _ {S W : Type 0} (suite : SuiteOf S) (watch : WatchOf W) (geo : Geo) (board : MemBoard) (s : S) (w : W)
    (later_board : MemBoard) (later_w : W) where
  abbrev pub Formats : TreeState → Type 0
  Formats = HasTreeFormatted (setup_with suite geo s) (rest_now watch board w) (rest_now watch later_board later_w)
