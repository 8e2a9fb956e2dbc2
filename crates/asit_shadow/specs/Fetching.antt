-- A path that is fetched from the top down: what one level gives, and what the levels so far keep.
use Rattle.std.specs.Prelude.{ℕ, ◌≡◌, ◌≤◌, ◌/◌, ◌⊎◌, Bool, true, false, List, Option, Some, None, Result, Ok, Err, slice_set, ⊤}
use Rattle.pmem_base.specs.declared.lines.Line.{Line}
use Rattle.pmem_base.specs.Shape.{Shape}
use Rattle.pmem_base.specs.Lines.{line_at}
use Rattle.suite.specs.Setup.{Setup}
use Rattle.board.specs.Device.{Device}
use Rattle.board.specs.Counts.{RisesBy}
use Rattle.board.specs.Steps.{HasWritten, WasCut}
use Rattle.bonsai_tree.specs.Positions.{level_of, counter_position}
use Rattle.call_effects.specs.Outcomes.{going}
use Rattle.counter_tree.specs.declared.nodes.Node.{Node}
use Rattle.counter_tree.specs.Nodes.{node_line}
use Rattle.counter_tree.specs.Accepted.{IsNodeAccepted, IsNodeUnaccepted, IsNodeForged}
use Rattle.counter_tree.specs.Layout.{line_of_node}
use Rattle.counter_tree.specs.Trees.{node_at, is_on_line_path}
use Rattle.counter_tree.specs.Slots.{slot_of}
use Rattle.counter_tree.specs.Watch.{WatchState}
use Rattle.asit_shadow.specs.declared.cache.CachedNode.{CachedNode}
use Rattle.asit_shadow.specs.declared.fault.TreeFault.{TreeFault}
use Rattle.asit_shadow.specs.declared.fault.TreeFault.TheVariants as Fail
use Rattle.asit_shadow.specs.State.{cache_at, IsCached, IsCachedAs}
use Rattle.asit_shadow.specs.Parts.{TreeEngineParts, AreTreeTrusted, AreTreeSound}
use Rattle.asit_shadow.specs.Work.{holds_dirty, absent_nodes, HasFetchedNodes, HasStoppedAt, IsNodeShownAt, IsCutInNodeFetch}
use Rattle.asit_shadow.specs.Calls.{TreeCallEffect, IsNodeRead, IsNodeRefused, IsNodeShown, IsUnrefusedFault, KeepsWatch, outcome_of_tree_fault}

-- ---- one level

-- the line was written if that is asked, and else nothing was done
abbrev pub WritesWhere : Bool → Device → ℕ → Line → Device → Type 0
WritesWhere true old at line new = HasWritten old at line new
WritesWhere false old at line new = new ≡ old

-- the node that stood dirty in a slot was written to its place with its tag
abbrev pub IsRoomMade : Setup → Option CachedNode → Device → Device → Type 0
IsRoomMade setup None old new = new ≡ old
IsRoomMade setup (Some held) old new =
    WritesWhere held.dirty old (line_of_node setup.shape held.x) (node_line setup.formulas held.x held.node) new

-- how a node's line is read under a version, by the answer
abbrev pub IsNodeTaken : Setup → ℕ → ℕ → Device → Device → WatchState → WatchState → Result Node TreeFault → Type 0
IsNodeTaken setup x version old new watch after (Ok node) = IsNodeAccepted setup x version old new watch after node
IsNodeTaken setup x version old new watch after (Err Fail.Cut) = WasCut old new × (old.live ≡ false) × (after ≡ watch)
IsNodeTaken setup x version old new watch after (Err (Fail.Node y)) =
    (y ≡ x) × IsNodeUnaccepted setup x version old new watch after
IsNodeTaken setup x version old new watch after (Err Fail.Shown) = IsNodeForged setup x version old new watch after
IsNodeTaken setup x version old new watch after (Err fault) = ⊥

-- node x, which isn't cached, was read under a version, and took its slot clean
pub record IsNodeFound (setup : Setup) (x version : ℕ) (node : Node) (old new : TreeEngineParts) : Type 0 where
  pub uncached : IsCached setup.shape old.engine.cache x → ⊥
  pub between : Device
  pub taken : IsNodeAccepted setup x version old.device between old.watch new.watch node
  pub room : IsRoomMade setup (cache_at old.engine.cache (slot_of setup.shape x)) between new.device
  pub cache :
      new.engine.cache
      ≡ slice_set old.engine.cache (slot_of setup.shape x) (Some (record { x = x; node = node; dirty = false }))
  pub shape : new.engine.shape ≡ old.engine.shape
  pub tree : new.engine.tree ≡ old.engine.tree
  pub down : new.engine.down ≡ old.engine.down

-- node x was cached, or found
abbrev pub HasFetchedNode : Setup → ℕ → ℕ → TreeEngineParts → TreeEngineParts → Node → Type 0
HasFetchedNode setup x version old new node =
    (IsCachedAs setup.shape old.engine.cache x node × (new ≡ old)) ⊎ IsNodeFound setup x version node old new

-- a cut before node x, which isn't cached, took its slot: no more than a line was read
pub record IsNodeCutOff (g : Shape) (x : ℕ) (old new : TreeEngineParts) : Type 0 where
  pub uncached : IsCached g old.engine.cache x → ⊥
  -- if power was on, it is cut as a dirty node must be evicted
  pub victim : old.device.live ≡ true → holds_dirty (cache_at old.engine.cache (slot_of g x)) ≡ true
  pub one_read : old.device.live ≡ true → RisesBy 1 old.device.reads new.device.reads
  pub between : Device
  pub cut : WasCut between new.device
  pub lines : between.lines ≡ old.device.lines
  pub regs : between.regs ≡ old.device.regs
  pub size : between.size ≡ old.device.size
  pub writes : between.writes ≡ old.device.writes
  pub latches : between.latches ≡ old.device.latches
  pub cuts : between.cuts ≡ old.device.cuts
  pub steady : old.device.steady ≡ true → between.steady ≡ true
  pub engine : new.engine ≡ old.engine
  pub watch : new.watch ≡ old.watch

-- why node x wasn't fetched
abbrev pub HasNoNode : Setup → ℕ → ℕ → TreeEngineParts → TreeEngineParts → TreeFault → Type 0
HasNoNode setup x version old new Fail.Cut = IsNodeCutOff setup.shape x old new
HasNoNode setup x version old new (Fail.Node y) =
    (y ≡ x) × (IsCached setup.shape old.engine.cache x → ⊥) × (new.engine ≡ old.engine)
    × IsNodeUnaccepted setup x version old.device new.device old.watch new.watch
HasNoNode setup x version old new Fail.Shown =
    (IsCached setup.shape old.engine.cache x → ⊥) × (new.engine ≡ old.engine)
    × IsNodeForged setup x version old.device new.device old.watch new.watch
HasNoNode setup x version old new fault = ⊥

-- ---- the levels so far

-- the device has the same lines at the nodes of the path
abbrev pub KeepsPathLines : Shape → ℕ → Option (List Line) → Option (List Line) → Type 0
KeepsPathLines g a None new = new ≡ None
KeepsPathLines g a (Some old) None = ⊥
KeepsPathLines g a (Some old) (Some new) =
    (x : ℕ) → is_on_line_path g a x ≡ true → line_at new (line_of_node g x) ≡ line_at old (line_of_node g x)

-- levels of the path of data line a are fetched, whatever the board
pub record IsPathFetchedTo (setup : Setup) (a levels : ℕ) (old new : TreeEngineParts) : Type 0 where
  pub effect : TreeCallEffect setup going old new
  pub tree : new.engine.tree ≡ old.engine.tree
  pub down : new.engine.down ≡ old.engine.down
  pub done : HasFetchedNodes setup a levels old new
  pub reads : RisesBy (absent_nodes setup.shape old.engine.cache a levels) old.device.reads new.device.reads
  pub watch : new.watch ≡ old.watch
  pub path_lines : AreTreeTrusted setup old → KeepsPathLines setup.shape a old.device.lines new.device.lines
  pub cached :
      AreTreeTrusted setup old → (x : ℕ) → is_on_line_path setup.shape a x ≡ true → level_of x ≤ levels
      → IsCached setup.shape new.engine.cache x
  pub read :
      AreTreeTrusted setup old → (x : ℕ) → is_on_line_path setup.shape a x ≡ true → level_of x ≤ levels
      → IsCached setup.shape old.engine.cache x ⊎ IsNodeRead setup a x old new

-- a fetched path, and its last node
pub record IsNodePathFetched (setup : Setup) (a : ℕ) (old new : TreeEngineParts) (node : Node) : Type 0 where
  pub path : IsPathFetchedTo setup a setup.shape.levels old new
  pub last : AreTreeTrusted setup old → node ≡ node_at old.watch.nodes (counter_position setup.shape (a / 4))

-- how a fetch stops
abbrev pub StopsFetch : Setup → ℕ → TreeEngineParts → TreeEngineParts → TreeFault → Type 0
StopsFetch setup a old new Fail.Cut = ⊤
StopsFetch setup a old new (Fail.Node x) = IsNodeRefused setup a x old new
StopsFetch setup a old new Fail.Shown = IsNodeShown setup a old new
StopsFetch setup a old new fault = ⊥

-- how far it came
abbrev pub StopsWork : Setup → ℕ → TreeEngineParts → TreeEngineParts → TreeFault → Type 0
StopsWork setup a old new Fail.Cut = IsCutInNodeFetch setup a old new
StopsWork setup a old new (Fail.Node x) = HasStoppedAt setup a x old new
StopsWork setup a old new Fail.Shown = IsNodeShownAt setup a old new
StopsWork setup a old new fault = ⊥

abbrev pub IsFetchFault : TreeFault → Type 0
IsFetchFault Fail.Cut = ⊤
IsFetchFault (Fail.Node x) = ⊤
IsFetchFault Fail.Shown = ⊤
IsFetchFault fault = ⊥

-- the watch is as it was, except for an exhibit
abbrev pub LeavesWatch : TreeFault → WatchState → WatchState → Type 0
LeavesWatch Fail.Shown old new = ⊤
LeavesWatch fault old new = new ≡ old

-- a path that couldn't be fetched
pub record IsFetchStopped (setup : Setup) (a : ℕ) (old new : TreeEngineParts) (fault : TreeFault) : Type 0 where
  pub kind : IsFetchFault fault
  pub effect : TreeCallEffect setup (outcome_of_tree_fault fault) old new
  pub down : new.engine.down ≡ old.engine.down
  pub regs : new.device.regs ≡ old.device.regs
  pub watch : KeepsWatch (outcome_of_tree_fault fault) old.watch new.watch
  pub same_watch : LeavesWatch fault old.watch new.watch
  pub work : StopsWork setup a old new fault
  pub answered : AreTreeTrusted setup old → StopsFetch setup a old new fault
  pub unrefused : AreTreeSound setup old → IsUnrefusedFault fault
