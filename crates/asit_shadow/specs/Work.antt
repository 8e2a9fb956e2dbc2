-- What a read and a write do, exactly, whatever the board and the chip: which nodes come in and which give
-- way, by the cache as it was, and what is read, written and latched.
use Rattle.std.specs.Prelude.{ℕ, zero, suc, ◌≡◌, ◌<◌, ◌≤◌, ◌≢◌, ◌+◌, ◌==◌, ◌⊎◌, Bool, true, false, List, [], ◌∷◌, ◌++◌, length, Option, Some, None, Result, Ok, Err, if◌then◌else◌}
use Rattle.pmem_base.specs.declared.lines.Line.{Line}
use Rattle.pmem_base.specs.declared.answers.Exhibit.TheVariants.{Forged}
use Rattle.pmem_base.specs.Lines.{tag_slot}
use Rattle.pmem_base.specs.Shape.{Shape}
use Rattle.bonsai_tree.specs.Positions.{level_of}
use Rattle.suite.specs.Setup.{Setup}
use Rattle.board.specs.Counts.{RisesBy}
use Rattle.commit_regs.specs.Groups.{redone_told, RisesAtMost}
use Rattle.counter_tree.specs.declared.nodes.Node.{Node}
use Rattle.counter_tree.specs.declared.watch.LineSeal.{LineSeal}
use Rattle.counter_tree.specs.Nodes.{node_line, version_counter}
use Rattle.counter_tree.specs.Layout.{line_of_node}
use Rattle.counter_tree.specs.Trees.{node_at, is_on_line_path}
use Rattle.counter_tree.specs.Slots.{slot_of}
use Rattle.counter_tree.specs.Watch.{HasShown, forged_node, last_seal_of}
use Rattle.asit_shadow.specs.declared.cache.CachedNode.{CachedNode}
use Rattle.asit_shadow.specs.declared.fault.TreeFault.{TreeFault}
use Rattle.asit_shadow.specs.declared.fault.TreeFault.TheVariants as Fail
use Rattle.asit_shadow.specs.State.{cache_at}
use Rattle.asit_shadow.specs.Parts.{TreeEngineParts, tree_lines_redone}
use Rattle.asit_shadow.specs.Paths.{path_node, IsNodePathCached, HasPathCached, write_group}
use Rattle.asit_shadow.specs.Steps.{KeepsOtherRegisters}

-- ---- one node

-- whether a slot holds node x
abbrev pub holds_node : Option CachedNode → ℕ → Bool
holds_node None x = false
holds_node (Some held) x = held.x == x

-- whether node x is in its slot
abbrev pub is_node_cached : Shape → List (Option CachedNode) → ℕ → Bool
is_node_cached g cache x = holds_node (cache_at cache (slot_of g x)) x

-- whether a slot holds a dirty node
abbrev pub holds_dirty : Option CachedNode → Bool
holds_dirty None = false
holds_dirty (Some held) = held.dirty

-- the write, by place and line, that a slot takes before another node can have it
abbrev pub write_back : Setup → Option CachedNode → List (ℕ × Line)
write_back setup None = []
write_back setup (Some held) =
    if held.dirty then (line_of_node setup.shape held.x, node_line setup.formulas held.x held.node) ∷ [] else []

-- the write-back, the line read, and the slot afterwards, as node x is fetched
abbrev pub node_level_write : Setup → List (Option CachedNode) → ℕ → List (ℕ × Line)
node_level_write setup cache x =
    if is_node_cached setup.shape cache x then [] else write_back setup (cache_at cache (slot_of setup.shape x))

abbrev pub node_level_reads : Shape → List (Option CachedNode) → ℕ → ℕ
node_level_reads g cache x = if is_node_cached g cache x then 0 else 1

abbrev pub slot_fetched : Shape → List Node → List (Option CachedNode) → ℕ → Option CachedNode
slot_fetched g nodes cache x =
    if is_node_cached g cache x then cache_at cache (slot_of g x) else Some (record { x = x; node = node_at nodes x; dirty = false })

-- ---- the first n levels below the top of the path of data line a

-- the write-backs, in order
abbrev pub spilled_nodes : Setup → List (Option CachedNode) → ℕ → ℕ → List (ℕ × Line)
spilled_nodes setup cache a zero = []
spilled_nodes setup cache a (suc n) = spilled_nodes setup cache a n ++ node_level_write setup cache (path_node setup.shape a (suc n))

-- how many of their nodes aren't cached
abbrev pub absent_nodes : Shape → List (Option CachedNode) → ℕ → ℕ → ℕ
absent_nodes g cache a zero = 0
absent_nodes g cache a (suc n) = absent_nodes g cache a n + node_level_reads g cache (path_node g a (suc n))

-- their slots hold their nodes: one that wasn't there is clean; each other slot is as it was
pub record HasSlotsFetched (g : Shape) (nodes : List Node) (a n : ℕ) (old new : List (Option CachedNode)) : Type 0 where
  pub count : length new ≡ length old
  pub fetched :
      (x : ℕ) → is_on_line_path g a x ≡ true → 1 ≤ level_of x → level_of x ≤ n
      → cache_at new (slot_of g x) ≡ slot_fetched g nodes old x
  pub elsewhere :
      (i : ℕ)
      → ((x : ℕ) → is_on_line_path g a x ≡ true → 1 ≤ level_of x → level_of x ≤ n → i ≢ slot_of g x)
      → cache_at new i ≡ cache_at old i

-- they were fetched, and nothing else was written
pub record HasFetchedNodes (setup : Setup) (a n : ℕ) (old new : TreeEngineParts) : Type 0 where
  pub on_path : n ≤ setup.shape.levels
  pub cache : HasSlotsFetched setup.shape old.watch.nodes a n old.engine.cache new.engine.cache
  pub lines : new.device.lines ≡ redone_told (spilled_nodes setup old.engine.cache a n) old.device.lines
  pub writes : RisesBy (length (spilled_nodes setup old.engine.cache a n)) old.device.writes new.device.writes
  pub latches : new.device.latches ≡ old.device.latches
  pub regs : new.device.regs ≡ old.device.regs

-- ---- how far a fetch came

-- the whole path was fetched, and that many lines were read after it
pub record HasFetchedPath (setup : Setup) (a more : ℕ) (old new : TreeEngineParts) : Type 0 where
  pub fetched : HasFetchedNodes setup a setup.shape.levels old new
  pub reads :
      RisesBy (absent_nodes setup.shape old.engine.cache a setup.shape.levels + more) old.device.reads
      new.device.reads

-- node x, the next one of the path, wasn't cached, and its line was read
pub record HasStoppedAt (setup : Setup) (a x : ℕ) (old new : TreeEngineParts) : Type 0 where
  pub levels : ℕ
  pub below : levels < setup.shape.levels
  pub next : x ≡ path_node setup.shape a (suc levels)
  pub absent : is_node_cached setup.shape old.engine.cache x ≡ false
  pub fetched : HasFetchedNodes setup a levels old new
  pub reads : RisesBy (absent_nodes setup.shape old.engine.cache a levels + 1) old.device.reads new.device.reads

-- that line is shown as a forged one
pub record IsNodeShownAt (setup : Setup) (a : ℕ) (old new : TreeEngineParts) : Type 0 where
  pub x : ℕ
  pub line : Line
  pub stopped : HasStoppedAt setup a x old new
  pub shown : HasShown old.watch new.watch (forged_node old.watch x line)

-- the next node isn't cached, its line was read, and a dirty node has to give way to it
pub record IsNodeWriteBackDue (g : Shape) (a levels : ℕ) (old new : TreeEngineParts) : Type 0 where
  pub below : levels < g.levels
  pub absent : is_node_cached g old.engine.cache (path_node g a (suc levels)) ≡ false
  pub victim : holds_dirty (cache_at old.engine.cache (slot_of g (path_node g a (suc levels)))) ≡ true
  pub reads : RisesBy (absent_nodes g old.engine.cache a levels + 1) old.device.reads new.device.reads

-- power was cut: if it was on, before such a write-back alone
pub record IsCutInNodeFetch (setup : Setup) (a : ℕ) (old new : TreeEngineParts) : Type 0 where
  pub levels : ℕ
  pub fetched : HasFetchedNodes setup a levels old new
  pub due : old.device.live ≡ true → IsNodeWriteBackDue setup.shape a levels old new

-- ---- reads

-- the path was fetched, two lines were read, and they are shown as forged ones
pub record IsLineShownAt (setup : Setup) (a : ℕ) (old new : TreeEngineParts) : Type 0 where
  pub cipher : Line
  pub tags : Line
  pub seal : LineSeal
  pub last : last_seal_of old.watch a ≡ Some seal
  pub path : HasFetchedPath setup a 2 old new
  pub shown : HasShown old.watch new.watch (Forged a (version_counter seal.counter) cipher (tag_slot tags 0))

-- what a read did, by its answer: its path is fetched, then two lines are read
abbrev pub WorksOfRead : Setup → ℕ → TreeEngineParts → TreeEngineParts → Result Line TreeFault → Type 0
WorksOfRead setup a old new (Ok line) = HasFetchedPath setup a 2 old new
WorksOfRead setup a old new (Err Fail.Cut) = IsCutInNodeFetch setup a old new
WorksOfRead setup a old new (Err Fail.Down) = ⊥
WorksOfRead setup a old new (Err (Fail.Node x)) = HasStoppedAt setup a x old new
WorksOfRead setup a old new (Err (Fail.Tag b)) = HasFetchedPath setup a 2 old new
WorksOfRead setup a old new (Err Fail.Spent) = ⊥
WorksOfRead setup a old new (Err Fail.Shown) = IsNodeShownAt setup a old new ⊎ IsLineShownAt setup a old new

-- ---- writes

-- the path is fetched, and that many latches were done after it: each node of the path is dirty in its slot, with its new counters, and the
-- line has a new last seal
pub record HasArmedPath (setup : Setup) (a latches : ℕ) (seal : LineSeal) (old new : TreeEngineParts) : Type 0 where
  pub last : last_seal_of new.watch a ≡ Some seal
  pub cache : HasPathCached setup.shape a new.watch.nodes old.engine.cache new.engine.cache
  -- what the device holds once the group is written
  pub lines :
      tree_lines_redone new
      ≡ redone_told (write_group setup.shape a seal new.watch.nodes)
      (redone_told (spilled_nodes setup old.engine.cache a setup.shape.levels) old.device.lines)
  pub others : KeepsOtherRegisters old.device.regs new.device.regs
  pub latched : RisesBy latches old.device.latches new.device.latches
  pub reads :
      RisesBy (absent_nodes setup.shape old.engine.cache a setup.shape.levels) old.device.reads new.device.reads

-- a write that was done: its group is written and emptied
pub record HasWrittenThrough (setup : Setup) (a : ℕ) (old new : TreeEngineParts) : Type 0 where
  pub seal : LineSeal
  pub armed : HasArmedPath setup a 2 seal old new
  pub no_group : new.device.regs.group.items ≡ []
  pub writes :
      RisesBy (length (spilled_nodes setup old.engine.cache a setup.shape.levels) + (setup.shape.levels + 3))
      old.device.writes new.device.writes

-- a write that was cut in its group, at one of the group's lines or at the latch that empties it
pub record IsCutInGroup (setup : Setup) (a : ℕ) (old new : TreeEngineParts) : Type 0 where
  pub seal : LineSeal
  pub armed : HasArmedPath setup a 1 seal old new
  pub group : new.device.regs.group.items ≡ write_group setup.shape a seal new.watch.nodes
  pub group_count : length new.device.regs.group.items ≡ setup.shape.levels + 3
  -- the writes so far as the group was armed
  pub armed_writes : ℕ
  pub before :
      RisesBy (length (spilled_nodes setup old.engine.cache a setup.shape.levels)) old.device.writes armed_writes
  pub since : RisesAtMost (setup.shape.levels + 3) armed_writes new.device.writes

-- a write that was cut before its arming latch, or at it: the watch wasn't told of it
pub record IsCutBeforeArming (setup : Setup) (a : ℕ) (old new : TreeEngineParts) : Type 0 where
  pub at : IsCutInNodeFetch setup a old new ⊎ HasFetchedPath setup a 0 old new
  pub untold : new.watch ≡ old.watch

abbrev pub WorksOfWrite : Setup → ℕ → TreeEngineParts → TreeEngineParts → Result ℕ TreeFault → Type 0
WorksOfWrite setup a old new (Ok counter) = HasWrittenThrough setup a old new
WorksOfWrite setup a old new (Err Fail.Cut) = IsCutBeforeArming setup a old new ⊎ IsCutInGroup setup a old new
WorksOfWrite setup a old new (Err Fail.Down) = ⊥
WorksOfWrite setup a old new (Err (Fail.Node x)) = HasStoppedAt setup a x old new
WorksOfWrite setup a old new (Err (Fail.Tag b)) = ⊥
WorksOfWrite setup a old new (Err Fail.Spent) = new ≡ old
WorksOfWrite setup a old new (Err Fail.Shown) = IsNodeShownAt setup a old new

-- ---- laws

-- of the nodes that aren't cached, each lets one give way at most
abbrev pub SpillsAreFew : Type 0
SpillsAreFew =
    (setup : Setup) (cache : List (Option CachedNode)) (a n : ℕ)
    → length (spilled_nodes setup cache a n) ≤ absent_nodes setup.shape cache a n

abbrev pub AbsentAreFew : Type 0
AbsentAreFew = (g : Shape) (cache : List (Option CachedNode)) (a n : ℕ) → absent_nodes g cache a n ≤ n

-- of a path that is cached, none
abbrev pub CachedPathsAreFree : Type 0
CachedPathsAreFree =
    (g : Shape) (cache : List (Option CachedNode)) (a n : ℕ) → n ≤ g.levels → IsNodePathCached g a cache
    → absent_nodes g cache a n ≡ 0
