-- What the kinds of steps change: of the registers, the watch, the device and the cache.
use Rattle.std.specs.Prelude.{ℕ, ◌≡◌, ◌≢◌, ◌<◌, ◌≤◌, ◌-◌, ◌+◌, ◌^◌, false, true, List, [], Some, None, Option, length, slice_set, slice_range, All, AllPairs}
use Rattle.pmem_base.specs.declared.lines.Line.{Line}
use Rattle.pmem_base.specs.declared.registers.Regs.{Regs}
use Rattle.pmem_base.specs.Lines.{line_at, xor_lines, zero_line}
use Rattle.pmem_base.specs.Shape.{Shape}
use Rattle.pmem_base.specs.Layout.{meta_lines}
use Rattle.suite.specs.Setup.{Setup}
use Rattle.suite.specs.Formulas.{Formulas}
use Rattle.counter_tree.specs.declared.nodes.Node.{Node}
use Rattle.counter_tree.specs.Nodes.{total, version_counter, node_read}
use Rattle.counter_tree.specs.Layout.{tree_lines, tree_size, line_of_slot}
use Rattle.counter_tree.specs.Trees.{node_at, entry_for, line_counter, raised_nodes}
use Rattle.counter_tree.specs.Slots.{slot_of, slot_read, NamedNode}
use Rattle.counter_tree.specs.Shadow.{shadow_root}
use Rattle.counter_tree.specs.Watch.{WatchState, last_seal_of, IsLineSeal}
use Rattle.counter_tree.specs.declared.watch.LineSeal.{LineSeal}
use Rattle.asit_shadow.specs.State.{TreeState, cache_at}
use Rattle.asit_shadow.specs.declared.cache.CachedNode.{CachedNode}
use Rattle.asit_shadow.specs.Paths.{HasPathNamed, HasPathCached, write_group}
use Rattle.asit_shadow.specs.Invariants.{IsNodeStored, IsTreeOver}

-- of the registers only the root and the group may have changed
abbrev pub KeepsOtherRegisters : Regs → Regs → Type 0
KeepsOtherRegisters old new = new ≡ record old { root = new.root; group = new.group }

-- ---- a write of data line a is armed: one latch, and a report to the watch

pub record IsTreeArmed (setup : Setup) (a : ℕ) (seal : LineSeal) (old_regs new_regs : Regs) (old new : WatchState) : Type 0 where
  pub its_line : a < tree_lines setup.shape
  -- the top's version can rise
  pub can_rise : total (node_at old.nodes 0) < 2 ^ 64 - 1
  pub in_range : IsLineSeal seal
  -- a counter that the line was never sealed under
  pub counter : seal.counter ≡ line_counter setup.shape old.nodes a + 1
  pub tagged : setup.formulas.tag_of a (version_counter seal.counter) seal.cipher ≡ seal.tag
  pub setups : new.setup ≡ old.setup
  pub seals : new.seals ≡ slice_set old.seals a (Some seal)
  pub nodes : new.nodes ≡ raised_nodes setup.shape a old.nodes
  pub slots : HasPathNamed setup.shape a new.nodes old.slots new.slots
  pub exhibit : new.exhibit ≡ old.exhibit
  pub no_group_before : old_regs.group.items ≡ []
  pub group : new_regs.group.items ≡ write_group setup.shape a seal new.nodes
  pub root : new_regs.root ≡ shadow_root setup.shape setup.formulas new.slots
  pub others : KeepsOtherRegisters old_regs new_regs

-- the engine after the write: its path is dirty in the cache, and its shadow tree has the new slot lines
pub record HasPathStored (setup : Setup) (a : ℕ) (old new : TreeState) (watch : WatchState) : Type 0 where
  pub shape : new.shape ≡ old.shape
  pub down : new.down ≡ old.down
  pub cache : HasPathCached setup.shape a watch.nodes old.cache new.cache
  pub tree : IsTreeOver setup watch.slots new.tree

-- ---- the group is emptied

pub record IsTreeEmptied (old new : Regs) : Type 0 where
  pub root : new.root ≡ old.root
  pub no_group : new.group.items ≡ []
  pub others : KeepsOtherRegisters old new

-- ---- a node is fetched: its line was read under its version, and the watch let it go on

pub record IsFetched (setup : Setup) (x : ℕ) (line : Line) (node : Node) (old new : TreeState) (watch : WatchState) : Type 0 where
  pub on_tree : x < meta_lines setup.shape
  pub not_top : x ≢ 0
  -- the version is the counter that the cached parent has for it
  pub accepted : node_read setup.formulas x line (entry_for watch.nodes x) ≡ Some node
  pub seen : node ≡ node_at watch.nodes x
  pub shape : new.shape ≡ old.shape
  pub down : new.down ≡ old.down
  pub tree : new.tree ≡ old.tree
  pub cache :
      new.cache ≡ slice_set old.cache (slot_of setup.shape x) (Some (record { x = x; node = node; dirty = false }))

-- the node that gives way in slot i is clean, or true on the device
abbrev pub GivesWay : Setup → TreeState → List Line → WatchState → ℕ → Type 0
GivesWay setup engine lines watch i =
    (held : CachedNode) → cache_at engine.cache i ≡ Some held → held.dirty ≡ true
    → IsNodeStored setup lines watch held.x

-- ---- recovery: the cache that slot lines give

-- what slot line i gives: the node that it names, dirty
abbrev pub held_of : Option NamedNode → Option CachedNode
held_of None = None
held_of (Some named) = Some (record { x = named.x; node = named.node; dirty = true })

pub record IsTreeRecovered (setup : Setup) (slots : List Line) (engine : TreeState) : Type 0 where
  pub shape : engine.shape ≡ setup.shape
  pub down : engine.down ≡ false
  pub count : length engine.cache ≡ length slots
  pub cache : (i : ℕ) → i < length slots → cache_at engine.cache i ≡ held_of (slot_read (line_at slots i))
  pub tree : IsTreeOver setup slots engine.tree

-- the slot lines among a device's lines
abbrev pub slots_read : Shape → List Line → List Line
slots_read g lines = slice_range lines (line_of_slot g 0) (tree_size g)

-- ---- memory: the plain lines of the last seals

abbrev pub tree_plain_of_seal : Formulas → ℕ → LineSeal → Line
tree_plain_of_seal f a seal = xor_lines seal.cipher (f.pad_of a (version_counter seal.counter))

abbrev pub tree_plain_of : Formulas → ℕ → Option LineSeal → Line
tree_plain_of f a None = zero_line
tree_plain_of f a (Some seal) = tree_plain_of_seal f a seal

-- line a of memory
abbrev pub tree_plain_line : Formulas → WatchState → ℕ → Line
tree_plain_line f watch a = tree_plain_of f a (last_seal_of watch a)

-- ---- freshness

-- a seal that was made: the line and its counter
pub record MadeSeal : Type 0 where
  pub at : ℕ
  pub counter : ℕ

-- later seals of a line have greater counters
abbrev pub IsFreshHistory : List MadeSeal → Type 0
IsFreshHistory made = AllPairs (λ first later. first.at ≡ later.at → first.counter < later.counter) made

-- no seal that was made has a counter past its line's
abbrev pub IsHistoryOf : Shape → WatchState → List MadeSeal → Type 0
IsHistoryOf g watch made = All (λ one. (one.at < tree_lines g) × (one.counter ≤ line_counter g watch.nodes one.at)) made

-- the history stays fresh with the watch
pub record IsHistory (g : Shape) (watch : WatchState) (made : List MadeSeal) : Type 0 where
  pub fresh : IsFreshHistory made
  pub bound : IsHistoryOf g watch made
