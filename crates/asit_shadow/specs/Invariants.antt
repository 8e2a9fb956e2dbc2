-- How the chip, the device and the watch belong together.
-- Anchored and Trusted don't mention the device's lines, so tampering can't end them.
use Rattle.std.specs.Prelude.{ℕ, ◌≡◌, ◌<◌, false, true, ◌⊎◌, List, [], length, Some, IsNone}
use Rattle.pmem_base.specs.declared.lines.Line.{Line}
use Rattle.pmem_base.specs.declared.registers.Regs.{Regs}
use Rattle.pmem_base.specs.Lines.{line_at, zero_line, tag_slot}
use Rattle.pmem_base.specs.Registers.{IsGroup}
use Rattle.pmem_base.specs.Shape.{Shape}
use Rattle.pmem_base.specs.Layout.{meta_lines}
use Rattle.suite.specs.Setup.{Setup}
use Rattle.board.specs.Device.{AreLinesOf}
use Rattle.commit_regs.specs.Groups.{redone}
use Rattle.counter_tree.specs.Nodes.{version_counter, node_line}
use Rattle.counter_tree.specs.Layout.{tree_lines, tree_slots, tree_size, line_of_tag, line_of_node, line_of_slot}
use Rattle.counter_tree.specs.Trees.{node_at, line_counter, IsCounterTree}
use Rattle.counter_tree.specs.Slots.{slot_of, slot_line}
use Rattle.counter_tree.specs.Shadow.{shadow_root, shadow_height, ChipTree, IsShadowTree}
use Rattle.counter_tree.specs.Watch.{WatchState, last_seal_of, IsLineSeal, IsWatchOf}
use Rattle.counter_tree.specs.declared.watch.LineSeal.{LineSeal}
use Rattle.asit_shadow.specs.State.{TreeState, cache_at, IsCachedDirty}
use Rattle.asit_shadow.specs.declared.cache.CachedNode.{CachedNode}

-- ---- anchored

-- data line a was last sealed under its counter in the true nodes, and the seal's tag is its own
pub record IsTrueSeal (setup : Setup) (watch : WatchState) (a : ℕ) : Type 0 where
  pub seal : LineSeal
  pub last : last_seal_of watch a ≡ Some seal
  pub counter : seal.counter ≡ line_counter setup.shape watch.nodes a
  pub tagged : setup.formulas.tag_of a (version_counter seal.counter) seal.cipher ≡ seal.tag
  pub in_range : IsLineSeal seal

-- the true line of slot i names a node of that slot, with the true counters
pub record NamesTrueNode (g : Shape) (watch : WatchState) (i : ℕ) : Type 0 where
  pub x : ℕ
  pub on_tree : x < meta_lines g
  pub its_slot : slot_of g x ≡ i
  pub line : line_at watch.slots i ≡ slot_line x (node_at watch.nodes x)

-- the true line of slot i is zero, or names a node truly
abbrev pub IsTrueTreeSlot : Shape → WatchState → ℕ → Type 0
IsTrueTreeSlot g watch i = (line_at watch.slots i ≡ zero_line) ⊎ NamesTrueNode g watch i

-- the registers belong to the watch
pub record IsTreeAnchored (setup : Setup) (regs : Regs) (watch : WatchState) : Type 0 where
  pub of_setup : IsWatchOf setup watch
  pub tree : IsCounterTree setup.shape watch.nodes
  pub seals : (a : ℕ) → a < tree_lines setup.shape → IsTrueSeal setup watch a
  pub slots : (i : ℕ) → i < tree_slots setup.shape → IsTrueTreeSlot setup.shape watch i
  pub top_named : line_at watch.slots 0 ≡ slot_line 0 (node_at watch.nodes 0)
  pub root : regs.root ≡ shadow_root setup.shape setup.formulas watch.slots
  pub group : IsGroup (tree_size setup.shape) regs.group.items
  pub no_exhibit : IsNone watch.exhibit

-- ---- trusted

-- the node in slot i of the cache is the true one, and stands in its slot; if it is dirty, the slot's true line names it
pub record IsTrueCached (g : Shape) (watch : WatchState) (i : ℕ) (held : CachedNode) : Type 0 where
  pub on_tree : held.x < meta_lines g
  pub its_slot : slot_of g held.x ≡ i
  pub true_node : held.node ≡ node_at watch.nodes held.x
  pub named : held.dirty ≡ true → line_at watch.slots i ≡ slot_line held.x held.node

-- the lines of the shadow tree on the chip are those over the slot lines
abbrev pub IsTreeOver : Setup → List Line → ChipTree → Type 0
IsTreeOver setup slots tree = IsShadowTree setup.formulas (shadow_height setup.shape) slots tree.lines

-- the top is always cached
pub record IsTopCached (engine : TreeState) : Type 0 where
  pub held : CachedNode
  pub stands : cache_at engine.cache 0 ≡ Some held
  pub position : held.x ≡ 0

pub record IsTreeTrusted (setup : Setup) (engine : TreeState) (regs : Regs) (watch : WatchState) : Type 0 where
  pub its_shape : engine.shape ≡ setup.shape
  pub anchored : IsTreeAnchored setup regs watch
  pub no_group : regs.group.items ≡ []
  pub not_down : engine.down ≡ false
  pub slot_count : length engine.cache ≡ tree_slots setup.shape
  pub cached_true :
      (i : ℕ) (held : CachedNode) → cache_at engine.cache i ≡ Some held
      → IsTrueCached setup.shape watch i held
  pub top_cached : IsTopCached engine
  pub tree_true : IsTreeOver setup watch.slots engine.tree

-- ---- durable

-- data line a, and the tag in its tag line, are those of its last seal
pub record IsTreeSealStored (g : Shape) (lines : List Line) (watch : WatchState) (a : ℕ) : Type 0 where
  pub seal : LineSeal
  pub last : last_seal_of watch a ≡ Some seal
  pub cipher : line_at lines a ≡ seal.cipher
  pub tag : tag_slot (line_at lines (line_of_tag g a)) 0 ≡ seal.tag

-- the device has the true line of node x
abbrev pub IsNodeStored : Setup → List Line → WatchState → ℕ → Type 0
IsNodeStored setup lines watch x =
    line_at lines (line_of_node setup.shape x) ≡ node_line setup.formulas x (node_at watch.nodes x)

-- the true line of node x's slot names it
abbrev pub IsNamed : Shape → WatchState → ℕ → Type 0
IsNamed g watch x = line_at watch.slots (slot_of g x) ≡ slot_line x (node_at watch.nodes x)

-- the device has the true line of slot i
abbrev pub IsSlotStored : Shape → List Line → WatchState → ℕ → Type 0
IsSlotStored g lines watch i = line_at lines (line_of_slot g i) ≡ line_at watch.slots i

-- what recovery can rest on, over a device's lines with no group left to redo
pub record IsTreeMendable (setup : Setup) (lines : List Line) (regs : Regs) (watch : WatchState) : Type 0 where
  pub anchored : IsTreeAnchored setup regs watch
  pub seals_stored : (a : ℕ) → a < tree_lines setup.shape → IsTreeSealStored setup.shape lines watch a
  pub slots_stored : (i : ℕ) → i < tree_slots setup.shape → IsSlotStored setup.shape lines watch i
  pub true_or_named :
      (x : ℕ) → x < meta_lines setup.shape → IsNodeStored setup lines watch x ⊎ IsNamed setup.shape watch x

-- the device is whole, and recovery can rest on it once the armed group is redone
pub record IsTreeDurable (setup : Setup) (lines : List Line) (regs : Regs) (watch : WatchState) : Type 0 where
  pub device_whole : AreLinesOf (tree_size setup.shape) lines
  pub mendable : IsTreeMendable setup (redone regs.group.items lines) regs watch

-- ---- sound

-- trusted and durable, and each node is true on the device or cached dirty
pub record IsTreeSound (setup : Setup) (engine : TreeState) (lines : List Line) (regs : Regs) (watch : WatchState) : Type 0 where
  pub trusted : IsTreeTrusted setup engine regs watch
  pub durable : IsTreeDurable setup lines regs watch
  pub true_or_dirty :
      (x : ℕ) → x < meta_lines setup.shape
      → IsNodeStored setup lines watch x ⊎ IsCachedDirty setup.shape engine.cache x
