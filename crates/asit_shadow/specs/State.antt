-- What an engine over a counter tree has on the chip.
use Rattle.std.specs.Prelude.{ℕ, ◌≡◌, ◌<◌, ◌^◌, Bool, true, length, List, Option, Some, None, slice_index_or}
use Rattle.pmem_base.specs.Shape.{Shape}
use Rattle.asit_shadow.specs.declared.cache.CachedNode.{CachedNode}
use Rattle.counter_tree.specs.declared.nodes.Node.{Node}
use Rattle.counter_tree.specs.Nodes.{IsNode, total, zero_node}
use Rattle.counter_tree.specs.Layout.{tree_slots}
use Rattle.counter_tree.specs.Shadow.{ChipTree, IsChipTree, shadow_height}
use Rattle.counter_tree.specs.Slots.{slot_of}
use Rattle.pmem_base.specs.Layout.{meta_lines}

-- the geometry, the slots of the cache, the shadow tree that is kept on the chip, and whether an
-- earlier call was cut or shown
pub record TreeState : Type 0 where
  pub shape : Shape
  pub cache : List (Option CachedNode)
  pub tree : ChipTree
  pub down : Bool

-- slot i of the cache
abbrev pub cache_at : List (Option CachedNode) → ℕ → Option CachedNode
cache_at cache i = slice_index_or cache i None

-- node x is cached in its slot
pub record IsCached (g : Shape) (cache : List (Option CachedNode)) (x : ℕ) : Type 0 where
  pub held : CachedNode
  pub stands : cache_at cache (slot_of g x) ≡ Some held
  pub position : held.x ≡ x

-- node x is cached in its slot, as this node
pub record IsCachedAs (g : Shape) (cache : List (Option CachedNode)) (x : ℕ) (node : Node) : Type 0 where
  pub held : CachedNode
  pub stands : cache_at cache (slot_of g x) ≡ Some held
  pub position : held.x ≡ x
  pub its_node : node ≡ held.node

-- node x is cached in its slot, dirty
pub record IsCachedDirty (g : Shape) (cache : List (Option CachedNode)) (x : ℕ) : Type 0 where
  pub held : CachedNode
  pub stands : cache_at cache (slot_of g x) ≡ Some held
  pub position : held.x ≡ x
  pub dirty : held.dirty ≡ true

-- ---- what is true of every engine, whatever board and watch it was used with

-- a cached node stands on the tree, and has a version
pub record IsHeldNode (g : Shape) (held : CachedNode) : Type 0 where
  pub on_tree : held.x < meta_lines g
  pub node_whole : IsNode held.node
  pub has_version : total held.node < 2 ^ 64

-- the cache has its slots, and the shadow tree its height
pub record IsTreeEngine (engine : TreeState) : Type 0 where
  pub slot_count : length engine.cache ≡ tree_slots engine.shape
  pub each_held : (i : ℕ) (held : CachedNode) → cache_at engine.cache i ≡ Some held → IsHeldNode engine.shape held
  pub tree_whole : IsChipTree engine.tree
  pub tree_height : engine.tree.height ≡ shadow_height engine.shape

-- the node in slot 0: the top, if it is cached
abbrev pub top_of : Option CachedNode → Node
top_of None = zero_node
top_of (Some held) = held.node

abbrev pub top_node : List (Option CachedNode) → Node
top_node cache = top_of (cache_at cache 0)
