-- A path's nodes in their slots: the slot lines, the cache, and what a write's group writes.
use Rattle.std.specs.Prelude.{ℕ, ◌≡◌, ◌/◌, ◌==◌, Bool, true, false, List, [], ◌∷◌, ◌++◌, map, length, replicate, slice_index, slice_set, All, Option, Some}
use Rattle.std.specs.List.{list_any}
use Rattle.pmem_base.specs.declared.lines.Line.{Line}
use Rattle.pmem_base.specs.Lines.{IsLine, line_of, line_at, put_lines}
use Rattle.pmem_base.specs.Shape.{Shape}
use Rattle.bonsai_tree.specs.Positions.{path_of}
use Rattle.counter_tree.specs.declared.nodes.Node.{Node}
use Rattle.counter_tree.specs.Layout.{line_of_tag, line_of_slot}
use Rattle.counter_tree.specs.Trees.{node_at, is_on_line_path}
use Rattle.counter_tree.specs.Slots.{slot_of, slot_line}
use Rattle.counter_tree.specs.declared.watch.LineSeal.{LineSeal}
use Rattle.asit_shadow.specs.State.{cache_at, IsCached}
use Rattle.asit_shadow.specs.declared.cache.CachedNode.{CachedNode}

-- the path of data line a, from the top down
abbrev pub line_path : Shape → ℕ → List ℕ
line_path g a = path_of g (a / 4)

-- its node at a level
abbrev pub path_node : Shape → ℕ → ℕ → ℕ
path_node g a level = slice_index (line_path g a) level

-- whether slot i is that of a node on the path of data line a
abbrev pub is_path_slot : Shape → ℕ → ℕ → Bool
is_path_slot g a i = list_any (λ x. slot_of g x == i) (line_path g a)

-- the path's nodes with the lines that name them, each at a place that depends on its slot
abbrev pub path_entries : Shape → (ℕ → ℕ) → ℕ → List Node → List (ℕ × Line)
path_entries g place a nodes = map (λ x. (place (slot_of g x), slot_line x (node_at nodes x))) (line_path g a)

-- slot lines with the path's nodes named in their slots
unfoldable pub slots_with : Shape → ℕ → List Node → List Line → List Line
slots_with g a nodes slots = put_lines (path_entries g (λ i. i) a nodes) slots

-- a list with a value set at the place of each of these positions, in order
abbrev pub set_each : {X : Type 0} → (ℕ → ℕ) → (ℕ → X) → List ℕ → List X → List X
set_each place value [] list = list
set_each place value (x ∷ xs) list = set_each place value xs (slice_set list (place x) (value x))

-- node x, dirty, as the cache holds it
abbrev pub dirty_node : List Node → ℕ → Option CachedNode
dirty_node nodes x = Some (record { x = x; node = node_at nodes x; dirty = true })

-- the cache with the path's nodes dirty in their slots
unfoldable pub cache_with : Shape → ℕ → List Node → List (Option CachedNode) → List (Option CachedNode)
cache_with g a nodes cache = set_each (slot_of g) (dirty_node nodes) (line_path g a) cache

-- a tag line: the tag, and zeros
abbrev pub tag_only : List ℕ → Line
tag_only tag = line_of (tag ++ replicate 48 0)

-- a write's group: the data line, its tag line, and the slot lines of its path
unfoldable pub write_group : Shape → ℕ → LineSeal → List Node → List (ℕ × Line)
write_group g a seal nodes =
    (a, seal.cipher) ∷ (line_of_tag g a, tag_only seal.tag) ∷ path_entries g (line_of_slot g) a nodes

-- each path node's slot names it; the other slot lines are as they were
pub record HasPathNamed (g : Shape) (a : ℕ) (nodes : List Node) (old new : List Line) : Type 0 where
  pub count : length new ≡ length old
  pub whole : All IsLine old → All IsLine new
  pub on_path :
      (x : ℕ) → is_on_line_path g a x ≡ true
      → line_at new (slot_of g x) ≡ slot_line x (node_at nodes x)
  pub others : (i : ℕ) → is_path_slot g a i ≡ false → line_at new i ≡ line_at old i

-- each path node is cached
pub record IsNodePathCached (g : Shape) (a : ℕ) (cache : List (Option CachedNode)) : Type 0 where
  pub each : (x : ℕ) → is_on_line_path g a x ≡ true → IsCached g cache x

-- each path node is cached dirty with its new counters; the other slots are as they were
pub record HasPathCached (g : Shape) (a : ℕ) (nodes : List Node) (old new : List (Option CachedNode)) : Type 0 where
  pub count : length new ≡ length old
  pub on_path :
      (x : ℕ) → is_on_line_path g a x ≡ true
      → cache_at new (slot_of g x) ≡ Some (record { x = x; node = node_at nodes x; dirty = true })
  pub others : (i : ℕ) → is_path_slot g a i ≡ false → cache_at new i ≡ cache_at old i
