-- The laws of the cache and its shadow.
use Rattle.std.specs.Prelude.{ℕ, ◌≡◌, ◌≢◌, ◌<◌, ◌≤◌, true, List, ◌∷◌, ◌++◌, [], length, Some, IfSome, All, slice_set, Option}
use Rattle.pmem_base.specs.declared.lines.Line.{Line}
use Rattle.pmem_base.specs.declared.registers.Regs.{Regs}
use Rattle.pmem_base.specs.Registers.{IsGroup}
use Rattle.pmem_base.specs.Lines.{IsLine, line_at, tag_slot, xor_lines}
use Rattle.pmem_base.specs.declared.answers.Exhibit.{Exhibit}
use Rattle.pmem_base.specs.declared.answers.Exhibit.TheVariants.{Forged}
use Rattle.pmem_base.specs.Shape.{Shape, IsShape}
use Rattle.pmem_base.specs.Layout.{meta_lines}
use Rattle.counter_tree.specs.Layout.{tree_lines, tree_slots, tree_size, line_of_node, line_of_tag}
use Rattle.suite.specs.Setup.{Setup}
use Rattle.suite.specs.Formulas.{AreInRange, cipher_of}
use Rattle.collision_witness.specs.Exhibits.{IsExhibit}
use Rattle.counter_tree.specs.Nodes.{node_line, node_read, stored_node, version_counter}
use Rattle.board.specs.Device.{AreLinesOf}
use Rattle.commit_regs.specs.Groups.{redone, Writes}
use Rattle.counter_tree.specs.declared.nodes.Node.{Node}
use Rattle.counter_tree.specs.Watch.{IsLineSeal, WatchState, last_seal_of, IsSlotClash, forged_node}
use Rattle.counter_tree.specs.declared.watch.LineSeal.{LineSeal}
use Rattle.counter_tree.specs.Trees.{is_on_line_path, node_at, entry_for, line_counter}
use Rattle.counter_tree.specs.Slots.{slot_of}
use Rattle.asit_shadow.specs.Paths.{slots_with, write_group, cache_with, HasPathNamed, HasPathCached, IsNodePathCached}
use Rattle.asit_shadow.specs.State.{TreeState, IsCached}
use Rattle.asit_shadow.specs.declared.cache.CachedNode.{CachedNode}
use Rattle.asit_shadow.specs.Invariants.{IsTreeAnchored, IsTreeTrusted, IsTreeDurable, IsTreeSound}
use Rattle.asit_shadow.specs.Steps.{IsTreeArmed, HasPathStored, IsTreeEmptied, IsFetched, GivesWay, IsTreeRecovered, slots_read, tree_plain_line, MadeSeal, IsHistory}
use Rattle.asit_shadow.specs.Formatting.{IsChipFormatted, AreLinesFormatted}
use Rattle.counter_tree.specs.Shadow.{shadow_root}

-- each node has a slot, and no two nodes of one path have one
abbrev pub SlotsAreInside : Type 0
SlotsAreInside = (g : Shape) (x : ℕ) → IsShape g → x < meta_lines g → slot_of g x < tree_slots g

abbrev pub PathSlotsAreApart : Type 0
PathSlotsAreApart =
    (g : Shape) (a x y : ℕ) → IsShape g → a < tree_lines g → is_on_line_path g a x ≡ true
    → is_on_line_path g a y ≡ true → slot_of g x ≡ slot_of g y → x ≡ y

-- naming a path's nodes names each of them, and leaves the other slots as they were
abbrev pub PathsAreNamed : Type 0
PathsAreNamed =
    (g : Shape) (a : ℕ) (nodes : List Node) (slots : List Line) → IsShape g → a < tree_lines g
    → length slots ≡ tree_slots g → HasPathNamed g a nodes slots (slots_with g a nodes slots)

-- and a cache holds them dirty
abbrev pub PathsAreCached : Type 0
PathsAreCached =
    (g : Shape) (a : ℕ) (nodes : List Node) (cache : List (Option CachedNode)) → IsShape g
    → a < tree_lines g → length cache ≡ tree_slots g
    → HasPathCached g a nodes cache (cache_with g a nodes cache)

-- a write's group can be armed: its places are distinct and on the device
abbrev pub WritesMakeGroups : Type 0
WritesMakeGroups =
    (g : Shape) (a : ℕ) (seal : LineSeal) (nodes : List Node) → IsShape g → a < tree_lines g
    → IsLineSeal seal → IsGroup (tree_size g) (write_group g a seal nodes)

-- ---- a write is armed, its group written and emptied

-- on any board: anchored from the latch on, and trusted once the group is emptied
abbrev pub ArmingKeepsAnchored : Type 0
ArmingKeepsAnchored =
    (setup : Setup) (a : ℕ) (seal : LineSeal) (old_regs new_regs : Regs) (old new : WatchState)
    → IsShape setup.shape → IsTreeAnchored setup old_regs old → IsTreeArmed setup a seal old_regs new_regs old new
    → IsTreeAnchored setup new_regs new

abbrev pub WritingKeepsTrusted : Type 0
WritingKeepsTrusted =
    (setup : Setup) (a : ℕ) (seal : LineSeal) (engine after : TreeState) (old_regs armed_regs new_regs : Regs)
    (old new : WatchState)
    → IsShape setup.shape → IsTreeTrusted setup engine old_regs old
    → IsTreeArmed setup a seal old_regs armed_regs old new → HasPathStored setup a engine after new
    → IsTreeEmptied armed_regs new_regs → IsTreeTrusted setup after new_regs new

-- over a sound engine with the path cached: durable from the latch on, and sound once the group is
-- written and emptied
abbrev pub ArmingKeepsDurable : Type 0
ArmingKeepsDurable =
    (setup : Setup) (a : ℕ) (seal : LineSeal) (engine : TreeState) (lines : List Line)
    (old_regs new_regs : Regs) (old new : WatchState)
    → IsShape setup.shape → IsTreeSound setup engine lines old_regs old → IsNodePathCached setup.shape a engine.cache
    → IsTreeArmed setup a seal old_regs new_regs old new → IsTreeDurable setup lines new_regs new

abbrev pub WritingKeepsSound : Type 0
WritingKeepsSound =
    (setup : Setup) (a : ℕ) (seal : LineSeal) (engine after : TreeState) (lines : List Line)
    (old_regs armed_regs new_regs : Regs) (old new : WatchState)
    → IsShape setup.shape → IsTreeSound setup engine lines old_regs old → IsNodePathCached setup.shape a engine.cache
    → IsTreeArmed setup a seal old_regs armed_regs old new → HasPathStored setup a engine after new
    → IsTreeEmptied armed_regs new_regs
    → IsTreeSound setup after (redone armed_regs.group.items lines) new_regs new

-- ---- the armed group is written, line by line, and emptied

abbrev pub GroupLinesKeepDurable : Type 0
GroupLinesKeepDurable =
    (setup : Setup) (lines : List Line) (regs : Regs) (watch : WatchState) (at : ℕ) (line : Line)
    → Writes at regs.group.items → IsLine line → IsTreeDurable setup lines regs watch
    → IsTreeDurable setup (slice_set lines at line) regs watch

-- a cut during the group leaves lines that it makes the same of
abbrev pub InterruptionsKeepDurable : Type 0
InterruptionsKeepDurable =
    (setup : Setup) (old new : List Line) (regs : Regs) (watch : WatchState)
    → AreLinesOf (tree_size setup.shape) new
    → redone regs.group.items new ≡ redone regs.group.items old
    → IsTreeDurable setup old regs watch → IsTreeDurable setup new regs watch

abbrev pub FinishingKeepsDurable : Type 0
FinishingKeepsDurable =
    (setup : Setup) (lines : List Line) (old new : Regs) (watch : WatchState)
    → IsTreeEmptied old new → IsTreeDurable setup lines old watch
    → IsTreeDurable setup (redone old.group.items lines) new watch

-- ---- a node is fetched

-- on any board: what is accepted under its version and isn't the true node is shown as forged, and
-- what goes on keeps the engine trusted
abbrev pub ForgedNodesHold : Type 0
ForgedNodesHold =
    (setup : Setup) (regs : Regs) (watch : WatchState) (x : ℕ) (line : Line) (node : Node)
    → IsTreeAnchored setup regs watch → 1 ≤ x → x < meta_lines setup.shape
    → node_read setup.formulas x line (entry_for watch.nodes x) ≡ Some node
    → IsExhibit setup.formulas (forged_node watch x line)

abbrev pub FetchingKeepsTrusted : Type 0
FetchingKeepsTrusted =
    (setup : Setup) (x : ℕ) (line : Line) (node : Node) (old new : TreeState) (regs : Regs) (watch : WatchState)
    → IsShape setup.shape → IsTreeTrusted setup old regs watch → IsFetched setup x line node old new watch
    → IsTreeTrusted setup new regs watch

-- over a sound engine: a node that isn't cached is read as the true one, a true node can be written
-- back, and a fetched one takes the place of one that is clean or true on the device
abbrev pub SoundNodesAreRead : Type 0
SoundNodesAreRead =
    (setup : Setup) (engine : TreeState) (lines : List Line) (regs : Regs) (watch : WatchState) (x : ℕ)
    → IsShape setup.shape → AreInRange setup.formulas → IsTreeSound setup engine lines regs watch → 1 ≤ x
    → x < meta_lines setup.shape → (IsCached setup.shape engine.cache x → ⊥)
    → (node_read setup.formulas x (line_at lines (line_of_node setup.shape x)) (entry_for watch.nodes x)
    ≡ Some (node_at watch.nodes x))
    × (stored_node (line_at lines (line_of_node setup.shape x)) ≡ node_at watch.nodes x)

abbrev pub WritingBackKeepsSound : Type 0
WritingBackKeepsSound =
    (setup : Setup) (engine : TreeState) (lines : List Line) (regs : Regs) (watch : WatchState) (x : ℕ)
    → IsShape setup.shape → AreInRange setup.formulas → IsTreeSound setup engine lines regs watch
    → x < meta_lines setup.shape
    → IsTreeSound setup engine
    (slice_set lines (line_of_node setup.shape x) (node_line setup.formulas x (node_at watch.nodes x)))
    regs watch

abbrev pub FetchingKeepsSound : Type 0
FetchingKeepsSound =
    (setup : Setup) (x : ℕ) (line : Line) (node : Node) (old new : TreeState) (lines : List Line) (regs : Regs)
    (watch : WatchState)
    → IsShape setup.shape → IsTreeSound setup old lines regs watch → IsFetched setup x line node old new watch
    → GivesWay setup old lines watch (slot_of setup.shape x) → IsTreeSound setup new lines regs watch

-- ---- a data line is read

-- on any board: a cipher that goes on gives memory's line, and one whose tag fits under the line's
-- counter, but isn't the last seal's, is shown as forged
abbrev pub ReadsArePlain : Type 0
ReadsArePlain =
    (setup : Setup) (regs : Regs) (watch : WatchState) (a : ℕ) (cipher : Line)
    → IsTreeAnchored setup regs watch → a < tree_lines setup.shape
    → IfSome (last_seal_of watch a) (λ seal. cipher ≡ seal.cipher)
    → xor_lines cipher (setup.formulas.pad_of a (version_counter (line_counter setup.shape watch.nodes a)))
    ≡ tree_plain_line setup.formulas watch a

abbrev pub ForgedLinesHold : Type 0
ForgedLinesHold =
    (setup : Setup) (regs : Regs) (watch : WatchState) (a : ℕ) (cipher : Line) (tag : List ℕ) (seal : LineSeal)
    → IsTreeAnchored setup regs watch → a < tree_lines setup.shape → last_seal_of watch a ≡ Some seal
    → setup.formulas.tag_of a (version_counter (line_counter setup.shape watch.nodes a)) cipher ≡ tag
    → IsExhibit setup.formulas (Forged a (version_counter seal.counter) cipher tag)

-- over a sound engine the tag fits, and the cipher is the last seal's
abbrev pub SoundLinesAreRead : Type 0
SoundLinesAreRead =
    (setup : Setup) (engine : TreeState) (lines : List Line) (regs : Regs) (watch : WatchState) (a : ℕ)
    → IsTreeSound setup engine lines regs watch → a < tree_lines setup.shape
    → (setup.formulas.tag_of a (version_counter (line_counter setup.shape watch.nodes a)) (line_at lines a)
    ≡ tag_slot (line_at lines (line_of_tag setup.shape a)) 0)
    × IfSome (last_seal_of watch a) (λ seal. line_at lines a ≡ seal.cipher)

-- an armed write puts its line into memory, and no other
abbrev pub WritesArePlain : Type 0
WritesArePlain =
    (setup : Setup) (a : ℕ) (plain : Line) (seal : LineSeal) (old_regs new_regs : Regs) (old new : WatchState)
    → AreInRange setup.formulas → IsTreeAnchored setup old_regs old
    → IsTreeArmed setup a seal old_regs new_regs old new → IsLine plain
    → seal.cipher ≡ cipher_of setup.formulas a (version_counter seal.counter) plain
    → (tree_plain_line setup.formulas new a ≡ plain)
    × ((b : ℕ) → b ≢ a → tree_plain_line setup.formulas new b ≡ tree_plain_line setup.formulas old b)

-- no line is sealed twice under one counter
abbrev pub WritesAreFresh : Type 0
WritesAreFresh =
    (setup : Setup) (a : ℕ) (seal : LineSeal) (old_regs new_regs : Regs) (old new : WatchState)
    (made : List MadeSeal)
    → IsShape setup.shape → IsTreeAnchored setup old_regs old → IsTreeArmed setup a seal old_regs new_regs old new
    → IsHistory setup.shape old made
    → IsHistory setup.shape new (made ++ (record { at = a; counter = seal.counter }) ∷ [])

-- ---- recovery

-- on any board: slot lines under the register's root that aren't the true ones show a clash, and the
-- true ones make a trusted engine
abbrev pub ClashesHold : Type 0
ClashesHold =
    (setup : Setup) (regs : Regs) (watch : WatchState) (slots : List Line) (shown : Exhibit)
    → IsShape setup.shape → AreInRange setup.formulas → IsTreeAnchored setup regs watch
    → length slots ≡ tree_slots setup.shape → All IsLine slots
    → shadow_root setup.shape setup.formulas slots ≡ regs.root → IsSlotClash watch slots shown
    → IsExhibit setup.formulas shown

abbrev pub RecoveryIsTrusted : Type 0
RecoveryIsTrusted =
    (setup : Setup) (engine : TreeState) (regs : Regs) (watch : WatchState)
    → IsShape setup.shape → IsTreeAnchored setup regs watch → regs.group.items ≡ []
    → IsTreeRecovered setup watch.slots engine → IsTreeTrusted setup engine regs watch

-- over a durable device: the slot lines read are the true ones under the register's root, and the
-- engine that they make is sound
abbrev pub DurableSlotsAreTrue : Type 0
DurableSlotsAreTrue =
    (setup : Setup) (lines : List Line) (regs : Regs) (watch : WatchState)
    → IsTreeDurable setup lines regs watch → regs.group.items ≡ []
    → (slots_read setup.shape lines ≡ watch.slots)
    × (shadow_root setup.shape setup.formulas (slots_read setup.shape lines) ≡ regs.root)

abbrev pub RecoveryIsSound : Type 0
RecoveryIsSound =
    (setup : Setup) (engine : TreeState) (lines : List Line) (regs : Regs) (watch : WatchState)
    → IsShape setup.shape → IsTreeDurable setup lines regs watch → regs.group.items ≡ []
    → IsTreeRecovered setup (slots_read setup.shape lines) engine → IsTreeSound setup engine lines regs watch

-- ---- formatting

abbrev pub FormattingIsSound : Type 0
FormattingIsSound =
    (setup : Setup) (engine : TreeState) (lines : List Line) (regs : Regs) (watch : WatchState)
    → IsShape setup.shape → AreInRange setup.formulas → IsChipFormatted setup engine regs watch
    → AreLinesFormatted setup lines → IsTreeSound setup engine lines regs watch
