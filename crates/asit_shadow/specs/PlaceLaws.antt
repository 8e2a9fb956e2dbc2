-- The laws of each place of the device by itself: they ask nothing of the other places, so they say on a
-- tampered device what an answer needs to have been tampered with.
use Rattle.std.specs.Prelude.{ℕ, ◌≡◌, ◌≢◌, ◌<◌, ◌≤◌, List, length, Some, IfSome, slice_set}
use Rattle.pmem_base.specs.declared.lines.Line.{Line}
use Rattle.pmem_base.specs.declared.registers.Regs.{Regs}
use Rattle.pmem_base.specs.Lines.{IsLine, line_at, tag_slot}
use Rattle.pmem_base.specs.Shape.{Shape, IsShape}
use Rattle.pmem_base.specs.Layout.{meta_lines}
use Rattle.suite.specs.Formulas.{AreInRange, cipher_of}
use Rattle.suite.specs.Setup.{Setup}
use Rattle.commit_regs.specs.Groups.{redone}
use Rattle.counter_tree.specs.declared.nodes.Node.{Node}
use Rattle.counter_tree.specs.Nodes.{node_line, node_read, stored_node, version_counter}
use Rattle.counter_tree.specs.Layout.{tree_lines, tree_slots, tree_size, line_of_tag, line_of_node}
use Rattle.counter_tree.specs.Trees.{node_at, entry_for, line_counter, IsCounterTree}
use Rattle.counter_tree.specs.Slots.{slot_of}
use Rattle.counter_tree.specs.Watch.{WatchState, last_seal_of}
use Rattle.counter_tree.specs.declared.watch.LineSeal.{LineSeal}
use Rattle.asit_shadow.specs.State.{TreeState, IsCached}
use Rattle.asit_shadow.specs.Invariants.{IsTreeAnchored, IsTreeTrusted, IsTreeSealStored, IsSlotStored}
use Rattle.asit_shadow.specs.Paths.{IsNodePathCached}
use Rattle.asit_shadow.specs.Places.{IsNodeHeld, IsNodeHeldBy, ArePlacesArmed, ArePlacesKept}
use Rattle.asit_shadow.specs.Plain.{PlainTree, true_version, writes_made, true_node, true_count, after_tree_write, IsPlainOf}
use Rattle.asit_shadow.specs.Steps.{IsTreeArmed, HasPathStored, IsFetched, GivesWay, IsTreeRecovered, slots_read}

abbrev pub ArmingKeepsPlaces : Type 0
ArmingKeepsPlaces =
    (setup : Setup) (a : ℕ) (seal : LineSeal) (engine : TreeState) (lines : List Line)
    (old_regs new_regs : Regs) (old new : WatchState)
    → IsShape setup.shape → length lines ≡ tree_size setup.shape → IsTreeTrusted setup engine old_regs old
    → IsNodePathCached setup.shape a engine.cache → IsTreeArmed setup a seal old_regs new_regs old new
    → ArePlacesArmed setup a engine lines (redone new_regs.group.items lines) old new

abbrev pub WritingKeepsNodes : Type 0
WritingKeepsNodes =
    (setup : Setup) (a : ℕ) (seal : LineSeal) (engine after : TreeState) (lines : List Line)
    (old_regs armed_regs : Regs) (old new : WatchState) (x : ℕ)
    → IsShape setup.shape → length lines ≡ tree_size setup.shape → IsTreeTrusted setup engine old_regs old
    → IsNodePathCached setup.shape a engine.cache → IsTreeArmed setup a seal old_regs armed_regs old new
    → HasPathStored setup a engine after new → x < meta_lines setup.shape
    → IsNodeHeldBy setup engine lines old x
    → IsNodeHeldBy setup after (redone armed_regs.group.items lines) new x

abbrev pub WritingBackKeepsPlaces : Type 0
WritingBackKeepsPlaces =
    (setup : Setup) (engine : TreeState) (lines : List Line) (watch : WatchState) (x : ℕ)
    → x < meta_lines setup.shape → length lines ≡ tree_size setup.shape
    → ArePlacesKept setup engine engine lines
    (slice_set lines (line_of_node setup.shape x) (node_line setup.formulas x (node_at watch.nodes x)))
    watch

abbrev pub FetchingKeepsPlaces : Type 0
FetchingKeepsPlaces =
    (setup : Setup) (x : ℕ) (line : Line) (node : Node) (old new : TreeState) (lines : List Line)
    (watch : WatchState)
    → IsFetched setup x line node old new watch → GivesWay setup old lines watch (slot_of setup.shape x)
    → ArePlacesKept setup old new lines lines watch

abbrev pub PowerOffKeepsNodes : Type 0
PowerOffKeepsNodes =
    (setup : Setup) (engine : TreeState) (lines : List Line) (regs : Regs) (watch : WatchState) (x : ℕ)
    → IsTreeTrusted setup engine regs watch → IsNodeHeldBy setup engine lines watch x
    → IsNodeHeld setup lines watch x

abbrev pub RecoveryKeepsNodes : Type 0
RecoveryKeepsNodes =
    (setup : Setup) (engine : TreeState) (lines : List Line) (regs : Regs) (watch : WatchState) (x : ℕ)
    → IsShape setup.shape → IsTreeAnchored setup regs watch → IsTreeRecovered setup watch.slots engine
    → x < meta_lines setup.shape → IsNodeHeld setup lines watch x → IsNodeHeldBy setup engine lines watch x

-- a held node that isn't cached is read as the true one: so a refusal or an exhibit of node x comes only if its line was tampered with
abbrev pub HeldNodesAreRead : Type 0
HeldNodesAreRead =
    (setup : Setup) (engine : TreeState) (lines : List Line) (regs : Regs) (watch : WatchState) (x : ℕ)
    → IsShape setup.shape → AreInRange setup.formulas → IsTreeTrusted setup engine regs watch → 1 ≤ x
    → x < meta_lines setup.shape → (IsCached setup.shape engine.cache x → ⊥)
    → IsNodeHeldBy setup engine lines watch x
    → (node_read setup.formulas x (line_at lines (line_of_node setup.shape x)) (entry_for watch.nodes x)
    ≡ Some (node_at watch.nodes x))
    × (stored_node (line_at lines (line_of_node setup.shape x)) ≡ node_at watch.nodes x)

-- so is a stored seal, and so are stored slot lines
abbrev pub StoredLinesAreRead : Type 0
StoredLinesAreRead =
    (setup : Setup) (lines : List Line) (regs : Regs) (watch : WatchState) (a : ℕ)
    → IsTreeAnchored setup regs watch → a < tree_lines setup.shape → IsTreeSealStored setup.shape lines watch a
    → (setup.formulas.tag_of a (version_counter (line_counter setup.shape watch.nodes a)) (line_at lines a)
    ≡ tag_slot (line_at lines (line_of_tag setup.shape a)) 0)
    × IfSome (last_seal_of watch a) (λ seal. line_at lines a ≡ seal.cipher)

abbrev pub StoredSlotsAreRead : Type 0
StoredSlotsAreRead =
    (setup : Setup) (lines : List Line) (regs : Regs) (watch : WatchState)
    → IsTreeAnchored setup regs watch → length lines ≡ tree_size setup.shape
    → ((i : ℕ) → i < tree_slots setup.shape → IsSlotStored setup.shape lines watch i)
    → slots_read setup.shape lines ≡ watch.slots

-- a line changed past the controller changes no other, an armed group being redone
abbrev pub TamperingKeepsOthers : Type 0
TamperingKeepsOthers =
    (group : List (ℕ × Line)) (lines : List Line) (d p : ℕ) (line : Line) → p ≢ d
    → line_at (redone group (slice_set lines d line)) p ≡ line_at (redone group lines) p

-- ---- the plain machine of a session

-- its true nodes are the watch's
abbrev pub PlainNodesAreTrue : Type 0
PlainNodesAreTrue =
    (setup : Setup) (plain : PlainTree) (watch : WatchState) (x : ℕ)
    → IsShape setup.shape → IsCounterTree setup.shape watch.nodes
    → ((a : ℕ) → a < tree_lines setup.shape → true_count plain a ≡ line_counter setup.shape watch.nodes a)
    → x < meta_lines setup.shape → true_node setup.shape plain x ≡ node_at watch.nodes x

-- a write that is armed is one of the plain machine
abbrev pub ArmingIsAWrite : Type 0
ArmingIsAWrite =
    (setup : Setup) (a : ℕ) (line : Line) (seal : LineSeal) (old_regs new_regs : Regs) (old new : WatchState)
    (plain : PlainTree)
    → IsShape setup.shape → AreInRange setup.formulas → IsTreeAnchored setup old_regs old
    → IsTreeArmed setup a seal old_regs new_regs old new → IsLine line
    → seal.cipher ≡ cipher_of setup.formulas a (version_counter seal.counter) line
    → IsPlainOf setup plain old → IsPlainOf setup (after_tree_write setup.shape plain a line) new

-- the version of its top is the number of all writes made, by which a write is spent
abbrev pub TopCountsWrites : Type 0
TopCountsWrites =
    (g : Shape) (plain : PlainTree) → IsShape g → length plain.counts ≡ tree_lines g
    → true_version g plain 0 ≡ writes_made plain
