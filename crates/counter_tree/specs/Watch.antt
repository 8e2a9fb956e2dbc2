-- What a watch knows, and what its calls do.
use Rattle.std.specs.Prelude.{ℕ, ◌≡◌, ◌≢◌, List, Option, Some, None, IfSome, length, slice_index_or, slice_set, All}
use Rattle.pmem_base.specs.declared.lines.Line.{Line}
use Rattle.pmem_base.specs.declared.answers.Exhibit.{Exhibit}
use Rattle.pmem_base.specs.declared.answers.Exhibit.TheVariants.{Clash, Forged}
use Rattle.pmem_base.specs.Lines.{IsLine, IsTag, tag_slot}
use Rattle.pmem_base.specs.Ranges.{IsU64}
use Rattle.pmem_base.specs.Layout.{meta_lines}
use Rattle.suite.specs.Setup.{Setup}
use Rattle.seal_ledger.specs.declared.Go.{Go}
use Rattle.seal_ledger.specs.declared.Go.TheVariants.{On, Stop}
use Rattle.counter_tree.specs.declared.nodes.Node.{Node}
use Rattle.counter_tree.specs.declared.watch.LineSeal.{LineSeal}
use Rattle.counter_tree.specs.Nodes.{wrapped_version, node_place, version_counter, without_tag, stored_node}
use Rattle.counter_tree.specs.Layout.{tree_lines, tree_slots}
use Rattle.counter_tree.specs.Trees.{node_at}
use Rattle.counter_tree.specs.Shadow.{shadow_tree_line, shadow_height, IsShadowDifference}

-- the geometry and the formulas, the last seal of each data line, the true nodes, the true slot
-- lines, and the first exhibit
pub record WatchState : Type 0 where
  pub setup : Setup
  pub seals : List (Option LineSeal)
  pub nodes : List Node
  pub slots : List Line
  pub exhibit : Option Exhibit

-- the last seal of data line a
abbrev pub last_seal_of : WatchState → ℕ → Option LineSeal
last_seal_of watch a = slice_index_or watch.seals a None

-- a seal's numbers and bytes are in range
pub record IsLineSeal (seal : LineSeal) : Type 0 where
  pub counter : IsU64 seal.counter
  pub cipher : IsLine seal.cipher
  pub tag : IsTag seal.tag

-- the watch is of this geometry under these formulas
pub record IsWatchOf (setup : Setup) (watch : WatchState) : Type 0 where
  pub its_setup : watch.setup ≡ setup
  pub seal_count : length watch.seals ≡ tree_lines setup.shape
  pub node_count : length watch.nodes ≡ meta_lines setup.shape
  pub slot_count : length watch.slots ≡ tree_slots setup.shape
  pub whole_slots : All IsLine watch.slots

-- ---- what is noted

-- this is the last seal of line a
pub record HasSealNoted (old new : WatchState) (a : ℕ) (seal : LineSeal) : Type 0 where
  pub seals : new.seals ≡ slice_set old.seals a (Some seal)
  pub setup : new.setup ≡ old.setup
  pub nodes : new.nodes ≡ old.nodes
  pub slots : new.slots ≡ old.slots
  pub exhibit : new.exhibit ≡ old.exhibit

-- this is the true node x
pub record HasNodeNoted (old new : WatchState) (x : ℕ) (node : Node) : Type 0 where
  pub nodes : new.nodes ≡ slice_set old.nodes x node
  pub setup : new.setup ≡ old.setup
  pub seals : new.seals ≡ old.seals
  pub slots : new.slots ≡ old.slots
  pub exhibit : new.exhibit ≡ old.exhibit

-- this is the true line of slot i
pub record HasSlotNoted (old new : WatchState) (i : ℕ) (line : Line) : Type 0 where
  pub slots : new.slots ≡ slice_set old.slots i line
  pub setup : new.setup ≡ old.setup
  pub seals : new.seals ≡ old.seals
  pub nodes : new.nodes ≡ old.nodes
  pub exhibit : new.exhibit ≡ old.exhibit

-- ---- what is seen

-- an exhibit came, and the first is kept
abbrev pub first_shown : Option Exhibit → Exhibit → Option Exhibit
first_shown None shown = Some shown
first_shown (Some first) shown = Some first

pub record HasShown (old new : WatchState) (shown : Exhibit) : Type 0 where
  pub exhibit : new.exhibit ≡ first_shown old.exhibit shown
  pub setup : new.setup ≡ old.setup
  pub seals : new.seals ≡ old.seals
  pub nodes : new.nodes ≡ old.nodes
  pub slots : new.slots ≡ old.slots

-- a cipher goes on if it is that of the line's last seal, and otherwise is shown as forged under that seal's counter
abbrev pub IsLineSeen : WatchState → WatchState → ℕ → Line → List ℕ → Go → Type 0
IsLineSeen old new at cipher tag On =
    IfSome (last_seal_of old at) (λ seal. cipher ≡ seal.cipher) × (new ≡ old)
IsLineSeen old new at cipher tag Stop =
    IfSome (last_seal_of old at)
    (λ seal. (cipher ≢ seal.cipher) × HasShown old new (Forged at (version_counter seal.counter) cipher tag))

-- the exhibit of a line at x: forged under the version of this node
abbrev pub forged_under : ℕ → Line → Node → Exhibit
forged_under x line node = Forged (node_place x) (version_counter (wrapped_version node)) (without_tag line) (tag_slot line 3)

-- the exhibit of a node's line: forged under the true node's version
abbrev pub forged_node : WatchState → ℕ → Line → Exhibit
forged_node watch x line = forged_under x line (node_at watch.nodes x)

-- a node's line goes on if its counters are those of the true node, and otherwise is shown
abbrev pub IsNodeSeen : WatchState → WatchState → ℕ → Line → Go → Type 0
IsNodeSeen old new x line On = (stored_node line ≡ node_at old.nodes x) × (new ≡ old)
IsNodeSeen old new x line Stop =
    (stored_node line ≢ node_at old.nodes x) × HasShown old new (forged_node old x line)

-- what is shown of slot lines: the first position from the top, on the path of the first slot that
-- differs, at which their shadow tree differs from that of the true ones
pub record IsSlotClash (watch : WatchState) (lines : List Line) (shown : Exhibit) : Type 0 where
  pub slot : ℕ
  pub height : ℕ
  pub position : ℕ
  pub place :
      IsShadowDifference watch.setup.formulas (shadow_height watch.setup.shape) lines watch.slots slot height position
  pub its :
      shown
      ≡ Clash position
      (shadow_tree_line watch.setup.formulas (shadow_height watch.setup.shape) lines height position)
      (shadow_tree_line watch.setup.formulas (shadow_height watch.setup.shape) watch.slots height position)

-- slot lines go on if they are the true ones, and otherwise their clash is shown
abbrev pub AreSlotsSeen : WatchState → WatchState → List Line → Go → Type 0
AreSlotsSeen old new lines On = (lines ≡ old.slots) × (new ≡ old)
AreSlotsSeen old new lines Stop =
    (lines ≢ old.slots) × ((shown : Exhibit) × IsSlotClash old lines shown × HasShown old new shown)
