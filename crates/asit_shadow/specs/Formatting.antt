-- What formatting makes of a device, of its watch and of the engine: zero lines under counter 0, zero nodes,
-- slot 0 naming the top.
use Rattle.std.specs.Prelude.{ℕ, zero, suc, ◌≡◌, ◌<◌, false, true, List, Some, None, Option, length, replicate, slice_set, IfSome, IsNone, is_some, Ok}
use Rattle.pmem_base.specs.declared.faults.Cut.{Cut}
use Rattle.pmem_base.specs.declared.lines.Line.{Line}
use Rattle.pmem_base.specs.declared.registers.Regs.{Regs}
use Rattle.pmem_base.specs.Layout.{meta_lines}
use Rattle.pmem_base.specs.Lines.{line_at, zero_line}
use Rattle.pmem_base.specs.Registers.{empty_regs}
use Rattle.pmem_base.specs.Shape.{Shape}
use Rattle.suite.specs.Formulas.{Formulas, cipher_of}
use Rattle.suite.specs.Setup.{Setup}
use Rattle.call_plan.specs.Plans.{Plan, done, write, latch, bind, repeated, the_cut}
use Rattle.call_plan.specs.Following.{Follows}
use Rattle.board.specs.Counts.{RisesBy}
use Rattle.board.specs.Device.{AreLinesOf}
use Rattle.board.specs.Steps.{with_line}
use Rattle.counter_tree.specs.declared.watch.LineSeal.{LineSeal}
use Rattle.counter_tree.specs.Layout.{tree_lines, tree_slots, tree_size, line_of_tag, line_of_node, line_of_slot}
use Rattle.counter_tree.specs.Nodes.{version_counter, node_line, zero_node}
use Rattle.counter_tree.specs.Plans.{shadow_tree}
use Rattle.counter_tree.specs.Shadow.{ChipTree, IsChipTree, shadow_height, shadow_root}
use Rattle.counter_tree.specs.Slots.{slot_line}
use Rattle.counter_tree.specs.Watch.{WatchState, last_seal_of, IsWatchOf}
use Rattle.asit_shadow.specs.declared.cache.CachedNode.{CachedNode}
use Rattle.asit_shadow.specs.State.{TreeState}
use Rattle.asit_shadow.specs.Invariants.{IsTreeSound, IsTreeOver}
use Rattle.asit_shadow.specs.Parts.{tree_parts_of, AreTreeTrusted}
use Rattle.asit_shadow.specs.Paths.{tag_only}
use Rattle.asit_shadow.specs.Recovering.{Rest}

-- the seal of a zero line under counter 0
abbrev pub first_tree_seal : Formulas → ℕ → LineSeal
first_tree_seal f a =
    record {
      counter = 0;
      cipher = cipher_of f a (version_counter 0) zero_line;
      tag = f.tag_of a (version_counter 0) (cipher_of f a (version_counter 0) zero_line);
    }

-- the top in its slot
abbrev pub first_held : CachedNode
first_held = record { x = 0; node = zero_node; dirty = true }

-- slot 0 has the top, and nothing else is cached
abbrev pub first_cache : Shape → List (Option CachedNode)
first_cache g = slice_set (replicate (tree_slots g) None) 0 (Some first_held)

-- slot line 0 names the top, and the others are zero
abbrev pub first_slots : Shape → List Line
first_slots g = slice_set (replicate (tree_slots g) zero_line) 0 (slot_line 0 zero_node)

-- the root over these slot lines, and nothing else
abbrev pub first_tree_regs : Setup → Regs
first_tree_regs setup = record empty_regs { root = shadow_root setup.shape setup.formulas (first_slots setup.shape) }

-- ---- what is left

-- each line of the device
pub record AreLinesFormatted (setup : Setup) (lines : List Line) : Type 0 where
  pub device_whole : AreLinesOf (tree_size setup.shape) lines
  pub data_lines : (a : ℕ) → a < tree_lines setup.shape → line_at lines a ≡ (first_tree_seal setup.formulas a).cipher
  pub tag_lines :
      (a : ℕ) → a < tree_lines setup.shape
      → line_at lines (line_of_tag setup.shape a) ≡ tag_only (first_tree_seal setup.formulas a).tag
  pub node_lines :
      (x : ℕ) → x < meta_lines setup.shape
      → line_at lines (line_of_node setup.shape x) ≡ node_line setup.formulas x zero_node
  pub slot_lines :
      (i : ℕ) → i < tree_slots setup.shape
      → line_at lines (line_of_slot setup.shape i) ≡ line_at (first_slots setup.shape) i

-- all of it is reported to the watch
pub record IsFormatTold (setup : Setup) (old new : WatchState) : Type 0 where
  pub its_setup : new.setup ≡ old.setup
  pub seal_count : length new.seals ≡ length old.seals
  pub seals : (a : ℕ) → a < tree_lines setup.shape → last_seal_of new a ≡ Some (first_tree_seal setup.formulas a)
  pub nodes : new.nodes ≡ replicate (meta_lines setup.shape) zero_node
  pub slots : new.slots ≡ first_slots setup.shape
  pub exhibit : new.exhibit ≡ old.exhibit

-- an engine with the top cached alone
pub record IsFirstEngine (setup : Setup) (engine : TreeState) : Type 0 where
  pub shape : engine.shape ≡ setup.shape
  pub not_down : engine.down ≡ false
  pub cache : engine.cache ≡ first_cache setup.shape

-- it, with the tree over the first slot lines
abbrev pub first_engine : Setup → TreeState
first_engine setup =
    record {
      shape = setup.shape;
      cache = first_cache setup.shape;
      tree =
          record {
            height = shadow_height setup.shape;
            lines = shadow_tree setup.formulas (shadow_height setup.shape) (first_slots setup.shape);
          };
      down = false;
    }

-- a chip and a watch of its setup so formatted, with no exhibit
pub record IsChipFormatted (setup : Setup) (engine : TreeState) (regs : Regs) (watch : WatchState) : Type 0 where
  pub of_setup : IsWatchOf setup watch
  pub no_exhibit : IsNone watch.exhibit
  pub seals : (a : ℕ) → a < tree_lines setup.shape → last_seal_of watch a ≡ Some (first_tree_seal setup.formulas a)
  pub nodes : watch.nodes ≡ replicate (meta_lines setup.shape) zero_node
  pub slots : watch.slots ≡ first_slots setup.shape
  pub engine_new : IsFirstEngine setup engine
  pub tree : IsTreeOver setup (first_slots setup.shape) engine.tree
  pub its_regs : regs ≡ first_tree_regs setup

-- ---- what it does of a steady board, as a plan

-- a data line and its tag line
abbrev pub sealing_turn : Setup → ℕ → Unit {0} → Plan Cut (Unit {0})
sealing_turn setup a before =
    write the_cut a (first_tree_seal setup.formulas a).cipher
    (write the_cut (line_of_tag setup.shape a) (tag_only (first_tree_seal setup.formulas a).tag) (done tt))

abbrev pub sealing_plan : Setup → Plan Cut (Unit {0})
sealing_plan setup = repeated (sealing_turn setup) 0 (tree_lines setup.shape) tt

abbrev pub node_turn : Setup → ℕ → Unit {0} → Plan Cut (Unit {0})
node_turn setup x before = write the_cut (line_of_node setup.shape x) (node_line setup.formulas x zero_node) (done tt)

abbrev pub nodes_plan : Setup → Plan Cut (Unit {0})
nodes_plan setup = repeated (node_turn setup) 0 (meta_lines setup.shape) tt

abbrev pub naming_turn : Shape → List Line → ℕ → Unit {0} → Plan Cut (Unit {0})
naming_turn g slots i before = write the_cut (line_of_slot g i) (line_at slots i) (done tt)

abbrev pub naming_plan : Shape → List Line → Plan Cut (Unit {0})
naming_plan g slots = repeated (naming_turn g slots) 0 (tree_slots g) tt

abbrev pub after_naming : Setup → Unit {0} → Plan Cut (Unit {0})
after_naming setup named = latch the_cut (first_tree_regs setup) (done tt)

abbrev pub after_nodes : Setup → Unit {0} → Plan Cut (Unit {0})
after_nodes setup noded = bind (naming_plan setup.shape (first_slots setup.shape)) (after_naming setup)

abbrev pub after_sealing : Setup → Unit {0} → Plan Cut (Unit {0})
after_sealing setup sealed = bind (nodes_plan setup) (after_nodes setup)

-- data lines and tag lines, nodes, slot lines, and one latch of the root over these
unfoldable pub tree_format_plan : Setup → Plan Cut (Unit {0})
tree_format_plan setup = bind (sealing_plan setup) (after_sealing setup)

-- the device and the watch so formatted, with the tree over the slot lines
pub record HasDeviceFormatted (setup : Setup) (old new : Rest) (tree : ChipTree) : Type 0 where
  pub told : IsFormatTold setup old.watch new.watch
  pub lines : IfSome new.device.lines (AreLinesFormatted setup)
  pub lines_told : is_some new.device.lines ≡ is_some old.device.lines
  pub regs : new.device.regs ≡ first_tree_regs setup
  pub over : IsTreeOver setup (first_slots setup.shape) tree
  pub height : tree.height ≡ shadow_height setup.shape
  pub size : new.device.size ≡ old.device.size
  pub steady : new.device.steady ≡ true
  pub live : old.device.live ≡ true → new.device.live ≡ true
  -- each line is written once, and the registers are latched once
  pub writes : RisesBy (tree_size setup.shape) old.device.writes new.device.writes
  pub latches : RisesBy 1 old.device.latches new.device.latches
  pub reads : new.device.reads ≡ old.device.reads
  pub cuts : new.device.cuts ≡ old.device.cuts
  pub plan : Follows (tree_format_plan setup) old.device new.device (Ok tt)

-- a formatted device and its engine: trusted, and sound if the lines are exposed, with a watch of the setup that had no exhibit
pub record HasTreeFormatted (setup : Setup) (old new : Rest) (engine : TreeState) : Type 0 where
  pub engine_new : IsFirstEngine setup engine
  pub device : HasDeviceFormatted setup old new engine.tree
  pub tree_whole : IsChipTree engine.tree
  pub trusted :
      old.watch.setup ≡ setup → IsNone old.watch.exhibit → AreTreeTrusted setup (tree_parts_of engine new.device new.watch)
  pub sound :
      old.watch.setup ≡ setup → IsNone old.watch.exhibit
      → IfSome new.device.lines (λ lines. IsTreeSound setup engine lines new.device.regs new.watch)

-- ---- its steps, in order

-- the first n places of a family set in a list
abbrev pub set_first : {X : Type 0} → (ℕ → ℕ) → (ℕ → X) → ℕ → List X → List X
set_first place value zero list = list
set_first place value (suc n) list = slice_set (set_first place value n list) (place n) (value n)

-- data line a sealed, with its tag line, if the lines are exposed
abbrev pub first_sealed : Formulas → Shape → ℕ → Option (List Line) → Option (List Line)
first_sealed f g a lines =
    with_line (with_line lines a (first_tree_seal f a).cipher) (line_of_tag g a) (tag_only (first_tree_seal f a).tag)

-- the first n data lines sealed, each with its tag line
abbrev pub tree_sealed_lines : Setup → ℕ → List Line → List Line
tree_sealed_lines setup zero lines = lines
tree_sealed_lines setup (suc n) lines =
    slice_set (slice_set (tree_sealed_lines setup n lines) n (first_tree_seal setup.formulas n).cipher)
    (line_of_tag setup.shape n) (tag_only (first_tree_seal setup.formulas n).tag)

-- the first n nodes and the first n slot lines of these written
abbrev pub node_lines_written : Setup → ℕ → List Line → List Line
node_lines_written setup n lines =
    set_first (line_of_node setup.shape) (λ x. node_line setup.formulas x zero_node) n lines

abbrev pub slot_lines_written : Shape → List Line → ℕ → List Line → List Line
slot_lines_written g slots n lines = set_first (line_of_slot g) (line_at slots) n lines

-- the first n seals told
pub record AreSealsTold (f : Formulas) (n : ℕ) (old new : WatchState) : Type 0 where
  pub setup : new.setup ≡ old.setup
  pub seals : new.seals ≡ set_first (λ a. a) (λ a. Some (first_tree_seal f a)) n old.seals
  pub nodes : new.nodes ≡ old.nodes
  pub slots : new.slots ≡ old.slots
  pub exhibit : new.exhibit ≡ old.exhibit

-- the first n nodes told
pub record AreNodesTold (n : ℕ) (old new : WatchState) : Type 0 where
  pub setup : new.setup ≡ old.setup
  pub seals : new.seals ≡ old.seals
  pub nodes : new.nodes ≡ set_first (λ x. x) (λ x. zero_node) n old.nodes
  pub slots : new.slots ≡ old.slots
  pub exhibit : new.exhibit ≡ old.exhibit

-- the first n slot lines of these told
pub record AreSlotsTold (lines : List Line) (n : ℕ) (old new : WatchState) : Type 0 where
  pub setup : new.setup ≡ old.setup
  pub seals : new.seals ≡ old.seals
  pub nodes : new.nodes ≡ old.nodes
  pub slots : new.slots ≡ set_first (λ i. i) (line_at lines) n old.slots
  pub exhibit : new.exhibit ≡ old.exhibit
