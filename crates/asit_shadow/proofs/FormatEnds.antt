-- What formatting leaves.
use Rattle.std.proofs.Common.{ℕ, ◌≡◌, ◌+◌, ◌*◌, List, length, Some, None, sym, ap, subst, ◌∙◌, rules}
use Rattle.asit_shadow.proofs.Common.{Option, Ok, All, IfSome, IsNone, option_map, true, false, length-replicate, length-set, none-some, Line, Exhibit, meta_lines, IsLine, empty_regs, Shape, IsShape, RisesBy-once, RisesBy, Device, AreToldLines, HasLatched, the_cut, Follows, is_done, latch_then, bind_ok, AreInRange, Setup, IsGroup-nil, StaysSteady, StaysSteady-then, Node, zero_node, tree_lines, tree_slots, tree_size, IsNode-zero_node, meta_lines-level, level_start-suc, ChipTree, IsChipTree, IsShadowTree, root_of, shadow_height, WatchState, TreeState, IsTreeEngine, IsTreeSound, tree_parts_of, IsTreeUsable, Rest, sealing_plan, nodes_plan, naming_plan, after_sealing, after_nodes, after_naming, first_cache, first_slots, tree_sealed_lines, node_lines_written, slot_lines_written, AreSealsTold, AreNodesTold, AreSlotsTold, IsChipFormatted, IsFirstEngine, AreLinesFormatted, HasDeviceFormatted, HasTreeFormatted}
use Rattle.counter_tree.specs.Shadow.{shadow_root}
use Rattle.asit_shadow.specs.Formatting.{tree_format_plan}
use Rattle.asit_shadow.proofs.FormatLaws.{replicate-default, IsTrusted-formatted, IsSound-formatted}
use Rattle.asit_shadow.proofs.EngineLemmas.{held-set}
use Rattle.asit_shadow.proofs.FormatSteps.{lines_formatted, formatted-told, told-mapped, mapped-then, first_slots-count, told-all}

-- the device and the watch in three turns, and a latch
pub record IsFilled (setup : Setup) (old new : Rest) (sealed noded slotted : Device) (sealing noding : WatchState) (root : List ℕ) : Type 0 where
  pub its_size : old.device.size ≡ tree_size setup.shape
  pub steady : old.device.steady ≡ true
  pub seal_count : length old.watch.seals ≡ tree_lines setup.shape
  pub node_count : length old.watch.nodes ≡ meta_lines setup.shape
  pub slot_count : length old.watch.slots ≡ tree_slots setup.shape
  pub was_whole : AreToldLines old.device.size old.device.lines
  pub whole : AreToldLines new.device.size new.device.lines
  pub seals_steady : StaysSteady (2 * tree_lines setup.shape) old.device sealed
  pub seals_written : sealed.lines ≡ option_map (tree_sealed_lines setup (tree_lines setup.shape)) old.device.lines
  pub seals_told : AreSealsTold setup.formulas (tree_lines setup.shape) old.watch sealing
  pub nodes_steady : StaysSteady (meta_lines setup.shape) sealed noded
  pub nodes_written : noded.lines ≡ option_map (node_lines_written setup (meta_lines setup.shape)) sealed.lines
  pub nodes_told : AreNodesTold (meta_lines setup.shape) sealing noding
  pub slots_steady : StaysSteady (tree_slots setup.shape) noded slotted
  pub slots_written : slotted.lines ≡ option_map (slot_lines_written setup.shape (first_slots setup.shape) (tree_slots setup.shape)) noded.lines
  pub slots_told : AreSlotsTold (first_slots setup.shape) (tree_slots setup.shape) noding new.watch
  pub seals_followed : Follows (sealing_plan setup) old.device sealed (Ok tt)
  pub nodes_followed : Follows (nodes_plan setup) sealed noded (Ok tt)
  pub slots_followed : Follows (naming_plan setup.shape (first_slots setup.shape)) noded slotted (Ok tt)
  pub latched : HasLatched slotted (record empty_regs { root = root }) new.device
  pub its_root : root ≡ root_of setup.formulas (shadow_height setup.shape) (first_slots setup.shape)

lines-written : (setup : Setup) (old sealed noded slotted : Option (List Line)) → sealed ≡ option_map (tree_sealed_lines setup (tree_lines setup.shape)) old → noded ≡ option_map (node_lines_written setup (meta_lines setup.shape)) sealed
    → slotted ≡ option_map (slot_lines_written setup.shape (first_slots setup.shape) (tree_slots setup.shape)) noded → slotted ≡ option_map (lines_formatted setup) old
unfolding lines_formatted
lines-written setup old sealed noded slotted first second third = search (rules, mapped-then, lines_formatted)

pub device-formatted : (setup : Setup) (old new : Rest) (sealed noded slotted : Device) (sealing noding : WatchState) (root : List ℕ) (tree : ChipTree) → IsFilled setup old new sealed noded slotted sealing noding root → tree.height ≡ shadow_height setup.shape → IsShadowTree setup.formulas (shadow_height setup.shape) (first_slots setup.shape) tree.lines
    → HasDeviceFormatted setup old new tree
unfolding shadow_root tree_format_plan
device-formatted setup old new sealed noded slotted sealing noding root tree it height over =
    let all = StaysSteady-then (2 * tree_lines setup.shape + meta_lines setup.shape) (tree_slots setup.shape) old.device noded slotted (StaysSteady-then (2 * tree_lines setup.shape) (meta_lines setup.shape) old.device sealed noded it.seals_steady it.nodes_steady) it.slots_steady in
    let lines : new.device.lines ≡ option_map (lines_formatted setup) old.device.lines =
    it.latched.lines ∙ lines-written setup old.device.lines sealed.lines noded.lines slotted.lines it.seals_written it.nodes_written it.slots_written in
    let size : new.device.size ≡ old.device.size = it.latched.size ∙ all.size in
    record {
      told = told-all setup old.watch sealing noding new.watch it.seal_count it.node_count it.slot_count it.seals_told it.nodes_told it.slots_told;
      lines =
          formatted-told setup old.device.lines new.device.lines (subst (λ n. AreToldLines n old.device.lines) it.its_size it.was_whole)
          (subst (λ n. AreToldLines n new.device.lines) (size ∙ it.its_size) it.whole) lines;
      lines_told = told-mapped (lines_formatted setup) old.device.lines new.device.lines lines;
      regs = it.latched.regs ∙ ap (λ (r : List ℕ). record empty_regs { root = r }) it.its_root;
      over = over;
      height = height;
      size = size;
      steady = it.latched.steady ∙ all.steady it.steady;
      live = λ on. it.latched.live ∙ all.live on;
      writes = subst (λ n. RisesBy (tree_size setup.shape) old.device.writes n) (sym it.latched.writes) all.writes;
      latches = subst (λ n. RisesBy 1 n new.device.latches) all.latches (RisesBy-once it.latched.latches);
      reads = it.latched.reads ∙ all.reads;
      cuts = it.latched.cuts ∙ all.cuts;
      plan =
          bind_ok (after_sealing setup) it.seals_followed
          (bind_ok (after_nodes setup) it.nodes_followed
          (bind_ok (after_naming setup) it.slots_followed
          (latch_then the_cut (subst (λ (r : List ℕ). HasLatched slotted (record empty_regs { root = r }) new.device) it.its_root it.latched) (is_done tt new.device))));
    }

-- with its engine
pub tree-formatted : (setup : Setup) (old new : Rest) (engine : TreeState) → IsShape setup.shape → AreInRange setup.formulas → length old.watch.seals ≡ tree_lines setup.shape → All IsLine new.watch.slots → IsFirstEngine setup engine → IsChipTree engine.tree → HasDeviceFormatted setup old new engine.tree → HasTreeFormatted setup old new engine
tree-formatted setup old new engine shape in_range seals whole first tree it =
    record {
      engine_new = first;
      device = it;
      tree_whole = tree;
      trusted = λ its none. IsTrusted-formatted setup engine new.device.regs new.watch shape in_range (chip its none);
      sound = λ its none. each new.device.lines it.lines (chip its none);
    }
  where
    chip : old.watch.setup ≡ setup → IsNone old.watch.exhibit → IsChipFormatted setup engine new.device.regs new.watch
    chip its none =
        record {
          of_setup =
              record {
                its_setup = it.told.its_setup ∙ its;
                seal_count = it.told.seal_count ∙ seals;
                node_count = ap length it.told.nodes ∙ length-replicate {A = Node} (meta_lines setup.shape) zero_node;
                slot_count = ap length it.told.slots ∙ first_slots-count setup.shape;
                whole_slots = whole;
              };
          no_exhibit = subst (λ (e : Option Exhibit). IsNone e) (sym it.told.exhibit) none;
          seals = it.told.seals;
          nodes = it.told.nodes;
          slots = it.told.slots;
          engine_new = first;
          tree = it.over;
          its_regs = it.regs;
        }

    each : (lines : Option (List Line)) → IfSome lines (AreLinesFormatted setup) → IsChipFormatted setup engine new.device.regs new.watch → IfSome lines (λ l. IsTreeSound setup engine l new.device.regs new.watch)
    each None written made = tt
    each (Some lines) written made = IsSound-formatted setup engine lines new.device.regs new.watch shape in_range made written

-- and its calls can begin
pub formatted-usable : (setup : Setup) (old new : Rest) (engine : TreeState) → old.device.size ≡ tree_size setup.shape → length old.watch.seals ≡ tree_lines setup.shape → HasTreeFormatted setup old new engine → IsTreeUsable setup.shape (tree_parts_of engine new.device new.watch)
formatted-usable setup old new engine size seals it = search (rules, length-replicate, first_slots-count, IsGroup-nil)

-- the engine is whole
pub first-engine : (g : Shape) (tree : ChipTree) → IsChipTree tree → tree.height ≡ shadow_height g → IsTreeEngine (record { shape = g; cache = first_cache g; tree = tree; down = false })
first-engine g tree whole height = search (rules, length-replicate, meta_lines-level, level_start-suc, IsNode-zero_node, length-set, held-set, none-some, replicate-default)
