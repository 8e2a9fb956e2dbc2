-- The state of a session made from the parts that it keeps, and what always holds of these.
use Rattle.std.specs.Prelude.{ℕ, ◌≡◌, ◌<◌, ◌≤◌, ◌+◌, Bool, true, false, List, map, length, Option, Some, None, MatchOption, IfSome}
use Rattle.std.specs.List.{range_with_len}
use Rattle.std.specs.Option.{option_map}
use Rattle.pmem_base.specs.declared.lines.Line.{Line}
use Rattle.pmem_base.specs.declared.answers.Exhibit.{Exhibit}
use Rattle.pmem_base.specs.Shape.{IsShape}
use Rattle.pmem_base.specs.Layout.{meta_lines}
use Rattle.board.specs.Device.{AreLinesOf}
use Rattle.board.specs.Memory.{BoardMemory, device_of}
use Rattle.suite.specs.Formulas.{AreInRange}
use Rattle.suite.specs.Setup.{Setup}
use Rattle.collision_witness.specs.Exhibits.{IsExhibit, AreSmallMinors}
use Rattle.counter_tree.specs.Layout.{tree_lines, tree_slots, tree_size, line_of_node, line_of_slot}
use Rattle.counter_tree.specs.Slots.{slot_read}
use Rattle.counter_tree.specs.Trees.{line_counter}
use Rattle.counter_tree.specs.Watch.{WatchState, IsWatchOf}
use Rattle.asit_shadow.specs.State.{TreeState}
use Rattle.asit_shadow.specs.Steps.{tree_plain_line}
use Rattle.asit_shadow.specs.Parts.{tree_parts_of, IsTreeUsable, AreTreeTrusted, HoldsNode}
use Rattle.asit_shadow.specs.Recovering.{Rest, rest_of, rest_redone, IsRestAnchored, IsRestUsable}
use Rattle.asit_shadow.specs.Places.{IsNodeHeld}
use Rattle.asit_shadow.specs.Invariants.{IsTreeSealStored, IsSlotStored}
use Rattle.asit_shadow.specs.Plain.{PlainTree, is_tampered, is_hurt}
use Rattle.tree_session.specs.State.{SessionState}

-- ---- a state of its parts

-- what the program keeps of a session next to the geometry
pub record TreeParts : Type 0 where
  pub keys : List ℕ
  pub pads : ℕ
  pub tags : ℕ
  pub digests : ℕ
  pub board : BoardMemory
  pub watch : WatchState
  pub engine : Option TreeState
  pub tampered : List Bool
  pub hurt : List Bool

-- the node that a slot's true line names
abbrev pub named_by : Line → Option ℕ
named_by line = option_map (λ named. named.x) (slot_read line)

abbrev pub plain_of_parts : Setup → TreeParts → PlainTree
plain_of_parts setup parts =
    record {
      memory = map (tree_plain_line setup.formulas parts.watch) (range_with_len 0 (tree_lines setup.shape));
      counts = map (line_counter setup.shape parts.watch.nodes) (range_with_len 0 (tree_lines setup.shape));
      named = map named_by parts.watch.slots;
      tampered = parts.tampered;
      hurt = parts.hurt;
      board = parts.board;
    }

abbrev pub state_of : Setup → TreeParts → SessionState
state_of setup parts =
    record {
      shape = setup.shape;
      keys = parts.keys;
      plain = plain_of_parts setup parts;
      shown = parts.watch.exhibit;
      engine = parts.engine;
      seals = parts.watch.seals;
      nodes = parts.watch.nodes;
      slots = parts.watch.slots;
      pads = parts.pads;
      tags = parts.tags;
      digests = parts.digests;
    }

-- ---- what it always holds

-- what no tampering changed is on the device, once the armed group is redone: the last seal of each line that isn't
-- hurt, and the true line of each slot that was never changed
pub record AreTreePlacesKept (setup : Setup) (plain : PlainTree) (rest : Rest) : Type 0 where
  pub seals :
      (a : ℕ) → a < tree_lines setup.shape → is_hurt plain a ≡ false
      → IfSome (rest_redone rest) (λ lines. IsTreeSealStored setup.shape lines rest.watch a)
  pub slots :
      (i : ℕ) → i < tree_slots setup.shape → is_tampered plain (line_of_slot setup.shape i) ≡ false
      → IfSome (rest_redone rest) (λ lines. IsSlotStored setup.shape lines rest.watch i)

-- a node whose device line was never changed
abbrev pub IsTreeUnchanged : Setup → PlainTree → ℕ → Type 0
IsTreeUnchanged setup plain x =
    (x < meta_lines setup.shape) × (is_tampered plain (line_of_node setup.shape x) ≡ false)

abbrev pub rest_in : TreeParts → Rest
rest_in parts = rest_of (device_of parts.board) parts.watch

-- with power on the chip is trusted, and each unchanged node is true on the device or cached dirty
pub record IsTreeOn (setup : Setup) (parts : TreeParts) (engine : TreeState) : Type 0 where
  pub powered : parts.board.powered ≡ true
  pub its_shape : engine.shape ≡ setup.shape
  pub usable : IsTreeUsable setup.shape (tree_parts_of engine (device_of parts.board) parts.watch)
  pub trusted : AreTreeTrusted setup (tree_parts_of engine (device_of parts.board) parts.watch)
  pub nodes :
      (x : ℕ) → IsTreeUnchanged setup (plain_of_parts setup parts) x
      → HoldsNode setup (tree_parts_of engine (device_of parts.board) parts.watch) x

-- with power off the registers belong to the watch, and each unchanged node is true on the device or named
pub record IsTreeOff (setup : Setup) (parts : TreeParts) : Type 0 where
  pub unpowered : parts.board.powered ≡ false
  pub usable : IsRestUsable setup.shape (rest_in parts)
  -- a write's group at most
  pub small_group : length parts.board.regs.group.items ≤ setup.shape.levels + 3
  pub anchored : IsRestAnchored setup (rest_in parts)
  pub nodes :
      (x : ℕ) → IsTreeUnchanged setup (plain_of_parts setup parts) x
      → IfSome (rest_redone (rest_in parts)) (λ lines. IsNodeHeld setup lines parts.watch x)

-- the engine is there exactly while power is on
abbrev pub IsTreeBy : Setup → TreeParts → Option TreeState → Type 0
IsTreeBy setup parts None = IsTreeOff setup parts
IsTreeBy setup parts (Some engine) = IsTreeOn setup parts engine

-- before an exhibit, whatever was done to the device
pub record IsTreeOpen (setup : Setup) (parts : TreeParts) : Type 0 where
  pub chip : IsTreeBy setup parts parts.engine
  pub places : AreTreePlacesKept setup (plain_of_parts setup parts) (rest_in parts)

-- after one
pub record IsTreeEnded (setup : Setup) (parts : TreeParts) (exhibit : Exhibit) : Type 0 where
  pub holds : IsExhibit setup.formulas exhibit
  pub minors : AreSmallMinors exhibit
  pub no_engine : parts.engine ≡ None
  pub unpowered : parts.board.powered ≡ false

pub record IsTreeWorld (setup : Setup) (parts : TreeParts) : Type 0 where
  pub whole_shape : IsShape setup.shape
  pub whole_formulas : AreInRange setup.formulas
  pub its_watch : IsWatchOf setup parts.watch
  pub whole_lines : AreLinesOf (tree_size setup.shape) parts.board.lines
  pub tampered_count : length parts.tampered ≡ tree_size setup.shape
  pub hurt_count : length parts.hurt ≡ tree_lines setup.shape
  pub before_or_after : MatchOption parts.watch.exhibit (IsTreeOpen setup parts) (IsTreeEnded setup parts)
