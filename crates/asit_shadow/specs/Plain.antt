-- The plain machine of a session over a counter tree: no tree and no cipher is in its state.
use Rattle.std.specs.Prelude.{ℕ, zero, suc, ◌≡◌, ◌<◌, ◌+◌, ◌-◌, Bool, true, false, List, [], ◌∷◌, map, length, slice_index, slice_index_or, slice_set, nat_lt, Option, Some, None, sum, if◌then◌else◌}
use Rattle.pmem_base.specs.declared.lines.Line.{Line}
use Rattle.pmem_base.specs.Lines.{line_at, zero_line}
use Rattle.pmem_base.specs.Shape.{Shape}
use Rattle.pmem_base.specs.Layout.{meta_lines}
use Rattle.suite.specs.Formulas.{Formulas, cipher_of}
use Rattle.suite.specs.Setup.{Setup}
use Rattle.bonsai_tree.specs.Positions.{child_position, level_of}
use Rattle.board.specs.Memory.{BoardMemory}
use Rattle.counter_tree.specs.declared.nodes.Node.{Node}
use Rattle.counter_tree.specs.Nodes.{total, version_counter}
use Rattle.counter_tree.specs.Layout.{tree_lines, tree_slots}
use Rattle.counter_tree.specs.Slots.{slot_of, slot_line}
use Rattle.counter_tree.specs.Watch.{WatchState}
use Rattle.counter_tree.specs.Trees.{line_counter}
use Rattle.asit_shadow.specs.Paths.{line_path, set_each}
use Rattle.asit_shadow.specs.Steps.{tree_plain_line}

-- memory, the writes made of each line, the node that each slot's true line names, whether a tamper
-- command ever changed a device line, and whether one changed a data line or its tag line since its
-- last write; and the board
pub record PlainTree : Type 0 where
  pub memory : List Line
  pub counts : List ℕ
  pub named : List (Option ℕ)
  pub tampered : List Bool
  pub hurt : List Bool
  pub board : BoardMemory

-- ---- the truth

-- the writes made below position y, which is j levels above the data lines
abbrev pub writes_below : Shape → List ℕ → ℕ → ℕ → ℕ
writes_below g counts zero y = slice_index counts (y - meta_lines g)
writes_below g counts (suc j) y =
    writes_below g counts j (child_position y 0)
    + writes_below g counts j (child_position y 1)
    + writes_below g counts j (child_position y 2)
    + writes_below g counts j (child_position y 3)

-- the node whose children are j levels above the data lines: the writes made below each child
abbrev pub node_above_lines : Shape → List ℕ → ℕ → ℕ → Node
node_above_lines g counts j x =
    record {
      0 =
          writes_below g counts j (child_position x 0)
          ∷ writes_below g counts j (child_position x 1)
          ∷ writes_below g counts j (child_position x 2)
          ∷ writes_below g counts j (child_position x 3)
          ∷ [];
    }

-- the true node x
unfoldable pub true_node : Shape → PlainTree → ℕ → Node
true_node g plain x = node_above_lines g plain.counts (g.levels - level_of x) x

-- its version: the writes made below it
abbrev pub true_version : Shape → PlainTree → ℕ → ℕ
true_version g plain x = total (true_node g plain x)

-- the counter of data line a, and the cipher of its memory line under it
abbrev pub true_count : PlainTree → ℕ → ℕ
true_count plain a = slice_index plain.counts a

abbrev pub true_cipher : Formulas → PlainTree → ℕ → Line
true_cipher f plain a = cipher_of f a (version_counter (true_count plain a)) (line_at plain.memory a)

-- the true line of a slot that names this node, or none
abbrev pub slot_naming : Shape → PlainTree → Option ℕ → Line
slot_naming g plain None = zero_line
slot_naming g plain (Some x) = slot_line x (true_node g plain x)

-- the true slot lines
abbrev pub true_slots : Shape → PlainTree → List Line
true_slots g plain = map (slot_naming g plain) plain.named

-- all writes made
abbrev pub writes_made : PlainTree → ℕ
writes_made plain = sum plain.counts

-- ---- what changes it

-- each of these nodes is named in its slot
abbrev pub names_with : Shape → List ℕ → List (Option ℕ) → List (Option ℕ)
names_with g xs named = set_each (slot_of g) (λ x. Some x) xs named

-- a write of data line a is in memory
abbrev pub after_tree_write : Shape → PlainTree → ℕ → Line → PlainTree
after_tree_write g plain a line =
    record plain {
      memory = slice_set plain.memory a line;
      counts = slice_set plain.counts a (true_count plain a + 1);
      named = names_with g (line_path g a) plain.named;
      hurt = slice_set plain.hurt a false;
    }

-- the data lines that a change of device line d hurts
abbrev pub hurt_with : Shape → List Bool → ℕ → List Bool
hurt_with g hurt d =
    if nat_lt d (tree_lines g) then slice_set hurt d true
    else if nat_lt d (tree_lines g + tree_lines g) then slice_set hurt (d - tree_lines g) true
    else hurt

-- a tamper command changed device line d
abbrev pub after_change : Shape → PlainTree → ℕ → PlainTree
after_change g plain d =
    record plain { tampered = slice_set plain.tampered d true; hurt = hurt_with g plain.hurt d }

abbrev pub with_board : PlainTree → BoardMemory → PlainTree
with_board plain board = record plain { board = board }

abbrev pub is_tampered : PlainTree → ℕ → Bool
is_tampered plain d = slice_index_or plain.tampered d false

abbrev pub is_hurt : PlainTree → ℕ → Bool
is_hurt plain a = slice_index_or plain.hurt a false

-- ---- what it has to do with a watch

-- the node that slot i names
abbrev pub named_at : List (Option ℕ) → ℕ → Option ℕ
named_at named i = slice_index_or named i None

-- memory is the plain lines of the last seals, the counts are the lines' counters, and the true slot lines name the nodes that the state
-- has as named
pub record IsPlainOf (setup : Setup) (plain : PlainTree) (watch : WatchState) : Type 0 where
  pub memory_count : length plain.memory ≡ tree_lines setup.shape
  pub count_count : length plain.counts ≡ tree_lines setup.shape
  pub named_count : length plain.named ≡ tree_slots setup.shape
  pub memory : (a : ℕ) → a < tree_lines setup.shape → line_at plain.memory a ≡ tree_plain_line setup.formulas watch a
  pub counts : (a : ℕ) → a < tree_lines setup.shape → true_count plain a ≡ line_counter setup.shape watch.nodes a
  pub placed :
      (i x : ℕ) → named_at plain.named i ≡ Some x
      → (slot_of setup.shape x ≡ i) × (x < meta_lines setup.shape)
  pub slots :
      (i : ℕ) → i < tree_slots setup.shape
      → slot_naming setup.shape plain (named_at plain.named i) ≡ line_at watch.slots i
