-- The state of a session over a counter tree, which is plain data.
use Rattle.std.specs.Prelude.{ℕ, ◌≡◌, ◌<◌, ◌+◌, true, false, List, replicate, Option, Some, None, Ok, slice_set, length}
use Rattle.pmem_base.specs.declared.lines.Line.{Line}
use Rattle.pmem_base.specs.declared.answers.Exhibit.{Exhibit}
use Rattle.pmem_base.specs.Counts.{risen_times}
use Rattle.pmem_base.specs.Shape.{Shape}
use Rattle.pmem_base.specs.Lines.{zero_line}
use Rattle.pmem_base.specs.Layout.{meta_lines}
use Rattle.board.specs.Counts.{RisesBy}
use Rattle.board.specs.Memory.{device_of, new_memory}
use Rattle.call_plan.specs.Following.{Follows}
use Rattle.suite.specs.Formulas.{Formulas}
use Rattle.suite.specs.Setup.{Setup}
use Rattle.counter_tree.specs.Layout.{tree_lines, tree_slots, tree_size}
use Rattle.counter_tree.specs.declared.nodes.Node.{Node}
use Rattle.counter_tree.specs.declared.watch.LineSeal.{LineSeal}
use Rattle.counter_tree.specs.Nodes.{zero_node}
use Rattle.counter_tree.specs.Shadow.{shadow_digests}
use Rattle.counter_tree.specs.Watch.{WatchState, last_seal_of}
use Rattle.asit_shadow.specs.Formatting.{AreLinesFormatted, tree_format_plan, first_tree_regs, first_tree_seal, first_slots, first_engine}
use Rattle.asit_shadow.specs.Plain.{PlainTree}
use Rattle.asit_shadow.specs.State.{TreeState}

pub record SessionState : Type 0 where
  -- the geometry, and the keys of both suites
  pub shape : Shape
  pub keys : List ℕ
  -- memory, what was written, what was tampered with, and the board
  pub plain : PlainTree
  -- the exhibit that ended the session
  pub shown : Option Exhibit
  -- the engine while power is on, and what its watch knows: the last seals, the true nodes and the true slot lines
  pub engine : Option TreeState
  pub seals : List (Option LineSeal)
  pub nodes : List Node
  pub slots : List Line
  -- how many pads, tags and digests were made, without those of the watch
  pub pads : ℕ
  pub tags : ℕ
  pub digests : ℕ

-- the geometry, and a suite's formulas under the session's keys
abbrev pub tree_setup_in : (List ℕ → Formulas) → SessionState → Setup
tree_setup_in formulas_of state = record { shape = state.shape; formulas = formulas_of state.keys }

-- its watch
abbrev pub watch_in : Setup → SessionState → WatchState
watch_in setup state =
    record { setup = setup; seals = state.seals; nodes = state.nodes; slots = state.slots; exhibit = state.shown }

-- A formatted device with power on: all lines are zeros, the top alone is named and cached, the watch knows what was
-- written, nothing was tampered with, and nothing waits to be cut.
pub record IsNewTree (setup : Setup) (state : SessionState) : Type 0 where
  pub shape : state.shape ≡ setup.shape
  pub memory : state.plain.memory ≡ replicate (tree_lines setup.shape) zero_line
  pub counts : state.plain.counts ≡ replicate (tree_lines setup.shape) 0
  pub named : state.plain.named ≡ slice_set (replicate (tree_slots setup.shape) None) 0 (Some 0)
  pub tampered : state.plain.tampered ≡ replicate (tree_size setup.shape) false
  pub hurt : state.plain.hurt ≡ replicate (tree_lines setup.shape) false
  pub size : length state.plain.board.lines ≡ tree_size setup.shape
  pub lines : AreLinesFormatted setup state.plain.board.lines
  pub regs : state.plain.board.regs ≡ first_tree_regs setup
  pub power : state.plain.board.powered ≡ true
  pub fuse : state.plain.board.fuse ≡ None
  pub snapshot : state.plain.board.snapshot ≡ None
  pub reads : state.plain.board.reads ≡ 0
  -- each device line was written once, and the registers were latched once
  pub writes : RisesBy (tree_size setup.shape) 0 state.plain.board.writes
  pub latches : RisesBy 1 0 state.plain.board.latches
  pub cuts : state.plain.board.cuts ≡ 0
  pub engine : state.engine ≡ Some (first_engine setup)
  pub seal_count : length state.seals ≡ tree_lines setup.shape
  pub seals :
      (a : ℕ) → a < tree_lines setup.shape
      → last_seal_of (watch_in setup state) a ≡ Some (first_tree_seal setup.formulas a)
  pub nodes : state.nodes ≡ replicate (meta_lines setup.shape) zero_node
  pub slots : state.slots ≡ first_slots setup.shape
  pub shown : state.shown ≡ None

-- The device was formatted along the plan of formatting, after that many pads, tags and digests: a pad and a tag for each data line, a tag
-- for each node, and the digests of the tree over the slot lines.
pub record IsFormattedTree (setup : Setup) (pads tags digests : ℕ) (state : SessionState) : Type 0 where
  pub follows : Follows (tree_format_plan setup) (device_of (new_memory (tree_size setup.shape))) (device_of state.plain.board) (Ok tt)
  pub its_pads : state.pads ≡ risen_times (tree_lines setup.shape) pads
  pub its_tags : state.tags ≡ risen_times (tree_lines setup.shape + meta_lines setup.shape) tags
  pub its_digests : state.digests ≡ risen_times (shadow_digests setup.shape) digests
