-- The slot lines so far.
use Rattle.std.proofs.Common.{ℕ, ◌<◌}
use Rattle.asit_shadow.proofs.Common.{All, shape_of, IsLine, line_at, Tells, tree_slots, line_of_slot, AreTurnsLeft, HasOnlyReadLines, RecoverParts, slots_plan}
use Rattle.asit_shadow.specs.RecoverPlans.{slot_turn}
use Rattle.asit_shadow.proofs.recovery.read_slots.Given as goal

abbrev pub invariant-slots : goal.invariant-slots
invariant-slots g l =
    record {
      read : HasOnlyReadLines l.i (g.B.Board.device l.fn.board) (g.B.Board.device l.board);
      reached :
          (at : RecoverParts)
          → AreTurnsLeft (slots_plan (shape_of l.fn.geo) at l.fn.slots) (g.B.Board.device l.fn.board) (slot_turn (shape_of l.fn.geo) at) l.i
          (tree_slots (shape_of l.fn.geo)) l.slots (g.B.Board.device l.board);
      whole : All IsLine l.slots;
      told :
          (j : ℕ) → j < l.i
          → Tells (g.B.Board.device l.fn.board).lines (line_of_slot (shape_of l.fn.geo) j) (line_at l.slots j);
    }
