-- The slot lines written so far.
use Rattle.std.proofs.Common.{◌≡◌}
use Rattle.asit_shadow.proofs.Common.{option_map, shape_of, AreTurnsLeft, tree_slots, StaysSteady, naming_turn, naming_plan, slot_lines_written, AreSlotsTold}
use Rattle.asit_shadow.proofs.formatting.write_slots.Given as goal

abbrev pub invariant-slots : goal.invariant-slots
invariant-slots g l =
    record {
      steady : StaysSteady l.i (g.B.Board.device l.fn.board) (g.B.Board.device l.board);
      reached :
          AreTurnsLeft (naming_plan (shape_of l.fn.geo) l.fn.slots) (g.B.Board.device l.fn.board) (naming_turn (shape_of l.fn.geo) l.fn.slots) l.i
          (tree_slots (shape_of l.fn.geo)) tt (g.B.Board.device l.board);
      lines :
          (g.B.Board.device l.board).lines
          ≡ option_map (slot_lines_written (shape_of l.fn.geo) l.fn.slots l.i) (g.B.Board.device l.fn.board).lines;
      told : AreSlotsTold l.fn.slots l.i (g.W.Watch.watched l.fn.watch) (g.W.Watch.watched l.watch);
    }
