use Rattle.std.proofs.Common.{◌≡◌, length, vec_capacity}
use Rattle.pmem_base.specs.Geo.{shape_of}
use Rattle.pmem_base.specs.Layout.{shadow_lines}
use Rattle.call_plan.proofs.Loops.{AreTurnsLeft}
use Rattle.pmem_recovery.specs.Plans.{shadow_turn, shadow_plan}
use Rattle.pmem_recovery.proofs.recovery.read_shadow.Given as goal

abbrev pub invariant-lines : goal.invariant-lines
invariant-lines g l =
    record {
      reached :
          AreTurnsLeft (shadow_plan (shape_of l.geo)) (g.B.Board.device l.initial.board) (shadow_turn (shape_of l.geo)) l.n (shadow_lines (shape_of l.geo))
          (l.shadow.items, tt) (g.B.Board.device l.board);
      long : length l.shadow.items ≡ l.n;
      capacity : vec_capacity l.shadow ≡ vec_capacity l.initial.shadow;
    }
