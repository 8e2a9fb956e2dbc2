use Rattle.std.proofs.Common.{◌≡◌, length}
use Rattle.pmem_base.specs.Shape.{named_levels}
use Rattle.pmem_base.specs.Geo.{shape_of}
use Rattle.pmem_base.specs.Layout.{shadow_lines}
use Rattle.call_plan.proofs.Loops.{AreTurnsLeft}
use Rattle.meta_path.specs.Naming.{IsNamedTo}
use Rattle.meta_path.specs.Plans.{naming_turn, naming_plan}
use Rattle.meta_path.proofs.naming.make_dirty.Given as goal

abbrev pub invariant-levels : goal.invariant-levels
invariant-levels g l =
    record {
      named :
          IsNamedTo (shape_of l.fn.geo) l.fn.cache.banks l.fn.page l.bank l.fn.mirror l.mirror
          (g.B.Board.device l.fn.board) (g.B.Board.device l.board);
      reached :
          AreTurnsLeft (naming_plan (shape_of l.fn.geo) l.fn.cache.banks l.fn.page l.fn.mirror) (g.B.Board.device l.fn.board)
          (naming_turn (shape_of l.fn.geo) l.fn.cache.banks l.fn.page) l.bank (named_levels (shape_of l.fn.geo)) (l.mirror, tt)
          (g.B.Board.device l.board);
      long : length l.mirror ≡ shadow_lines (shape_of l.fn.geo);
    }
