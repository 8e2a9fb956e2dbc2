-- So many lines of the page were sealed anew.
use Rattle.std.proofs.Common.{◌≡◌, length}
use Rattle.pmem_base.specs.Registers.{not_done}
use Rattle.call_plan.proofs.Loops.{AreTurnsLeft}
use Rattle.pmem_engine.specs.Parts.{parts_with_at, setup_with_at}
use Rattle.pmem_engine.specs.Plans.{chip_with_at, register_at}
use Rattle.pmem_engine.specs.WritePlans.{finish_turn, finish_page_plan}
use Rattle.pmem_engine.specs.Finishing.{HasResealedFirst}
use Rattle.pmem_engine.proofs.engine.OnChip.finish_page.Given as goal

abbrev pub invariant-lines : goal.invariant-lines
invariant-lines g l =
    record {
      resealed :
          HasResealedFirst (setup_with_at g.S.Suite l.fn.self l.fn.suite) l.fn.n
          l._line
          (parts_with_at g.B.Board g.S.Suite g.A.Audit l.fn.self l.fn.board l.fn.suite l.fn.audit)
          (parts_with_at g.B.Board g.S.Suite g.A.Audit l.fn.self l.board l.suite l.audit);
      reached :
          AreTurnsLeft
          (finish_page_plan (setup_with_at g.S.Suite l.fn.self l.fn.suite) l.fn.n (g.B.Board.device l.fn.board).regs
          (chip_with_at g.S.Suite g.A.Audit l.fn.self l.fn.suite l.fn.audit))
          (g.B.Board.device l.fn.board) (finish_turn (setup_with_at g.S.Suite l.fn.self l.fn.suite) l.fn.n) l._line
          (length (not_done (register_at (g.B.Board.device l.fn.board).regs l.fn.n)))
          (chip_with_at g.S.Suite g.A.Audit l.fn.self l.suite l.audit, (g.B.Board.device l.board).regs) (g.B.Board.device l.board);
      capacity : g.A.Audit.capacity l.audit ≡ g.A.Audit.capacity l.fn.audit;
      keys : g.S.Suite.keys l.suite ≡ g.S.Suite.keys l.fn.suite;
    }
