use Rattle.std.proofs.Common.{◌≡◌, ◌+◌}
use Rattle.pmem_base.specs.Geo.{shape_of}
use Rattle.call_plan.proofs.Loops.{AreTurnsLeft}
use Rattle.meta_path.specs.FetchPlans.{fetch_parts, fetch_turn, fetch_plan}
use Rattle.meta_path.proofs.FetchedLevels.{HasCome}
use Rattle.meta_path.proofs.fetching.fetch_path.Given as goal

abbrev pub invariant-levels : goal.invariant-levels
invariant-levels g l =
    record {
      come :
          HasCome (shape_of l.fn.geo) (g.S.Suite.formulas_of (g.S.Suite.keys l.fn.suite)) l.fn.page
          (record { cache = l.fn.cache; device = g.B.Board.device l.fn.board; digests = g.S.Suite.digests l.fn.suite })
          (g.A.Audit.ledger l.fn.audit) l.bank (fetch_parts l.cache (g.A.Audit.ledger l.audit) (g.S.Suite.digests l.suite))
          (g.B.Board.device l.board);
      reached :
          AreTurnsLeft
          (fetch_plan (g.S.Suite.formulas_of (g.S.Suite.keys l.fn.suite)) (g.B.Board.device l.fn.board).regs.root l.fn.page
          (fetch_parts l.fn.cache (g.A.Audit.ledger l.fn.audit) (g.S.Suite.digests l.fn.suite))) (g.B.Board.device l.fn.board)
          (fetch_turn (g.S.Suite.formulas_of (g.S.Suite.keys l.fn.suite)) (g.B.Board.device l.fn.board).regs.root l.fn.cache.shape l.fn.page)
          l.bank (l.fn.cache.shape.levels + 1) (fetch_parts l.cache (g.A.Audit.ledger l.audit) (g.S.Suite.digests l.suite), tt)
          (g.B.Board.device l.board);
      capacity : g.A.Audit.capacity l.audit ≡ g.A.Audit.capacity l.fn.audit;
      keys : g.S.Suite.keys l.suite ≡ g.S.Suite.keys l.fn.suite;
      pads : g.S.Suite.pads l.suite ≡ g.S.Suite.pads l.fn.suite;
      tags : g.S.Suite.tags l.suite ≡ g.S.Suite.tags l.fn.suite;
    }
