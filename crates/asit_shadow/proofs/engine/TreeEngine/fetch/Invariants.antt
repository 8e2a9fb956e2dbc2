-- The path to a level.
use Rattle.std.proofs.Common.{◌≡◌}
use Rattle.asit_shadow.proofs.Common.{slice_index, IsCachedAs, tree_parts_of, AreTreeTrusted, line_path, IsPathFetchedTo, AreTurnsLeft, tree_chip_of, fetch_turn, fetch_plan}
use Rattle.asit_shadow.proofs.engine.TreeEngine.fetch.Given as goal

abbrev pub invariant-levels : goal.invariant-levels
invariant-levels g l =
    record {
      fetched :
          IsPathFetchedTo (record { shape = l.fn.self.shape; formulas = g.S.Suite.formulas_of (g.S.Suite.keys l.fn.suite) }) l.fn.at l.level
          (tree_parts_of l.fn.self (g.B.Board.device l.fn.board) (g.W.Watch.watched l.fn.watch))
          (tree_parts_of l.self (g.B.Board.device l.board) (g.W.Watch.watched l.watch));
      last :
          AreTreeTrusted (record { shape = l.fn.self.shape; formulas = g.S.Suite.formulas_of (g.S.Suite.keys l.fn.suite) })
          (tree_parts_of l.self (g.B.Board.device l.board) (g.W.Watch.watched l.watch))
          → IsCachedAs l.fn.self.shape l.self.cache (slice_index (line_path l.fn.self.shape l.fn.at) l.level) l.node;
      reached :
          AreTurnsLeft
          (fetch_plan (record { shape = l.fn.self.shape; formulas = g.S.Suite.formulas_of (g.S.Suite.keys l.fn.suite) }) l.fn.at
          (tree_chip_of l.fn.self (g.W.Watch.watched l.fn.watch) (g.S.Suite.pads l.fn.suite) (g.S.Suite.tags l.fn.suite) (g.S.Suite.digests l.fn.suite)))
          (g.B.Board.device l.fn.board)
          (fetch_turn (record { shape = l.fn.self.shape; formulas = g.S.Suite.formulas_of (g.S.Suite.keys l.fn.suite) }) l.fn.at)
          l.level l.fn.self.shape.levels
          (tree_chip_of l.self (g.W.Watch.watched l.watch) (g.S.Suite.pads l.suite) (g.S.Suite.tags l.suite) (g.S.Suite.digests l.suite), l.node)
          (g.B.Board.device l.board);
      keys : g.S.Suite.keys l.suite ≡ g.S.Suite.keys l.fn.suite;
      digests : g.S.Suite.digests l.suite ≡ g.S.Suite.digests l.fn.suite;
    }
