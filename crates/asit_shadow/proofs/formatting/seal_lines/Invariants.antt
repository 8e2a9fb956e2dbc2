-- The lines sealed so far.
use Rattle.std.proofs.Common.{◌≡◌, ◌*◌}
use Rattle.asit_shadow.proofs.Common.{option_map, shape_of, AreTurnsLeft, tree_lines, StaysSteady, suite_state, SuiteRise, sealing_turn, sealing_plan, tree_sealed_lines, AreSealsTold}
use Rattle.asit_shadow.proofs.formatting.seal_lines.Given as goal

abbrev pub invariant-lines : goal.invariant-lines
invariant-lines g l =
    record {
      steady : StaysSteady (2 * l.at) (g.B.Board.device l.fn.board) (g.B.Board.device l.board);
      reached :
          AreTurnsLeft (sealing_plan (record { shape = shape_of l.fn.geo; formulas = g.S.Suite.formulas_of (g.S.Suite.keys l.fn.suite) }))
          (g.B.Board.device l.fn.board) (sealing_turn (record { shape = shape_of l.fn.geo; formulas = g.S.Suite.formulas_of (g.S.Suite.keys l.fn.suite) })) l.at
          (tree_lines (shape_of l.fn.geo)) tt (g.B.Board.device l.board);
      lines :
          (g.B.Board.device l.board).lines
          ≡ option_map (tree_sealed_lines (record { shape = shape_of l.fn.geo; formulas = g.S.Suite.formulas_of (g.S.Suite.keys l.fn.suite) }) l.at) (g.B.Board.device l.fn.board).lines;
      told : AreSealsTold (g.S.Suite.formulas_of (g.S.Suite.keys l.fn.suite)) l.at (g.W.Watch.watched l.fn.watch) (g.W.Watch.watched l.watch);
      counts :
          SuiteRise l.at l.at 0 (suite_state (g.S.Suite.keys l.fn.suite) (g.S.Suite.pads l.fn.suite) (g.S.Suite.tags l.fn.suite) (g.S.Suite.digests l.fn.suite))
          (suite_state (g.S.Suite.keys l.suite) (g.S.Suite.pads l.suite) (g.S.Suite.tags l.suite) (g.S.Suite.digests l.suite));
      keys : g.S.Suite.keys l.suite ≡ g.S.Suite.keys l.fn.suite;
    }
