-- The nodes written so far.
use Rattle.std.proofs.Common.{◌≡◌}
use Rattle.asit_shadow.proofs.Common.{option_map, shape_of, meta_lines, AreTurnsLeft, StaysSteady, suite_state, SuiteRise, node_turn, nodes_plan, node_lines_written, AreNodesTold}
use Rattle.asit_shadow.proofs.formatting.write_nodes.Given as goal

abbrev pub invariant-nodes : goal.invariant-nodes
invariant-nodes g l =
    record {
      steady : StaysSteady l.x (g.B.Board.device l.fn.board) (g.B.Board.device l.board);
      reached :
          AreTurnsLeft (nodes_plan (record { shape = shape_of l.fn.geo; formulas = g.S.Suite.formulas_of (g.S.Suite.keys l.fn.suite) }))
          (g.B.Board.device l.fn.board) (node_turn (record { shape = shape_of l.fn.geo; formulas = g.S.Suite.formulas_of (g.S.Suite.keys l.fn.suite) })) l.x
          (meta_lines (shape_of l.fn.geo)) tt (g.B.Board.device l.board);
      lines :
          (g.B.Board.device l.board).lines
          ≡ option_map (node_lines_written (record { shape = shape_of l.fn.geo; formulas = g.S.Suite.formulas_of (g.S.Suite.keys l.fn.suite) }) l.x) (g.B.Board.device l.fn.board).lines;
      told : AreNodesTold l.x (g.W.Watch.watched l.fn.watch) (g.W.Watch.watched l.watch);
      counts :
          SuiteRise 0 l.x 0 (suite_state (g.S.Suite.keys l.fn.suite) (g.S.Suite.pads l.fn.suite) (g.S.Suite.tags l.fn.suite) (g.S.Suite.digests l.fn.suite))
          (suite_state (g.S.Suite.keys l.suite) (g.S.Suite.pads l.suite) (g.S.Suite.tags l.suite) (g.S.Suite.digests l.suite));
      keys : g.S.Suite.keys l.suite ≡ g.S.Suite.keys l.fn.suite;
    }
