-- A node written more.
use Rattle.std.proofs.Common.{◌≡◌, ap, ◌∙◌, arith, rules}
use Rattle.asit_shadow.proofs.Common.{shape_of, with_line, line_of_node, node_line, zero_node, turn_ok, turns_end, written_so, StaysSteady-then, StaysSteady-written, SuiteRise-then, SuiteRise-as}
use Rattle.asit_shadow.proofs.FormatSteps.{length-set_first, written-more, nodes-more}
use Rattle.asit_shadow.proofs.formatting.write_nodes.Goals as goal

pub note_node-requires : goal.note_node-requires
note_node-requires g c = search (rules, length-set_first)

pub nodes-preserved : goal.nodes-preserved
nodes-preserved g c =
    let line : c.node_line-line.result ≡ node_line (g.S.Suite.formulas_of (g.S.Suite.keys c.args.suite.now)) c.nodes.x zero_node = search rules in
    record {
      steady = search (rules, StaysSteady-then, StaysSteady-written);
      reached =
          turn_ok c.nodes.invariant.reached (omega (arith, c.nodes-test.true, c.metas-x-end.ensures.value))
          (written_so c.node_place.result (line_of_node (shape_of c.args.geo.now) c.nodes.x) c.node_line-line.result
          (node_line (g.S.Suite.formulas_of (g.S.Suite.keys c.args.suite.now)) c.nodes.x zero_node) (g.B.Board.device c.nodes.board)
          (g.B.Board.device c.write_steady.new.board) c.node_place.ensures.value line c.write_steady.ensures);
      lines =
          written-more (line_of_node (shape_of c.args.geo.now)) (λ x. node_line (g.S.Suite.formulas_of (g.S.Suite.keys c.args.suite.now)) x zero_node) c.nodes.x
          (g.B.Board.device c.args.board.now).lines (g.B.Board.device c.nodes.board).lines (g.B.Board.device c.write_steady.new.board).lines c.nodes.invariant.lines
          (c.write_steady.ensures.lines
          ∙ (ap (λ at. with_line (g.B.Board.device c.nodes.board).lines at c.node_line-line.result) c.node_place.ensures.value
          ∙ ap (with_line (g.B.Board.device c.nodes.board).lines (line_of_node (shape_of c.args.geo.now) c.nodes.x)) line));
      told = nodes-more c.nodes.x (g.W.Watch.watched c.args.watch.now) (g.W.Watch.watched c.nodes.watch) (g.W.Watch.watched c.note_node.new.self) c.nodes.invariant.told c.note_node.ensures.noted;
      counts =
          SuiteRise-then 0 c.nodes.x 0 0 1 0 _ _ _ c.nodes.invariant.counts
          (record { its_keys = c.node_line-line.ensures.keys; its_pads = c.node_line-line.ensures.pads; its_tags = c.node_line-line.ensures.tags; its_digests = c.node_line-line.ensures.digests });
      keys = c.node_line-line.ensures.keys ∙ c.nodes.invariant.keys;
    }

pub returns-clause-plan : goal.returns-clause-plan
returns-clause-plan g c = turns_end c.nodes.invariant.reached (omega (arith, c.nodes-test.false, c.metas-x-end.ensures.value))

pub returns-clause-counts : goal.returns-clause-counts
returns-clause-counts g c = search (rules, SuiteRise-as)
