-- A line sealed more.
use Rattle.std.proofs.Common.{ℕ, ◌≡◌, ◌+◌, ◌*◌, List, subst, ◌∙◌, arith, rules}
use Rattle.asit_shadow.proofs.Common.{Ok, shape_of, with_line, line_of_tag, HasSealNoted, Follows, turn_ok, turns_end, StaysSteady-then, SuiteRise-then, SuiteRise-as, tag_only, sealing_turn, first_tree_seal}
use Rattle.asit_shadow.proofs.FormatSteps.{length-set_first, sealed-more, seals-more}
use Rattle.asit_shadow.proofs.formatting.seal_lines.Goals as goal

pub seal_one-requires-clause-seals : goal.seal_one-requires-clause-seals
seal_one-requires-clause-seals g c = search (rules, length-set_first)

pub lines-preserved : goal.lines-preserved
lines-preserved g c =
    let two : 2 * c.lines.at + 2 ≡ 2 * (c.lines.at + 1) = omega arith in
    record {
      steady = search (rules, StaysSteady-then);
      reached =
          turn_ok c.lines.invariant.reached (omega arith)
          (subst (λ (keys : List ℕ). Follows (sealing_turn (record { shape = shape_of c.args.geo.now; formulas = g.S.Suite.formulas_of keys }) c.lines.at tt)
          (g.B.Board.device c.lines.board) (g.B.Board.device c.seal_one.new.board) (Ok tt)) c.lines.invariant.keys c.seal_one.ensures.plan);
      lines =
          sealed-more (record { shape = shape_of c.args.geo.now; formulas = g.S.Suite.formulas_of (g.S.Suite.keys c.args.suite.now) }) c.lines.at (g.B.Board.device c.args.board.now).lines (g.B.Board.device c.lines.board).lines (g.B.Board.device c.seal_one.new.board).lines
          c.lines.invariant.lines
          (subst (λ (keys : List ℕ). (g.B.Board.device c.seal_one.new.board).lines
          ≡ with_line (with_line (g.B.Board.device c.lines.board).lines c.lines.at (first_tree_seal (g.S.Suite.formulas_of keys) c.lines.at).cipher) (line_of_tag (shape_of c.args.geo.now) c.lines.at) (tag_only (first_tree_seal (g.S.Suite.formulas_of keys) c.lines.at).tag)) c.lines.invariant.keys c.seal_one.ensures.lines);
      told =
          seals-more (g.S.Suite.formulas_of (g.S.Suite.keys c.args.suite.now)) c.lines.at (g.W.Watch.watched c.args.watch.now) (g.W.Watch.watched c.lines.watch) (g.W.Watch.watched c.seal_one.new.watch) c.lines.invariant.told
          (subst (λ (keys : List ℕ). HasSealNoted (g.W.Watch.watched c.lines.watch) (g.W.Watch.watched c.seal_one.new.watch) c.lines.at (first_tree_seal (g.S.Suite.formulas_of keys) c.lines.at)) c.lines.invariant.keys c.seal_one.ensures.noted);
      counts = SuiteRise-then c.lines.at c.lines.at 0 1 1 0 _ _ _ c.lines.invariant.counts c.seal_one.ensures.counts;
      keys = c.seal_one.ensures.keys ∙ c.lines.invariant.keys;
    }

pub returns-clause-plan : goal.returns-clause-plan
returns-clause-plan g c = turns_end c.lines.invariant.reached (omega arith)

pub returns-clause-counts : goal.returns-clause-counts
returns-clause-counts g c = search (rules, SuiteRise-as)
