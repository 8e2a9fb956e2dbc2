-- A read ends.
use Rattle.std.proofs.Common.{refl, sym, ap, subst, ◌∙◌, rules}
use Rattle.asit_shadow.proofs.Common.{Result, Ok, Err, not, ◌||◌, Line, is_going, leaving, TreeFault, TreeChip, tree_chip_of, tree_chip_at, tree_parts_at, tree_setup_at, outcome_of_tree_fault, IsLineRead}
use Rattle.asit_shadow.proofs.FetchPlans.{same_engine}
use Rattle.asit_shadow.proofs.CalledPlans.{called_down, called_ok, called_err}
use Rattle.asit_shadow.proofs.CallEnds.{answers-up, or_false, worked}
use Rattle.asit_shadow.proofs.engine.TreeEngine.read.Goals as goal

pub returns-in-Ok-clause-read : goal.returns-in-Ok-clause-read
returns-in-Ok-clause-read g c =
    let off = sym c.is_down.ensures ∙ c.if-is_down.false in
    record {
      down = answers-up {T = Line} _ _ _ off c.in-Ok.ensures.read.up (c.in-Ok.ensures.down ∙ or_false c.args.self.now.down);
      done =
          λ up.
          subst (λ p. IsLineRead (tree_setup_at g.S.Suite c.args.self.now c.args.suite.now) c.args.at (tree_parts_at g.B.Board g.W.Watch c.args.self.now c.args.board.now c.args.watch.now) p (Ok c.in-Ok.line))
          (worked c.read_line.new.self c.read_line.new.self _ _ (c.in-Ok.ensures.down ∙ off) refl refl refl) c.in-Ok.ensures.read;
    }

pub returns-in-Err-clause-read : goal.returns-in-Err-clause-read
returns-in-Err-clause-read g c =
    let off = sym c.is_down.ensures ∙ c.if-is_down.false in
    record {
      down =
          answers-up {T = Line} _ _ _
          off c.in-Err.ensures.read.up (c.end.ensures.down ∙ ap (λ b. b || not (is_going (outcome_of_tree_fault c.in-Err.fault))) c.in-Err.ensures.down);
      done =
          λ up.
          subst (λ p. IsLineRead (tree_setup_at g.S.Suite c.args.self.now c.args.suite.now) c.args.at (tree_parts_at g.B.Board g.W.Watch c.args.self.now c.args.board.now c.args.watch.now) p (Err c.in-Err.fault))
          (worked c.read_line.new.self c.end.new.self _ _ (c.in-Err.ensures.down ∙ off)
          c.end.ensures.shape c.end.ensures.cache c.end.ensures.tree) c.in-Err.ensures.read;
    }

-- ---- the plan

pub returns-then-is_down-clause-plan : goal.returns-then-is_down-clause-plan
returns-then-is_down-clause-plan g c = search (rules, called_down)

pub returns-in-Ok-clause-plan : goal.returns-in-Ok-clause-plan
returns-in-Ok-clause-plan g c = search (rules, called_ok)

pub returns-in-Err-clause-plan : goal.returns-in-Err-clause-plan
returns-in-Err-clause-plan g c =
    let was : TreeChip = tree_chip_at g.S.Suite g.W.Watch _ _ _ in
    let answer : Result Line TreeFault = Err _ in
    let engine = same_engine _ _ c.end.ensures.shape c.end.ensures.cache c.end.ensures.tree c.end.ensures.down in
    leaving answer _
    (λ i. tree_chip_of (engine i) (g.W.Watch.watched c.read_line.new.watch) (g.S.Suite.pads c.read_line.new.suite) (g.S.Suite.tags c.read_line.new.suite)
    (g.S.Suite.digests c.read_line.new.suite)) (called_err was _ (sym c.is_down.ensures ∙ c.if-is_down.false) _ _ c.in-Err.ensures.plan)
