-- A write ends.
use Rattle.std.proofs.Common.{refl, sym, ap, subst, ◌∙◌, rules}
use Rattle.asit_shadow.proofs.Common.{ℕ, Result, Ok, Err, not, ◌||◌, is_going, leaving, TreeFault, TreeChip, tree_chip_of, tree_chip_at, tree_parts_at, tree_setup_at, outcome_of_tree_fault, IsLineWritten}
use Rattle.asit_shadow.proofs.FetchPlans.{same_engine}
use Rattle.asit_shadow.proofs.CalledPlans.{called_down, called_ok, called_err}
use Rattle.asit_shadow.proofs.CallEnds.{answers-up, or_false, worked}
use Rattle.asit_shadow.proofs.WriteCalls.{written-up}
use Rattle.asit_shadow.proofs.engine.TreeEngine.write.Goals as goal

pub returns-in-Ok-clause-written : goal.returns-in-Ok-clause-written
returns-in-Ok-clause-written g c =
    let off = sym c.is_down.ensures ∙ c.if-is_down.false in
    let it = written-up _ c.args.at c.args.line.now _ _ _ c.in-Ok.ensures.written c.in-Ok.ensures.spent in
    record {
      down = answers-up {T = ℕ} _ _ _ off c.in-Ok.ensures.written.up (c.in-Ok.ensures.written.down ∙ or_false c.args.self.now.down);
      done =
          λ up.
          subst (λ p. IsLineWritten (tree_setup_at g.S.Suite c.args.self.now c.args.suite.now) c.args.at c.args.line.now (tree_parts_at g.B.Board g.W.Watch c.args.self.now c.args.board.now c.args.watch.now) p (Ok c.in-Ok.counter))
          (worked c.write_line.new.self c.write_line.new.self _ _ (c.in-Ok.ensures.written.down ∙ off) refl refl refl) it;
    }

pub returns-in-Err-clause-written : goal.returns-in-Err-clause-written
returns-in-Err-clause-written g c =
    let off = sym c.is_down.ensures ∙ c.if-is_down.false in
    let it = written-up _ c.args.at c.args.line.now _ _ _ c.in-Err.ensures.written c.in-Err.ensures.spent in
    record {
      down =
          answers-up {T = ℕ} _ _ _
          off c.in-Err.ensures.written.up (c.end.ensures.down ∙ ap (λ b. b || not (is_going (outcome_of_tree_fault c.in-Err.fault))) c.in-Err.ensures.written.down);
      done =
          λ up.
          subst (λ p. IsLineWritten (tree_setup_at g.S.Suite c.args.self.now c.args.suite.now) c.args.at c.args.line.now (tree_parts_at g.B.Board g.W.Watch c.args.self.now c.args.board.now c.args.watch.now) p (Err c.in-Err.fault))
          (worked c.write_line.new.self c.end.new.self _ _
          (c.in-Err.ensures.written.down ∙ off) c.end.ensures.shape c.end.ensures.cache c.end.ensures.tree) it;
    }

-- ---- the plan

pub returns-then-is_down-clause-plan : goal.returns-then-is_down-clause-plan
returns-then-is_down-clause-plan g c = search (rules, called_down)

pub returns-in-Ok-clause-plan : goal.returns-in-Ok-clause-plan
returns-in-Ok-clause-plan g c = search (rules, called_ok)

pub returns-in-Err-clause-plan : goal.returns-in-Err-clause-plan
returns-in-Err-clause-plan g c =
    let was : TreeChip = tree_chip_at g.S.Suite g.W.Watch _ _ _ in
    let answer : Result ℕ TreeFault = Err _ in
    let engine = same_engine _ _ c.end.ensures.shape c.end.ensures.cache c.end.ensures.tree c.end.ensures.down in
    leaving answer _
    (λ i. tree_chip_of (engine i) (g.W.Watch.watched c.write_line.new.watch) (g.S.Suite.pads c.write_line.new.suite) (g.S.Suite.tags c.write_line.new.suite)
    (g.S.Suite.digests c.write_line.new.suite)) (called_err was _ (sym c.is_down.ensures ∙ c.if-is_down.false) _ _ c.in-Err.ensures.plan)
