-- The engine is down, or it was up and wrote, and is down afterwards where it was cut or shown.
use Rattle.std.proofs.Common.{◌≡◌, Result, Err, sym, ap, subst, subst₂, ◌∙◌}
use Rattle.std.specs.Prelude.{not}
use Rattle.pmem_base.specs.declared.lines.Ctr.{Ctr}
use Rattle.pmem_engine.specs.declared.fault.Fault.{Fault}
use Rattle.pmem_engine.specs.Engine.{ChipState, EngineState}
use Rattle.pmem_engine.specs.Parts.{parts_with_at, parts_at, setup_at}
use Rattle.call_effects.specs.Outcomes.{is_going}
use Rattle.pmem_engine.specs.Outcomes.{outcome_of}
use Rattle.pmem_engine.specs.CallFacts.{IsUsableWith}
use Rattle.pmem_engine.specs.Calls.{HasWrittenLine}
use Rattle.pmem_engine.proofs.CallEnds.EngineCalls.{was_up, was_down}
use Rattle.pmem_engine.proofs.CallEnds.UsableParts.{usable_after}
use Rattle.call_effects.proofs.ResultLaws.{is_err_of}
use Rattle.pmem_engine.proofs.engine.Engine.write_part.Given.{Over}
use Rattle.pmem_engine.proofs.engine.Engine.write_part.Goals.{After-ended}
use Rattle.pmem_engine.proofs.engine.Engine.write_part.Goals as goal

module _ (g : Over) (c : After-ended g) where
  written : HasWrittenLine (setup_at g.S.Suite c.args.self.now c.args.suite.now) c.args.write.now
      (parts_at g.B.Board g.S.Suite g.A.Audit c.args.self.now c.args.board.now c.args.suite.now c.args.audit.now)
      (parts_at g.B.Board g.S.Suite g.A.Audit c.ended.new.self c.write_posted-answer.new.board c.write_posted-answer.new.suite c.write_posted-answer.new.audit)
      c.ended.result
  written =
      subst₂
      (λ (engine : ChipState) (answer : Result Ctr Fault). HasWrittenLine (setup_at g.S.Suite c.args.self.now c.args.suite.now) c.args.write.now
      (parts_at g.B.Board g.S.Suite g.A.Audit c.args.self.now c.args.board.now c.args.suite.now c.args.audit.now)
      (parts_with_at g.B.Board g.S.Suite g.A.Audit engine c.write_posted-answer.new.board c.write_posted-answer.new.suite c.write_posted-answer.new.audit) answer)
      (sym c.ended.ensures.chip) (sym c.ended.ensures.answer)
      (subst
      (λ (engine : EngineState). HasWrittenLine (setup_at g.S.Suite engine c.args.suite.now) c.args.write.now
      (parts_at g.B.Board g.S.Suite g.A.Audit engine c.args.board.now c.args.suite.now c.args.audit.now)
      (parts_with_at g.B.Board g.S.Suite g.A.Audit c.write_posted-answer.new.self c.write_posted-answer.new.board c.write_posted-answer.new.suite
      c.write_posted-answer.new.audit) c.write_posted-answer.result)
      c.self.view_is c.write_posted-answer.ensures.written)

  after : c.ended.new.self.down ≡ not (is_going (outcome_of c.ended.result))
  after = c.ended.ensures.down ∙ ap (λ (answer : Result Ctr Fault). not (is_going (outcome_of answer))) (sym c.ended.ensures.answer)

pub returns-clause-written : goal.returns-clause-written
returns-clause-written g c =
    let end : After-ended g = (goal.at.returns-clause-written g c).After-ended in
    was_up _ _ _ _ c.ended.result _ c.in_ok-is_up.ensures.up (after g end) (written g end)

pub returns-clause-usable : goal.returns-clause-usable
returns-clause-usable g c =
    let end : After-ended g = (goal.at.returns-clause-usable g c).After-ended in
    usable_after (setup_at g.S.Suite c.args.self.now c.args.suite.now) (outcome_of c.ended.result) (written g end).made
    (parts_at g.B.Board g.S.Suite g.A.Audit c.args.self.now c.args.board.now c.args.suite.now c.args.audit.now)
    (parts_at g.B.Board g.S.Suite g.A.Audit c.ended.new.self c.write_posted-answer.new.board c.write_posted-answer.new.suite c.write_posted-answer.new.audit)
    c.ended.new.self.down (written g end).done.gone (after g end)
    (subst (λ b. IsUsableWith c.args.self.now.shape b (g.B.Board.device c.args.board.now) (g.A.Audit.ledger c.args.audit.now))
    c.in_ok-is_up.ensures.up c.requires.usable)

pub returns-clause-shape : goal.returns-clause-shape
returns-clause-shape g c = (written g (goal.at.returns-clause-shape g c).After-ended).done.gone.shape

pub returns-in_err-is_up-clause-written : goal.returns-in_err-is_up-clause-written
returns-in_err-is_up-clause-written g c =
    was_down _ _ c.from_residual.result _ c.in_err-is_up.ensures.down
    (is_err_of c.from_residual.result c.in_err-is_up.field-0.0 c.from_residual.ensures.1 ∙ ap Err c.in_err-is_up.ensures.fault)
