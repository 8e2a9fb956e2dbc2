-- The engine is down, or no page is open, or the oldest page's lowest line was to be sealed anew.
use Rattle.std.proofs.Common.{◌≡◌, ◌<◌, [], length, Option, ℕ, Result, Err, sym, ap, subst, ◌∙◌, arith}
use Rattle.std.specs.Prelude.{not}
use Rattle.std.proofs.lemmas.Bool.{eqb-true, eqb-false}
use Rattle.suite.specs.Setup.{Setup}
use Rattle.pmem_engine.specs.declared.fault.Fault.{Fault}
use Rattle.pmem_engine.specs.Engine.{ChipState, EngineState, on_chip}
use Rattle.pmem_engine.specs.Parts.{Parts, parts_at, setup_at}
use Rattle.call_effects.specs.Outcomes.{is_going}
use Rattle.pmem_engine.specs.Outcomes.{outcome_of}
use Rattle.pmem_engine.specs.CallFacts.{IsUsableWith, IsEngineCall}
use Rattle.pmem_engine.specs.Calls.{HasTurned}
use Rattle.pmem_engine.specs.Plans.{chip_in}
use Rattle.pmem_engine.proofs.PlannedCalls.TurnPlans.{turn_idle, turn_end}
use Rattle.pmem_engine.proofs.CallEnds.EngineCalls.{was_up, was_down}
use Rattle.call_effects.proofs.ResultLaws.{is_err_of}
use Rattle.pmem_engine.proofs.PageLines.TurnOutcomes.{turned_of, turned_by_fault, turned_by_seal, turned_idle, turned, turned_outcome, none_from_length}
use Rattle.pmem_engine.proofs.CallEnds.UsableParts.{usable_after}
use Rattle.pmem_engine.proofs.engine.Engine.turn.Given.{Over}
use Rattle.pmem_engine.proofs.engine.Engine.turn.Goals.{After-ended}
use Rattle.pmem_engine.proofs.engine.Engine.turn.Goals as goal

-- the parts at a moment of the call
abbrev at : (g : Over) → EngineState → g.row.B.Denot → g.row.S.Denot → g.row.A.Denot → Parts
at g = parts_at g.B.Board g.S.Suite g.A.Audit

pub returns-in_err-is_up-clause-turned : goal.returns-in_err-is_up-clause-turned
returns-in_err-is_up-clause-turned g c =
    was_down _ _ c.from_residual.result _ c.in_err-is_up.ensures.down
    (is_err_of c.from_residual.result c.in_err-is_up.field-0.0 c.from_residual.ensures.1 ∙ ap Err c.in_err-is_up.ensures.fault)

pub returns-then-is_empty-clause-turned : goal.returns-then-is_empty-clause-turned
returns-then-is_empty-clause-turned g c =
    let setup : Setup = setup_at g.S.Suite c.args.self.now c.args.suite.now in
    let old : Parts = at g c.args.self.now c.args.board.now c.args.suite.now c.args.audit.now in
    let none : old.device.regs.progress.items ≡ [] =
    ap (λ regs. regs.progress.items) (sym c.regs.ensures)
    ∙ none_from_length c.regs.result.now.progress.items
    (eqb-true (length c.regs.result.now.progress.items) 0 (sym c.if-is_empty.ensures)) in
    was_up _ _ old old _ _ c.in_ok-is_up.ensures.up c.in_ok-is_up.ensures.up
    (turned_idle setup old none (turn_idle setup old.device.regs (chip_in old) old.device none))

-- ---- after a line was to be sealed anew

module _ (g : Over) (c : After-ended g) where
  abbrev setup : Setup
  setup = setup_at g.S.Suite c.args.self.now c.args.suite.now

  abbrev old : Parts
  old = at g c.args.self.now c.args.board.now c.args.suite.now c.args.audit.now

  abbrev new : Parts
  new = at g c.ended.new.self c.reseal-answer.new.board c.reseal-answer.new.suite c.reseal-answer.new.audit

  some : 0 < length old.device.regs.progress.items
  some =
      subst (λ regs. 0 < length regs.progress.items) c.regs.ensures
      (let other = eqb-false (length c.regs.result.now.progress.items) 0 (sym c.is_empty.ensures ∙ c.if-is_empty.false) in
      omega arith)

  turned_at_end : HasTurned setup old new (turned_of c.reseal-answer.result)
  turned_at_end =
      subst (λ (engine : ChipState). HasTurned setup old (record new { engine = engine }) (turned_of c.reseal-answer.result)) (sym c.ended.ensures.chip)
      (subst
      (λ (engine : EngineState). HasTurned (setup_at g.S.Suite engine c.args.suite.now)
      (at g engine c.args.board.now c.args.suite.now c.args.audit.now) (record new { engine = on_chip engine }) (turned_of c.reseal-answer.result))
      c.self.view_is
      (turned here before later c.reseal-answer.result some c.reseal-answer.ensures.resealed
      (turn_end here before.device.regs (chip_in before) (chip_in later) c.reseal-answer.result some c.reseal-answer.ensures.plan)))
    where
      here : Setup
      here = record { shape = c.self.inside.chip.shape; formulas = setup.formulas }

      before : Parts
      before = record old { engine = c.self.inside.chip }

      later : Parts
      later = record new { engine = c.self.inside.chip }

  after : c.ended.new.self.down ≡ not (is_going (outcome_of (turned_of c.reseal-answer.result)))
  after =
      c.ended.ensures.down ∙ ap (λ (answer : Result (ℕ × ℕ) Fault). not (is_going (outcome_of answer))) c.line_answer.ensures
      ∙ ap (λ outcome. not (is_going outcome)) (sym (turned_outcome c.reseal-answer.result))

  usable : IsUsableWith c.args.self.now.shape c.ended.new.self.down (g.B.Board.device c.reseal-answer.new.board)
      (g.A.Audit.ledger c.reseal-answer.new.audit)
  usable =
      usable_after setup (outcome_of (turned_of c.reseal-answer.result)) turned_at_end.made old new c.ended.new.self.down turned_at_end.done.gone after
      (subst (λ b. IsUsableWith c.args.self.now.shape b (g.B.Board.device c.args.board.now) (g.A.Audit.ledger c.args.audit.now))
      c.in_ok-is_up.ensures.up c.requires.usable)

  served : (answer : Result (Option (ℕ × ℕ)) Fault) → turned_of c.reseal-answer.result ≡ answer
      → IsEngineCall c.args.self.now.down c.ended.new.self.down old new answer (HasTurned setup old new answer)
  served answer is =
      subst (λ (r : Result (Option (ℕ × ℕ)) Fault). IsEngineCall c.args.self.now.down c.ended.new.self.down old new r (HasTurned setup old new r)) is
      (was_up _ _ old new (turned_of c.reseal-answer.result) _ c.in_ok-is_up.ensures.up after turned_at_end)

pub returns-in_err-sealed-clause-turned : goal.returns-in_err-sealed-clause-turned
returns-in_err-sealed-clause-turned g c =
    let end : After-ended g = (goal.at.returns-in_err-sealed-clause-turned g c).After-ended in
    served g end _
    (turned_by_fault c.reseal-answer.result c.in_err-sealed.field-0.0 (sym c.line_answer.ensures ∙ sym c.in_err-sealed.ensures.answer)
    ∙ sym (is_err_of c.from_residual-in_err-sealed.result c.in_err-sealed.field-0.0 c.from_residual-in_err-sealed.ensures.1))

pub returns-clause-turned : goal.returns-clause-turned
returns-clause-turned g c =
    let end : After-ended g = (goal.at.returns-clause-turned g c).After-ended in
    served g end _ (turned_by_seal c.reseal-answer.result c.in_ok-sealed.sealed (sym c.line_answer.ensures ∙ sym c.in_ok-sealed.ensures.answer))

pub returns-in_err-sealed-clause-usable : goal.returns-in_err-sealed-clause-usable
returns-in_err-sealed-clause-usable g c = usable g (goal.at.returns-in_err-sealed-clause-usable g c).After-ended

pub returns-clause-usable : goal.returns-clause-usable
returns-clause-usable g c = usable g (goal.at.returns-clause-usable g c).After-ended

pub returns-in_err-sealed-clause-shape : goal.returns-in_err-sealed-clause-shape
returns-in_err-sealed-clause-shape g c = (turned_at_end g (goal.at.returns-in_err-sealed-clause-shape g c).After-ended).done.gone.shape

pub returns-clause-shape : goal.returns-clause-shape
returns-clause-shape g c = (turned_at_end g (goal.at.returns-clause-shape g c).After-ended).done.gone.shape
