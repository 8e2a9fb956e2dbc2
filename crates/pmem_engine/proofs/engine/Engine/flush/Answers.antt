-- The engine is down, or it was up and flushed, and is down afterwards where it was cut.
use Rattle.std.proofs.Common.{◌≡◌, ◌∙◌, [], Option, ℕ, Result, Err, refl, sym, ap, subst, subst₂}
use Rattle.std.specs.Prelude.{not}
use Rattle.pmem_base.specs.Layout.{device_lines}
use Rattle.suite.specs.Setup.{Setup}
use Rattle.seal_ledger.specs.Ledger.{LedgerState}
use Rattle.pmem_engine.specs.declared.fault.Fault.{Fault}
use Rattle.pmem_engine.specs.Engine.{ChipState, EngineState}
use Rattle.pmem_engine.specs.Parts.{Parts, parts_with, parts_of}
use Rattle.call_effects.specs.Outcomes.{is_going}
use Rattle.pmem_engine.specs.Outcomes.{of_cut, outcome_of}
use Rattle.pmem_engine.specs.CallFacts.{IsReadyWith}
use Rattle.pmem_engine.specs.Calls.{HasFlushed}
use Rattle.pmem_engine.proofs.BlockWrites.FlushOutcomes.{flushed}
use Rattle.pmem_engine.proofs.CallEnds.EngineCalls.{was_up, was_down}
use Rattle.call_effects.proofs.ResultLaws.{is_err_of}
use Rattle.pmem_engine.proofs.CallEnds.UsableParts.{some_setup, some_ledger, ready_after}
use Rattle.pmem_engine.proofs.engine.Engine.flush.Given.{Over}
use Rattle.pmem_engine.proofs.engine.Engine.flush.Goals.{After-ended_or_cut}
use Rattle.pmem_engine.proofs.engine.Engine.flush.Goals as goal

module _ (g : Over) (c : After-ended_or_cut g) where
  did : (setup : Setup) (ledger : LedgerState) (tags digests : ℕ) → setup.shape ≡ c.args.self.now.shape
      → HasFlushed setup (parts_of c.args.self.now (g.B.Board.device c.args.board.now) ledger tags digests)
      (parts_of c.ended_or_cut.new.self (g.B.Board.device c.write_back-answer.new.board) ledger tags digests) c.ended_or_cut.result
  did setup ledger tags digests shape =
      subst₂
      (λ (engine : ChipState) (answer : Result (Option ℕ) Fault). HasFlushed setup
      (parts_of c.args.self.now (g.B.Board.device c.args.board.now) ledger tags digests)
      (parts_with engine (g.B.Board.device c.write_back-answer.new.board) ledger tags digests) answer)
      (sym c.ended_or_cut.ensures.chip) (sym c.ended_or_cut.ensures.answer)
      (subst
      (λ (engine : EngineState). HasFlushed setup (parts_of engine (g.B.Board.device c.args.board.now) ledger tags digests)
      (parts_with c.write_back-answer.new.self (g.B.Board.device c.write_back-answer.new.board) ledger tags digests)
      (of_cut c.write_back-answer.result)) c.self.view_is
      (flushed setup c.self.inside.chip c.write_back-answer.new.self (g.B.Board.device c.args.board.now)
      (g.B.Board.device c.write_back-answer.new.board) ledger tags digests (its_shape ∙ sym shape)
      (c.requires.ready.its_size ∙ ap device_lines (sym shape)) (g.met.B.Board.whole c.args.board.now)
      c.write_back-answer.result c.write_back-answer.ensures.reads
      c.write_back-answer.ensures.mirror c.write_back-answer.ensures.oldest c.write_back-answer.ensures.plan
      c.write_back-answer.ensures.written))
    where
      its_shape : c.self.inside.chip.shape ≡ c.args.self.now.shape
      its_shape = ap (λ (engine : EngineState). engine.shape) c.self.view_is

  after : c.ended_or_cut.new.self.down ≡ not (is_going (outcome_of c.ended_or_cut.result))
  after =
      c.ended_or_cut.ensures.down
      ∙ ap (λ (answer : Result (Option ℕ) Fault). not (is_going (outcome_of answer))) (sym c.ended_or_cut.ensures.answer)

pub returns-clause-flushed : goal.returns-clause-flushed
returns-clause-flushed g c = λ setup ledger tags digests shape.
    let end : After-ended_or_cut g = (goal.at.returns-clause-flushed g c).After-ended_or_cut in
    was_up _ _ _ _ c.ended_or_cut.result _ c.in_ok-is_up.ensures.up (after g end) (did g end setup ledger tags digests shape)

pub returns-clause-ready : goal.returns-clause-ready
returns-clause-ready g c =
    let end : After-ended_or_cut g = (goal.at.returns-clause-ready g c).After-ended_or_cut in
    let setup : Setup = some_setup c.args.self.now.shape in
    let old : Parts = parts_of c.args.self.now (g.B.Board.device c.args.board.now) some_ledger 0 0 in
    let new : Parts = parts_of c.ended_or_cut.new.self (g.B.Board.device c.write_back-answer.new.board) some_ledger 0 0 in
    ready_after setup (outcome_of c.ended_or_cut.result) [] old new c.ended_or_cut.new.self.down (did g end setup some_ledger 0 0 refl).done.gone (after g end)
    (subst (λ b. IsReadyWith c.args.self.now.shape b (g.B.Board.device c.args.board.now)) c.in_ok-is_up.ensures.up c.requires.ready)

pub returns-clause-shape : goal.returns-clause-shape
returns-clause-shape g c =
    (did g (goal.at.returns-clause-shape g c).After-ended_or_cut (some_setup c.args.self.now.shape) some_ledger 0 0 refl).done.gone.shape

pub returns-in_err-is_up-clause-flushed : goal.returns-in_err-is_up-clause-flushed
returns-in_err-is_up-clause-flushed g c = λ setup ledger tags digests shape.
    was_down _ _ c.from_residual.result _ c.in_err-is_up.ensures.down
    (is_err_of c.from_residual.result c.in_err-is_up.field-0.0 c.from_residual.ensures.1 ∙ ap Err c.in_err-is_up.ensures.fault)
