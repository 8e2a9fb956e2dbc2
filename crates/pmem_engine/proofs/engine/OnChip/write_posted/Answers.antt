-- Each part's premises follow from the parts before it, and each exit has its law.
mod Stages
use Rattle.std.proofs.Common.{◌≡◌, ◌<◌, ◌-◌, ◌^◌, length, Ok, Err, refl, sym, ap, subst, subst₂, ◌∙◌, arith, ◌/◌}
use Rattle.pmem_base.specs.Shape.{Shape}
use Rattle.pmem_base.specs.Layout.{page_of, index_in_page, data_lines, pages}
use Rattle.call_plan.proofs.Steps.{ended_err}
use Rattle.split_counters.specs.Blocks.{next_block}
use Rattle.page_reencrypt.specs.Registers.{register_of}
use Rattle.meta_path.specs.Blocks.{IsPathCached}
use Rattle.seal_ledger.specs.Notes.{HasRoom}
use Rattle.pmem_engine.specs.declared.fault.Fault.TheVariants as Fail
use Rattle.pmem_engine.specs.Engine.{ChipState}
use Rattle.pmem_engine.specs.Parts.{setup_with_at}
use Rattle.pmem_engine.specs.Outcomes.{fault_of_path, fault_of_line}
use Rattle.pmem_engine.specs.CallFacts.{IsPathNamedInMirror}
use Rattle.pmem_engine.specs.Inner.{cached_block}
use Rattle.pmem_engine.specs.Sealing.{HasSealedNext}
use Rattle.pmem_engine.specs.Writing.{overflow_of, HasMadePlain, HasFinishedFor, HasBegunFor}
use Rattle.call_effects.proofs.ResultLaws.{is_err_of}
use Rattle.pmem_engine.proofs.PlannedCalls.PostedPlans.{isnt_fetched, is_spent, isnt_made, isnt_finished, is_named, isnt_named, is_begun, isnt_begun, is_sealed, isnt_sealed}
use Rattle.pmem_engine.proofs.PostedWrites.WritePremises.{usable_here, minor_below, room_begun, cached_begun, named_begun, same_unbegun}
use Rattle.pmem_engine.proofs.PostedWrites.WriteOutcomes.{written_spent, written_unplain, written_unfinished, written_unnamed, written_unbegun, written_sealed}
use Rattle.pmem_engine.proofs.PostedWrites.WriteExits.{IsWriteEnd, written_unfetched}
use Rattle.pmem_engine.proofs.engine.OnChip.write_posted.Answers.Stages.{at, moved, amid1, over, made_plain, amid2, finished, amid3, room_left, named, amid4, same_block, begun, amid5, same_setup, come1, come2, come3, come4, come5, come6}
use Rattle.pmem_engine.proofs.engine.OnChip.write_posted.Goals.{In_ok-fetch, In_ok-overflows, In_ok-plain, In_ok-finish_for, In_ok-name_path, In_ok-begin_for}
use Rattle.pmem_engine.proofs.engine.OnChip.write_posted.Goals as goal

-- ---- the plan

pub returns-in_err-fetch-clause-plan : goal.returns-in_err-fetch-clause-plan
returns-in_err-fetch-clause-plan g c =
    ended_err c.from_residual.result c.from_residual.ensures.1
    (isnt_fetched _ _ c.args.write.now _ _ _ c.in_err-fetch.field-0.0 c.in_err-fetch.ensures.plan)

pub returns-in_err-overflows-clause-plan : goal.returns-in_err-overflows-clause-plan
returns-in_err-overflows-clause-plan g c =
    let place = goal.at.returns-in_err-overflows-clause-plan g c in
    let a1 = amid1 g place.In_ok-fetch in
    ended_err c.from_residual-in_err-overflows.result c.from_residual-in_err-overflows.ensures.1
    (is_spent _ _ c.args.write.now _ _ _ (come1 g place.In_ok-fetch) c.in_err-overflows.field-0.0
    (ap (λ shape. overflow_of (cached_block shape c.fetch.new.self (page_of c.args.write.now.at)) (page_of c.args.write.now.at)
    (index_in_page c.args.write.now.at)) (sym a1.its_shape)
    ∙ sym c.in_err-overflows.ensures.exactly))

pub returns-in_err-plain-clause-plan : goal.returns-in_err-plain-clause-plan
returns-in_err-plain-clause-plan g c =
    let place = goal.at.returns-in_err-plain-clause-plan g c in
    let a1 = amid1 g place.In_ok-fetch in
    let way1 = come1 g place.In_ok-fetch in
    let way2 = come2 g place.In_ok-overflows a1 way1 in
    ended_err c.from_residual-in_err-plain.result c.from_residual-in_err-plain.ensures.1
    (isnt_made _ _ c.args.write.now _ _ _ _ way2 _ _ (same_setup _ _ a1.its_shape (ap g.S.Suite.formulas_of c.fetch.ensures.keys)) c.in_ok-fetch.ensures.fetched.regs _
    c.in_err-plain.field-0.0 c.in_err-plain.ensures.plan)

pub returns-in_err-finish_for-clause-plan : goal.returns-in_err-finish_for-clause-plan
returns-in_err-finish_for-clause-plan g c =
    let place = goal.at.returns-in_err-finish_for-clause-plan g c in
    let a1 = amid1 g place.In_ok-fetch in
    let regs1 = c.in_ok-fetch.ensures.fetched.regs in
    let regs2 = (made_plain g place.In_ok-plain a1).regs ∙ regs1 in
    let way1 = come1 g place.In_ok-fetch in
    let way2 = come2 g place.In_ok-overflows a1 way1 in
    let way3 = come3 g place.In_ok-plain a1 regs1 way2 in
    ended_err c.from_residual-in_err-finish_for.result c.from_residual-in_err-finish_for.ensures.1
    (isnt_finished _ _ c.args.write.now _ _ _ _ _ way3 _ _ (same_setup _ _ a1.its_shape (ap g.S.Suite.formulas_of (c.plain_after.ensures.keys ∙ c.fetch.ensures.keys))) regs2 _
    c.in_err-finish_for.field-0.0 c.in_err-finish_for.ensures.plan)

pub returns-in_err-name_path-clause-plan : goal.returns-in_err-name_path-clause-plan
returns-in_err-name_path-clause-plan g c =
    let place = goal.at.returns-in_err-name_path-clause-plan g c in
    let a1 = amid1 g place.In_ok-fetch in
    let regs1 = c.in_ok-fetch.ensures.fetched.regs in
    let regs2 = (made_plain g place.In_ok-plain a1).regs ∙ regs1 in
    let way1 = come1 g place.In_ok-fetch in
    let way2 = come2 g place.In_ok-overflows a1 way1 in
    let way3 = come3 g place.In_ok-plain a1 regs1 way2 in
    let way4 = come4 g place.In_ok-finish_for a1 regs2 way3 in
    ended_err c.from_residual-in_err-name_path.result c.from_residual-in_err-name_path.ensures.1
    (isnt_named _ _ c.args.write.now _ _ _ _ _ way4 _ c.in_err-name_path.field-0.0 c.in_err-name_path.ensures.plan)

pub returns-in_err-begin_for-clause-plan : goal.returns-in_err-begin_for-clause-plan
returns-in_err-begin_for-clause-plan g c =
    let place = goal.at.returns-in_err-begin_for-clause-plan g c in
    let a1 = amid1 g place.In_ok-fetch in
    let a2 = amid2 g place.In_ok-plain a1 in
    let a3 = amid3 g place.In_ok-finish_for a1 a2 in
    let a4 = amid4 g place.In_ok-name_path a1 a3 in
    let regs1 = c.in_ok-fetch.ensures.fetched.regs in
    let regs2 = (made_plain g place.In_ok-plain a1).regs ∙ regs1 in
    let regs4 = (named g place.In_ok-name_path a1 a3).regs in
    let way1 = come1 g place.In_ok-fetch in
    let way2 = come2 g place.In_ok-overflows a1 way1 in
    let way3 = come3 g place.In_ok-plain a1 regs1 way2 in
    let way4 = come4 g place.In_ok-finish_for a1 regs2 way3 in
    let way5 = come5 g place.In_ok-name_path way4 in
    ended_err c.from_residual-in_err-begin_for.result c.from_residual-in_err-begin_for.ensures.1
    (isnt_begun _ _ c.args.write.now _ _ _ _ _ _ way5 _ _ (same_setup _ _ a4.its_shape (ap g.S.Suite.formulas_of (c.finish_for.ensures.keys ∙ c.plain_after.ensures.keys ∙ c.fetch.ensures.keys))) regs4 _
    c.in_err-begin_for.field-0.0 c.in_err-begin_for.ensures.plan)

pub returns-in_err-ctr-clause-plan : goal.returns-in_err-ctr-clause-plan
returns-in_err-ctr-clause-plan g c =
    let place = goal.at.returns-in_err-ctr-clause-plan g c in
    let a1 = amid1 g place.In_ok-fetch in
    let a2 = amid2 g place.In_ok-plain a1 in
    let a3 = amid3 g place.In_ok-finish_for a1 a2 in
    let a4 = amid4 g place.In_ok-name_path a1 a3 in
    let regs1 = c.in_ok-fetch.ensures.fetched.regs in
    let regs2 = (made_plain g place.In_ok-plain a1).regs ∙ regs1 in
    let regs4 = (named g place.In_ok-name_path a1 a3).regs in
    let way1 = come1 g place.In_ok-fetch in
    let way2 = come2 g place.In_ok-overflows a1 way1 in
    let way3 = come3 g place.In_ok-plain a1 regs1 way2 in
    let way4 = come4 g place.In_ok-finish_for a1 regs2 way3 in
    let way5 = come5 g place.In_ok-name_path way4 in
    let way6 = come6 g place.In_ok-begin_for a4 regs4 way5 in
    ended_err c.from_residual-in_err-ctr.result c.from_residual-in_err-ctr.ensures.1
    (isnt_sealed _ _ c.args.write.now _ _ _ _ way6 _ (same_setup _ _ (amid5 g place.In_ok-begin_for a4).its_shape (ap g.S.Suite.formulas_of (c.begin_for.ensures.keys ∙ c.finish_for.ensures.keys ∙ c.plain_after.ensures.keys ∙ c.fetch.ensures.keys))) _
    c.in_err-ctr.field-0.0 c.in_err-ctr.ensures.plan)

pub returns-clause-plan : goal.returns-clause-plan
returns-clause-plan g c =
    let place = goal.at.returns-clause-plan g c in
    let a1 = amid1 g place.In_ok-fetch in
    let a2 = amid2 g place.In_ok-plain a1 in
    let a3 = amid3 g place.In_ok-finish_for a1 a2 in
    let a4 = amid4 g place.In_ok-name_path a1 a3 in
    let regs1 = c.in_ok-fetch.ensures.fetched.regs in
    let regs2 = (made_plain g place.In_ok-plain a1).regs ∙ regs1 in
    let regs4 = (named g place.In_ok-name_path a1 a3).regs in
    let way1 = come1 g place.In_ok-fetch in
    let way2 = come2 g place.In_ok-overflows a1 way1 in
    let way3 = come3 g place.In_ok-plain a1 regs1 way2 in
    let way4 = come4 g place.In_ok-finish_for a1 regs2 way3 in
    let way5 = come5 g place.In_ok-name_path way4 in
    let way6 = come6 g place.In_ok-begin_for a4 regs4 way5 in
    is_sealed _ _ c.args.write.now _ _ _ _ way6 _ (same_setup _ _ (amid5 g place.In_ok-begin_for a4).its_shape (ap g.S.Suite.formulas_of (c.begin_for.ensures.keys ∙ c.finish_for.ensures.keys ∙ c.plain_after.ensures.keys ∙ c.fetch.ensures.keys))) _ _ c.in_ok-ctr.ensures.plan

-- ---- exits

pub returns-in_err-fetch-clause-written : goal.returns-in_err-fetch-clause-written
returns-in_err-fetch-clause-written g c =
    subst (IsWriteEnd (setup_with_at g.S.Suite c.args.self.now c.args.suite.now) c.args.write.now (at g c.args.self.now c.args.board.now c.args.suite.now c.args.audit.now) (at g c.fetch.new.self c.fetch.new.board c.fetch.new.suite c.fetch.new.audit))
    (sym (is_err_of c.from_residual.result (fault_of_path c.in_err-fetch.field-0.0) c.from_residual.ensures.1))
    (written_unfetched _ c.args.write.now (at g c.args.self.now c.args.board.now c.args.suite.now c.args.audit.now) (at g c.fetch.new.self c.fetch.new.board c.fetch.new.suite c.fetch.new.audit) c.in_err-fetch.field-0.0 c.in_err-fetch.ensures.fetched)
    (returns-in_err-fetch-clause-plan g c)

pub returns-in_err-overflows-clause-written : goal.returns-in_err-overflows-clause-written
returns-in_err-overflows-clause-written g c =
    let a1 = amid1 g (goal.at.returns-in_err-overflows-clause-written g c).In_ok-fetch in
    subst (IsWriteEnd (setup_with_at g.S.Suite c.args.self.now c.args.suite.now) c.args.write.now (at g c.args.self.now c.args.board.now c.args.suite.now c.args.audit.now) (at g c.fetch.new.self c.fetch.new.board c.fetch.new.suite c.fetch.new.audit))
    (sym (is_err_of c.from_residual-in_err-overflows.result c.in_err-overflows.field-0.0 c.from_residual-in_err-overflows.ensures.1))
    (written_spent _ c.args.write.now c.requires.line (at g c.args.self.now c.args.board.now c.args.suite.now c.args.audit.now) (at g c.fetch.new.self c.fetch.new.board c.fetch.new.suite c.fetch.new.audit) c.in_ok-fetch.ensures.fetched c.in_err-overflows.field-0.0
    (ap (λ shape. overflow_of (cached_block shape c.fetch.new.self (page_of c.args.write.now.at)) (page_of c.args.write.now.at) (index_in_page c.args.write.now.at)) (sym a1.its_shape)
    ∙ sym c.in_err-overflows.ensures.exactly))
    (returns-in_err-overflows-clause-plan g c)

pub returns-in_err-plain-clause-written : goal.returns-in_err-plain-clause-written
returns-in_err-plain-clause-written g c =
    let place = goal.at.returns-in_err-plain-clause-written g c in
    let a1 = amid1 g place.In_ok-fetch in
    subst (IsWriteEnd (setup_with_at g.S.Suite c.args.self.now c.args.suite.now) c.args.write.now (at g c.args.self.now c.args.board.now c.args.suite.now c.args.audit.now) (at g c.fetch.new.self c.plain_after.new.board c.plain_after.new.suite c.plain_after.new.audit))
    (sym (is_err_of c.from_residual-in_err-plain.result (fault_of_line c.in_err-plain.field-0.0) c.from_residual-in_err-plain.ensures.1))
    (written_unplain _ c.args.write.now c.requires.line (at g c.args.self.now c.args.board.now c.args.suite.now c.args.audit.now) (at g c.fetch.new.self c.fetch.new.board c.fetch.new.suite c.fetch.new.audit) c.in_ok-fetch.ensures.fetched c.in_ok-overflows.overflows
    (over g place.In_ok-overflows a1) (at g c.fetch.new.self c.plain_after.new.board c.plain_after.new.suite c.plain_after.new.audit) c.in_err-plain.field-0.0
    (moved (λ s. HasMadePlain s c.args.write.now (at g c.fetch.new.self c.fetch.new.board c.fetch.new.suite c.fetch.new.audit) (at g c.fetch.new.self c.plain_after.new.board c.plain_after.new.suite c.plain_after.new.audit) (Err c.in_err-plain.field-0.0)) (setup_with_at g.S.Suite c.fetch.new.self c.fetch.new.suite) _
    a1.its_shape (ap g.S.Suite.formulas_of c.fetch.ensures.keys) c.in_err-plain.ensures.made))
    (returns-in_err-plain-clause-plan g c)

pub returns-in_err-finish_for-clause-written : goal.returns-in_err-finish_for-clause-written
returns-in_err-finish_for-clause-written g c =
    let place = goal.at.returns-in_err-finish_for-clause-written g c in
    let a1 = amid1 g place.In_ok-fetch in
    subst (IsWriteEnd (setup_with_at g.S.Suite c.args.self.now c.args.suite.now) c.args.write.now (at g c.args.self.now c.args.board.now c.args.suite.now c.args.audit.now) (at g c.fetch.new.self c.finish_for.new.board c.finish_for.new.suite c.finish_for.new.audit))
    (sym (is_err_of c.from_residual-in_err-finish_for.result (fault_of_line c.in_err-finish_for.field-0.0) c.from_residual-in_err-finish_for.ensures.1))
    (written_unfinished _ c.args.write.now c.requires.line (at g c.args.self.now c.args.board.now c.args.suite.now c.args.audit.now) (at g c.fetch.new.self c.fetch.new.board c.fetch.new.suite c.fetch.new.audit) c.in_ok-fetch.ensures.fetched c.in_ok-overflows.overflows
    (over g place.In_ok-overflows a1) (at g c.fetch.new.self c.plain_after.new.board c.plain_after.new.suite c.plain_after.new.audit) c.in_ok-plain.plain (made_plain g place.In_ok-plain a1) (at g c.fetch.new.self c.finish_for.new.board c.finish_for.new.suite c.finish_for.new.audit) c.in_err-finish_for.field-0.0
    (moved (λ s. HasFinishedFor c.in_ok-overflows.overflows s (page_of c.args.write.now.at) (at g c.fetch.new.self c.plain_after.new.board c.plain_after.new.suite c.plain_after.new.audit) (at g c.fetch.new.self c.finish_for.new.board c.finish_for.new.suite c.finish_for.new.audit) (Err c.in_err-finish_for.field-0.0))
    (setup_with_at g.S.Suite c.fetch.new.self c.plain_after.new.suite) _ a1.its_shape
    (ap g.S.Suite.formulas_of (c.plain_after.ensures.keys ∙ c.fetch.ensures.keys)) c.in_err-finish_for.ensures.finished))
    (returns-in_err-finish_for-clause-plan g c)

pub returns-in_err-name_path-clause-written : goal.returns-in_err-name_path-clause-written
returns-in_err-name_path-clause-written g c =
    let place = goal.at.returns-in_err-name_path-clause-written g c in
    let a1 = amid1 g place.In_ok-fetch in
    subst (IsWriteEnd (setup_with_at g.S.Suite c.args.self.now c.args.suite.now) c.args.write.now (at g c.args.self.now c.args.board.now c.args.suite.now c.args.audit.now) (at g c.name_path.new.self c.name_path.new.board c.finish_for.new.suite c.finish_for.new.audit))
    (sym (is_err_of c.from_residual-in_err-name_path.result Fail.Cut c.from_residual-in_err-name_path.ensures.1))
    (written_unnamed _ c.args.write.now c.requires.line (at g c.args.self.now c.args.board.now c.args.suite.now c.args.audit.now) (at g c.fetch.new.self c.fetch.new.board c.fetch.new.suite c.fetch.new.audit) c.in_ok-fetch.ensures.fetched c.in_ok-overflows.overflows
    (over g place.In_ok-overflows a1) (at g c.fetch.new.self c.plain_after.new.board c.plain_after.new.suite c.plain_after.new.audit) c.in_ok-plain.plain (made_plain g place.In_ok-plain a1) (at g c.fetch.new.self c.finish_for.new.board c.finish_for.new.suite c.finish_for.new.audit)
    (finished g place.In_ok-finish_for a1 (amid2 g place.In_ok-plain a1)) (at g c.name_path.new.self c.name_path.new.board c.finish_for.new.suite c.finish_for.new.audit) c.in_err-name_path.field-0.0
    (c.in_err-name_path.ensures.named _ (g.A.Audit.ledger c.finish_for.new.audit) (g.S.Suite.tags c.finish_for.new.suite)
    (g.S.Suite.digests c.finish_for.new.suite) (sym a1.its_shape)))
    (returns-in_err-name_path-clause-plan g c)

pub returns-in_err-begin_for-clause-written : goal.returns-in_err-begin_for-clause-written
returns-in_err-begin_for-clause-written g c =
    let place = goal.at.returns-in_err-begin_for-clause-written g c in
    let a1 = amid1 g place.In_ok-fetch in
    let a2 = amid2 g place.In_ok-plain a1 in
    let a3 = amid3 g place.In_ok-finish_for a1 a2 in
    subst (IsWriteEnd (setup_with_at g.S.Suite c.args.self.now c.args.suite.now) c.args.write.now (at g c.args.self.now c.args.board.now c.args.suite.now c.args.audit.now) (at g c.begin_for.new.self c.begin_for.new.board c.begin_for.new.suite c.begin_for.new.audit))
    (sym (is_err_of c.from_residual-in_err-begin_for.result c.in_err-begin_for.field-0.0 c.from_residual-in_err-begin_for.ensures.1))
    (written_unbegun _ c.args.write.now c.requires.line (at g c.args.self.now c.args.board.now c.args.suite.now c.args.audit.now) (at g c.fetch.new.self c.fetch.new.board c.fetch.new.suite c.fetch.new.audit) c.in_ok-fetch.ensures.fetched c.in_ok-overflows.overflows
    (over g place.In_ok-overflows a1) (at g c.fetch.new.self c.plain_after.new.board c.plain_after.new.suite c.plain_after.new.audit) c.in_ok-plain.plain (made_plain g place.In_ok-plain a1) (at g c.fetch.new.self c.finish_for.new.board c.finish_for.new.suite c.finish_for.new.audit) (finished g place.In_ok-finish_for a1 a2)
    (at g c.name_path.new.self c.name_path.new.board c.finish_for.new.suite c.finish_for.new.audit) (named g place.In_ok-name_path a1 a3) (at g c.begin_for.new.self c.begin_for.new.board c.begin_for.new.suite c.begin_for.new.audit) c.in_err-begin_for.field-0.0
    (moved (λ s. HasBegunFor c.in_ok-overflows.overflows s (page_of c.args.write.now.at) (at g c.name_path.new.self c.name_path.new.board c.finish_for.new.suite c.finish_for.new.audit) (at g c.begin_for.new.self c.begin_for.new.board c.begin_for.new.suite c.begin_for.new.audit) (Err c.in_err-begin_for.field-0.0))
    (setup_with_at g.S.Suite c.name_path.new.self c.finish_for.new.suite) _ (amid4 g place.In_ok-name_path a1 a3).its_shape
    (ap g.S.Suite.formulas_of (c.finish_for.ensures.keys ∙ c.plain_after.ensures.keys ∙ c.fetch.ensures.keys)) c.in_err-begin_for.ensures.begun))
    (returns-in_err-begin_for-clause-plan g c)

pub returns-in_err-ctr-clause-written : goal.returns-in_err-ctr-clause-written
returns-in_err-ctr-clause-written g c =
    let place = goal.at.returns-in_err-ctr-clause-written g c in
    let a1 = amid1 g place.In_ok-fetch in
    let a2 = amid2 g place.In_ok-plain a1 in
    let a3 = amid3 g place.In_ok-finish_for a1 a2 in
    let a4 = amid4 g place.In_ok-name_path a1 a3 in
    subst (IsWriteEnd (setup_with_at g.S.Suite c.args.self.now c.args.suite.now) c.args.write.now (at g c.args.self.now c.args.board.now c.args.suite.now c.args.audit.now) (at g c.seal_next.new.self c.seal_next.new.board c.seal_next.new.suite c.seal_next.new.audit))
    (sym (is_err_of c.from_residual-in_err-ctr.result Fail.Cut c.from_residual-in_err-ctr.ensures.1))
    (written_sealed _ c.args.write.now c.requires.line (at g c.args.self.now c.args.board.now c.args.suite.now c.args.audit.now) (at g c.fetch.new.self c.fetch.new.board c.fetch.new.suite c.fetch.new.audit) c.in_ok-fetch.ensures.fetched c.in_ok-overflows.overflows
    (over g place.In_ok-overflows a1) (at g c.fetch.new.self c.plain_after.new.board c.plain_after.new.suite c.plain_after.new.audit) c.in_ok-plain.plain (made_plain g place.In_ok-plain a1) (at g c.fetch.new.self c.finish_for.new.board c.finish_for.new.suite c.finish_for.new.audit) (finished g place.In_ok-finish_for a1 a2)
    (at g c.name_path.new.self c.name_path.new.board c.finish_for.new.suite c.finish_for.new.audit) (named g place.In_ok-name_path a1 a3) (at g c.begin_for.new.self c.begin_for.new.board c.begin_for.new.suite c.begin_for.new.audit) (begun g place.In_ok-begin_for a4) (at g c.seal_next.new.self c.seal_next.new.board c.seal_next.new.suite c.seal_next.new.audit) (Err c.in_err-ctr.field-0.0)
    (moved (λ s. HasSealedNext s c.args.write.now.at c.in_ok-plain.plain (at g c.begin_for.new.self c.begin_for.new.board c.begin_for.new.suite c.begin_for.new.audit) (at g c.seal_next.new.self c.seal_next.new.board c.seal_next.new.suite c.seal_next.new.audit) (Err c.in_err-ctr.field-0.0))
    (setup_with_at g.S.Suite c.begin_for.new.self c.begin_for.new.suite) _ (amid5 g place.In_ok-begin_for a4).its_shape
    (ap g.S.Suite.formulas_of (c.begin_for.ensures.keys ∙ c.finish_for.ensures.keys ∙ c.plain_after.ensures.keys ∙ c.fetch.ensures.keys))
    c.in_err-ctr.ensures.sealed))
    (returns-in_err-ctr-clause-plan g c)

pub returns-clause-written : goal.returns-clause-written
returns-clause-written g c =
    let place = goal.at.returns-clause-written g c in
    let a1 = amid1 g place.In_ok-fetch in
    let a2 = amid2 g place.In_ok-plain a1 in
    let a3 = amid3 g place.In_ok-finish_for a1 a2 in
    let a4 = amid4 g place.In_ok-name_path a1 a3 in
    written_sealed _ c.args.write.now c.requires.line (at g c.args.self.now c.args.board.now c.args.suite.now c.args.audit.now) (at g c.fetch.new.self c.fetch.new.board c.fetch.new.suite c.fetch.new.audit) c.in_ok-fetch.ensures.fetched c.in_ok-overflows.overflows
    (over g place.In_ok-overflows a1) (at g c.fetch.new.self c.plain_after.new.board c.plain_after.new.suite c.plain_after.new.audit) c.in_ok-plain.plain (made_plain g place.In_ok-plain a1) (at g c.fetch.new.self c.finish_for.new.board c.finish_for.new.suite c.finish_for.new.audit) (finished g place.In_ok-finish_for a1 a2)
    (at g c.name_path.new.self c.name_path.new.board c.finish_for.new.suite c.finish_for.new.audit) (named g place.In_ok-name_path a1 a3) (at g c.begin_for.new.self c.begin_for.new.board c.begin_for.new.suite c.begin_for.new.audit) (begun g place.In_ok-begin_for a4) (at g c.seal_next.new.self c.seal_next.new.board c.seal_next.new.suite c.seal_next.new.audit) (Ok c.in_ok-ctr.ctr)
    (moved (λ s. HasSealedNext s c.args.write.now.at c.in_ok-plain.plain (at g c.begin_for.new.self c.begin_for.new.board c.begin_for.new.suite c.begin_for.new.audit) (at g c.seal_next.new.self c.seal_next.new.board c.seal_next.new.suite c.seal_next.new.audit) (Ok c.in_ok-ctr.ctr))
    (setup_with_at g.S.Suite c.begin_for.new.self c.begin_for.new.suite) _ (amid5 g place.In_ok-begin_for a4).its_shape
    (ap g.S.Suite.formulas_of (c.begin_for.ensures.keys ∙ c.finish_for.ensures.keys ∙ c.plain_after.ensures.keys ∙ c.fetch.ensures.keys))
    c.in_ok-ctr.ensures.sealed)
    (returns-clause-plan g c)

-- ---- what the later parts ask for

pub finish_for-requires-clause-usable : goal.finish_for-requires-clause-usable
finish_for-requires-clause-usable g c =
    let place = goal.at.finish_for-requires-clause-usable g c in
    usable_here _ (at g c.fetch.new.self c.plain_after.new.board c.plain_after.new.suite c.plain_after.new.audit)
    (amid2 g place.In_ok-plain (amid1 g place.In_ok-fetch))

pub name_path-requires-clause-size : goal.name_path-requires-clause-size
name_path-requires-clause-size g c =
    let place = goal.at.name_path-requires-clause-size g c in
    let a1 = amid1 g place.In_ok-fetch in
    (usable_here _ (at g c.fetch.new.self c.finish_for.new.board c.finish_for.new.suite c.finish_for.new.audit)
    (amid3 g place.In_ok-finish_for a1 (amid2 g place.In_ok-plain a1))).ready.its_size

pub begin_for-requires-clause-page : goal.begin_for-requires-clause-page
begin_for-requires-clause-page g c =
    let place = goal.at.begin_for-requires-clause-page g c in
    let a1 = amid1 g place.In_ok-fetch in
    subst (λ (s : Shape). c.args.write.now.at / 64 < pages s)
    (sym (amid4 g place.In_ok-name_path a1 (amid3 g place.In_ok-finish_for a1 (amid2 g place.In_ok-plain a1))).its_shape)
    (omega (arith, c.requires.line))

pub begin_for-requires-clause-usable : goal.begin_for-requires-clause-usable
begin_for-requires-clause-usable g c =
    let place = goal.at.begin_for-requires-clause-usable g c in
    let a1 = amid1 g place.In_ok-fetch in
    let a2 = amid2 g place.In_ok-plain a1 in
    usable_here _ (at g c.name_path.new.self c.name_path.new.board c.finish_for.new.suite c.finish_for.new.audit) (amid4 g place.In_ok-name_path a1 (amid3 g place.In_ok-finish_for a1 a2))

pub begin_for-requires-clause-room : goal.begin_for-requires-clause-room
begin_for-requires-clause-room g c =
    let place = goal.at.begin_for-requires-clause-room g c in
    let a1 = amid1 g place.In_ok-fetch in
    let left = room_left g place.In_ok-finish_for a1 (amid2 g place.In_ok-plain a1) c.in_ok-fetch.ensures.fetched.done.gone.marks (made_plain g place.In_ok-plain a1).done.gone.marks in
    omega (arith, left, c.finish_for.ensures.capacity, c.plain_after.ensures.capacity, c.fetch.ensures.capacity)

pub begin_for-requires-clause-cached : goal.begin_for-requires-clause-cached
begin_for-requires-clause-cached g c =
    let place = goal.at.begin_for-requires-clause-cached g c in
    let a1 = amid1 g place.In_ok-fetch in
    let a3 = amid3 g place.In_ok-finish_for a1 (amid2 g place.In_ok-plain a1) in
    subst₂ (λ shape cache. IsPathCached shape cache (page_of c.args.write.now.at)) (sym (amid4 g place.In_ok-name_path a1 a3).its_shape)
    (sym c.name_path.ensures.cache) (c.in_ok-fetch.ensures.fetched.path_cached refl)

pub begin_for-requires-clause-named : goal.begin_for-requires-clause-named
begin_for-requires-clause-named g c =
    let place = goal.at.begin_for-requires-clause-named g c in
    let a1 = amid1 g place.In_ok-fetch in
    let a3 = amid3 g place.In_ok-finish_for a1 (amid2 g place.In_ok-plain a1) in
    subst (λ shape. IsPathNamedInMirror shape c.name_path.new.self (page_of c.args.write.now.at))
    (sym (amid4 g place.In_ok-name_path a1 a3).its_shape) ((named g place.In_ok-name_path a1 a3).path_named refl)

pub begin_for-requires-clause-closed : goal.begin_for-requires-clause-closed
begin_for-requires-clause-closed g c overflows =
    let place = goal.at.begin_for-requires-clause-closed g c in
    let a1 = amid1 g place.In_ok-fetch in
    let a3 = amid3 g place.In_ok-finish_for a1 (amid2 g place.In_ok-plain a1) in
    ap (λ regs. register_of regs.progress.items (page_of c.args.write.now.at)) (named g place.In_ok-name_path a1 a3).regs
    ∙ c.in_ok-finish_for.ensures.closed overflows

pub begin_for-requires-clause-not_full : goal.begin_for-requires-clause-not_full
begin_for-requires-clause-not_full g c overflows =
    let place = goal.at.begin_for-requires-clause-not_full g c in
    let a1 = amid1 g place.In_ok-fetch in
    let a3 = amid3 g place.In_ok-finish_for a1 (amid2 g place.In_ok-plain a1) in
    subst (λ regs. length regs.progress.items < 4) (sym (named g place.In_ok-name_path a1 a3).regs) (c.in_ok-finish_for.ensures.not_full overflows)

pub begin_for-requires-clause-major : goal.begin_for-requires-clause-major
begin_for-requires-clause-major g c overflows =
    let place = goal.at.begin_for-requires-clause-major g c in
    let a1 = amid1 g place.In_ok-fetch in
    let a3 = amid3 g place.In_ok-finish_for a1 (amid2 g place.In_ok-plain a1) in
    subst (λ block. block.major < 2 ^ 64 - 1) (sym (same_block g place.In_ok-name_path a1 a3)) (c.in_ok-overflows.ensures.major overflows)

pub seal_next-requires : goal.seal_next-requires
seal_next-requires g c =
    let place = goal.at.seal_next-requires g c in
    let a1 = amid1 g place.In_ok-fetch in
    let a3 = amid3 g place.In_ok-finish_for a1 (amid2 g place.In_ok-plain a1) in
    let a4 = amid4 g place.In_ok-name_path a1 a3 in
    let a5 = amid5 g place.In_ok-begin_for a4 in
    let is_named = named g place.In_ok-name_path a1 a3 in
    let is_begun = begun g place.In_ok-begin_for a4 in
    let same = same_block g place.In_ok-name_path a1 a3 in
    let shape5 = ap (λ shape. cached_block shape c.begin_for.new.self (page_of c.args.write.now.at)) (a5.its_shape ∙ sym a4.its_shape) in
    record {
      line = subst (λ shape. c.args.write.now.at < data_lines shape) (sym a5.its_shape) c.requires.line;
      usable = usable_here _ (at g c.begin_for.new.self c.begin_for.new.board c.begin_for.new.suite c.begin_for.new.audit) a5;
      room =
          let left = room_left g place.In_ok-finish_for a1 (amid2 g place.In_ok-plain a1) c.in_ok-fetch.ensures.fetched.done.gone.marks (made_plain g place.In_ok-plain a1).done.gone.marks in
          let capacity : g.A.Audit.capacity c.begin_for.new.audit ≡ g.A.Audit.capacity c.args.audit.now =
          c.begin_for.ensures.capacity ∙ c.finish_for.ensures.capacity ∙ c.plain_after.ensures.capacity ∙ c.fetch.ensures.capacity in
          subst (λ n. HasRoom (g.A.Audit.ledger c.begin_for.new.audit) n 1) (sym capacity)
          (room_begun _ (page_of c.args.write.now.at) (at g c.name_path.new.self c.name_path.new.board c.finish_for.new.suite c.finish_for.new.audit) (at g c.begin_for.new.self c.begin_for.new.board c.begin_for.new.suite c.begin_for.new.audit) c.in_ok-overflows.overflows (g.A.Audit.capacity c.args.audit.now) left is_begun);
      cached =
          subst (λ shape. IsPathCached shape c.begin_for.new.self.cache (page_of c.args.write.now.at)) (sym a5.its_shape)
          (cached_begun _ (page_of c.args.write.now.at) (at g c.name_path.new.self c.name_path.new.board c.finish_for.new.suite c.finish_for.new.audit) (at g c.begin_for.new.self c.begin_for.new.board c.begin_for.new.suite c.begin_for.new.audit) c.in_ok-overflows.overflows
          (subst (λ cache. IsPathCached c.args.self.now.shape cache (page_of c.args.write.now.at)) (sym c.name_path.ensures.cache)
          (c.in_ok-fetch.ensures.fetched.path_cached refl)) is_begun);
      named =
          subst (λ shape. IsPathNamedInMirror shape c.begin_for.new.self (page_of c.args.write.now.at)) (sym a5.its_shape)
          (named_begun _ (page_of c.args.write.now.at) (at g c.name_path.new.self c.name_path.new.board c.finish_for.new.suite c.finish_for.new.audit) (at g c.begin_for.new.self c.begin_for.new.board c.begin_for.new.suite c.begin_for.new.audit) c.in_ok-overflows.overflows (is_named.path_named refl) is_begun);
      minor =
          minor_below (cached_block c.fetch.new.self.shape c.fetch.new.self (page_of c.args.write.now.at))
          (cached_block c.begin_for.new.self.shape c.begin_for.new.self (page_of c.args.write.now.at)) (page_of c.args.write.now.at)
          (index_in_page c.args.write.now.at) c.in_ok-overflows.overflows (omega arith) (sym c.in_ok-overflows.ensures.exactly)
          (λ overflows. shape5 ∙ c.in_ok-begin_for.ensures.rolled overflows ∙ ap next_block same)
          (λ none.
          shape5
          ∙ ap (λ (e : ChipState). cached_block c.name_path.new.self.shape e (page_of c.args.write.now.at))
          (same_unbegun _ (page_of c.args.write.now.at) (at g c.name_path.new.self c.name_path.new.board c.finish_for.new.suite c.finish_for.new.audit) (at g c.begin_for.new.self c.begin_for.new.board c.begin_for.new.suite c.begin_for.new.audit) c.in_ok-overflows.overflows none is_begun)
          ∙ same);
    }
