-- The plan of a seal's commit: its group was armed, told and finished, or a cut came before.
use Rattle.std.proofs.Common.{◌∙◌, ap}
use Rattle.pmem_base.specs.declared.registers.Regs.{Regs}
use Rattle.pmem_base.specs.declared.answers.Mark.TheVariants.{Seal}
use Rattle.pmem_base.specs.Shape.{Shape}
use Rattle.call_plan.proofs.Steps.{ended_err}
use Rattle.seal_ledger.specs.Ledger.{LedgerState}
use Rattle.pmem_engine.specs.declared.resealing.NextSeal.{NextSeal}
use Rattle.pmem_engine.specs.Plans.{armed}
use Rattle.seal_ledger.proofs.NoteLemmas.{noted_is}
use Rattle.pmem_engine.proofs.PlannedCalls.CommitPlans.{armed_is, commit_cut, committed}
use Rattle.pmem_engine.proofs.engine.OnChip.commit_reseal.Goals as goal

pub returns-in_err-arm-clause-plan : goal.returns-in_err-arm-clause-plan
returns-in_err-arm-clause-plan g c =
    ended_err c.from_residual.result c.from_residual.ensures.1
    (commit_cut c.args.self.now.shape c.args.next.now (g.B.Board.device c.args.board.now).regs (g.A.Audit.ledger c.args.audit.now)
    c.in_err-arm.ensures.cut)

pub returns-clause-plan : goal.returns-clause-plan
returns-clause-plan g c =
    let shape : Shape = c.args.self.now.shape in
    let next : NextSeal = c.args.next.now in
    let old : Regs = (g.B.Board.device c.args.board.now).regs in
    let before : LedgerState = g.A.Audit.ledger c.args.audit.now in
    committed shape next old before c.put_seal.new.regs (g.A.Audit.ledger c.note_seal.new.self) c.finish_armed.result
    (armed_is shape next c.set.new.self c.put_seal.new.regs c.put_seal.ensures.line_done c.put_seal.ensures.group
    ∙ ap (λ (regs : Regs). armed shape next regs) (c.set.ensures ∙ c.regs.ensures))
    (noted_is before (g.A.Audit.ledger c.note_seal.new.self) (Seal next.at next.ctr next.cipher next.tag) c.note_seal.ensures.mark)
    c.in_ok-arm.ensures.ok c.finish_armed.ensures.ok c.finish_armed.ensures.plan
