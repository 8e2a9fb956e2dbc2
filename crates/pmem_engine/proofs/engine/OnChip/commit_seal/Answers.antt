-- The plan of a commit of a seal with its page's new path: its group was armed, told and finished, or a cut came before.
use Rattle.std.proofs.Common.{◌∙◌}
use Rattle.pmem_base.specs.declared.registers.Regs.{Regs}
use Rattle.pmem_base.specs.declared.answers.Mark.{Mark}
use Rattle.pmem_base.specs.declared.answers.Mark.TheVariants.{Seal}
use Rattle.pmem_base.specs.Layout.{page_of}
use Rattle.pmem_base.specs.Shape.{Shape}
use Rattle.seal_ledger.specs.Ledger.{LedgerState}
use Rattle.pmem_engine.specs.declared.resealing.NextSeal.{NextSeal}
use Rattle.pmem_engine.specs.Plans.{Chip, chip_with}
use Rattle.pmem_engine.specs.SealPlans.{seal_armed, with_marked_path}
use Rattle.pmem_engine.proofs.PlannedCalls.Chips.{ended_with_err}
use Rattle.commit_regs.proofs.GroupPlans.{group_cut, group_end}
use Rattle.pmem_engine.proofs.PlannedCalls.GroupPlans.{seal_armed_is, marked_path_is}
use Rattle.pmem_engine.proofs.engine.OnChip.commit_seal.Goals as goal

abbrev mark_of : NextSeal → Mark
mark_of next = Seal next.at next.ctr next.cipher next.tag

pub returns-in_err-arm-clause-plan : goal.returns-in_err-arm-clause-plan
returns-in_err-arm-clause-plan g c tags digests =
    let shape : Shape = c.args.self.now.shape in
    let next : NextSeal = c.args.next.now in
    let before : Chip = chip_with c.args.self.now (g.A.Audit.ledger c.args.audit.now) tags digests in
    ended_with_err (g.B.Board.device c.arm.new.board).regs c.from_residual.result c.from_residual.ensures.1
    (group_cut (seal_armed shape next c.args.grouped c.args.path.now.lines.items c.args.path.now.root (g.B.Board.device c.args.board.now).regs) before
    (with_marked_path shape (mark_of next) (page_of next.at) c.args.grouped c.args.path.now.lines.items before) c.in_err-arm.ensures.cut)

pub returns-clause-plan : goal.returns-clause-plan
returns-clause-plan g c tags digests =
    let shape : Shape = c.args.self.now.shape in
    let next : NextSeal = c.args.next.now in
    let regs : Regs = (g.B.Board.device c.args.board.now).regs in
    let ledger : LedgerState = g.A.Audit.ledger c.args.audit.now in
    let before : Chip = chip_with c.args.self.now ledger tags digests in
    group_end (seal_armed shape next c.args.grouped c.args.path.now.lines.items c.args.path.now.root regs) before
    (with_marked_path shape (mark_of next) (page_of next.at) c.args.grouped c.args.path.now.lines.items before) c.put_seal_and_path.new.regs
    (chip_with c.store.new.self (g.A.Audit.ledger c.store.new.audit) tags digests) c.finish_armed.result
    (seal_armed_is shape next c.args.grouped c.args.path.now.lines.items c.args.path.now.root regs c.set.new.self c.put_seal_and_path.new.regs
    (c.set.ensures ∙ c.regs.ensures) c.put_seal_and_path.ensures.root c.put_seal_and_path.ensures.progress c.put_seal_and_path.ensures.loss
    c.put_seal_and_path.ensures.group)
    (marked_path_is shape (mark_of next) (page_of next.at) c.args.grouped c.args.path.now.lines.items c.args.self.now c.store.new.self ledger
    (g.A.Audit.ledger c.note_seal.new.self) (g.A.Audit.ledger c.store.new.audit) tags digests c.note_seal.ensures.mark c.store.ensures.true_path
    c.store.ensures.exact)
    c.in_ok-arm.ensures.ok c.finish_armed.ensures.ok c.finish_armed.ensures.plan
