-- The plan of a begin's commit: its group was armed, told and finished, or a cut came before.
use Rattle.std.proofs.Common.{subst, ◌≡◌, ◌∙◌}
use Rattle.pmem_base.specs.declared.registers.Regs.{Regs}
use Rattle.pmem_base.specs.declared.answers.Mark.TheVariants.{Begin}
use Rattle.pmem_base.specs.Shape.{Shape}
use Rattle.plain_model.specs.Bounds.{begun_lines}
use Rattle.seal_ledger.specs.Ledger.{LedgerState}
use Rattle.pmem_engine.specs.Plans.{Chip, chip_with}
use Rattle.pmem_engine.specs.SealPlans.{with_path, begin_armed, with_marked_path}
use Rattle.pmem_engine.proofs.PlannedCalls.Chips.{ended_with_err}
use Rattle.commit_regs.proofs.GroupPlans.{group_cut, group_end}
use Rattle.pmem_engine.proofs.PlannedCalls.GroupPlans.{begin_armed_is, marked_path_is}
use Rattle.pmem_engine.proofs.engine.OnChip.commit_begin.Goals as goal

pub returns-in_err-arm-clause-plan : goal.returns-in_err-arm-clause-plan
returns-in_err-arm-clause-plan g c tags digests =
    let shape : Shape = c.args.self.now.shape in
    let before : Chip = chip_with c.args.self.now (g.A.Audit.ledger c.args.audit.now) tags digests in
    ended_with_err (g.B.Board.device c.arm.new.board).regs c.from_residual.result c.from_residual.ensures.1
    (group_cut (begin_armed shape c.args.register.now c.args.path.now.lines.items c.args.path.now.root (g.B.Board.device c.args.board.now).regs)
    before (with_marked_path shape (Begin c.args.page) c.args.page (begun_lines shape) c.args.path.now.lines.items before) c.in_err-arm.ensures.cut)

pub returns-clause-plan : goal.returns-clause-plan
returns-clause-plan g c tags digests =
    let shape : Shape = c.args.self.now.shape in
    let regs : Regs = (g.B.Board.device c.args.board.now).regs in
    let ledger : LedgerState = g.A.Audit.ledger c.args.audit.now in
    let before : Chip = chip_with c.args.self.now ledger tags digests in
    group_end (begin_armed shape c.args.register.now c.args.path.now.lines.items c.args.path.now.root regs) before
    (with_marked_path shape (Begin c.args.page) c.args.page (begun_lines shape) c.args.path.now.lines.items before) c.put_begin.new.regs
    (chip_with c.store.new.self (g.A.Audit.ledger c.store.new.audit) tags digests) c.finish_armed.result
    (begin_armed_is shape c.args.register.now c.args.path.now.lines.items c.args.path.now.root regs c.set.new.self c.put_begin.new.regs
    (c.set.ensures ∙ c.regs.ensures) c.put_begin.ensures.root c.put_begin.ensures.progress c.put_begin.ensures.loss c.put_begin.ensures.group)
    (marked_path_is shape (Begin c.args.page) c.args.page (begun_lines shape) c.args.path.now.lines.items c.args.self.now c.store.new.self ledger
    (g.A.Audit.ledger c.note_begin.new.self) (g.A.Audit.ledger c.store.new.audit) tags digests c.note_begin.ensures.mark c.store.ensures.true_path
    (subst (λ n. c.store.new.self ≡ with_path shape c.args.page n c.args.path.now.lines.items c.args.self.now) c.begun_lines.ensures.value c.store.ensures.exact))
    c.in_ok-arm.ensures.ok c.finish_armed.ensures.ok c.finish_armed.ensures.plan
