-- No page was finished, or one was.
use Rattle.std.proofs.Common.{◌<◌, ◌∙◌, Some, None, Ok, length, sym, ap, subst}
use Rattle.suite.specs.Setup.{Setup}
use Rattle.pmem_engine.specs.Parts.{Parts, parts_with_at, setup_with_at}
use Rattle.pmem_engine.specs.Writing.{register_to_finish}
use Rattle.pmem_engine.proofs.PageLines.FinishedFirst.{on_ok, closed_for}
use Rattle.pmem_base.specs.declared.registers.Regs.{Regs}
use Rattle.board.specs.Device.{Device}
use Rattle.call_plan.specs.Following.{Follows}
use Rattle.commit_regs.specs.Plans.{ended_with}
use Rattle.pmem_engine.specs.Plans.{Chip, chip_with_at}
use Rattle.pmem_engine.specs.WritePlans.{finish_for_plan}
use Rattle.pmem_engine.proofs.PlannedCalls.FinishPlans.{none_finished, found_finished, one_found, none_found}
use Rattle.pmem_engine.proofs.engine.OnChip.finish_for.Goals as goal

pub returns-in-Some-clause-closed : goal.returns-in-Some-clause-closed
returns-in-Some-clause-closed g c =
    let setup : Setup = setup_with_at g.S.Suite c.args.self.now c.args.suite.now in
    let old : Parts = parts_with_at g.B.Board g.S.Suite g.A.Audit c.args.self.now c.args.board.now c.args.suite.now c.args.audit.now in
    let new : Parts = parts_with_at g.B.Board g.S.Suite g.A.Audit c.args.self.now c.finish_page.new.board c.finish_page.new.suite c.finish_page.new.audit in
    on_ok c.finish_page.result
    (λ ok overflows.
    closed_for setup c.in-Some.n c.args.page old new c.finish_page.result
    (subst (λ regs. c.in-Some.n < length regs.progress.items) c.regs.ensures c.in-Some.ensures.inside)
    (ap (λ regs. register_to_finish regs.progress.items c.args.page) (sym c.regs.ensures) ∙ sym c.in-Some.ensures.found)
    c.finish_page.ensures.finished ok)

pub returns-in-Some-clause-plan : goal.returns-in-Some-clause-plan
returns-in-Some-clause-plan g c =
    let setup : Setup = setup_with_at g.S.Suite c.args.self.now c.args.suite.now in
    let regs : Regs = (g.B.Board.device c.args.board.now).regs in
    let was : Chip = chip_with_at g.S.Suite g.A.Audit c.args.self.now c.args.suite.now c.args.audit.now in
    let after : Chip = chip_with_at g.S.Suite g.A.Audit c.args.self.now c.finish_page.new.suite c.finish_page.new.audit in
    subst (λ overflows. Follows (finish_for_plan setup c.args.page overflows regs was) (g.B.Board.device c.args.board.now)
    (g.B.Board.device c.finish_page.new.board)
    (ended_with c.finish_page.result after (g.B.Board.device c.finish_page.new.board).regs)) (sym c.if-not-overflows.false)
    (found_finished setup c.args.page regs was (Some c.in-Some.n)
    (ap (λ regs. register_to_finish regs.progress.items c.args.page) (sym c.regs.ensures) ∙ sym c.in-Some.ensures.found)
    (one_found setup c.args.page regs was c.in-Some.n c.finish_page.ensures.plan))

pub returns-in-None-clause-plan : goal.returns-in-None-clause-plan
returns-in-None-clause-plan g c =
    let setup : Setup = setup_with_at g.S.Suite c.args.self.now c.args.suite.now in
    let before : Device = g.B.Board.device c.args.board.now in
    let was : Chip = chip_with_at g.S.Suite g.A.Audit c.args.self.now c.args.suite.now c.args.audit.now in
    subst (λ overflows. Follows (finish_for_plan setup c.args.page overflows before.regs was) before before (Ok (was, before.regs)))
    (sym c.if-not-overflows.false)
    (found_finished setup c.args.page before.regs was None
    (ap (λ regs. register_to_finish regs.progress.items c.args.page) (sym c.regs.ensures) ∙ sym c.in-None.ensures.found)
    (none_found setup c.args.page before.regs was before))

pub returns-then-not-overflows-clause-plan : goal.returns-then-not-overflows-clause-plan
returns-then-not-overflows-clause-plan g c =
    let setup : Setup = setup_with_at g.S.Suite c.args.self.now c.args.suite.now in
    let before : Device = g.B.Board.device c.args.board.now in
    let was : Chip = chip_with_at g.S.Suite g.A.Audit c.args.self.now c.args.suite.now c.args.audit.now in
    subst (λ overflows. Follows (finish_for_plan setup c.args.page overflows before.regs was) before before (Ok (was, before.regs)))
    (sym c.if-not-overflows.true) (none_finished setup c.args.page before.regs was before)
