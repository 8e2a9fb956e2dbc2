-- The plan of another number: it is latched already, or what it asks for is written and then it is latched, or a cut came before.
use Rattle.std.proofs.Common.{◌≡◌, ◌≢◌, ne_eqb, eq-eqb, ap, subst, ◌∙◌}
use Rattle.pmem_base.specs.declared.registers.Regs.{Regs}
use Rattle.board.specs.Device.{Device}
use Rattle.board.specs.Steps.{HasLatched}
use Rattle.call_plan.proofs.Steps.{is_done, ended_err}
use Rattle.pmem_engine.specs.Flushed.{with_loss}
use Rattle.pmem_engine.proofs.PlannedCalls.LossPlans.{loss_same, loss_stopped, loss_cut, loss_latched}
use Rattle.pmem_engine.proofs.engine.OnChip.latch_loss.Goals as goal

pub returns-then-n-regs-clause-plan : goal.returns-then-n-regs-clause-plan
returns-then-n-regs-clause-plan g c =
    let old : Device = g.B.Board.device c.args.board.now in
    loss_same c.args.n old.regs c.args.self.now
    (eq-eqb c.args.n old.regs.loss (subst (λ (r : Regs). c.args.n ≡ r.loss) c.regs.ensures c.if-n-regs.true)) (is_done (c.args.self.now, 0) old)

pub returns-in_err-written-clause-plan : goal.returns-in_err-written-clause-plan
returns-in_err-written-clause-plan g c =
    let old : Device = g.B.Board.device c.args.board.now in
    ended_err c.from_residual.result c.from_residual.ensures.1
    (loss_stopped c.args.n old.regs c.args.self.now
    (ne_eqb c.args.n old.regs.loss (subst (λ (r : Regs). c.args.n ≢ r.loss) c.regs.ensures c.if-n-regs.false)) c.in_err-written.ensures.plan)

pub returns-in_err-latch-clause-plan : goal.returns-in_err-latch-clause-plan
returns-in_err-latch-clause-plan g c =
    let old : Device = g.B.Board.device c.args.board.now in
    ended_err c.from_residual-in_err-latch.result c.from_residual-in_err-latch.ensures.1
    (loss_cut c.args.n old.regs c.args.self.now c.make_way.new.self c.in_ok-written.written
    (ne_eqb c.args.n old.regs.loss (subst (λ (r : Regs). c.args.n ≢ r.loss) c.regs.ensures c.if-n-regs.false)) c.in_ok-written.ensures.plan
    c.in_err-latch.ensures.cut)

pub returns-clause-plan : goal.returns-clause-plan
returns-clause-plan g c =
    let old : Device = g.B.Board.device c.args.board.now in
    let mid : Device = g.B.Board.device c.make_way.new.board in
    let next : c.regs_with_loss-next.result ≡ with_loss old.regs c.args.n =
    c.regs_with_loss-next.ensures ∙ ap (λ (r : Regs). with_loss r c.args.n) (c.regs-2.ensures ∙ c.in_ok-written.ensures.ok.written.regs) in
    loss_latched c.args.n old.regs c.args.self.now c.make_way.new.self c.in_ok-written.written
    (ne_eqb c.args.n old.regs.loss (subst (λ (r : Regs). c.args.n ≢ r.loss) c.regs.ensures c.if-n-regs.false)) c.in_ok-written.ensures.plan
    (subst (λ (r : Regs). HasLatched mid r (g.B.Board.device c.latch.new.self)) next c.in_ok-latch.ensures.ok)
