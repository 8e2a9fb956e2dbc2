-- The plan of what a new number asks for: nothing for a greater one, and every dirty counter block for a smaller one.
use Rattle.std.proofs.Common.{◌<◌, ◌≤◌, subst}
use Rattle.std.proofs.lemmas.Bool.{lt-ltb, le-ltb}
use Rattle.pmem_base.specs.declared.registers.Regs.{Regs}
use Rattle.board.specs.Device.{Device}
use Rattle.call_plan.proofs.Steps.{is_done}
use Rattle.pmem_engine.proofs.PlannedCalls.LossPlans.{way_free, way_made}
use Rattle.pmem_engine.proofs.engine.OnChip.make_way.Goals as goal

pub returns-then-regs-n-clause-plan : goal.returns-then-regs-n-clause-plan
returns-then-regs-n-clause-plan g c =
    let old : Device = g.B.Board.device c.args.board.now in
    way_free c.args.n old.regs c.args.self.now
    (le-ltb c.args.n old.regs.loss (subst (λ (r : Regs). r.loss ≤ c.args.n) c.regs.ensures c.if-regs-n.true))
    (is_done (c.args.self.now, 0) old)

pub returns-clause-plan : goal.returns-clause-plan
returns-clause-plan g c =
    let old : Device = g.B.Board.device c.args.board.now in
    way_made c.args.n old.regs c.args.self.now
    (lt-ltb c.args.n old.regs.loss (subst (λ (r : Regs). c.args.n < r.loss) c.regs.ensures c.if-regs-n.false)) c.write_back_blocks.ensures.plan
