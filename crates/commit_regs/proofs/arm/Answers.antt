use Rattle.call_plan.proofs.Steps.{last_latch}
use Rattle.commit_regs.proofs.arm.Goals as goal

pub returns-clause-plan : goal.returns-clause-plan
returns-clause-plan g c =
    last_latch c.args.next.now (g.B.Board.device c.args.board.now) (g.B.Board.device c.latch.new.self) c.latch.result c.latch.ensures.ok
    c.latch.ensures.cut
