-- The plan of a page's begin, where it has to be re-encrypted.
use Rattle.pmem_engine.specs.Parts.{setup_with_at}
use Rattle.pmem_engine.specs.Plans.{chip_with_at}
use Rattle.pmem_engine.proofs.PlannedCalls.SealPlans.{begun_where, unbegun_where}
use Rattle.pmem_engine.proofs.engine.OnChip.begin_for.Goals as goal

pub returns-then-not-overflows-clause-plan : goal.returns-then-not-overflows-clause-plan
returns-then-not-overflows-clause-plan g c =
    unbegun_where (setup_with_at g.S.Suite c.args.self.now c.args.suite.now) c.args.page (g.B.Board.device c.args.board.now).regs
    (chip_with_at g.S.Suite g.A.Audit c.args.self.now c.args.suite.now c.args.audit.now) c.args.overflows (g.B.Board.device c.args.board.now)
    c.if-not-overflows.true

pub returns-clause-plan : goal.returns-clause-plan
returns-clause-plan g c =
    begun_where (setup_with_at g.S.Suite c.args.self.now c.args.suite.now) c.args.page (g.B.Board.device c.args.board.now).regs
    (chip_with_at g.S.Suite g.A.Audit c.args.self.now c.args.suite.now c.args.audit.now) c.args.overflows c.if-not-overflows.false
    c.begin_page.ensures.plan
