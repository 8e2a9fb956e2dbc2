use Rattle.std.proofs.Common.{◌+◌, arith}
use Rattle.pmem_base.specs.Geo.{shape_of}
use Rattle.call_effects.specs.SuiteStates.{setup_with}
use Rattle.bonsai_tree.proofs.Levels.{level_start-le}
use Rattle.call_plan.proofs.Steps.{ended_err}
use Rattle.pmem_recovery.specs.Plans.{counts_at}
use Rattle.pmem_recovery.proofs.NodePlans.{same_counts, compared_so, top_cut, top_compared}
use Rattle.pmem_recovery.proofs.nodes.check_root.Goals as goal

pub made_or_read-requires-clause-position : goal.made_or_read-requires-clause-position
made_or_read-requires-clause-position g c = level_start-le 1 ((shape_of c.args.geo.now).levels + 1) (omega arith)

-- ---- the plan

pub returns-in_err-top-clause-plan : goal.returns-in_err-top-clause-plan
returns-in_err-top-clause-plan g c =
    ended_err c.from_residual.result c.from_residual.ensures.1
    (top_cut (setup_with g.S.Suite c.args.geo.now c.args.suite.now) c.args.regs.now.root c.args.made.now.entries (counts_at g.S.Suite c.args.suite.now)
    c.in_err-top.ensures.plan)

pub returns-clause-plan : goal.returns-clause-plan
returns-clause-plan g c =
    top_compared (setup_with g.S.Suite c.args.geo.now c.args.suite.now) c.args.regs.now.root c.args.made.now.entries (counts_at g.S.Suite c.args.suite.now)
    c.in_ok-top.top (counts_at g.S.Suite c.digest-found.new.self) c.digest-found.result
    (same_counts c.digest-found.ensures.tags c.digest-found.ensures.digests)
    c.digest-found.ensures.digest c.in_ok-top.ensures.plan
    (compared_so c.args.regs.now.root c.digest-found.result (counts_at g.S.Suite c.digest-found.new.self) (g.B.Board.device c.made_or_read.new.board)
    c.compared.result c.compared.ensures)
