use Rattle.call_effects.specs.SuiteStates.{setup_with}
use Rattle.board.specs.Steps.{HasRead}
use Rattle.pmem_base.specs.Layout.{meta_line}
use Rattle.call_plan.proofs.Steps.{ended_err}
use Rattle.suite.specs.Setup.{Setup}
use Rattle.pmem_recovery.specs.Plans.{RecoveryParts, recovery_parts, counts_at}
use Rattle.pmem_recovery.proofs.NodePlans.{same_made}
use Rattle.pmem_recovery.proofs.TrialPlans.{block_unread, block_stopped, block_made_so}
use Rattle.pmem_recovery.proofs.counters.fix_counter.Given.{Over}
use Rattle.pmem_recovery.proofs.counters.fix_counter.Goals.{After-fix_minors}
use Rattle.pmem_recovery.proofs.counters.fix_counter.Goals as goal

-- ---- the plan

pub returns-in_err-read-clause-plan : goal.returns-in_err-read-clause-plan
returns-in_err-read-clause-plan g c =
    ended_err c.from_residual.result c.from_residual.ensures.1
    (block_unread (setup_with g.S.Suite c.args.geo.now c.args.suite.now) c.args.regs.now c.args.x
    (recovery_parts c.args.made.now.entries (counts_at g.S.Suite c.args.suite.now)) c.in_err-read.ensures.cut c.in_err-read.ensures.only_off)

-- the block was read, and its page's lines are tried
module _ (g : Over) (c : After-fix_minors g) where
  abbrev setup : Setup
  setup = setup_with g.S.Suite c.args.geo.now c.args.suite.now

  abbrev before : RecoveryParts
  before = recovery_parts c.args.made.now.entries (counts_at g.S.Suite c.args.suite.now)

  was_read : HasRead (g.B.Board.device c.args.board.now) (meta_line setup.shape c.args.x) c.in_ok-read.read (g.B.Board.device c.read_line.new.self)
  was_read = rw c.meta_line.ensures.value at c.in_ok-read.ensures.ok

pub returns-in_err-fixed-clause-plan : goal.returns-in_err-fixed-clause-plan
returns-in_err-fixed-clause-plan g c =
    let here = (goal.at.returns-in_err-fixed-clause-plan g c).After-fix_minors in
    let fault = c.in_err-fixed.field-0.0 in
    ended_err c.from_residual-in_err-fixed.result c.from_residual-in_err-fixed.ensures.1
    (block_stopped (setup g here) c.args.regs.now c.args.x (before g here) (was_read g here) c.is_whole.ensures (counts_at g.S.Suite c.fix_minors.new.suite) fault
    (rw (c.unpack.ensures.value, c.pages.ensures.value) at c.in_err-fixed.ensures.plan))

pub returns-clause-plan : goal.returns-clause-plan
returns-clause-plan g c =
    let here = (goal.at.returns-clause-plan g c).After-fix_minors in
    block_made_so (setup g here) c.args.regs.now c.args.x (before g here) (was_read g here) c.is_whole.ensures (counts_at g.S.Suite c.fix_minors.new.suite)
    c.in_ok-fixed.fixed c.in_ok-fixed.trials c.push.new.self.entries
    (same_made c.args.made.now.entries c.args.x c.in_ok-read.read c.push.ensures.entries c.pack-line.ensures c.is_other.ensures)
    (rw (c.unpack.ensures.value, c.pages.ensures.value) at c.in_ok-fixed.ensures.plan)
