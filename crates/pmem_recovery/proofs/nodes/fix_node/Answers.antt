use Rattle.std.proofs.Common.{refl, arith}
use Rattle.pmem_base.specs.Geo.{shape_of}
use Rattle.bonsai_tree.proofs.Levels.{meta_lines-counters}
use Rattle.board.specs.Steps.{HasRead}
use Rattle.pmem_base.specs.Layout.{meta_line}
use Rattle.call_plan.proofs.Steps.{ended_err}
use Rattle.suite.specs.Setup.{Setup}
use Rattle.call_effects.specs.SuiteStates.{setup_with}
use Rattle.pmem_recovery.specs.Plans.{RecoveryParts, recovery_parts, counts_at}
use Rattle.pmem_recovery.proofs.NodePlans.{same_made, node_unread, node_stopped, node_made_so}
use Rattle.pmem_recovery.proofs.nodes.fix_node.Given.{Over}
use Rattle.pmem_recovery.proofs.nodes.fix_node.Goals.{After-node_line}
use Rattle.pmem_recovery.proofs.nodes.fix_node.Goals as goal

pub push-requires-clause-position : goal.push-requires-clause-position
push-requires-clause-position g c = omega (arith, c.requires.node, c.requires.positions, meta_lines-counters (shape_of c.args.geo.now))

-- ---- the plan

pub returns-in_err-read-clause-plan : goal.returns-in_err-read-clause-plan
returns-in_err-read-clause-plan g c =
    ended_err c.from_residual.result c.from_residual.ensures.1
    (node_unread (setup_with g.S.Suite c.args.geo.now c.args.suite.now) c.args.x (recovery_parts c.args.made.now.entries (counts_at g.S.Suite c.args.suite.now))
    c.in_err-read.ensures.cut c.in_err-read.ensures.only_off)

-- the node was read
module _ (g : Over) (c : After-node_line g) where
  abbrev setup : Setup
  setup = setup_with g.S.Suite c.args.geo.now c.args.suite.now

  abbrev before : RecoveryParts
  before = recovery_parts c.args.made.now.entries (counts_at g.S.Suite c.args.suite.now)

  was_read : HasRead (g.B.Board.device c.args.board.now) (meta_line setup.shape c.args.x) c.in_ok-read.read (g.B.Board.device c.read_line.new.self)
  was_read = rw c.meta_line.ensures.value at c.in_ok-read.ensures.ok

pub returns-in_err-line-clause-plan : goal.returns-in_err-line-clause-plan
returns-in_err-line-clause-plan g c =
    let here = (goal.at.returns-in_err-line-clause-plan g c).After-node_line in
    ended_err c.from_residual-in_err-line.result c.from_residual-in_err-line.ensures.1
    (node_stopped (setup g here) c.args.x (before g here) (was_read g here) c.is_whole.ensures (counts_at g.S.Suite c.node_line.new.suite)
    c.in_err-line.ensures.plan)

pub returns-clause-plan : goal.returns-clause-plan
returns-clause-plan g c =
    let here = (goal.at.returns-clause-plan g c).After-node_line in
    node_made_so (setup g here) c.args.x (before g here) (was_read g here) c.is_whole.ensures (counts_at g.S.Suite c.node_line.new.suite)
    c.in_ok-line.line c.push.new.self.entries
    (same_made c.args.made.now.entries c.args.x c.in_ok-read.read c.push.ensures.entries refl c.is_other.ensures)
    c.in_ok-line.ensures.plan
