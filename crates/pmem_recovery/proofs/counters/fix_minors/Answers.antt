use Rattle.std.proofs.Common.{◌≡◌, ◌≤◌, ◌+◌, ◌*◌, ap, refl, ◌∙◌, arith}
use Rattle.std.proofs.lemmas.List.Elements.{All-set}
use Rattle.pmem_base.specs.Geo.{shape_of}
use Rattle.pmem_base.proofs.LayoutLemmas.{pages-most}
use Rattle.call_effects.specs.SuiteStates.{setup_with}
use Rattle.call_plan.proofs.Steps.{ended_err}
use Rattle.call_plan.proofs.Loops.{turns_start, turn_ok, turn_err, turns_end}
use Rattle.split_counters.specs.Blocks.{with_minor}
use Rattle.pmem_recovery.specs.Plans.{counts_at, minor_turn}
use Rattle.pmem_recovery.proofs.TrialPlans.{minor_done, minor_stopped}
use Rattle.pmem_recovery.proofs.counters.fix_minors.Given.{Over}
use Rattle.pmem_recovery.proofs.counters.fix_minors.Goals.{After-from}
use Rattle.pmem_recovery.proofs.counters.fix_minors.Goals as goal

-- line i
module _ (g : Over) (c : After-from g) where
  its_place : 64 * c.args.page + c.from.result ≡ 64 * c.args.page + c.lines.i
  its_place = ap (λ n. 64 * c.args.page + n) c.from.ensures

pub lines-init : goal.lines-init
lines-init g c =
    record {
      keys = refl;
      pads = refl;
      reached =
          turns_start (minor_turn (setup_with g.S.Suite c.args.geo.now c.args.suite.now) c.args.regs.now c.args.stored.now c.args.page) 64
          (counts_at g.S.Suite c.args.suite.now, (c.args.stored.now, 0)) (g.B.Board.device c.args.board.now);
      few = omega arith;
      small = c.requires.block.minors;
    }

pub overflow_mul-at : goal.overflow_mul-at
overflow_mul-at g c = omega (arith, c.requires.page, pages-most (shape_of c.args.geo.now).levels c.args.geo.now.has_levels.1)

pub overflow_add-at : goal.overflow_add-at
overflow_add-at g c =
    omega (arith, c.requires.page, pages-most (shape_of c.args.geo.now).levels c.args.geo.now.has_levels.1, c.lines-test.true, c.from.ensures)

pub lines-preserved : goal.lines-preserved
lines-preserved g c =
    let inv = c.lines.invariant in
    let ok = c.in_ok-minor.ensures in
    record {
      keys = c.try_line.ensures.keys ∙ inv.keys;
      pads = c.try_line.ensures.pads ∙ inv.pads;
      reached =
          let here = (goal.at.lines-preserved g c).After-from in
          turn_ok inv.reached c.lines-test.true
          (minor_done (setup_with g.S.Suite c.args.geo.now c.args.suite.now) c.args.regs.now c.args.stored.now c.args.page c.lines.i (counts_at g.S.Suite c.lines.suite)
          c.lines.fixed c.lines.trials (its_place g here) (counts_at g.S.Suite c.try_line.new.suite) c.in_ok-minor.minor c.in_ok-minor.tries _
          (ap (λ n. with_minor c.lines.fixed n c.in_ok-minor.minor) c.from-in-lines.ensures)
          (rw inv.keys at ok.plan));
      few = omega (arith, inv.few, ok.few);
      small = All-set (λ m. m ≤ 127) c.lines.fixed.minors c.from-in-lines.result c.in_ok-minor.minor ok.small inv.small;
    }

-- ---- the plan

pub returns-in_err-minor-clause-plan : goal.returns-in_err-minor-clause-plan
returns-in_err-minor-clause-plan g c =
    let here = (goal.at.returns-in_err-minor-clause-plan g c).After-from in
    let fault = c.in_err-minor.field-0.0 in
    ended_err c.from_residual.result c.from_residual.ensures.1
    (turn_err c.lines.invariant.reached c.lines-test.true
    (minor_stopped (setup_with g.S.Suite c.args.geo.now c.args.suite.now) c.args.regs.now c.args.stored.now c.args.page c.lines.i (counts_at g.S.Suite c.lines.suite)
    c.lines.fixed c.lines.trials (its_place g here) (counts_at g.S.Suite c.try_line.new.suite) fault
    (rw c.lines.invariant.keys at c.in_err-minor.ensures.plan)))

pub returns-clause-plan : goal.returns-clause-plan
returns-clause-plan g c = turns_end c.lines.invariant.reached (omega (arith, c.lines-test.false))
