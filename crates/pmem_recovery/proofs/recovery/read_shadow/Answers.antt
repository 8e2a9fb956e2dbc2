use Rattle.std.proofs.Common.{rules, [], List, refl, sym, subst, ◌∙◌, arith}
use Rattle.pmem_base.specs.declared.lines.Line.{Line}
use Rattle.board.specs.Steps.{HasRead}
use Rattle.call_plan.proofs.Steps.{ended_err}
use Rattle.call_plan.proofs.Loops.{AreTurnsLeft, turns_start, turn_ok, turn_err, turns_end}
use Rattle.pmem_recovery.specs.Plans.{shadow_turn, shadow_plan}
use Rattle.pmem_recovery.proofs.RecoveryPlans.{shadow_read_then, shadow_unread}
use Rattle.pmem_base.specs.Geo.{shape_of}
use Rattle.pmem_base.specs.Layout.{shadow_lines}
use Rattle.pmem_recovery.proofs.recovery.read_shadow.Goals as goal

-- ---- the plan

pub lines-init : goal.lines-init
lines-init g c =
    record {
      reached =
          subst (λ (items : List Line). AreTurnsLeft (shadow_plan (shape_of c.args.geo.now)) (g.B.Board.device c.args.board.now) (shadow_turn (shape_of c.args.geo.now)) 0
          (shadow_lines (shape_of c.args.geo.now)) (items, tt) (g.B.Board.device c.args.board.now)) (sym c.requires.empty)
          (turns_start (shadow_turn (shape_of c.args.geo.now)) (shadow_lines (shape_of c.args.geo.now)) ([], tt) (g.B.Board.device c.args.board.now));
      long = search rules;
      capacity = refl;
    }

pub lines-preserved : goal.lines-preserved
lines-preserved g c =
    record {
      reached =
          turn_ok c.lines.invariant.reached (omega (arith, c.lines-test.true, c.shadows-n-end.ensures.value))
          (shadow_read_then (shape_of c.args.geo.now) c.lines.n c.lines.shadow.items
          (subst (λ n. HasRead (g.B.Board.device c.lines.board) n c.in_ok-line.line (g.B.Board.device c.read_line.new.self)) c.shadow_line.ensures.value c.in_ok-line.ensures.ok)
          c.is_whole.ensures c.push_reserved.ensures.items);
      long = search rules;
      capacity = c.push_reserved.ensures.capacity ∙ c.lines.invariant.capacity;
    }

pub returns-in_err-line-clause-plan : goal.returns-in_err-line-clause-plan
returns-in_err-line-clause-plan g c =
    ended_err c.from_residual.result c.from_residual.ensures.1
    (turn_err c.lines.invariant.reached (omega (arith, c.lines-test.true, c.shadows-n-end.ensures.value))
    (shadow_unread (shape_of c.args.geo.now) c.lines.n c.lines.shadow.items c.in_err-line.ensures.cut c.in_err-line.ensures.only_off))

pub returns-clause-plan : goal.returns-clause-plan
returns-clause-plan g c = turns_end c.lines.invariant.reached (omega (arith, c.lines-test.false, c.shadows-n-end.ensures.value))
