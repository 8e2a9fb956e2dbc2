-- The group is written, and then emptied; or a cut came before.
use Rattle.std.proofs.Common.{rules, ℕ, List, Ok, Err, subst}
use Rattle.std.specs.Prelude.{OnOk}
use Rattle.pmem_base.specs.declared.lines.Line.{Line}
use Rattle.pmem_base.specs.declared.registers.Regs.{Regs}
use Rattle.pmem_base.specs.Registers.{without_group}
use Rattle.board.specs.Device.{Device}
use Rattle.board.specs.Steps.{HasLatched}
use Rattle.call_plan.specs.Plans.{done, latch, the_cut}
use Rattle.call_plan.specs.Following.{Follows}
use Rattle.call_plan.proofs.Steps.{answered_err, last_latch}
use Rattle.call_plan.proofs.Bind.{bind_ok, bind_err}
use Rattle.commit_regs.specs.Plans.{lines_plan}
use Rattle.commit_regs.proofs.finish_armed.Goals as goal

pub returns-in_err-written-clause-plan : goal.returns-in_err-written-clause-plan
returns-in_err-written-clause-plan g c =
    let all : Follows (lines_plan c.args.armed.now.group.items) (g.B.Board.device c.args.board.now)
    (g.B.Board.device c.write_all-written.new.board) (Err the_cut) = search rules in
    answered_err c.from_residual.result c.from_residual.ensures.1
    (bind_err (λ written. latch the_cut (without_group c.args.armed.now) (done tt)) all)

pub returns-clause-plan : goal.returns-clause-plan
returns-clause-plan g c =
    let mid : Device = g.B.Board.device c.write_all-written.new.board in
    let after : Device = g.B.Board.device c.latch.new.self in
    let emptied : List (ℕ × Line) → Regs = λ items.
    record {
      root = c.args.armed.now.root;
      group = record { items = items };
      progress = c.args.armed.now.progress;
      loss = c.args.armed.now.loss;
    } in
    let all : Follows (lines_plan c.args.armed.now.group.items) (g.B.Board.device c.args.board.now) mid (Ok tt) = search rules in
    bind_ok (λ written. latch the_cut (without_group c.args.armed.now) (done tt)) all
    (last_latch (without_group c.args.armed.now) mid after c.latch.result
    (subst (λ items. OnOk c.latch.result (HasLatched mid (emptied items) after)) c.clear.ensures c.latch.ensures.ok) c.latch.ensures.cut)
