use Rattle.std.proofs.Common.{sym}
use Rattle.pmem_base.specs.Geo.{shape_of}
use Rattle.call_plan.proofs.Steps.{answered_err}
use Rattle.pmem_recovery.proofs.NodePlans.{was_made, stored_read, stored_cut}
use Rattle.pmem_recovery.proofs.nodes.made_or_read.Goals as goal

pub returns-in-Some : goal.returns-in-Some
returns-in-Some g c = record { plan = was_made (shape_of c.args.geo.now) c.args.made.now.entries c.args.x (g.B.Board.device c.args.board.now) c.in-Some.line (sym c.in-Some.ensures) }

pub returns-in_err-line-in-None : goal.returns-in_err-line-in-None
returns-in_err-line-in-None g c =
    record {
      plan =
          answered_err c.from_residual.result c.from_residual.ensures.1
          (stored_cut (shape_of c.args.geo.now) c.args.made.now.entries c.args.x (sym c.in-None.ensures) c.in_err-line-in-None.ensures.cut c.in_err-line-in-None.ensures.only_off);
    }

pub returns-in_ok-line-in-None : goal.returns-in_ok-line-in-None
returns-in_ok-line-in-None g c =
    record {
      plan =
          stored_read (shape_of c.args.geo.now) c.args.made.now.entries c.args.x (sym c.in-None.ensures) c.in_ok-line-in-None.line
          (rw c.meta_line.ensures.value at c.in_ok-line-in-None.ensures.ok)
          c.is_whole.ensures;
    }
