use Rattle.pmem_recovery.proofs.WritePlans.{changed_written, unchanged}
use Rattle.pmem_recovery.proofs.writing.write_changed.Goals as goal

pub returns-then-changed : goal.returns-then-changed
returns-then-changed g c =
    record {
      plan =
          changed_written c.args.at c.args.line.now c.args.changed (g.B.Board.device c.args.board.now) (g.B.Board.device c.write_line.new.self) c.write_line.result
          c.if-changed.true c.write_line.ensures.ok c.write_line.ensures.cut;
    }

pub returns-else-changed : goal.returns-else-changed
returns-else-changed g c = record { plan = unchanged c.args.at c.args.line.now c.args.changed (g.B.Board.device c.args.board.now) c.if-changed.false }
