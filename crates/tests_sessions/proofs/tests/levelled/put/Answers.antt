use Rattle.std.proofs.Common.{refl}
use Rattle.board.specs.Memory.{device_of}
use Rattle.board.specs.MemBoard.{memory_of}
use Rattle.seal_ledger.specs.View.{ledger_of}
use Rattle.tests_sessions.proofs.Benches.{kept_ready, usable_at}
use Rattle.tests_sessions.proofs.tests.levelled.put.Goals as goal

pub invariant_of-bench : goal.invariant_of-bench
invariant_of-bench g c =
    let usable =
    usable_at c.write.new.self.engine (device_of (memory_of c.write.new.board)) (ledger_of c.write.new.audit) c.requires.shape c.write.ensures.usable in
    record {
      its_size = usable.ready.its_size;
      its_regs = usable.ready.valid_regs;
      its_truth = usable.true_lines;
      its_lines = usable.line_count;
      each_sealed = usable.each_sealed;
    }

pub returns : goal.returns
returns g c =
    record {
      geo = refl;
      shape = c.write.ensures.shape;
      ready =
          kept_ready c.write.new.self.engine (device_of (memory_of c.write.new.board)) (ledger_of c.write.new.audit) c.write.ensures.shape
          c.write.ensures.usable;
    }
