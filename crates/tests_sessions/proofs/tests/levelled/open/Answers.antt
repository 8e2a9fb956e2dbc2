use Rattle.std.proofs.Common.{◌≡◌, refl, subst}
use Rattle.std.specs.Prelude.{IfOk}
use Rattle.pmem_base.specs.Shape.{Shape}
use Rattle.pmem_base.specs.Geo.{shape_of}
use Rattle.board.specs.Memory.{device_of}
use Rattle.board.specs.MemBoard.{memory_of}
use Rattle.seal_ledger.specs.View.{ledger_of}
use Rattle.pmem_engine.specs.Calls.{IsUsable}
use Rattle.start_gap.specs.declared.gapped.Gapped.{Gapped}
use Rattle.tests_sessions.proofs.Benches.{opened_ready}
use Rattle.tests_sessions.proofs.tests.levelled.open.Goals as goal

pub invariant_of-bench : goal.invariant_of-bench
invariant_of-bench c =
    let left = c.open.ensures.left in
    let device = device_of (memory_of c.open.new.board) in
    let usable : IsUsable (shape_of c.args.bench.now.geo) left.0 device (ledger_of c.open.new.audit) =
    subst (λ (s : Shape). IsUsable s left.0 device (ledger_of c.open.new.audit)) c.requires.shape left.1 in
    record {
      its_size = usable.ready.its_size;
      its_regs = usable.ready.valid_regs;
      its_truth = usable.true_lines;
      its_lines = usable.line_count;
      each_sealed = usable.each_sealed;
    }

pub returns : goal.returns
returns c =
    record {
      geo = refl;
      shape = subst (λ (s : Shape). IfOk c.open.result (λ opened. opened.engine.shape ≡ s)) c.requires.shape c.open.ensures.shape;
      ready =
          opened_ready (λ (opened : Gapped). opened.engine) c.args.engine.shape (device_of (memory_of c.open.new.board))
          (ledger_of c.open.new.audit) c.open.result c.open.ensures.shape c.open.ensures.usable;
    }
