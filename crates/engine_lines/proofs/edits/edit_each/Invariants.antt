use Rattle.std.proofs.Common.{◌≡◌, ◌≤◌, ◌+◌, ◌*◌, false, length, take, drop, Ok}
use Rattle.pmem_engine.specs.Parts.{parts_of}
use Rattle.pmem_engine.specs.Calls.{IsUsable}
use Rattle.pmem_engine.specs.Plans.{chip_of}
use Rattle.call_plan.specs.Plans.{for_each}
use Rattle.call_plan.proofs.Loops.{HasReached}
use Rattle.engine_lines.specs.Edits.{AreEdited}
use Rattle.engine_lines.specs.Plans.{edit_plan, edits_plan}
use Rattle.engine_lines.proofs.edits.edit_each.Given as goal

abbrev pub invariant-edits : goal.invariant-edits
invariant-edits g l =
    record {
      edited :
          AreEdited (record { shape = l.fn.engine.shape; formulas = g.S.Suite.formulas_of (g.S.Suite.keys l.fn.suite) })
          (take l.edit-index l.edits)
          (parts_of l.fn.engine (g.B.Board.device l.fn.board) (g.A.Audit.ledger l.fn.audit) (g.S.Suite.tags l.fn.suite) (g.S.Suite.digests l.fn.suite))
          (parts_of l.engine (g.B.Board.device l.board) (g.A.Audit.ledger l.audit) (g.S.Suite.tags l.suite) (g.S.Suite.digests l.suite))
          (Ok tt);
      reached :
          HasReached
          (edits_plan (record { shape = l.fn.engine.shape; formulas = g.S.Suite.formulas_of (g.S.Suite.keys l.fn.suite) }) l.edits
          (chip_of l.fn.engine (g.A.Audit.ledger l.fn.audit) (g.S.Suite.tags l.fn.suite) (g.S.Suite.digests l.fn.suite), (g.B.Board.device l.fn.board).regs))
          (g.B.Board.device l.fn.board)
          (for_each (edit_plan (record { shape = l.fn.engine.shape; formulas = g.S.Suite.formulas_of (g.S.Suite.keys l.fn.suite) })) (drop l.edit-index l.edits)
          (chip_of l.engine (g.A.Audit.ledger l.audit) (g.S.Suite.tags l.suite) (g.S.Suite.digests l.suite), (g.B.Board.device l.board).regs))
          (g.B.Board.device l.board);
      few : length (g.A.Audit.ledger l.audit).marks ≤ length (g.A.Audit.ledger l.fn.audit).marks + 66 * l.edit-index;
      capacity : g.A.Audit.capacity l.audit ≡ g.A.Audit.capacity l.fn.audit;
      keys : g.S.Suite.keys l.suite ≡ g.S.Suite.keys l.fn.suite;
      usable : IsUsable l.fn.engine.shape l.engine (g.B.Board.device l.board) (g.A.Audit.ledger l.audit);
      shape : l.engine.shape ≡ l.fn.engine.shape;
      up : l.engine.down ≡ false;
    }
