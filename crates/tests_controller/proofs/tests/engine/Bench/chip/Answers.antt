-- An engine over a formatted device is usable.
use Rattle.std.proofs.Common.{◌∙◌, sym, ap, subst}
use Rattle.pmem_base.specs.declared.registers.Regs.{Regs}
use Rattle.pmem_base.specs.Shape.{Shape}
use Rattle.pmem_base.specs.Geo.{shape_of}
use Rattle.pmem_base.specs.Registers.{IsValidRegs}
use Rattle.board.specs.MemBoard.{memory_of}
use Rattle.board.specs.Memory.{device_of}
use Rattle.seal_ledger.specs.View.{ledger_of}
use Rattle.pmem_engine.specs.Engine.{EngineState}
use Rattle.tests_controller.proofs.Benches.{formatted_regs, usable_from}
use Rattle.tests_controller.proofs.tests.engine.Bench.chip.Goals as goal

pub invariant_of-result : goal.invariant_of-result
invariant_of-result g c =
    let shape : Shape = shape_of c.latch.new.self.geo in
    let valid : IsValidRegs shape c.regs-regs.result =
    subst (λ (s : Shape). IsValidRegs s c.regs-regs.result) (sym (ap shape_of c.latch.ensures.geo))
    (formatted_regs (shape_of c.args.self.geo) c.regs-regs.result c.args.opened c.args.self.geo.has_loss c.regs-regs.ensures.loss
    c.regs-regs.ensures.no_group c.regs-regs.ensures.pages) in
    record {
      usable =
          usable_from shape c.new-engine.result (device_of (memory_of c.latch.new.self.board)) (ledger_of c.latch.new.self.ledger)
          c.latch.new.self.sealed (ap (λ (e : EngineState). e.shape) c.new-engine.ensures) c.latch.new.self.its_size
          (subst (λ (regs : Regs). IsValidRegs shape regs) (sym c.latch.ensures.regs) valid)
          (ap (λ (regs : Regs). regs.group.items) c.latch.ensures.regs ∙ c.regs-regs.ensures.no_group)
          c.latch.new.self.its_truth c.latch.new.self.its_lines c.is_sealed.ensures c.latch.new.self.its_seals;
    }
