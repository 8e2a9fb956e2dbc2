-- The ends of a read, as its plan has them.
use Rattle.std.proofs.Common.{◌≡◌, ℕ, Result, Ok, Err, subst}
use Rattle.pmem_base.specs.declared.lines.Line.{Line}
use Rattle.pmem_base.specs.declared.lines.Ctr.{Ctr}
use Rattle.pmem_base.specs.declared.registers.Regs.{Regs}
use Rattle.pmem_base.specs.Layout.{page_of}
use Rattle.board.specs.Device.{Device}
use Rattle.call_plan.specs.Plans.{Plan, mapped}
use Rattle.call_plan.specs.Following.{Follows}
use Rattle.call_plan.proofs.Bind.{bind_ok, bind_err, mapped_follows}
use Rattle.meta_path.specs.declared.faults.PathFault.{PathFault}
use Rattle.suite.specs.Setup.{Setup}
use Rattle.pmem_engine.specs.declared.fault.Fault.{Fault}
use Rattle.pmem_engine.specs.declared.fault.LineFault.{LineFault}
use Rattle.pmem_engine.specs.declared.reading.Unsealed.{Unsealed}
use Rattle.pmem_engine.specs.Outcomes.{fault_of_path, fault_of_line}
use Rattle.pmem_engine.specs.Plans.{Chip, its_counter, fetch_path_plan, unseal_plan, read_plan}

module _ (setup : Setup) (regs : Regs) (at : ℕ) (chip : Chip) where
  abbrev after_fetch : Chip × Unit {0} → Plan (Chip × Fault) (Chip × Line)
  after_fetch fetched =
      mapped (λ (left : Chip × LineFault). (left.0, fault_of_line left.1)) (λ (end : Chip × Unsealed). (end.0, end.1.plain))
      (unseal_plan setup at (its_counter setup regs at fetched.0) fetched.0)

  -- the path wasn't fetched
  pub unfetched_read : {old new : Device} (after : Chip) (fault : PathFault)
      → Follows (fetch_path_plan setup regs.root (page_of at) chip) old new (Err (after, fault))
      → Follows (read_plan setup regs at chip) old new (Err (after, fault_of_path fault))
  unfolding read_plan
  unfetched_read after fault it = bind_err after_fetch (mapped_follows _ _ it)

  module _ {old mid new : Device} (fetched after : Chip) (ctr : Ctr) (counter : ctr ≡ its_counter setup regs at fetched)
      (first : Follows (fetch_path_plan setup regs.root (page_of at) chip) old mid (Ok (fetched, tt))) where
    its_unsealing : {end : Result (Chip × Unsealed) (Chip × LineFault)} → Follows (unseal_plan setup at ctr fetched) mid new end
        → Follows (unseal_plan setup at (its_counter setup regs at fetched) fetched) mid new end
    its_unsealing {end = end} it = subst (λ (c : Ctr). Follows (unseal_plan setup at c fetched) mid new end) counter it

    -- the line was unsealed, or not
    pub unsealed_read : (unsealed : Unsealed) → Follows (unseal_plan setup at ctr fetched) mid new (Ok (after, unsealed))
        → Follows (read_plan setup regs at chip) old new (Ok (after, unsealed.plain))
    unfolding read_plan
    unsealed_read unsealed it = bind_ok after_fetch (mapped_follows _ _ first) (mapped_follows _ _ (its_unsealing it))

    pub refused_read : (fault : LineFault) → Follows (unseal_plan setup at ctr fetched) mid new (Err (after, fault))
        → Follows (read_plan setup regs at chip) old new (Err (after, fault_of_line fault))
    unfolding read_plan
    refused_read fault it = bind_ok after_fetch (mapped_follows _ _ first) (mapped_follows _ _ (its_unsealing it))
