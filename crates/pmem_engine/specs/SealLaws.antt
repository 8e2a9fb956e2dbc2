-- What a cut of a write's own seal leaves.
use Rattle.std.specs.Prelude.{ℕ, ◌≡◌, ◌≢◌, ◌⊎◌, [], Err}
use Rattle.pmem_base.specs.declared.faults.Cut.{Cut}
use Rattle.pmem_base.specs.declared.lines.Line.{Line}
use Rattle.pmem_base.specs.declared.registers.Regs.{Regs}
use Rattle.board.specs.Device.{Device}
use Rattle.call_plan.specs.Following.{Follows}
use Rattle.suite.specs.Setup.{Setup}
use Rattle.pmem_engine.specs.Plans.{Chip}
use Rattle.pmem_engine.specs.SealPlans.{seal_next_plan}

-- Power was cut before the seal was made, and the registers are as they were; or the seal was made, and its group is
-- armed still.
abbrev pub IsCutUnsealedOrArmed : Chip → Device → Device → Chip × Cut → Type 0
IsCutUnsealedOrArmed chip old new left =
    ((left.0.ledger ≡ chip.ledger) × (new.regs ≡ old.regs)) ⊎ (new.regs.group.items ≢ [])

abbrev pub OwnSealsStayArmed : Type 0
OwnSealsStayArmed =
    (setup : Setup) (at : ℕ) (plain : Line) (regs : Regs) (chip : Chip) (old new : Device) (left : Chip × Cut)
    → Follows (seal_next_plan setup at plain regs chip) old new (Err left) → IsCutUnsealedOrArmed chip old new left
