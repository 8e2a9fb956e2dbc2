-- The engine's calls as the world makes them, each by its plan over the engine, the ledger and the suite's counts.
use Rattle.std.specs.Prelude.{ℕ, Option, Result}
use Rattle.pmem_base.specs.declared.lines.Line.{Line}
use Rattle.pmem_base.specs.declared.lines.Ctr.{Ctr}
use Rattle.pmem_base.specs.declared.commands.Posted.{Posted}
use Rattle.pmem_base.specs.declared.registers.Regs.{Regs}
use Rattle.call_plan.specs.Plans.{Plan, ended, lifted}
use Rattle.call_plan.specs.Following.{Follows}
use Rattle.suite.specs.Setup.{Setup}
use Rattle.pmem_engine.specs.declared.fault.Fault.{Fault}
use Rattle.pmem_engine.specs.Parts.{Parts, regs_of}
use Rattle.pmem_engine.specs.Plans.{Chip, chip_with, with_engine, read_plan, turn_plan, flush_plan, set_loss_plan}
use Rattle.pmem_engine.specs.WritePlans.{write_plan}
use Rattle.pmem_engine.specs.Calls.{HasReadLine, HasWrittenLine, HasTurned, HasFlushed, HasSetLoss}

-- a plan by the registers and the chip that a call begins with
abbrev pub CallPlan : Type 0 → Type 0
CallPlan T = Regs → Chip → Plan (Chip × Fault) (Chip × T)

abbrev pub plan_of_read : Setup → ℕ → CallPlan Line
plan_of_read setup at regs chip = read_plan setup regs at chip

abbrev pub plan_of_write : Setup → Posted → CallPlan Ctr
plan_of_write setup write regs chip = write_plan setup regs write chip

abbrev pub plan_of_turn : Setup → CallPlan (Option (ℕ × ℕ))
plan_of_turn setup regs chip = turn_plan setup regs chip

-- a flush and a new stop-loss number work on the engine alone
abbrev pub plan_of_flush : CallPlan (Option ℕ)
plan_of_flush regs chip = lifted (with_engine chip) (λ fault. fault) (flush_plan chip.engine)

abbrev pub plan_of_loss : ℕ → CallPlan ℕ
plan_of_loss n regs chip = lifted (with_engine chip) (λ fault. fault) (set_loss_plan n regs chip.engine)

-- ---- a call

-- the chip of a call's parts
abbrev pub chip_in : Parts → Chip
chip_in parts = chip_with parts.engine parts.ledger parts.tags parts.digests

-- the call followed its plan, and its relation holds
pub record IsMadeBy {T : Type 0} (plan : CallPlan T) (relation : Parts → Parts → Result T Fault → Type 0) (old new : Parts) (answer : Result T Fault) :
    Type 0 where
  pub related : relation old new answer
  pub follows : Follows (plan (regs_of old) (chip_in old)) old.device new.device (ended answer (chip_in new))

abbrev pub ReadsLine : ℕ → Setup → Parts → Parts → Result Line Fault → Type 0
ReadsLine at setup old new answer = IsMadeBy (plan_of_read setup at) (λ p q r. HasReadLine setup at p q r) old new answer

abbrev pub WritesLine : Posted → Setup → Parts → Parts → Result Ctr Fault → Type 0
WritesLine write setup old new answer =
    IsMadeBy (plan_of_write setup write) (λ p q r. HasWrittenLine setup write p q r) old new answer

abbrev pub TurnsPage : Setup → Parts → Parts → Result (Option (ℕ × ℕ)) Fault → Type 0
TurnsPage setup old new answer = IsMadeBy (plan_of_turn setup) (λ p q r. HasTurned setup p q r) old new answer

abbrev pub FlushesBlock : Setup → Parts → Parts → Result (Option ℕ) Fault → Type 0
FlushesBlock setup old new answer = IsMadeBy plan_of_flush (λ p q r. HasFlushed setup p q r) old new answer

abbrev pub SetsLoss : ℕ → Setup → Parts → Parts → Result ℕ Fault → Type 0
SetsLoss n setup old new answer = IsMadeBy (plan_of_loss n) (λ p q r. HasSetLoss setup n p q r) old new answer
