-- Power comes on: the device is recovered, and its lines are opened, as one plan.
use Rattle.std.specs.Prelude.{ℕ, ◌≡◌, true, Some, None, Result, Err, if◌then◌else◌}
use Rattle.pmem_base.specs.declared.registers.Regs.{Regs}
use Rattle.call_plan.specs.Plans.{Plan, bind, mapped}
use Rattle.call_plan.specs.Runs.{IsOutcome}
use Rattle.watched_board.specs.declared.taken.Taken.{Taken}
use Rattle.watched_board.specs.Watching.{steps_in}
use Rattle.seal_ledger.specs.Ledger.{LedgerState}
use Rattle.suite.specs.Setup.{Setup}
use Rattle.pmem_engine.specs.Engine.{ChipState, EngineState}
use Rattle.pmem_engine.specs.Mendable.{new_engine}
use Rattle.pmem_engine.specs.Plans.{Chip, chip_of}
use Rattle.call_effects.specs.declared.recovery.Work.{Work}
use Rattle.pmem_recovery.specs.declared.faults.RecFault.{RecFault}
use Rattle.pmem_recovery.specs.Plans.{SuiteCounts, suite_counts, recover_plan}
use Rattle.engine_lines.specs.Plans.{with_regs}
use Rattle.line_session.specs.declared.starts.StartFault.{StartFault}
use Rattle.line_session.specs.declared.starts.StartFault.TheVariants.{Recovery, Opening}
use Rattle.line_session.specs.State.{LineSession, chip_in, with_power, at_rest}
use Rattle.line_session.specs.StoreCalls.{CallPlan}

-- a chip with a new engine, before anything but the counts is reported of it
abbrev pub new_chip : Setup → LedgerState → SuiteCounts → Chip
new_chip setup ledger counts = chip_of (new_engine setup.shape) ledger counts.tags counts.digests

-- the lines are opened by the engine that recovery gives, from the registers that recovery leaves
abbrev pub opening_end : {F A : Type 0} → LedgerState → CallPlan F A → (SuiteCounts × (EngineState × Work)) × Regs
    → Plan (Chip × StartFault F) (Chip × A)
opening_end ledger opening recovered =
    mapped (λ left. (left.0, Opening left.1)) (λ end. end)
    (opening recovered.1 (chip_of recovered.0.1.0 ledger recovered.0.0.tags recovered.0.0.digests))

-- the device is recovered, which tells the ledger nothing, and then the lines are opened
unfoldable pub start_plan : {F A : Type 0} → Setup → LedgerState → CallPlan F A → Regs → SuiteCounts → Plan (Chip × StartFault F) (Chip × A)
start_plan setup ledger opening regs counts =
    bind
    (mapped (λ left. (new_chip setup ledger left.0, Recovery left.1)) (λ end. end) (with_regs regs (recover_plan setup regs counts)))
    (opening_end ledger opening)

-- The session before and after power came on, or didn't: running out of memory apart, which does nothing. A cut leaves it off.
pub record HasStarted {F A : Type 0} (setup : Setup) (opening : CallPlan F A) (steps : ℕ) (end : Result A (StartFault F)) (old new : LineSession) :
    Type 0 where
  pub was_off : old.engine ≡ None
  pub after : ChipState
  pub taken : Taken
  pub outcome :
      IsOutcome (start_plan setup old.ledger opening old.board.regs (suite_counts old.tags old.digests)) (with_power old).board new.board taken end
      (chip_in new after)
  pub its_steps : steps ≡ steps_in taken
  pub kept : new.engine ≡ (if new.board.powered then Some after else None)
  pub shape : new.shape ≡ old.shape
  pub keys : new.keys ≡ old.keys

-- Power came on, recovery refused with power on and told why, and power went off again.
pub record IsRefusedFrom {F A : Type 0} (setup : Setup) (opening : CallPlan F A) (old : LineSession) (fault : RecFault) (new : LineSession) : Type 0 where
  pub steps : ℕ
  pub lit : LineSession
  pub started : HasStarted setup opening steps (Err (Recovery fault)) old lit
  pub powered : lit.board.powered ≡ true
  pub rests : new ≡ at_rest lit
