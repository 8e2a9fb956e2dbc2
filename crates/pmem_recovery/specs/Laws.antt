-- That all which is promised of a recovery is a law of its plan.
use Rattle.std.specs.Prelude.{◌≡◌}
use Rattle.pmem_base.specs.Shape.{IsShape}
use Rattle.pmem_base.specs.Layout.{device_lines}
use Rattle.pmem_base.specs.Registers.{IsValidRegs}
use Rattle.board.specs.Device.{Device, AreToldLines}
use Rattle.call_plan.specs.Plans.{ended}
use Rattle.call_plan.specs.Following.{Follows}
use Rattle.suite.specs.Setup.{Setup}
use Rattle.seal_ledger.specs.Ledger.{LedgerState}
use Rattle.call_effects.specs.SuiteStates.{SuiteState}
use Rattle.pmem_recovery.specs.Plans.{counts_of, recover_plan}
use Rattle.pmem_recovery.specs.Recovered.{Answer, HasRecovered}

-- a board of whole lines that followed recovery's plan has recovered, whatever code it was, if keys and pads stay
abbrev pub PlansRecover : Type 0
PlansRecover =
    (setup : Setup) (ledger : LedgerState) (old new : Device) (suite_old suite_new : SuiteState) (answer : Answer)
    → IsShape setup.shape → old.size ≡ device_lines setup.shape → IsValidRegs setup.shape old.regs
    → AreToldLines old.size old.lines → AreToldLines new.size new.lines → suite_new.keys ≡ suite_old.keys
    → suite_new.pads ≡ suite_old.pads
    → Follows (recover_plan setup old.regs (counts_of suite_old)) old new (ended answer (counts_of suite_new))
    → HasRecovered setup ledger old new suite_old suite_new answer
