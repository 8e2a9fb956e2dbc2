-- What a call leaves of a sound device, and a recovery of a durable one.
use Rattle.std.proofs.Common.{ℕ, ◌≡◌, List, Some, Ok, Err, sym, subst}
use Rattle.std.specs.Prelude.{MatchOption}
use Rattle.pmem_base.specs.declared.lines.Line.{Line}
use Rattle.pmem_base.specs.declared.registers.Regs.{Regs}
use Rattle.seal_ledger.specs.Ledger.{LedgerState}
use Rattle.suite.specs.Setup.{Setup}
use Rattle.suite.specs.Formulas.{Formulas}
use Rattle.board.specs.declared.memory.MemBoard.{MemBoard}
use Rattle.board.specs.MemBoard.{memory_of}
use Rattle.pmem_base.specs.Shape.{Shape}
use Rattle.pmem_engine.specs.Engine.{ChipState}
use Rattle.pmem_engine.specs.Invariants.{IsDurable, IsSound}
use Rattle.call_effects.specs.Outcomes.{Outcome, going, cut_short, shown}
use Rattle.pmem_engine.specs.Outcomes.{LeavesSound}
use Rattle.board.specs.Device.{Device}
use Rattle.pmem_engine.specs.Parts.{parts_with}
use Rattle.pmem_recovery.specs.declared.faults.RecFault.TheVariants.{Memory, Cut, NoCounter, Root, Twin}
use Rattle.pmem_recovery.specs.Recovered.{Answer, IsMendedAs}
use Rattle.tests_hostile.specs.Ends.{IsUnrefusedRecovery}

-- the ledger by another name
pub sound_by : (setup : Setup) (engine : ChipState) (lines : List Line) (regs : Regs) (old new : LedgerState) → new ≡ old
    → IsSound setup engine lines regs old → IsSound setup engine lines regs new
sound_by setup engine lines regs old new same sound = subst (IsSound setup engine lines regs) (sym same) sound

abbrev pub setup_with : Shape → Formulas → Setup
setup_with shape formulas = record { shape = shape; formulas = formulas }

-- shape, formulas and board by other names
pub sound_named : (s t : Shape) (f h : Formulas) (engine : ChipState) (b d : MemBoard) (ledger : LedgerState)
    → s ≡ t → f ≡ h → b ≡ d
    → IsSound (setup_with s f) engine (memory_of b).lines (memory_of b).regs ledger
    → IsSound (setup_with t h) engine (memory_of d).lines (memory_of d).regs ledger
sound_named s t f h engine b d ledger shape formulas board sound =
    subst (λ (d : MemBoard). IsSound (setup_with t h) engine (memory_of d).lines (memory_of d).regs ledger) board
    (subst (λ (h : Formulas). IsSound (setup_with t h) engine (memory_of b).lines (memory_of b).regs ledger) formulas
    (subst (λ (t : Shape). IsSound (setup_with t f) engine (memory_of b).lines (memory_of b).regs ledger) shape sound))

pub durable_named : (s t : Shape) (f h : Formulas) (b d : MemBoard) (ledger : LedgerState)
    → s ≡ t → f ≡ h → b ≡ d
    → IsDurable (setup_with s f) (memory_of b).lines (memory_of b).regs ledger
    → IsDurable (setup_with t h) (memory_of d).lines (memory_of d).regs ledger
durable_named s t f h b d ledger shape formulas board durable =
    subst (λ (d : MemBoard). IsDurable (setup_with t h) (memory_of d).lines (memory_of d).regs ledger) board
    (subst (λ (h : Formulas). IsDurable (setup_with t h) (memory_of b).lines (memory_of b).regs ledger) formulas
    (subst (λ (t : Shape). IsDurable (setup_with t f) (memory_of b).lines (memory_of b).regs ledger) shape durable))

-- a call over a sound device leaves it durable, whatever its end
pub durable_left : (setup : Setup) (outcome : Outcome) (engine : ChipState) (device : Device) (ledger : LedgerState) (tags digests : ℕ) (lines : List Line)
    → device.lines ≡ Some lines → LeavesSound setup outcome (parts_with engine device ledger tags digests) → IsDurable setup lines device.regs ledger
durable_left setup going engine device ledger tags digests lines told left =
    (subst (λ told. MatchOption told ⊥ (λ kept. IsSound setup engine kept device.regs ledger)) told left).durable
durable_left setup cut_short engine device ledger tags digests lines told left =
    subst (λ told. MatchOption told ⊥ (λ kept. IsDurable setup kept device.regs ledger)) told left
durable_left setup shown engine device ledger tags digests lines told left = absurd left

-- a recovery of a durable device refuses nothing
pub unrefused : (setup : Setup) (old new : Regs) (ledger : LedgerState) (now : List Line) (answer : Answer)
    → IsMendedAs setup old new ledger now answer → IsUnrefusedRecovery answer
unrefused setup old new ledger now (Ok done) mended = tt
unrefused setup old new ledger now (Err Memory) mended = tt
unrefused setup old new ledger now (Err Cut) mended = tt
unrefused setup old new ledger now (Err (NoCounter at)) mended = mended
unrefused setup old new ledger now (Err (Root kept found)) mended = mended
unrefused setup old new ledger now (Err (Twin at major low high cipher tag)) mended = tt
