-- The latch of a new stop-loss number.
use Rattle.std.proofs.Common.{rules, ◌≡◌, ℕ, ◌*◌, ◌<◌, List, sym, subst}
use Rattle.pmem_base.specs.declared.lines.Line.{Line}
use Rattle.pmem_base.specs.declared.registers.Regs.{Regs}
use Rattle.pmem_base.specs.Layout.{pages}
use Rattle.seal_ledger.specs.Ledger.{LedgerState}
use Rattle.suite.specs.Setup.{Setup}
use Rattle.pmem_engine.specs.Engine.{ChipState}
use Rattle.pmem_engine.specs.Invariants.{IsTrusted, IsCounterStored, IsSound}
use Rattle.pmem_engine.specs.Steps.{HasLossSet}
use Rattle.pmem_engine.proofs.Laws.CounterBlocks.{IsCounterStored-coarser}

-- the engine stays trusted, whatever the device holds
pub IsTrusted-loss_set : (setup : Setup) (engine : ChipState) (old new : Regs) (ledger : LedgerState)
    → IsTrusted setup engine old ledger → HasLossSet old new → IsTrusted setup engine new ledger
IsTrusted-loss_set setup engine old new ledger trusted set = search rules

-- A new number is latched where each counter block on the device serves it: Sound stays.
pub IsSound-loss_set : (setup : Setup) (engine : ChipState) (lines : List Line) (old new : Regs)
    (ledger : LedgerState) → IsSound setup engine lines old ledger → HasLossSet old new
    → ((page : ℕ) → page < pages setup.shape → IsCounterStored setup lines new.loss ledger.truth page)
    → IsSound setup engine lines new ledger
IsSound-loss_set setup engine lines old new ledger sound set counters = search rules

-- each page's counter block serves a greater number, which is some times the old one, ..
pub IsCounterStored-loss_raised : (setup : Setup) (lines : List Line) (old new times : ℕ) (truth : List Line)
    (page : ℕ) → new ≡ old * times → IsCounterStored setup lines old truth page
    → IsCounterStored setup lines new truth page
IsCounterStored-loss_raised setup lines old new times truth page longer before =
    subst (λ loss. IsCounterStored setup lines loss truth page) (sym longer)
    (IsCounterStored-coarser setup lines old times truth page before)
