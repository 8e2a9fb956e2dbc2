-- What a memory with its parts is after a call of the engine, or of what stands on it.
use Rattle.std.proofs.Common.{◌≡◌, sym, subst}
use Rattle.std.specs.Prelude.{Result, Ok, Err, IfOk}
use Rattle.pmem_base.specs.Shape.{Shape}
use Rattle.board.specs.Device.{Device}
use Rattle.seal_ledger.specs.Ledger.{LedgerState}
use Rattle.pmem_engine.specs.Engine.{EngineState}
use Rattle.pmem_engine.specs.Calls.{IsReady, IsUsable}

-- the engine that was opened is ready
pub opened_ready : {T F : Type 0} (engine_of : T → EngineState) (g : Shape) (device : Device) (ledger : LedgerState) (r : Result T F)
    → IfOk r (λ opened. (engine_of opened).shape ≡ g) → IfOk r (λ opened. IsUsable g (engine_of opened) device ledger)
    → IfOk r (λ opened. IsReady (engine_of opened).shape (engine_of opened) device)
opened_ready engine_of g device ledger (Ok opened) shape usable =
    subst (λ (s : Shape). IsReady s (engine_of opened) device) (sym shape) usable.ready
opened_ready engine_of g device ledger (Err fault) shape usable = usable

-- the same shape, called otherwise
pub usable_at : {g h : Shape} (engine : EngineState) (device : Device) (ledger : LedgerState)
    → g ≡ h → IsUsable g engine device ledger → IsUsable h engine device ledger
usable_at engine device ledger same usable = subst (λ (s : Shape). IsUsable s engine device ledger) same usable

-- an engine that kept its shape is ready
pub kept_ready : {g : Shape} (engine : EngineState) (device : Device) (ledger : LedgerState)
    → engine.shape ≡ g → IsUsable g engine device ledger → IsReady engine.shape engine device
kept_ready engine device ledger same usable = subst (λ (s : Shape). IsReady s engine device) (sym same) usable.ready
