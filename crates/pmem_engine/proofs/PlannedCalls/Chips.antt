-- A chip is its parts, and a part's end has the registers that it leaves.
use Rattle.std.proofs.Common.{◌≡◌, ℕ, Result, Err, rules}
use Rattle.std.specs.Prelude.{IsErrAnd}
use Rattle.pmem_base.specs.declared.registers.Regs.{Regs}
use Rattle.board.specs.Device.{Device}
use Rattle.call_plan.specs.Plans.{Plan}
use Rattle.call_plan.specs.Following.{Follows}
use Rattle.seal_ledger.specs.Ledger.{LedgerState}
use Rattle.pmem_engine.specs.Engine.{ChipState}
use Rattle.commit_regs.specs.Plans.{ended_with}
use Rattle.pmem_engine.specs.Plans.{chip_with}
use Rattle.call_effects.proofs.ResultLaws.{is_err_of}

pub same_chip : (engine : ChipState) {ledger other : LedgerState} {tags other_tags digests other_digests : ℕ} → ledger ≡ other → tags ≡ other_tags
    → digests ≡ other_digests → chip_with engine ledger tags digests ≡ chip_with engine other other_tags other_digests
same_chip engine {other = other} {tags = tags} {digests = digests} e f h = search rules

-- a part that stopped, as a `?` answers it
pub ended_with_err : {S F : Type 0} {plan : Plan (S × F) (S × Regs)} {old new : Device} {state : S} {fault : F} (regs : Regs)
    (answer : Result (Unit {0}) F) → IsErrAnd answer (λ (x : F). x ≡ fault) → Follows plan old new (Err (state, fault))
    → Follows plan old new (ended_with answer state regs)
ended_with_err {F = F} {plan = plan} {old = old} {new = new} {state = state} {fault = fault} regs answer is it = search (rules, is_err_of)
