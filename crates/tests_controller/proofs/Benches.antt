-- The device that the tests begin with: its registers are valid, and an engine over it is usable.
use Rattle.std.proofs.Common.{rules, ℕ, ◌≡◌, ◌≢◌, ◌<◌, Bool, true, false, [], ◌∷◌, length, IsTrue, refl, sym, subst, arith}
use Rattle.std.specs.Prelude.{All, AllPairs, IsSome, if◌then◌else◌}
use Rattle.std.proofs.lemmas.List.Elements.{All-nil, All-push}
use Rattle.std.proofs.Math.Nat.{one-le-pow}
use Rattle.pmem_base.specs.declared.registers.Regs.{Regs}
use Rattle.pmem_base.specs.Shape.{Shape, is_loss}
use Rattle.pmem_base.specs.Lines.{zero_line}
use Rattle.pmem_base.specs.Layout.{data_lines, device_lines, meta_lines}
use Rattle.pmem_base.specs.Marks.{last_seal}
use Rattle.pmem_base.specs.Registers.{empty_progress, IsGroup, IsProgress, IsValidRegs}
use Rattle.split_counters.specs.Blocks.{unpacked}
use Rattle.board.specs.Device.{Device}
use Rattle.seal_ledger.specs.Ledger.{LedgerState}
use Rattle.page_reencrypt.proofs.Holding.{begun-IsProgress}
use Rattle.pmem_engine.specs.Engine.{EngineState}
use Rattle.pmem_engine.specs.Calls.{IsUsable}
use Rattle.commit_regs.proofs.GroupLemmas.{IsGroup-nil}

zero_major : (unpacked zero_line).major ≡ 0
unfolding unpacked zero_line
zero_major = refl

-- page 0 under re-encryption from a block of zeros
open_page : (g : Shape) → IsProgress g empty_progress
open_page g =
    begun-IsProgress g 0 zero_line (omega (arith, one-le-pow g.levels 4 (omega arith))) (omega (arith, zero_major))

-- registers in which no page is open, or page 0
pub formatted_regs : (g : Shape) (regs : Regs) (opened : Bool) → IsTrue (is_loss g.loss) → regs.loss ≡ g.loss
    → regs.group.items ≡ [] → regs.progress.items ≡ (if opened then empty_progress ∷ [] else []) → IsValidRegs g regs
formatted_regs g regs opened known loss none open_pages =
    record {
      group = subst (IsGroup (device_lines g)) (sym none) (IsGroup-nil (device_lines g));
      each_page = subst (λ registers. All (IsProgress g) registers) (sym open_pages) (each opened);
      distinct_pages = subst (λ registers. AllPairs (λ a b. a.page ≢ b.page) registers) (sym open_pages) (apart opened);
      known_loss = subst (λ n. IsTrue (is_loss n)) (sym loss) known;
    }
  where
    each : (b : Bool) → All (IsProgress g) (if b then empty_progress ∷ [] else [])
    each true = All-push (IsProgress g) [] empty_progress (All-nil (IsProgress g)) (open_page g)
    each false = All-nil (IsProgress g)

    apart : (b : Bool) → AllPairs (λ a b. a.page ≢ b.page) (if b then empty_progress ∷ [] else [])
    apart v0 = search rules

-- an engine over a device and a ledger of its shape, with all data lines sealed
pub usable_from : (g : Shape) (engine : EngineState) (device : Device) (ledger : LedgerState) (sealed : ℕ)
    → engine.shape ≡ g → device.size ≡ device_lines g → IsValidRegs g device.regs → device.regs.group.items ≡ []
    → length ledger.truth ≡ meta_lines g → ledger.data_lines ≡ data_lines g → sealed ≡ data_lines g
    → ((a : ℕ) → a < sealed → IsSome (last_seal ledger.marks a))
    → IsUsable engine.shape engine device ledger
usable_from g engine device ledger sealed shape size valid no_group truth lines all seals = search rules
