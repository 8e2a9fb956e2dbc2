-- Laws of the last seal of a line on a device that can be mended.
use Rattle.std.proofs.Common.{rules, ℕ, ◌≡◌, ◌<◌, List, Option, Some, None, refl, ap, sym, ◌∙◌, arith}
use Rattle.std.specs.Prelude.{option_map}
use Rattle.std.proofs.lemmas.Option.{none-some, same_Some}
use Rattle.pmem_base.specs.declared.lines.Line.{Line}
use Rattle.pmem_base.specs.declared.registers.Regs.{Regs}
use Rattle.pmem_base.specs.Layout as layout
use Rattle.pmem_base.specs.Lines.{line_at, tag_slot}
use Rattle.pmem_base.specs.Marks.{SealOf, last_seal}
use Rattle.seal_ledger.proofs.MarkLemmas.{last_seal_has}
use Rattle.seal_ledger.specs.Ledger.{LedgerState}
use Rattle.suite.specs.Setup.{Setup}
use Rattle.pmem_engine.specs.Truth.{true_counter}
use Rattle.pmem_engine.specs.Invariants.{IsSealTagged, IsMendable}
use Rattle.pmem_engine.specs.Mendable.{IsLineMendable}

-- a seal is the last one of line a, has the true counter, and is what the device has at a
pub record IsSealAt (setup : Setup) (lines : List Line) (regs : Regs) (ledger : LedgerState) (a : ℕ) (s : SealOf) : Type 0 where
  pub is_last : last_seal ledger.marks a ≡ Some s
  pub ctr : s.ctr ≡ true_counter setup.shape regs.progress.items ledger.truth a
  pub cipher : s.cipher ≡ line_at lines a
  pub tag : s.tag ≡ tag_slot (line_at lines (layout.tag_line setup.shape a)) a
  pub tagged : setup.formulas.tag_of a s.ctr s.cipher ≡ s.tag

seal_from : (setup : Setup) (lines : List Line) (regs : Regs) (ledger : LedgerState) (a : ℕ) → IsLineMendable setup lines regs ledger a → (o : Option SealOf) → last_seal ledger.marks a ≡ o → (s : SealOf) × IsSealAt setup lines regs ledger a s
seal_from setup lines regs ledger a d None q =
    absurd (none-some (true_counter setup.shape regs.progress.items ledger.truth a) (sym (ap (option_map (λ seal. seal.ctr)) q) ∙ d.anchored.last_counters a d.on_device))
seal_from setup lines regs ledger a d (Some s) q = (
  s,
  record {
    is_last = q;
    ctr = same_Some s.ctr (true_counter setup.shape regs.progress.items ledger.truth a) (sym (ap (option_map (λ seal. seal.ctr)) q) ∙ d.anchored.last_counters a d.on_device);
    cipher = same_Some s.cipher (line_at lines a) (sym (ap (option_map (λ seal. seal.cipher)) q) ∙ d.seal_stored.cipher);
    tag = same_Some s.tag (tag_slot (line_at lines (layout.tag_line setup.shape a)) a) (sym (ap (option_map (λ seal. seal.tag)) q) ∙ d.seal_stored.tag);
    tagged = last_seal_has (IsSealTagged setup.formulas) ledger.marks a s d.anchored.seals_tagged q;
  },
)

-- each data line has its last seal on the device
pub seal_at : (setup : Setup) (lines : List Line) (regs : Regs) (ledger : LedgerState) (a : ℕ) → IsLineMendable setup lines regs ledger a → (s : SealOf) × IsSealAt setup lines regs ledger a s
seal_at setup lines regs ledger a d =
    seal_from setup lines regs ledger a d (last_seal ledger.marks a) refl

-- so the tag of its device line under its true counter is in its slot
pub true_tag_met : (setup : Setup) (lines : List Line) (regs : Regs) (ledger : LedgerState) (a : ℕ) → IsLineMendable setup lines regs ledger a → setup.formulas.tag_of a (true_counter setup.shape regs.progress.items ledger.truth a) (line_at lines a) ≡ tag_slot (line_at lines (layout.tag_line setup.shape a)) a
true_tag_met setup lines regs ledger a d =
    let found = seal_at setup lines regs ledger a d in
    let s = found.0 in
    search rules

-- each data line of a device that can be mended
pub IsLineMendable-at : (setup : Setup) (lines : List Line) (regs : Regs) (ledger : LedgerState) (a : ℕ) → IsMendable setup lines regs ledger → a < layout.data_lines setup.shape → IsLineMendable setup lines regs ledger a
IsLineMendable-at setup lines regs ledger a d h =
    record {
      on_device = h;
      anchored = d.anchored;
      seal_stored = d.seals_stored a h;
      counter_stored = d.counters_stored (layout.page_of a) (omega arith);
    }
