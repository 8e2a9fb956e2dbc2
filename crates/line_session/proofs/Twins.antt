-- A twin that recovery shows is one of a line that the session keeps.
use Rattle.std.proofs.Common.{ℕ, ◌≡◌, ◌<◌, List, Option, Some, None, refl, sym, ap, ap₂, ◌∙◌, rules}
use Rattle.line_session.proofs.Common.{option_map, same_Some, none-some, Line, Regs, line_at, LedgerState, IsMark, AreInRange, cipher_of, Setup, Memory, IsMemoryOf, counter_at, plain_of_seal, view_of, IsAnchored, IsSealTagged, IsTwinOfLastSeal}
use Rattle.pmem_base.specs.declared.answers.Mark.TheVariants.{Seal}
use Rattle.pmem_base.specs.Layout as layout
use Rattle.pmem_base.specs.Marks.{SealOf, last_seal}
use Rattle.seal_ledger.proofs.MarkLemmas.{last_seal_has}
use Rattle.suite.proofs.CipherLemmas.{cipher_of-back}
use Rattle.plain_model.specs.Shown.{IsTwinOfSeal}
use Rattle.plain_model.proofs.Views.{counter_at-last}

-- a twin of its last seal is one of memory's line
pub seal_twin : (setup : Setup) (regs : Regs) (ledger : LedgerState) (memory : Memory) (loss a major low high : ℕ) (cipher : Line) (tag : List ℕ)
    → AreInRange setup.formulas → IsAnchored setup regs ledger → IsMemoryOf setup ledger.marks memory → a < layout.data_lines setup.shape
    → IsTwinOfLastSeal loss ledger a major low high cipher tag
    → IsTwinOfSeal setup memory loss (view_of setup.shape ledger.marks) a major low high cipher tag
seal_twin setup regs ledger memory loss a major low high cipher tag in_range anchored its within twin = by_seal (last_seal ledger.marks a) refl
  where
    by_seal : (seal : Option SealOf) → last_seal ledger.marks a ≡ seal
        → IsTwinOfSeal setup memory loss (view_of setup.shape ledger.marks) a major low high cipher tag
    by_seal None none = absurd (none-some cipher (ap (option_map (λ s. s.cipher)) (sym none) ∙ twin.its_cipher))
    by_seal (Some seal) there =
        let ctr : counter_at (view_of setup.shape ledger.marks) a ≡ seal.ctr = search (rules, counter_at-last) in
        let mark : IsMark setup.shape (Seal a seal.ctr seal.cipher seal.tag) =
        last_seal_has (IsMark setup.shape) ledger.marks a seal anchored.of_shape.marks_in_range there in
        let plain : plain_of_seal setup.formulas a seal ≡ line_at memory a = search (rules, same_Some) in
        let sealed : seal.cipher ≡ cipher_of setup.formulas a (counter_at (view_of setup.shape ledger.marks) a) (line_at memory a) = search (rules, cipher_of-back) in
        record {
          its_cipher = sym (same_Some seal.cipher cipher (ap (option_map (λ s. s.cipher)) (sym there) ∙ twin.its_cipher)) ∙ sealed;
          its_tag =
              sym (same_Some seal.tag tag (ap (option_map (λ s. s.tag)) (sym there) ∙ twin.its_tag))
              ∙ sym (last_seal_has (IsSealTagged setup.formulas) ledger.marks a seal anchored.seals_tagged there)
              ∙ ap₂ (λ c l. setup.formulas.tag_of a c l) (sym ctr) sealed;
          its_major = search (rules, same_Some);
          low_in_window = search (rules, same_Some);
          high_in_window = search (rules, same_Some);
        }
