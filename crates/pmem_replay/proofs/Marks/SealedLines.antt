-- What the marks say of a line's cipher, tag and counter, and of the true metadata lines.
use Rattle.std.proofs.Common.{ℕ, ◌≡◌, ◌<◌, ◌++◌, List, Some, sym, ap, ◌∙◌}
use Rattle.std.specs.Prelude.{option_map}
use Rattle.std.proofs.lemmas.Option.{same_Some}
use Rattle.pmem_base.specs.declared.lines.Line.{Line}
use Rattle.pmem_base.specs.declared.lines.Ctr.{Ctr}
use Rattle.pmem_base.specs.declared.registers.Regs.{Regs}
use Rattle.pmem_base.specs.declared.answers.Mark.{Mark}
use Rattle.pmem_base.specs.declared.answers.Mark.TheVariants.{Seal}
use Rattle.pmem_base.specs.Shape.{IsShape}
use Rattle.pmem_base.specs.Layout as layout
use Rattle.pmem_base.specs.Lines.{line_at}
use Rattle.pmem_base.specs.Marks.{SealOf, last_seal}
use Rattle.seal_ledger.specs.Ledger.{LedgerState, IsMark}
use Rattle.seal_ledger.proofs.MarkLemmas.{last_seal_has}
use Rattle.suite.specs.Formulas.{AreInRange, cipher_of}
use Rattle.suite.proofs.CipherLemmas.{cipher_of-back}
use Rattle.suite.specs.Setup.{Setup}
use Rattle.plain_model.specs.View.{start_view, view_of, view_after_marks, counter_at, true_lines, plain_of_seal, IsMemoryOf}
use Rattle.plain_model.proofs.Views.{view_after_marks-append, counter_at-last}
use Rattle.pmem_engine.specs.Invariants.{IsAnchored}
use Rattle.pmem_engine.proofs.Laws.TrueLines.{true_lines-are}

-- the cipher of a line's last seal is memory's line under the seal's counter
pub last_cipher : (setup : Setup) (regs : Regs) (ledger : LedgerState) (memory : List Line) (a : ℕ) (seal : SealOf)
    → AreInRange setup.formulas → IsAnchored setup regs ledger → IsMemoryOf setup ledger.marks memory
    → a < layout.data_lines setup.shape → last_seal ledger.marks a ≡ Some seal
    → seal.cipher ≡ cipher_of setup.formulas a seal.ctr (line_at memory a)
last_cipher setup regs ledger memory a seal in_range anchored memory_of within there =
    let its : IsMark setup.shape (Seal a seal.ctr seal.cipher seal.tag) =
    last_seal_has (IsMark setup.shape) ledger.marks a seal anchored.of_shape.marks_in_range there in
    let plain : plain_of_seal setup.formulas a seal ≡ line_at memory a =
    same_Some (plain_of_seal setup.formulas a seal) (line_at memory a)
    (ap (option_map (plain_of_seal setup.formulas a)) (sym there) ∙ memory_of.each a within) in
    sym (cipher_of-back setup.formulas a seal.ctr seal.cipher in_range its.1 its.2)
    ∙ ap (cipher_of setup.formulas a seal.ctr) plain

-- a line's last counter, once these marks are made
pub counter_now : (setup : Setup) (old made : List Mark) (a : ℕ) (ctr : Ctr) → a < layout.data_lines setup.shape
    → option_map (λ seal. seal.ctr) (last_seal (old ++ made) a) ≡ Some ctr
    → ctr ≡ counter_at (view_after_marks (view_of setup.shape old) made) a
counter_now setup old made a ctr within its =
    sym (ap (λ view. counter_at view a) (sym (view_after_marks-append (start_view setup.shape) old made))
    ∙ counter_at-last setup.shape (old ++ made) a ctr within its)

-- true lines are what the marks say, so the same marks mean the same truth
pub same_truth : (setup : Setup) (old_regs new_regs : Regs) (old new : LedgerState) → IsShape setup.shape
    → IsAnchored setup old_regs old → IsAnchored setup new_regs new → new.marks ≡ old.marks → new.truth ≡ old.truth
same_truth setup old_regs new_regs old new shape before after same =
    sym (true_lines-are setup new_regs new after shape)
    ∙ ap (λ marks. true_lines setup (view_of setup.shape marks)) same
    ∙ true_lines-are setup old_regs old before shape
