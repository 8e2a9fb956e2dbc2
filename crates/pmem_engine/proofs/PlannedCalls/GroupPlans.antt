-- What a commit with a page's new path arms.
use Rattle.std.proofs.Common.{ℕ, ◌≡◌, ◌++◌, ◌∷◌, [], List, rules}
use Rattle.pmem_base.specs.declared.lines.Line.{Line}
use Rattle.pmem_base.specs.declared.registers.Progress.{Progress}
use Rattle.pmem_base.specs.declared.registers.Regs.{Regs}
use Rattle.pmem_base.specs.declared.answers.Mark.{Mark}
use Rattle.pmem_base.specs.Shape.{Shape}
use Rattle.page_reencrypt.specs.Registers.{registers_with_done}
use Rattle.seal_ledger.specs.Ledger.{LedgerState}
use Rattle.seal_ledger.specs.Notes.{HasMark}
use Rattle.seal_ledger.proofs.NoteLemmas.{noted_is}
use Rattle.pmem_engine.specs.declared.resealing.NextSeal.{NextSeal}
use Rattle.pmem_engine.specs.Engine.{ChipState}
use Rattle.pmem_engine.specs.Sealing.{seal_group, begin_group}
use Rattle.pmem_engine.specs.Plans.{chip_with}
use Rattle.pmem_engine.specs.SealPlans.{with_path, with_true_path, with_marked_path, seal_armed, begin_armed}

-- ---- the registers that are armed, and the chip once they are

-- registers are their parts
pub same_regs : (a b : Regs) → a.root ≡ b.root → a.group.items ≡ b.group.items → a.progress.items ≡ b.progress.items → a.loss ≡ b.loss → a ≡ b
same_regs a b root group progress loss = search rules

pub seal_armed_is : (g : Shape) (next : NextSeal) (grouped : ℕ) (lines : List (ℕ × Line)) (root : List ℕ) (old now new : Regs) → now ≡ old
    → new.root ≡ root → new.progress.items ≡ registers_with_done now.progress.items next.at → new.loss ≡ now.loss
    → new.group.items ≡ seal_group g next grouped lines → new ≡ seal_armed g next grouped lines root old
seal_armed_is g next grouped lines root old now new same its_root progress loss group = search (rules, same_regs)

pub begin_armed_is : (g : Shape) (register : Progress) (lines : List (ℕ × Line)) (root : List ℕ) (old now new : Regs) → now ≡ old
    → new.root ≡ root → new.progress.items ≡ now.progress.items ++ register ∷ [] → new.loss ≡ now.loss
    → new.group.items ≡ begin_group g lines → new ≡ begin_armed g register lines root old
begin_armed_is g register lines root old now new same its_root progress loss group = search (rules, same_regs)

-- the mark is made, and then the path is stored and told
pub marked_path_is : (g : Shape) (mark : Mark) (page : ℕ) (grouped : ℕ) (lines : List (ℕ × Line)) (old new : ChipState)
    (before marked after : LedgerState) (tags digests : ℕ) → HasMark before marked mark → after ≡ with_true_path lines marked
    → new ≡ with_path g page grouped lines old
    → chip_with new after tags digests ≡ with_marked_path g mark page grouped lines (chip_with old before tags digests)
marked_path_is g mark page grouped lines old new before marked after tags digests mark_made told stored = search (rules, noted_is)
