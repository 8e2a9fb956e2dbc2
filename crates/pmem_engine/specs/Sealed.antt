-- What one seal, or the begin of a page, makes of the chip's registers and the ledger.
use Rattle.std.specs.Prelude.{ℕ, ◌≡◌, ◌<◌, ◌≤◌, ◌-◌, ◌^◌, List, [], ◌∷◌, ◌++◌, None}
use Rattle.pmem_base.specs.declared.lines.Line.{Line}
use Rattle.pmem_base.specs.declared.lines.Ctr.{Ctr}
use Rattle.pmem_base.specs.declared.registers.Regs.{Regs}
use Rattle.pmem_base.specs.declared.answers.Mark.TheVariants.{Begin, Seal}
use Rattle.pmem_base.specs.Shape.{Shape}
use Rattle.pmem_base.specs.Layout as layout
use Rattle.pmem_base.specs.Layout.{page_of, index_in_page}
use Rattle.pmem_base.specs.Lines.{IsLine, IsTag, line_at}
use Rattle.pmem_base.specs.Registers.{IsGroup}
use Rattle.split_counters.specs.declared.Block.{Block}
use Rattle.split_counters.specs.Blocks.{packed, with_minor, next_block}
use Rattle.bonsai_tree.specs.Positions.{counter_position}
use Rattle.bonsai_tree.specs.Paths.{IsTreeWith}
use Rattle.page_reencrypt.specs.Registers.{register_of, registers_with_done, begun}
use Rattle.seal_ledger.specs.Ledger.{LedgerState}
use Rattle.suite.specs.Setup.{Setup}
use Rattle.pmem_engine.specs.Truth.{true_block}

-- the counter of a seal of line a: the true major of its page, and this minor
abbrev pub sealed_counter : Shape → List Line → ℕ → ℕ → Ctr
sealed_counter g truth a minor = record { major = (true_block g truth (page_of a)).major; minor = minor }

-- the page's counter block then
abbrev pub sealed_block : Shape → List Line → ℕ → ℕ → Block
sealed_block g truth a minor = with_minor (true_block g truth (page_of a)) (index_in_page a) minor

-- the parts that neither a seal nor a begin changes
pub record IsKept (setup : Setup) (old_regs new_regs : Regs) (old new : LedgerState) : Type 0 where
  pub data_lines : new.data_lines ≡ old.data_lines
  pub exhibit : new.exhibit ≡ old.exhibit
  pub loss : new_regs.loss ≡ old_regs.loss
  pub group : IsGroup (layout.device_lines setup.shape) new_regs.group.items

-- line a sealed under its page's true major and this minor, with the line done
pub record IsSealed (setup : Setup) (a minor : ℕ) (cipher : Line) (tag : List ℕ)
    (old_regs new_regs : Regs) (old new : LedgerState) : Type 0 where
  pub kept : IsKept setup old_regs new_regs old new
  pub its_line : a < layout.data_lines setup.shape
  pub its_minor : minor ≤ 127
  pub its_cipher : IsLine cipher
  pub its_tag : IsTag tag
  pub tagged : setup.formulas.tag_of a (sealed_counter setup.shape old.truth a minor) cipher ≡ tag
  pub marks : new.marks ≡ old.marks ++ Seal a (sealed_counter setup.shape old.truth a minor) cipher tag ∷ []
  pub truth :
      IsTreeWith setup.shape setup.formulas (page_of a) (packed (sealed_block setup.shape old.truth a minor))
      new_regs.root old.truth new.truth
  pub progress : new_regs.progress.items ≡ registers_with_done old_regs.progress.items a

-- a closed page begun: its next block in truth, and its old block in a register
pub record IsBegun (setup : Setup) (page : ℕ) (old_regs new_regs : Regs) (old new : LedgerState) : Type 0 where
  pub kept : IsKept setup old_regs new_regs old new
  pub its_page : page < layout.pages setup.shape
  pub closed : register_of old_regs.progress.items page ≡ None
  pub can_roll : (true_block setup.shape old.truth page).major < 2 ^ 64 - 1
  pub marks : new.marks ≡ old.marks ++ Begin page ∷ []
  pub truth :
      IsTreeWith setup.shape setup.formulas page (packed (next_block (true_block setup.shape old.truth page)))
      new_regs.root old.truth new.truth
  pub progress :
      new_regs.progress.items
      ≡ old_regs.progress.items ++ begun page (line_at old.truth (counter_position setup.shape page)) ∷ []

-- a held line resealed with its truth unchanged, and done
pub record IsResealed (setup : Setup) (a : ℕ) (cipher : Line) (tag : List ℕ) (old_regs new_regs : Regs)
    (old new : LedgerState) : Type 0 where
  pub kept : IsKept setup old_regs new_regs old new
  pub its_line : a < layout.data_lines setup.shape
  pub its_cipher : IsLine cipher
  pub its_tag : IsTag tag
  pub tagged : setup.formulas.tag_of a (sealed_counter setup.shape old.truth a 0) cipher ≡ tag
  pub marks : new.marks ≡ old.marks ++ Seal a (sealed_counter setup.shape old.truth a 0) cipher tag ∷ []
  pub truth : new.truth ≡ old.truth
  pub root : new_regs.root ≡ old_regs.root
  pub progress : new_regs.progress.items ≡ registers_with_done old_regs.progress.items a
