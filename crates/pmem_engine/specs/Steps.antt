-- What the kinds of persist steps change: of the registers, of the marks and true lines, of the device.
use Rattle.std.specs.Prelude.{ℕ, ◌≡◌, List, [], slice_set, IsTrue}
use Rattle.pmem_base.specs.declared.lines.Line.{Line}
use Rattle.pmem_base.specs.declared.registers.Regs.{Regs}
use Rattle.pmem_base.specs.Shape.{Shape, is_loss}
use Rattle.pmem_base.specs.Layout.{tag_line, meta_line}
use Rattle.pmem_base.specs.Lines.{line_at, tag_slot}
use Rattle.pmem_base.specs.Marks.{SealOf}
use Rattle.bonsai_tree.specs.Positions.{counter_position}
use Rattle.line_seal.specs.Seals.{with_tag}

-- ---- the registers

-- the group is emptied, and all else is as before
pub record IsEmptied (old new : Regs) : Type 0 where
  pub same_root : new.root ≡ old.root
  pub same_progress : new.progress.items ≡ old.progress.items
  pub same_loss : new.loss ≡ old.loss
  pub no_group : new.group.items ≡ []

-- another stop-loss number is set, and all else is as before
pub record HasLossSet (old new : Regs) : Type 0 where
  pub same_root : new.root ≡ old.root
  pub same_group : new.group.items ≡ old.group.items
  pub same_progress : new.progress.items ≡ old.progress.items
  pub known_loss : IsTrue (is_loss new.loss)

-- ---- the groups

-- a page's counter block in its place
abbrev pub block_entry : Shape → ℕ → Line → ℕ × Line
block_entry g page block = (meta_line g (counter_position g page), block)

-- ---- the device's lines

-- the lines once a seal's group is written
abbrev pub sealed_lines : Shape → List Line → ℕ → SealOf → List Line
sealed_lines g lines a seal =
    slice_set (slice_set lines a seal.cipher) (tag_line g a) (with_tag (line_at lines (tag_line g a)) a seal.tag)

-- the lines once metadata line x is the true one
abbrev pub with_true_line : Shape → List Line → List Line → ℕ → List Line
with_true_line g lines truth x = slice_set lines (meta_line g x) (line_at truth x)

-- data line a, and its slot of its tag line, are as they were
pub record IsPlaceKept (g : Shape) (old new : List Line) (a : ℕ) : Type 0 where
  pub its_line : line_at new a ≡ line_at old a
  pub slot : tag_slot (line_at new (tag_line g a)) a ≡ tag_slot (line_at old (tag_line g a)) a
