-- The register file: the re-encryption registers, the commit group, and which registers are valid.
use Rattle.std.specs.Prelude.{ℕ, ◌≢◌, ◌<◌, ◌-◌, ◌/◌, ◌%◌, ◌^◌, ◌==◌, bit_or, Bool, not, List, [], take, replicate, length, filter, All, AllPairs, IsTrue}
use Rattle.std.specs.List.{range_with_len}
use Rattle.pmem_base.specs.declared.lines.Line.{Line}
use Rattle.pmem_base.specs.declared.registers.Progress.{Progress}
use Rattle.pmem_base.specs.declared.registers.Regs.{Regs}
use Rattle.pmem_base.specs.Shape.{Shape, is_loss}
use Rattle.pmem_base.specs.Layout.{pages, device_lines}
use Rattle.pmem_base.specs.Lines.{IsLine, from_big_endian, zero_line}

-- page 0, a zero block and no line done
abbrev pub empty_progress : Progress
empty_progress = record { page = 0; old = zero_line; done = 0 }

-- a zero root, an empty group, no page under re-encryption, and the number 0
abbrev pub empty_regs : Regs
empty_regs =
    record {
      root = replicate 16 0;
      group = record { items = [] };
      progress = record { items = [] };
      loss = 0;
    }

-- the same registers with an empty group
abbrev pub without_group : Regs → Regs
without_group regs = record regs { group = record { items = [] } }

-- whether the register's page has line i done
abbrev pub is_done : Progress → ℕ → Bool
is_done register i = (register.done / 2 ^ i) % 2 == 1

-- the places of a page's lines, upwards
unfoldable pub places_of_page : List ℕ
places_of_page = range_with_len 0 64

-- the places of the lines that aren't done, upwards
unfoldable pub not_done : Progress → List ℕ
not_done register = filter (λ i. not (is_done register i)) places_of_page

-- the register with line i done
abbrev pub with_done : Progress → ℕ → Progress
with_done register i = record register { done = bit_or register.done (2 ^ i) }

-- the major in the page's counter block as it was
unfoldable pub old_major : Progress → ℕ
old_major register = from_big_endian (take 8 register.old.0)

-- the places of a group are distinct and on the device, and what it writes are lines
pub record IsGroup (size : ℕ) (group : List (ℕ × Line)) : Type 0 where
  pub distinct : AllPairs (λ a b. a.0 ≢ b.0) group
  pub on_device : All (λ entry. entry.0 < size) group
  pub lines_range : All (λ entry. IsLine entry.1) group

-- a register in use: its page, a major that can rise, and a line to do
pub record IsProgress (g : Shape) (register : Progress) : Type 0 where
  pub its_page : register.page < pages g
  pub can_roll : old_major register < 2 ^ 64 - 1
  pub some_left : 0 < length (not_done register)

-- what the register file always holds
pub record IsValidRegs (g : Shape) (regs : Regs) : Type 0 where
  pub group : IsGroup (device_lines g) regs.group.items
  pub each_page : All (IsProgress g) regs.progress.items
  pub distinct_pages : AllPairs (λ a b. a.page ≢ b.page) regs.progress.items
  pub known_loss : IsTrue (is_loss regs.loss)
