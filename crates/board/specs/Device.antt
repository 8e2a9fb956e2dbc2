-- What contracts see of a board.
use Rattle.std.specs.Prelude.{ℕ, ◌≡◌, Bool, List, Option, Some, None, length, All, ⊤}
use Rattle.pmem_base.specs.declared.lines.Line.{Line}
use Rattle.pmem_base.specs.declared.registers.Regs.{Regs}
use Rattle.pmem_base.specs.Lines.{IsLine}
use Rattle.board.specs.declared.access.Access.{Access}

pub record Device : Type 0 where
  pub size : ℕ
  -- the lines, if the board exposes them
  pub lines : Option (List Line)
  pub regs : Regs
  -- no call is answered by a cut
  pub steady : Bool
  -- power is on
  pub live : Bool
  pub reads : ℕ
  pub writes : ℕ
  pub latches : ℕ
  pub cuts : ℕ
  -- the accesses that were answered and not cut, the first one first, if the board exposes them
  pub accesses : Option (List Access)

-- that many lines, of 64 bytes each
pub record AreLinesOf (size : ℕ) (lines : List Line) : Type 0 where
  pub count : length lines ≡ size
  pub each : All IsLine lines

-- that many lines, if exposed
abbrev pub AreToldLines : ℕ → Option (List Line) → Type 0
AreToldLines size None = ⊤
AreToldLines size (Some lines) = AreLinesOf size lines

-- the lines that the board tells are as many as its size
abbrev pub IsDevice : Device → Type 0
IsDevice device = AreToldLines device.size device.lines
