-- What contracts see of a board in memory, and what its calls do.
use Rattle.std.specs.Prelude.{ℕ, ◌≡◌, ◌-◌, ◌/◌, ◌%◌, ◌^◌, ◌⊎◌, ◌++◌, Bool, true, false, ◌&&◌, List, [], ◌∷◌, Option, Some, None, is_none, bit_xor, replicate, length, slice_index, slice_set}
use Rattle.pmem_base.specs.declared.lines.Line.{Line}
use Rattle.pmem_base.specs.declared.registers.Regs.{Regs}
use Rattle.pmem_base.specs.Counts.{risen}
use Rattle.pmem_base.specs.Lines.{line_at, line_of, zero_line}
use Rattle.pmem_base.specs.Registers.{empty_regs}
use Rattle.board.specs.declared.access.Access.{Access}
use Rattle.board.specs.declared.access.Access.TheVariants as Did
use Rattle.board.specs.Device.{Device}

pub record BoardMemory : Type 0 where
  pub lines : List Line
  pub regs : Regs
  pub powered : Bool
  -- how many more persist steps are done before power is cut, if a cut is set
  pub fuse : Option ℕ
  pub snapshot : Option (List Line)
  pub reads : ℕ
  pub writes : ℕ
  pub latches : ℕ
  pub cuts : ℕ
  -- the accesses that were answered and not cut, the first one first
  pub accesses : List Access

-- that many zero lines, empty registers, power on, and neither a fuse nor a snapshot
abbrev pub new_memory : ℕ → BoardMemory
new_memory size =
    record {
      lines = replicate size zero_line;
      regs = empty_regs;
      powered = true;
      fuse = None;
      snapshot = None;
      reads = 0;
      writes = 0;
      latches = 0;
      cuts = 0;
      accesses = [];
    }

-- no persist step can be done: power is off, or the fuse stands at 0
abbrev pub IsSpent : BoardMemory → Type 0
IsSpent memory = (memory.powered ≡ false) ⊎ (memory.fuse ≡ Some 0)

-- the fuse after one persist step
abbrev pub burnt_fuse : Option ℕ → Option ℕ
burnt_fuse None = None
burnt_fuse (Some left) = Some (left - 1)

-- the memory after a read, a line write, a latch or a cut
abbrev pub after_read : BoardMemory → ℕ → BoardMemory
after_read memory at =
    record memory { reads = risen memory.reads; accesses = memory.accesses ++ Did.Read at ∷ [] }

abbrev pub after_write : BoardMemory → ℕ → Line → BoardMemory
after_write memory at line =
    record memory {
      lines = slice_set memory.lines at line;
      writes = risen memory.writes;
      accesses = memory.accesses ++ Did.Write at line ∷ [];
      fuse = burnt_fuse memory.fuse;
    }

abbrev pub after_latch : BoardMemory → Regs → BoardMemory
after_latch memory regs =
    record memory {
      regs = regs;
      latches = risen memory.latches;
      accesses = memory.accesses ++ Did.Latch (length regs.group.items) ∷ [];
      fuse = burnt_fuse memory.fuse;
    }

abbrev pub after_cut : BoardMemory → BoardMemory
after_cut memory = record memory { powered = false; fuse = None; cuts = risen memory.cuts }

-- the memory with other lines, or with one line replaced
abbrev pub with_lines : BoardMemory → List Line → BoardMemory
with_lines memory lines = record memory { lines = lines }

abbrev pub with_line_at : BoardMemory → ℕ → Line → BoardMemory
with_line_at memory at line = with_lines memory (slice_set memory.lines at line)

-- a line with one bit turned: bit b is bit b mod 8 of byte b / 8
abbrev pub flipped_line : Line → ℕ → Line
flipped_line line bit =
    line_of (slice_set line.0 (bit / 8) (bit_xor (slice_index line.0 (bit / 8)) (2 ^ (bit % 8))))

-- the lines with one taken from the snapshot, if one is kept
abbrev pub restored_lines : List Line → Option (List Line) → ℕ → List Line
restored_lines lines None at = lines
restored_lines lines (Some kept) at = slice_set lines at (line_at kept at)

-- what callers see of it as a board
abbrev pub device_of : BoardMemory → Device
device_of memory =
    record {
      size = length memory.lines;
      lines = Some memory.lines;
      regs = memory.regs;
      steady = memory.powered && is_none memory.fuse;
      live = memory.powered;
      reads = memory.reads;
      writes = memory.writes;
      latches = memory.latches;
      cuts = memory.cuts;
      accesses = Some memory.accesses;
    }
