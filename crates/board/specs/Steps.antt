-- What the calls of a board do: a read, a line write, a latch, or a cut.
use Rattle.std.specs.Prelude.{ℕ, ◌≡◌, ◌++◌, false, List, [], ◌∷◌, Option, Some, None, length, option_map, slice_set, ⊤}
use Rattle.pmem_base.specs.declared.lines.Line.{Line}
use Rattle.pmem_base.specs.declared.registers.Regs.{Regs}
use Rattle.pmem_base.specs.Lines.{line_at}
use Rattle.board.specs.declared.access.Access.{Access}
use Rattle.board.specs.declared.access.Access.TheVariants as Did
use Rattle.board.specs.Counts.{RisesOnce}
use Rattle.board.specs.Device.{Device}

-- this is the line at a place, if the board exposes its lines
abbrev pub Tells : Option (List Line) → ℕ → Line → Type 0
Tells None at line = ⊤
Tells (Some lines) at line = line ≡ line_at lines at

-- the lines after a write, if exposed
abbrev pub with_line : Option (List Line) → ℕ → Line → Option (List Line)
with_line None at line = None
with_line (Some lines) at line = Some (slice_set lines at line)

-- the accesses with one more, if exposed
abbrev pub noted : Option (List Access) → Access → Option (List Access)
noted told access = option_map (λ accesses. accesses ++ access ∷ []) told

-- A read is counted and noted, and changes nothing else. It leaves the board steady or not, and live or not, as it
-- was.
pub record HasRead (old : Device) (at : ℕ) (line : Line) (new : Device) : Type 0 where
  pub tells : Tells old.lines at line
  pub reads : RisesOnce old.reads new.reads
  pub accesses : new.accesses ≡ noted old.accesses (Did.Read at)
  pub size : new.size ≡ old.size
  pub lines : new.lines ≡ old.lines
  pub regs : new.regs ≡ old.regs
  pub writes : new.writes ≡ old.writes
  pub latches : new.latches ≡ old.latches
  pub cuts : new.cuts ≡ old.cuts
  pub steady : new.steady ≡ old.steady
  pub live : new.live ≡ old.live

-- a write changes one line, and is counted and noted
pub record HasWritten (old : Device) (at : ℕ) (line : Line) (new : Device) : Type 0 where
  pub lines : new.lines ≡ with_line old.lines at line
  pub writes : RisesOnce old.writes new.writes
  pub accesses : new.accesses ≡ noted old.accesses (Did.Write at line)
  pub size : new.size ≡ old.size
  pub regs : new.regs ≡ old.regs
  pub reads : new.reads ≡ old.reads
  pub latches : new.latches ≡ old.latches
  pub cuts : new.cuts ≡ old.cuts
  pub steady : new.steady ≡ old.steady
  pub live : new.live ≡ old.live

-- a latch replaces the registers, and is counted and noted
pub record HasLatched (old : Device) (next : Regs) (new : Device) : Type 0 where
  pub regs : new.regs ≡ next
  pub latches : RisesOnce old.latches new.latches
  pub accesses : new.accesses ≡ noted old.accesses (Did.Latch (length next.group.items))
  pub size : new.size ≡ old.size
  pub lines : new.lines ≡ old.lines
  pub reads : new.reads ≡ old.reads
  pub writes : new.writes ≡ old.writes
  pub cuts : new.cuts ≡ old.cuts
  pub steady : new.steady ≡ old.steady
  pub live : new.live ≡ old.live

-- A cut comes on a board that isn't steady, and leaves it without power and not steady. It changes
-- nothing else but the count of cuts, by one.
pub record WasCut (old new : Device) : Type 0 where
  pub unsteady : old.steady ≡ false
  pub off : new.live ≡ false
  pub still_unsteady : new.steady ≡ false
  pub cuts : RisesOnce old.cuts new.cuts
  pub size : new.size ≡ old.size
  pub lines : new.lines ≡ old.lines
  pub regs : new.regs ≡ old.regs
  pub reads : new.reads ≡ old.reads
  pub writes : new.writes ≡ old.writes
  pub latches : new.latches ≡ old.latches
  pub accesses : new.accesses ≡ old.accesses
