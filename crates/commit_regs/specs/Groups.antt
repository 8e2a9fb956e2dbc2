-- What a commit group makes of a device.
use Rattle.std.specs.Prelude.{true, false, ◌≡◌, ◌⊎◌, ℕ, ◌+◌, ◌<◌, ◌≤◌, List, [], ◌∷◌, Option, Some, None, length}
use Rattle.pmem_base.specs.declared.lines.Line.{Line}
use Rattle.pmem_base.specs.Counts.{HasRisen, last_count}
use Rattle.pmem_base.specs.Lines.{put_lines}
use Rattle.pmem_base.specs.Registers.{without_group}
use Rattle.board.specs.Counts.{RisesBy}
use Rattle.board.specs.Device.{Device}

-- the lines with the group's lines written into their places, in order
abbrev pub redone : List (ℕ × Line) → List Line → List Line
redone group lines = put_lines group lines

-- the same, if the lines are exposed
abbrev pub redone_told : List (ℕ × Line) → Option (List Line) → Option (List Line)
redone_told group None = None
redone_told group (Some lines) = Some (redone group lines)

-- the group writes this place
abbrev pub Writes : ℕ → List (ℕ × Line) → Type 0
Writes at [] = ⊥
Writes at (entry ∷ rest) = (at ≡ entry.0) ⊎ Writes at rest

-- the latches that a group takes to be finished
abbrev pub finishing_latches : List (ℕ × Line) → ℕ
finishing_latches [] = 0
finishing_latches (entry ∷ rest) = 1

-- the count rose by n at most, while it is below its end afterwards
pub record RisesAtMost (n before after : ℕ) : Type 0 where
  pub never_falls : before ≤ after
  pub bound : after < last_count → after ≤ before + n

-- the board with the group's lines written
pub record HasRedone (old : Device) (group : List (ℕ × Line)) (new : Device) : Type 0 where
  pub lines : new.lines ≡ redone_told group old.lines
  pub again : redone_told group new.lines ≡ redone_told group old.lines
  pub writes : RisesBy (length group) old.writes new.writes
  pub size : new.size ≡ old.size
  pub regs : new.regs ≡ old.regs
  pub reads : new.reads ≡ old.reads
  pub latches : new.latches ≡ old.latches
  pub cuts : new.cuts ≡ old.cuts
  pub steady : old.steady ≡ true → new.steady ≡ true
  pub live : old.live ≡ true → new.live ≡ true

-- the board with its group finished: redone, and empty
pub record HasFinished (old new : Device) : Type 0 where
  pub lines : new.lines ≡ redone_told old.regs.group.items old.lines
  pub regs : new.regs ≡ without_group old.regs
  pub writes : RisesBy (length old.regs.group.items) old.writes new.writes
  pub latches : RisesBy (finishing_latches old.regs.group.items) old.latches new.latches
  pub size : new.size ≡ old.size
  pub reads : new.reads ≡ old.reads
  pub cuts : new.cuts ≡ old.cuts
  pub steady : old.steady ≡ true → new.steady ≡ true
  pub live : old.live ≡ true → new.live ≡ true

-- A cut during a group comes on a board that isn't steady, and leaves it without power. What the group makes of the lines stays the same,
-- and so do the registers; line writes are counted.
pub record IsInterrupted (group : List (ℕ × Line)) (old new : Device) : Type 0 where
  pub unsteady : old.steady ≡ false
  pub off : new.live ≡ false
  pub again : redone_told group new.lines ≡ redone_told group old.lines
  pub writes : RisesAtMost (length group) old.writes new.writes
  pub never_falls : old.cuts ≤ new.cuts
  pub rose : HasRisen old.cuts new.cuts
  pub size : new.size ≡ old.size
  pub regs : new.regs ≡ old.regs
  pub reads : new.reads ≡ old.reads
  pub latches : new.latches ≡ old.latches
