-- Which blocks of a page's path are named, wherever naming it ends.
use Rattle.std.specs.Prelude.{ℕ, ◌≡◌, ◌<◌, ◌+◌, List, length, Result, Ok, Err}
use Rattle.pmem_base.specs.declared.faults.Cut.{Cut}
use Rattle.pmem_base.specs.declared.lines.Line.{Line}
use Rattle.pmem_base.specs.Counts.{risen_times}
use Rattle.pmem_base.specs.Shape.{named_levels}
use Rattle.board.specs.Device.{Device}
use Rattle.call_plan.specs.Following.{Follows}
use Rattle.commit_regs.specs.Groups.{redone_told}
use Rattle.meta_path.specs.Naming.{named_path, naming_writes}
use Rattle.pmem_engine.specs.Engine.{ChipState}
use Rattle.pmem_engine.specs.Plans.{with_mirror, name_plan}

-- the engine with the first that many blocks of the path named in its copy of the shadow lines
abbrev pub with_path_named : ℕ → ℕ → ChipState → ChipState
with_path_named page named engine = with_mirror engine (named_path engine.shape engine.cache page engine.mirror named)

-- the shadow lines that this many names change, by place and line: none for a block that was named already
abbrev pub path_names : ℕ → ℕ → ChipState → List (ℕ × Line)
path_names page written engine = naming_writes engine.shape engine.cache page engine.mirror written

-- that many blocks are named in the copy, and that many on the device: the lines that this takes were written, in order, by one line write
-- each, and nothing else changed
pub record AreNamed (page named written : ℕ) (engine left : ChipState) (old new : Device) : Type 0 where
  pub engine_left : left ≡ with_path_named page named engine
  pub lines : new.lines ≡ redone_told (path_names page written engine) old.lines
  pub writes : new.writes ≡ risen_times (length (path_names page written engine)) old.writes
  pub regs : new.regs ≡ old.regs
  pub reads : new.reads ≡ old.reads
  pub latches : new.latches ≡ old.latches

-- all of the path's blocks that may get dirty, or if power is cut the first of them, and on the device one fewer
abbrev pub IsNamedInOrder : ℕ → ChipState → Device → Device → Result (ChipState × Unit {0}) (ChipState × Cut) → Type 0
IsNamedInOrder page engine old new (Ok end) =
    AreNamed page (named_levels engine.shape) (named_levels engine.shape) engine end.0 old new
IsNamedInOrder page engine old new (Err left) = (n : ℕ) × (n < named_levels engine.shape) × AreNamed page (n + 1) n engine left.0 old new

abbrev pub PathsAreNamedInOrder : Type 0
PathsAreNamedInOrder =
    (page : ℕ) (engine : ChipState) (old new : Device) (end : Result (ChipState × Unit {0}) (ChipState × Cut))
    → Follows (name_plan page engine) old new end → IsNamedInOrder page engine old new end
