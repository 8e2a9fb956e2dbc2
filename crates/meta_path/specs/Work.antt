-- What reads and line writes make of a device.
use Rattle.std.specs.Prelude.{ℕ, ◌≡◌, true, List, Option, option_map, length}
use Rattle.pmem_base.specs.declared.lines.Line.{Line}
use Rattle.pmem_base.specs.Lines.{line_at}
use Rattle.board.specs.Counts.{RisesBy}
use Rattle.board.specs.Device.{Device}
use Rattle.commit_regs.specs.Groups.{redone_told}
use Rattle.meta_cache.specs.State.{CacheState}

-- the line at a place, if the board exposes its lines
abbrev pub told_line : Option (List Line) → ℕ → Option Line
told_line told at = option_map (λ lines. line_at lines at) told

-- the board was read so often, and these lines were written, in order
pub record HasWorked (times : ℕ) (entries : List (ℕ × Line)) (old new : Device) : Type 0 where
  pub lines : new.lines ≡ redone_told entries old.lines
  pub writes : RisesBy (length entries) old.writes new.writes
  pub no_write : length entries ≡ 0 → new.writes ≡ old.writes
  pub reads : RisesBy times old.reads new.reads
  pub no_read : times ≡ 0 → new.reads ≡ old.reads
  pub size : new.size ≡ old.size
  pub regs : new.regs ≡ old.regs
  pub latches : new.latches ≡ old.latches
  pub cuts : new.cuts ≡ old.cuts
  pub steady : old.steady ≡ true → new.steady ≡ true
  pub live : old.live ≡ true → new.live ≡ true

-- what a fetch works on: the cache, the board, and the count of digests
pub record FetchState : Type 0 where
  pub cache : CacheState
  pub device : Device
  pub digests : ℕ
