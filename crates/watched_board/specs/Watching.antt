-- A call on a board in memory: what it takes, and what the board makes of fuse, snapshot and counts.
use Rattle.std.specs.Prelude.{ℕ, zero, suc, ◌≡◌, ◌≤◌, ◌<◌, ◌+◌, ◌-◌, true, false, Some, None, option_map, length, min, All, IfSome}
use Rattle.pmem_base.specs.Counts.{last_count}
use Rattle.pmem_base.specs.Lines.{IsLine}
use Rattle.board.specs.Device.{Device}
use Rattle.board.specs.Memory.{BoardMemory}
use Rattle.watched_board.specs.declared.taken.Taken.{Taken}

-- that many line writes, latches and cuts since a call began
abbrev pub taken_of : ℕ → ℕ → ℕ → Taken
taken_of writes latches cuts = record { writes = writes; latches = latches; cuts = cuts }

abbrev pub none_taken : Taken
none_taken = record { writes = 0; latches = 0; cuts = 0 }

abbrev pub steps_in : Taken → ℕ
steps_in taken = taken.writes + taken.latches

-- The board as a call sees it: line writes, latches and cuts are counted from the call on. It may
-- always be cut. The accesses are all of the board's, those before the call too.
abbrev pub device_during : BoardMemory → Taken → Device
device_during board taken =
    record {
      size = length board.lines;
      lines = Some board.lines;
      regs = board.regs;
      steady = false;
      live = board.powered;
      reads = board.reads;
      writes = taken.writes;
      latches = taken.latches;
      cuts = taken.cuts;
      accesses = Some board.accesses;
    }

-- more steps than a call ever takes: a board that is asked for more is cut
abbrev pub step_limit : ℕ
step_limit = 65536

-- a count of 64 bits after that many more
abbrev pub counted : ℕ → ℕ → ℕ
counted before more = min (before + more) last_count

-- the board's cuts after that many more: one that sees none stays as it is
abbrev pub cuts_after : ℕ → ℕ → ℕ
cuts_after before zero = before
cuts_after before (suc more) = counted before (suc more)

-- the board in memory keeps its counts in range
pub record AreInCount (board : BoardMemory) : Type 0 where
  pub writes : board.writes ≤ last_count
  pub latches : board.latches ≤ last_count

-- What becomes of the board in a call that takes these steps: the snapshot stays, and the fuse burns by a step each. Power goes off if a
-- step was due with no fuse left, or at the limit: that is a cut, and each cut that the call saw is one that the board counted.
pub record FollowsOn (old new : BoardMemory) (taken : Taken) : Type 0 where
  pub snapshot : new.snapshot ≡ old.snapshot
  pub writes : new.writes ≡ counted old.writes taken.writes
  pub latches : new.latches ≡ counted old.latches taken.latches
  pub reads : old.reads ≤ new.reads
  pub few : steps_in taken ≤ step_limit
  pub lasting : new.powered ≡ true → IfSome old.fuse (λ n. steps_in taken ≤ n)
  pub burnt : new.powered ≡ true → new.fuse ≡ option_map (λ n. n - steps_in taken) old.fuse
  pub cleared : new.powered ≡ false → new.fuse ≡ None
  pub cuts : new.cuts ≡ cuts_after old.cuts taken.cuts
  pub cut : new.powered ≡ false → 0 < taken.cuts
  pub uncut : new.powered ≡ true → new.cuts ≡ old.cuts
  pub spent : new.powered ≡ false → steps_in taken < step_limit → old.fuse ≡ Some (steps_in taken)

-- a call on a watched board, whose counts were in range before, and which has whole lines afterwards
pub record IsWatched (old new : BoardMemory) (taken : Taken) : Type 0 where
  pub follows : FollowsOn old new taken
  pub in_count : AreInCount old
  pub each_line : All IsLine new.lines
