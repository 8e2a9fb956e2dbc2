-- What a log of accesses tells of a board in memory.
use Rattle.std.specs.Prelude.{ℕ, ◌≡◌, ◌⊎◌, ◌++◌, List, [], ◌∷◌, Option, Some, None, IfSome, length, slice_set}
use Rattle.pmem_base.specs.declared.lines.Line.{Line}
use Rattle.pmem_base.specs.Counts.{risen}
use Rattle.board.specs.declared.access.Access.{Access}
use Rattle.board.specs.declared.access.Access.TheVariants as Did
use Rattle.board.specs.declared.memory.MemBoard.{MemBoard}
use Rattle.board.specs.Device.{Device}
use Rattle.board.specs.Memory.{BoardMemory}
use Rattle.board.specs.MemBoard.{memory_of}
use Rattle.board.specs.Steps.{noted}
use Rattle.watched_board.specs.declared.taken.Taken.{Taken}
use Rattle.watched_board.specs.Watching.{device_during}

-- What accesses change of a board: the lines, how many of them the commit group has, the counts of reads, line writes
-- and latches, and all accesses so far.
pub record Traced : Type 0 where
  pub lines : List Line
  pub armed : ℕ
  pub reads : ℕ
  pub writes : ℕ
  pub latches : ℕ
  pub accesses : List Access

abbrev pub traced_of : BoardMemory → Traced
traced_of board =
    record {
      lines = board.lines;
      armed = length board.regs.group.items;
      reads = board.reads;
      writes = board.writes;
      latches = board.latches;
      accesses = board.accesses;
    }

-- one more access
abbrev pub one_more : Traced → Access → List Access
one_more traced access = traced.accesses ++ access ∷ []

-- a read is counted; a write replaces the line at its place; a latch replaces the registers; each is noted
abbrev pub after_access : Traced → Access → Traced
after_access traced (Did.Read at) =
    record traced { reads = risen traced.reads; accesses = one_more traced (Did.Read at) }
after_access traced (Did.Write at line) =
    record traced {
      lines = slice_set traced.lines at line;
      writes = risen traced.writes;
      accesses = one_more traced (Did.Write at line);
    }
after_access traced (Did.Latch armed) =
    record traced { armed = armed; latches = risen traced.latches; accesses = one_more traced (Did.Latch armed) }

-- all of them, the first one first
abbrev pub after_accesses : Traced → List Access → Traced
after_accesses traced [] = traced
after_accesses traced (access ∷ later) = after_accesses (after_access traced access) later

-- The accesses of the log, if one is kept, make of the board that it began with the board as it is. So they are just those that the board
-- answered since, in their order.
abbrev pub LeadsTo : Traced → Option (List Access) → BoardMemory → Type 0
LeadsTo first log board = IfSome log (λ accesses. after_accesses first accesses ≡ traced_of board)

-- The log goes on from one board to another: from wherever it led to the first, it leads to the second.
abbrev pub GoesOn : Option (List Access) → BoardMemory → Option (List Access) → BoardMemory → Type 0
GoesOn log_old old log_new new = (first : Traced) → LeadsTo first log_old old → LeadsTo first log_new new

-- one more access was noted, or the log was lost because memory ran out
abbrev pub IsNoted : Option (List Access) → Access → Option (List Access) → Type 0
IsNoted old access new = (new ≡ noted old access) ⊎ (new ≡ None)

-- the board in memory as a call sees it that has taken so much of it
abbrev pub as_seen : MemBoard → Taken → Device
as_seen board taken = device_during (memory_of board) taken

-- ---- laws

-- the accesses of a log that was begun empty are those that the board answered since
abbrev pub LogsAreExact : Type 0
LogsAreExact =
    (old new : BoardMemory) (accesses : List Access) → GoesOn (Some []) old (Some accesses) new
    → new.accesses ≡ old.accesses ++ accesses

-- so two logs between one board and another are the same
abbrev pub LogsAreDetermined : Type 0
LogsAreDetermined =
    (old new : BoardMemory) (accesses others : List Access) → GoesOn (Some []) old (Some accesses) new
    → GoesOn (Some []) old (Some others) new → accesses ≡ others
