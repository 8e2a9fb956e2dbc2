-- The plain machine: lines, queues, power, a fuse, and what the attacker touched.
use Rattle.std.specs.Prelude.{ℕ, Bool, true, false, List, replicate, slice_index_or, Option, None, slice_set}
use Rattle.std.specs.List.{list_any}
use Rattle.pmem_base.specs.declared.lines.Line.{Line}
use Rattle.pmem_base.specs.declared.commands.Posted.{Posted}
use Rattle.pmem_base.specs.declared.answers.Mark.{Mark}
use Rattle.pmem_base.specs.declared.answers.Answer.{Answer}
use Rattle.pmem_base.specs.Shape.{Shape}
use Rattle.pmem_base.specs.Layout as layout
use Rattle.pmem_base.specs.Lines.{line_at, zero_line}
use Rattle.pmem_base.specs.WaitingWrites.{no_writes, put_write}

-- the plain memory: a line for each data line
abbrev pub Memory : Type 0
Memory = List Line

-- the marks that a command made, in order, and its answer
pub record Reply : Type 0 where
  pub marks : List Mark
  pub answer : Answer

-- Sets of lines, pages or positions are lists of flags, one for each number.
pub record PlainState : Type 0 where
  pub memory : Memory
  -- eight, of at most 16 writes, the oldest first
  pub queues : List (List Posted)
  pub power : Bool
  pub snapped : Bool
  pub fuse : Option ℕ
  -- all persist steps so far, up to 2^64 - 1
  pub steps : ℕ
  -- device lines that a tamper command answered ok has changed
  pub named : List Bool
  -- data lines whose device line or tag line was so changed since their last drain
  pub hurt : List Bool
  -- data lines that surely differ from what was sealed
  pub spoiled : List Bool
  -- an `on` was answered with a recovery or a cut while a line was named
  pub loose : Bool
  -- pages of the begins and of the seals with a minor above 0, since the start, the last `clean`
  -- and the last recovery
  pub touched : List Bool
  -- positions that `flush` named since the last such begin or seal
  pub flushed : List Bool
  -- the stop-loss number
  pub loss : ℕ

-- ---- flags

unfoldable pub no_flags : ℕ → List Bool
no_flags n = replicate n false

abbrev pub is_flagged : List Bool → ℕ → Bool
is_flagged flags n = slice_index_or flags n false

abbrev pub has_flags : List Bool → Bool
has_flags flags = list_any (λ flag. flag) flags

abbrev pub with_flag : List Bool → ℕ → List Bool
with_flag flags n = slice_set flags n true

abbrev pub without_flag : List Bool → ℕ → List Bool
without_flag flags n = slice_set flags n false

-- the memory with the write put into its line
abbrev pub memory_with : Memory → Posted → Memory
memory_with memory write = slice_set memory write.at (put_write (line_at memory write.at) write)

-- ---- the start

-- formatted, powered, nothing waiting, nothing touched
unfoldable pub start_state : Shape → PlainState
start_state g =
    record {
      memory = replicate (layout.data_lines g) zero_line;
      queues = no_writes;
      power = true;
      snapped = false;
      fuse = None;
      steps = 0;
      named = no_flags (layout.device_lines g);
      hurt = no_flags (layout.data_lines g);
      spoiled = no_flags (layout.data_lines g);
      loose = false;
      touched = no_flags (layout.pages g);
      flushed = no_flags (layout.meta_lines g);
      loss = g.loss;
    }
