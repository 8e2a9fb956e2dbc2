-- The record of a start-gap memory's wear.
use Rattle.std.specs.Prelude.{ℕ, ◌-◌, ◌&&◌, nat_lt, nat_le, Bool, ◌++◌, drop, replicate, slice_range, Option, Some, None, if◌then◌else◌}
use Rattle.pmem_base.specs.declared.lines.Line.{Line}
use Rattle.pmem_base.specs.Lines.{line_of, big_endian, from_big_endian, same_bytes}
use Rattle.start_gap.specs.declared.wear.Wear.{Wear}

-- four bytes of the start, four of how far the gap has moved, and 56 zeros
unfoldable pub wear_record : ℕ → Wear → Line
wear_record n wear =
    line_of (big_endian 4 wear.start ++ big_endian 4 (n - wear.gap) ++ replicate 56 0)

-- the number in bytes 0 to 3, and that in bytes 4 to 7
abbrev pub start_in : Line → ℕ
start_in line = from_big_endian (slice_range line.0 0 4)

abbrev pub moved_in : Line → ℕ
moved_in line = from_big_endian (slice_range line.0 4 8)

-- whether a line is a record: its start is below n, its gap moved at most n places, and the rest is 0
abbrev pub is_record : ℕ → Line → Bool
is_record n line =
    nat_lt (start_in line) n && nat_le (moved_in line) n
    && same_bytes (drop 8 line.0) (replicate 56 0)

-- the wear that a line records
abbrev pub recorded : ℕ → Line → Option Wear
recorded n line =
    if is_record n line then Some (record { start = start_in line; gap = n - moved_in line }) else None
