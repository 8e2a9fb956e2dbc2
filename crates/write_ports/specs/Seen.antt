-- What waiting writes to a line show of it.
use Rattle.std.specs.Prelude.{ℕ, ◌≡◌, ◌<◌, Bool, ◌==◌, List, map, slice_index, if◌then◌else◌}
use Rattle.std.specs.List.{range_with_len}
use Rattle.std.specs.Int.{bit_at}
use Rattle.pmem_base.specs.declared.lines.Line.{Line}
use Rattle.pmem_base.specs.declared.commands.Posted.{Posted}
use Rattle.pmem_base.specs.Lines.{line_of, zero_line}
use Rattle.pmem_base.specs.WaitingWrites.{put_writes}
use Rattle.write_ports.specs.declared.seen.Seen.{Seen}
use Rattle.write_ports.specs.Queues.{have_byte}

-- whether byte i was seen
abbrev pub is_seen : Seen → ℕ → Bool
is_seen seen i = bit_at seen.mask i == 1

-- the line with the bytes that were seen over its own
abbrev pub overlaid_byte : Line → Seen → ℕ → ℕ
overlaid_byte line seen i = if is_seen seen i then slice_index seen.line.0 i else slice_index line.0 i

unfoldable pub overlaid : Line → Seen → Line
overlaid line seen = line_of (map (λ i. overlaid_byte line seen i) (range_with_len 0 64))

-- a byte was seen if and only if one of the writes has it, and it is the newest one; the others are 0
pub record IsSight (writes : List Posted) (seen : Seen) : Type 0 where
  pub seen_bytes : (i : ℕ) → i < 64 → is_seen seen i ≡ have_byte writes i
  pub newest : seen.line ≡ put_writes zero_line writes
