-- The writes that wait at eight ports, the oldest of each first, and what they make of a line.
use Rattle.std.specs.Prelude.{ℕ, suc, ◌+◌, Bool, nat_lt, nat_le, ◌==◌, ◌&&◌, List, [], ◌∷◌, ◌++◌, length, filter, replicate, slice_index_or, slice_range, slice_set, is_none, option_and_then, Option, Some, None, if◌then◌else◌}
use Rattle.pmem_base.specs.declared.lines.Line.{Line}
use Rattle.pmem_base.specs.declared.commands.Posted.{Posted}
use Rattle.pmem_base.specs.Lines.{put_bytes}

-- no write waits at any port
unfoldable pub no_writes : List (List Posted)
no_writes = replicate 8 []

-- the waiting writes of a port, the oldest first
abbrev pub queue_of : List (List Posted) → ℕ → List Posted
queue_of queues port = slice_index_or queues port []

-- the writes to line a, in order
abbrev pub writes_to : List Posted → ℕ → List Posted
writes_to writes a = filter (λ write. write.at == a) writes

-- the bytes that a write puts
abbrev pub posted_bytes : Posted → List ℕ
posted_bytes write = slice_range write.line.0 write.from (write.from + write.len)

-- the line with the write's bytes in their place
abbrev pub put_write : Line → Posted → Line
put_write line write = put_bytes line write.from (posted_bytes write)

-- the line with the writes put into it in order
abbrev pub put_writes : Line → List Posted → Line
put_writes line [] = line
put_writes line (write ∷ writes) = put_writes (put_write line write) writes

-- whether the write has byte i of its line
abbrev pub has_byte : Posted → ℕ → Bool
has_byte write i = nat_le write.from i && nat_lt i (write.from + write.len)

-- ---- posting

-- the newest write to line a that waits, with its place in the queue
abbrev pub later_or : ℕ → Posted → Option (ℕ × Posted) → Option (ℕ × Posted)
later_or a write None = if write.at == a then Some (0, write) else None
later_or a write (Some found) = Some (suc found.0, found.1)

abbrev pub newest_to : List Posted → ℕ → Option (ℕ × Posted)
newest_to [] a = None
newest_to (write ∷ later) a = later_or a write (newest_to later a)

-- the write has all 64 bytes of its line
abbrev pub is_whole : Posted → Bool
is_whole write = write.len == 64

-- The place that a posted write takes in a queue that combines: that of the newest write to its line, if both are whole.
-- Otherwise it takes none, and waits behind the others.
abbrev pub combined_place : Bool → List Posted → Posted → Option ℕ
combined_place combines queue write =
    option_and_then (λ found. if combines && is_whole write && is_whole found.1 then Some found.0 else None)
    (newest_to queue write.at)

abbrev pub put_at : List Posted → Posted → Option ℕ → List Posted
put_at queue write None = queue ++ write ∷ []
put_at queue write (Some place) = slice_set queue place write

-- the queue after a post that it has room for
abbrev pub queue_posted : Bool → List Posted → Posted → List Posted
queue_posted combines queue write = put_at queue write (combined_place combines queue write)

-- sixteen writes wait, and the posted one takes the place of none
abbrev pub is_queue_full : Bool → List Posted → Posted → Bool
is_queue_full combines queue write = is_none (combined_place combines queue write) && nat_le 16 (length queue)

-- ---- power

-- what waits after power is lost
abbrev pub queues_after_loss : Bool → List (List Posted) → List (List Posted)
queues_after_loss durable queues = if durable then queues else no_writes
