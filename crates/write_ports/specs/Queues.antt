-- Eight queues of posted writes, each with the oldest write first.
use Rattle.std.specs.Prelude.{ℕ, ◌≡◌, ◌≤◌, ◌<◌, ◌||◌, Bool, List, length, map, take, All}
use Rattle.std.specs.List.{list_all, list_any, range_with_len}
use Rattle.pmem_base.specs.declared.lines.Line.{Line}
use Rattle.pmem_base.specs.declared.commands.Posted.{Posted}
use Rattle.pmem_base.specs.WaitingWrites.{queue_of, writes_to, put_write, put_writes, has_byte}
use Rattle.pmem_base.specs.Ranges.{IsPosted}

-- at most 16 writes wait, and each of them has bytes that lie in its line
pub record IsQueue (writes : List Posted) : Type 0 where
  pub room : length writes ≤ 16
  pub posted : All IsPosted writes

-- a queue for each of eight ports
pub record ArePorts (queues : List (List Posted)) : Type 0 where
  pub eight : length queues ≡ 8
  pub each : All IsQueue queues

-- whether one of the writes has byte i
abbrev pub have_byte : List Posted → ℕ → Bool
have_byte writes i = list_any (λ write. has_byte write i) writes

-- whether the writes have all 64 bytes of a line
unfoldable pub cover_line : List Posted → Bool
cover_line writes = list_all (λ i. have_byte writes i) (range_with_len 0 64)

-- What a post does that was answered ok: what the port's waiting writes show of the write's line is what they showed,
-- with the write's bytes over it. Each other line and port shows what it did, and each write that waited, or the one
-- that took its place, is where it was.
pub record ShowsPosted (old new : List (List Posted)) (port : ℕ) (write : Posted) : Type 0 where
  pub newest :
      (line : Line) → length line.0 ≡ 64
      → put_writes line (writes_to (queue_of new port) write.at)
      ≡ put_write (put_writes line (writes_to (queue_of old port) write.at)) write
  pub bytes :
      (i : ℕ) → i < 64
      → have_byte (writes_to (queue_of new port) write.at) i
      ≡ (have_byte (writes_to (queue_of old port) write.at) i || has_byte write i)
  pub others :
      (h a : ℕ) → (h ≡ port → a ≡ write.at → ⊥) → writes_to (queue_of new h) a ≡ writes_to (queue_of old h) a
  pub in_place :
      take (length (queue_of old port)) (map (λ (w : Posted). w.at) (queue_of new port))
      ≡ map (λ (w : Posted). w.at) (queue_of old port)
