-- The lines made, and where the line of each position stands among them.
use Rattle.std.specs.Prelude.{ℕ, zero, suc, ◌≡◌, ◌≤◌, ◌<◌, Option, None, slice_get, slice_index, option_map, List, length}
use Rattle.pmem_base.specs.declared.lines.Line.{Line}
use Rattle.pmem_recovery.specs.declared.entries.MadeEntry.{MadeEntry}
use Rattle.pmem_recovery.specs.Upward.{line_made}

-- the entries in order, for how many there is room, and of how many positions their places are kept
pub record MadeState : Type 0 where
  pub entries : List MadeEntry
  pub room : ℕ
  pub positions : ℕ

-- the line of the entry with this number, from 1 on
abbrev pub numbered_line : List MadeEntry → ℕ → Option Line
numbered_line entries zero = None
numbered_line entries (suc n) = option_map (λ entry. entry.line) (slice_get entries n)

-- the number that is kept for a position is that of the line made for it
pub record IsIndexed (entries : List MadeEntry) (numbers : List ℕ) : Type 0 where
  pub each :
      (x : ℕ) → x < length numbers
      → (slice_index numbers x ≤ length entries) × (numbered_line entries (slice_index numbers x) ≡ line_made entries x)
