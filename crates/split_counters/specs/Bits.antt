-- Where the bits of the minors stand in a block's line.
use Rattle.std.specs.Prelude.{ℕ, ◌≡◌, ◌<◌, ◌+◌, ◌-◌, ◌*◌, ◌/◌, ◌%◌, ◌^◌, List, drop, slice_index}
use Rattle.pmem_base.specs.declared.lines.Line.{Line}
use Rattle.split_counters.specs.declared.Block.{Block}
use Rattle.split_counters.specs.Blocks.{minor_of}

-- bit k of bytes in a row, where bit 0 is the top bit of the first byte
abbrev pub bit_of_bytes : List ℕ → ℕ → ℕ
bit_of_bytes bytes k = (slice_index bytes (k / 8) / 2 ^ (7 - k % 8)) % 2

-- bit j of a minor's seven, where bit 0 is the top one
abbrev pub bit_of_minor : ℕ → ℕ → ℕ
bit_of_minor minor j = (minor / 2 ^ (6 - j)) % 2

-- minor i is bits 7i to 7i + 6 of the 56 bytes after the major
abbrev pub HasMinorBits : Block → Line → Type 0
HasMinorBits block line =
    (i j : ℕ) → i < 64 → j < 7
    → bit_of_bytes (drop 8 line.0) (7 * i + j) ≡ bit_of_minor (minor_of block i) j
