-- Lines, bytes and tags.
use Rattle.std.specs.Prelude.{ℕ, zero, suc, ◌≡◌, ◌≤◌, ◌<◌, ◌^◌, ◌+◌, ◌*◌, ◌/◌, ◌%◌, Bool, true, false, ◌==◌, ◌&&◌, List, [], ◌∷◌, ◌++◌, length, take, drop, replicate, All, bit_xor, slice_index_or, slice_set, slice_range}
use Rattle.pmem_base.specs.declared.lines.Line.{Line}
use Rattle.pmem_base.specs.declared.lines.Ctr.{Ctr}
use Rattle.pmem_base.specs.declared.commands.Posted.{Posted}

-- each byte is below 256
abbrev pub AreBytes : List ℕ → Type 0
AreBytes bytes = All (λ b. b < 256) bytes

-- 64 bytes
pub record IsLine (line : Line) : Type 0 where
  pub long : length line.0 ≡ 64
  pub bytes : AreBytes line.0

-- 16 bytes
pub record IsTag (tag : List ℕ) : Type 0 where
  pub long : length tag ≡ 16
  pub bytes : AreBytes tag

-- a counter in its range
pub record IsCtr (ctr : Ctr) : Type 0 where
  pub major : ctr.major < 2 ^ 64
  pub minor : ctr.minor ≤ 127

-- a line of these bytes
abbrev pub line_of : List ℕ → Line
line_of bytes = record { 0 = bytes }

-- a line of 64 equal bytes
abbrev pub filled_line : ℕ → Line
filled_line b = line_of (replicate 64 b)

-- 64 zero bytes
unfoldable pub zero_line : Line
zero_line = filled_line 0

-- line n of a list of lines
abbrev pub line_at : List Line → ℕ → Line
line_at lines n = slice_index_or lines n zero_line

-- major 0 and minor 0
abbrev pub zero_counter : Ctr
zero_counter = record { major = 0; minor = 0 }

-- one byte of 0, posted to the front of data line 0
abbrev pub first_byte_of_zeros : Posted
first_byte_of_zeros = record { at = 0; from = 0; len = 1; line = zero_line }

-- two lists, and so two lines, combined byte by byte by exclusive or
abbrev pub xor_bytes : List ℕ → List ℕ → List ℕ
xor_bytes [] ys = []
xor_bytes (x ∷ xs) [] = []
xor_bytes (x ∷ xs) (y ∷ ys) = bit_xor x y ∷ xor_bytes xs ys

abbrev pub xor_lines : Line → Line → Line
xor_lines a b = line_of (xor_bytes a.0 b.0)

-- whether two lists of numbers are equal
abbrev pub same_bytes : List ℕ → List ℕ → Bool
same_bytes [] [] = true
same_bytes [] (y ∷ ys) = false
same_bytes (x ∷ xs) [] = false
same_bytes (x ∷ xs) (y ∷ ys) = x == y && same_bytes xs ys

-- the line with these bytes at place o
abbrev pub put_bytes : Line → ℕ → List ℕ → Line
put_bytes line o bytes = line_of (take o line.0 ++ bytes ++ drop (o + length bytes) line.0)

-- the tag in slot a mod 4 of a tag line
abbrev pub tag_slot : Line → ℕ → List ℕ
tag_slot line a = slice_range line.0 (16 * (a % 4)) (16 * (a % 4) + 16)

-- the n bytes of a number, the highest first
abbrev pub big_endian : ℕ → ℕ → List ℕ
big_endian zero value = []
big_endian (suc n) value = (value / 256 ^ n) % 256 ∷ big_endian n value

-- the number of these bytes, the highest first
abbrev pub from_big_endian : List ℕ → ℕ
from_big_endian [] = 0
from_big_endian (b ∷ bytes) = b * 256 ^ length bytes + from_big_endian bytes

-- the lines with these entries written into their places, in order
abbrev pub put_lines : List (ℕ × Line) → List Line → List Line
put_lines [] lines = lines
put_lines (entry ∷ entries) lines = put_lines entries (slice_set lines entry.0 entry.1)
