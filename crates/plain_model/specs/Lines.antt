-- How the bytes of a trace are cut into lines.
use Rattle.std.specs.Prelude.{ℕ, ◌≡◌, ◌==◌, Bool, false, List, [], ◌∷◌, ◌++◌, All, if◌then◌else◌}
use Rattle.std.specs.List.{onto_first}

-- LF
abbrev pub is_line_end : ℕ → Bool
is_line_end byte = byte == 10

-- A line ends with LF or with the end of the trace. What follows the last LF is a line if it has a byte.
unfoldable pub lines_of : List ℕ → List (List ℕ)
lines_of [] = []
lines_of (byte ∷ bytes) =
    if is_line_end byte then [] ∷ lines_of bytes else onto_first byte (lines_of bytes)

-- a line with its LF
abbrev pub ended : List ℕ → List ℕ
ended line = line ++ 10 ∷ []

-- these bytes have no LF
abbrev pub IsWithin : List ℕ → Type 0
IsWithin bytes = All (λ byte. is_line_end byte ≡ false) bytes
