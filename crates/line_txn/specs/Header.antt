-- The header of a transaction: byte 0 is how many lines it writes; from byte 4 on come their numbers, of four
-- bytes each; all other bytes are 0.
use Rattle.std.specs.Prelude.{ℕ, zero, suc, ◌≡◌, ◌≢◌, ◌≤◌, ◌<◌, ◌-◌, ◌*◌, ◌==◌, ◌&&◌, nat_lt, nat_le, not, Bool, true, List, [], ◌∷◌, ◌++◌, length, take, drop, replicate, slice_index, Option, Some, None, All, if◌then◌else◌}
use Rattle.std.specs.List.{flat_map, list_any, AllPairs}
use Rattle.pmem_base.specs.declared.lines.Line.{Line}
use Rattle.pmem_base.specs.Lines.{line_of, big_endian, from_big_endian, same_bytes}

-- the lines are below n, and distinct
pub record AreDistinctBelow (n : ℕ) (targets : List ℕ) : Type 0 where
  pub each : All (λ t. t < n) targets
  pub distinct : AllPairs (λ t u. t ≢ u) targets

-- at most 15 of them
pub record AreTargets (n : ℕ) (targets : List ℕ) : Type 0 where
  pub few : length targets ≤ 15
  pub below : AreDistinctBelow n targets

unfoldable pub header_of : List ℕ → Line
header_of targets =
    line_of
    ((length targets ∷ 0 ∷ 0 ∷ 0 ∷ []) ++ flat_map (big_endian 4) targets
    ++ replicate (60 - 4 * length targets) 0)

-- the line is the header of these targets
pub record IsHeader (n : ℕ) (line : Line) (targets : List ℕ) : Type 0 where
  pub its_targets : AreTargets n targets
  pub its_line : line ≡ header_of targets

-- that many numbers of four bytes each
abbrev pub numbers_in : List ℕ → ℕ → List ℕ
numbers_in bytes zero = []
numbers_in bytes (suc count) = from_big_endian (take 4 bytes) ∷ numbers_in (drop 4 bytes) count

abbrev pub targets_in : Line → ℕ → List ℕ
targets_in line count = numbers_in (drop 4 line.0) count

-- ---- the header of a line, as it is read

-- whether the lines are below n and distinct
abbrev pub are_distinct_below : ℕ → List ℕ → Bool
are_distinct_below n [] = true
are_distinct_below n (target ∷ targets) =
    nat_lt target n && not (list_any (λ other. other == target) targets) && are_distinct_below n targets

-- whether the line is the header of these
abbrev pub is_header_of : ℕ → Line → List ℕ → Bool
is_header_of n line targets =
    nat_le (length targets) 15 && are_distinct_below n targets && same_bytes line.0 (header_of targets).0

-- the targets of a line that is a header: those of its count that its bytes give
abbrev pub header_in : ℕ → Line → Option (List ℕ)
header_in n line =
    let targets = targets_in line (slice_index line.0 0) in if is_header_of n line targets then Some targets else None

-- a line is the header of one list at most
abbrev pub IsNamedOnce : ℕ → Type 0
IsNamedOnce n =
    (line : Line) (targets others : List ℕ)
    → IsHeader n line targets → IsHeader n line others → targets ≡ others
