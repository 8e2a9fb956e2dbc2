-- Where a store reads a data line.
use Rattle.std.specs.Prelude.{ℕ, ◌+◌, ◌==◌, List, [], ◌∷◌, if◌then◌else◌}

-- of these targets' bodies, which lie from line k on, the one of this line; of other lines their place
abbrev pub body_or_place : ℕ → List ℕ → ℕ → ℕ
body_or_place k [] a = a
body_or_place k (target ∷ targets) a = if target == a then k else body_or_place (k + 1) targets a

abbrev pub served_from : ℕ → List ℕ → ℕ → ℕ
served_from n targets a = body_or_place (n + 1) targets a
