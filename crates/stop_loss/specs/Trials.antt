-- The trials of candidates against a tag.
use Rattle.std.specs.Prelude.{ℕ, ◌≤◌, ◌<◌, Bool, true, false, List, [], ◌∷◌, filter}
use Rattle.pmem_base.specs.declared.lines.Line.{Line}
use Rattle.pmem_base.specs.Lines.{same_bytes}
use Rattle.suite.specs.Formulas.{Formulas}
use Rattle.stop_loss.specs.declared.Found.{Found}
use Rattle.stop_loss.specs.declared.Found.TheVariants.{One, Nothing, Twin}

-- whether the cipher of data line a has this tag under a major and a minor
abbrev pub is_match : Formulas → ℕ → ℕ → Line → List ℕ → ℕ → Bool
is_match formulas a major cipher tag minor =
    same_bytes (formulas.tag_of a (record { major = major; minor = minor }) cipher) tag

-- those of the candidates whose tag matches, in order
abbrev pub matching_minors : Formulas → ℕ → ℕ → Line → List ℕ → List ℕ → List ℕ
matching_minors formulas a major cipher tag candidates =
    filter (λ minor. is_match formulas a major cipher tag minor) candidates

-- no match, the one match, or the first two
abbrev pub found_among : List ℕ → Found
found_among [] = Nothing
found_among (minor ∷ []) = One minor
found_among (low ∷ high ∷ more) = Twin low high

-- what is found are candidates from first to last, and of two the lower comes first
abbrev pub IsFoundWithin : ℕ → ℕ → Found → Type 0
IsFoundWithin first last Nothing = Unit {0}
IsFoundWithin first last (One minor) = (first ≤ minor) × (minor ≤ last)
IsFoundWithin first last (Twin low high) = (first ≤ low) × (low < high) × (high ≤ last)

-- what is found after one more candidate, and whether its tag matches
abbrev pub found_after : Found → ℕ → Bool → Found
found_after found minor false = found
found_after Nothing minor true = One minor
found_after (One low) minor true = Twin low minor
found_after (Twin low high) minor true = Twin low high
