-- What contracts see of a suite of either kind: what they see of the suite that it is.
use Rattle.std.specs.Prelude.{ℕ, ◌==◌, List, [], ◌∷◌, if◌then◌else◌}
use Rattle.suite.specs.Aes.{aes_formulas}
use Rattle.suite.specs.Formulas.{Formulas, AreInRange}
use Rattle.suite.specs.Suites.{aes_keys, aes_counts, weak_keys, weak_counts}
use Rattle.suite.specs.Weak.{weak_formulas}
use Rattle.any_suite.specs.declared.AnySuite.{AnySuite}
use Rattle.any_suite.specs.declared.AnySuite.TheVariants.{Aes, Weak}

-- a byte that says which suite it is, 0 for aes and 1 for weak, and then the keys of that suite
abbrev pub any_keys : AnySuite → List ℕ
any_keys (Aes suite) = 0 ∷ aes_keys suite
any_keys (Weak suite) = 1 ∷ weak_keys suite

-- the formulas of the suite that the first byte names, under the keys behind it
abbrev pub any_formulas : List ℕ → Formulas
any_formulas [] = weak_formulas []
any_formulas (kind ∷ keys) = if kind == 0 then aes_formulas keys else weak_formulas keys

abbrev pub any_counts : AnySuite → ℕ × ℕ × ℕ
any_counts (Aes suite) = aes_counts suite
any_counts (Weak suite) = weak_counts suite

-- a law: pads, tags and digests are in range, since they are for each suite
pub any_in_range : (suite : AnySuite) → AreInRange (any_formulas (any_keys suite))
any_in_range (Aes suite) = suite.in_range
any_in_range (Weak suite) = suite.in_range
