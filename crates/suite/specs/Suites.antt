-- What contracts see of the two suites: their keys, and their counts of pads, tags and digests.
use Rattle.std.specs.Prelude.{ℕ, List, [], ◌∷◌, ◌++◌}
use Rattle.suite.specs.declared.aes.AesSuite.{AesSuite}
use Rattle.suite.specs.declared.weak.WeakSuite.{WeakSuite}
use Rattle.suite.specs.Weak.{blur_flag}

abbrev pub aes_keys : AesSuite → List ℕ
aes_keys suite = suite.cipher ++ suite.tag_key

abbrev pub aes_counts : AesSuite → ℕ × ℕ × ℕ
aes_counts suite = (suite.pads, suite.tags, suite.digests)

abbrev pub weak_keys : WeakSuite → List ℕ
weak_keys suite = suite.key ++ suite.tag_key.items ++ blur_flag suite.blur ∷ []

abbrev pub weak_counts : WeakSuite → ℕ × ℕ × ℕ
weak_counts suite = (suite.pads, suite.tags, suite.digests)
