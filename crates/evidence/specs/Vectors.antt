-- The example vector of FIPS 197, appendix C.1.
use Rattle.std.specs.Prelude.{ℕ, ◌*◌, List, [], ◌∷◌, map}
use Rattle.std.specs.List.{range_with_len}

abbrev pub example_key : List ℕ
example_key = range_with_len 0 16

abbrev pub example_plain : List ℕ
example_plain = map (λ i. 0x11 * i) (range_with_len 0 16)

abbrev pub example_cipher : List ℕ
example_cipher =
    0x69 ∷ 0xc4 ∷ 0xe0 ∷ 0xd8 ∷ 0x6a ∷ 0x7b ∷ 0x04 ∷ 0x30
    ∷ 0xd8 ∷ 0xcd ∷ 0xb7 ∷ 0x80 ∷ 0x70 ∷ 0xb4 ∷ 0xc5 ∷ 0x5a ∷ []
