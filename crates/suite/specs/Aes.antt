-- The suite of AES-128, HMAC and SHA-256.
-- The keys are the 16 bytes of the key, and then those of the tag key.
use Rattle.std.specs.Prelude.{ℕ, List, [], ◌∷◌, ◌++◌, take, drop}
use Rattle.std.specs.List.{flat_map}
use Rattle.sha2.specs.Sha256.{sha256}
use Rattle.aes_block.specs.Cipher.{aes128_of}
use Rattle.mac_tags.specs.Hmac.{hmac_of, leftmost_16}
use Rattle.pmem_base.specs.declared.lines.Line.{Line}
use Rattle.pmem_base.specs.declared.lines.Ctr.{Ctr}
use Rattle.pmem_base.specs.Lines.{line_of, big_endian}
use Rattle.suite.specs.Formulas.{Formulas, tag_text, digest_text}

-- the input of block j of a pad
abbrev pub pad_input : ℕ → Ctr → ℕ → List ℕ
pad_input at ctr j = big_endian 4 at ++ big_endian 8 ctr.major ++ ctr.minor ∷ j ∷ 0 ∷ 0 ∷ []

-- four blocks encrypted under one key
abbrev pub four_blocks : List ℕ → ℕ → Ctr → Line
four_blocks key at ctr =
    line_of (flat_map (λ j. aes128_of key (pad_input at ctr j)) (0 ∷ 1 ∷ 2 ∷ 3 ∷ []))

abbrev pub aes_pad : List ℕ → ℕ → Ctr → Line
aes_pad keys at ctr = four_blocks (take 16 keys) at ctr

abbrev pub aes_tag : List ℕ → ℕ → Ctr → Line → List ℕ
aes_tag keys at ctr cipher = leftmost_16 (hmac_of (drop 16 keys) (tag_text at ctr cipher))

abbrev pub aes_digest : ℕ → Line → List ℕ
aes_digest x line = leftmost_16 (sha256 (digest_text x line))

abbrev pub aes_formulas : List ℕ → Formulas
aes_formulas keys = record { pad_of = aes_pad keys; tag_of = aes_tag keys; digest_of = aes_digest }
