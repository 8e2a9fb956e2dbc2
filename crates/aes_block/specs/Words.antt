-- 32-bit words for four bytes each, the first byte highest.
use Rattle.std.specs.Prelude.{◌≡◌, ℕ, List, [], ◌∷◌, take}
use Rattle.std.specs.Int.{w32, to_be_bytes, from_be_bytes}
use Rattle.std.specs.List.{flat_map}
use Rattle.aes_block.specs.Cipher.{expanded_key}

-- the words' bytes
unfoldable pub bytes_of : List ℕ → List ℕ
bytes_of words = flat_map (to_be_bytes w32) words

-- the bytes' words
unfoldable pub words_of_bytes : List ℕ → List ℕ
words_of_bytes (a ∷ b ∷ c ∷ d ∷ bytes) = from_be_bytes w32 (a ∷ b ∷ c ∷ d ∷ []) ∷ words_of_bytes bytes
words_of_bytes bytes = []

-- the key whose expansion the words are
unfoldable pub key_of : List ℕ → List ℕ
key_of words = take 16 (bytes_of words)

-- the words of the expansion (FIPS 197, 5.2), each below 2^32
pub record IsExpanded (words : List ℕ) : Type 0 where
  pub expanded : bytes_of words ≡ expanded_key (key_of words) 40
  pub in_range : words_of_bytes (bytes_of words) ≡ words
