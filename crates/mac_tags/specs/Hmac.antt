-- HMAC (RFC 2104) with SHA-256, for keys of at most 64 bytes. Section numbers are the RFC's.
use Rattle.std.specs.Prelude.{ℕ, ◌-◌, List, ◌++◌, length, map, replicate, take, bit_xor}
use Rattle.sha2.specs.Sha256.{sha256}

-- the key with zeros after it, up to the 64 bytes of a block (2)
abbrev pub padded_key : List ℕ → List ℕ
padded_key key = key ++ replicate (64 - length key) 0

-- each byte of the padded key combined with one byte, which ipad or opad repeats 64 times (2)
abbrev pub key_xor : List ℕ → ℕ → List ℕ
key_xor key byte = map (λ b. bit_xor b byte) (padded_key key)

-- H((K xor opad) followed by H((K xor ipad) followed by the text)) (2)
unfoldable pub hmac_of : List ℕ → List ℕ → List ℕ
hmac_of key text = sha256 (key_xor key 0x5c ++ sha256 (key_xor key 0x36 ++ text))

-- an output cut to its leftmost 16 bytes (5)
abbrev pub leftmost_16 : List ℕ → List ℕ
leftmost_16 bytes = take 16 bytes
