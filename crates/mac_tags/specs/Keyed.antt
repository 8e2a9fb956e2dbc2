-- What a key made ready holds.
use Rattle.std.specs.Prelude.{ℕ, List}
use Rattle.sha2.specs.Hashers.{Holds256}
use Rattle.sha2.specs.declared.Sha256.{Sha256}
use Rattle.mac_tags.specs.Hmac.{key_xor}

-- the two hashers hold the inner and the outer block of the key
pub record IsKeyed (inner outer : Sha256) (key : List ℕ) : Type 0 where
  pub inner_block : Holds256 inner (key_xor key 0x36)
  pub outer_block : Holds256 outer (key_xor key 0x5c)
