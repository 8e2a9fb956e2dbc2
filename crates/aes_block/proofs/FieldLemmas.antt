-- Products by the factors of MixColumns.
use Rattle.std.proofs.Common.{◌≡◌, ℕ, ap}
use Rattle.std.specs.Prelude.{bit_xor}
use Rattle.std.specs.Int.Bits.{xor_zero_r}
use Rattle.aes_block.specs.Field.{times_x, product_of_terms, product}

pub product-one : (b : ℕ) → product 1 b ≡ b
unfolding product product_of_terms
product-one b = xor_zero_r b

pub product-two : (b : ℕ) → product 2 b ≡ times_x b
unfolding product product_of_terms
product-two b = xor_zero_r (times_x b)

pub product-three : (b : ℕ) → product 3 b ≡ bit_xor b (times_x b)
unfolding product product_of_terms
product-three b = ap (bit_xor b) (xor_zero_r (times_x b))
