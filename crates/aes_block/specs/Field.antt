-- GF(2^8), its bytes as polynomials modulo x^8 + x^4 + x^3 + x + 1 (FIPS 197, 4), and SubBytes of one byte.
use Rattle.std.specs.Prelude.{ℕ, zero, suc, ◌+◌, ◌-◌, ◌*◌, ◌/◌, ◌%◌, ◌^◌, ◌==◌, nat_lt, find, unwrap_or, bit_xor, sum_by, if◌then◌else◌}
use Rattle.std.specs.List.{range_with_len}

-- a byte times x (4.2)
unfoldable pub times_x : ℕ → ℕ
times_x b = if nat_lt b 128 then 2 * b else bit_xor (2 * b - 256) 0x1b

-- the product of the n low terms of a with b
unfoldable pub product_of_terms : ℕ → ℕ → ℕ → ℕ
product_of_terms zero a b = 0
product_of_terms (suc n) a b =
    bit_xor (if a % 2 == 1 then b else 0) (product_of_terms n (a / 2) (times_x b))

-- the product of two bytes (4.2)
unfoldable pub product : ℕ → ℕ → ℕ
product a b = product_of_terms 8 a b

-- the multiplicative inverse of a byte, and 0 of 0
unfoldable pub inverse : ℕ → ℕ
inverse b = unwrap_or (find (λ a. product a b == 1) (range_with_len 0 256)) 0

-- bit i of a byte, bit 0 lowest
abbrev pub bit_of : ℕ → ℕ → ℕ
bit_of b i = (b / 2 ^ i) % 2

-- bit i after the affine map of SubBytes (5.1.1)
abbrev pub affine_bit : ℕ → ℕ → ℕ
affine_bit b i =
    (bit_of b i + bit_of b ((i + 4) % 8) + bit_of b ((i + 5) % 8) + bit_of b ((i + 6) % 8)
    + bit_of b ((i + 7) % 8) + bit_of 0x63 i) % 2

unfoldable pub affine : ℕ → ℕ
affine b = sum_by (λ i. affine_bit b i * 2 ^ i) (range_with_len 0 8)

-- SubBytes of one byte: the inverse, and then the affine map (5.1.1)
unfoldable pub sub_byte : ℕ → ℕ
sub_byte b = affine (inverse b)
