-- AES-128 (FIPS 197, 5) on lists of bytes: a state is 16 bytes, row r and column c at place r + 4c (3.4).
use Rattle.std.specs.Prelude.{ℕ, zero, suc, ◌+◌, ◌-◌, ◌*◌, ◌/◌, ◌%◌, ◌==◌, List, [], ◌∷◌, ◌++◌, map, slice_index, slice_range, bit_xor, if◌then◌else◌}
use Rattle.std.specs.List.{range_with_len}
use Rattle.aes_block.specs.Field.{product, sub_byte}

abbrev pub State : Type 0
State = List ℕ

abbrev pub cell : State → ℕ → ℕ → ℕ
cell state r c = slice_index state (r + 4 * c)

-- the state with this byte in each row and column
abbrev pub state_by : (ℕ → ℕ → ℕ) → State
state_by byte = map (λ j. byte (j % 4) (j / 4)) (range_with_len 0 16)

-- two lists of one length, combined by exclusive or: AddRoundKey (5.1.4)
unfoldable pub xor_with : List ℕ → List ℕ → List ℕ
xor_with [] ys = []
xor_with (x ∷ xs) [] = []
xor_with (x ∷ xs) (y ∷ ys) = bit_xor x y ∷ xor_with xs ys

-- SubBytes (5.1.1)
unfoldable pub sub_bytes : State → State
sub_bytes state = map sub_byte state

-- ShiftRows: row r is rotated left by r (5.1.2)
unfoldable pub shift_rows : State → State
shift_rows state = state_by (λ r c. cell state r ((c + r) % 4))

-- the matrix whose first row is 02 03 01 01, each next row rotated right by one (5.1.3)
abbrev pub mix_factor : ℕ → ℕ → ℕ
mix_factor r i = slice_index (2 ∷ 3 ∷ 1 ∷ 1 ∷ []) ((i + 4 - r) % 4)

abbrev pub mix_term : State → ℕ → ℕ → ℕ → ℕ
mix_term state r c i = product (mix_factor r i) (cell state i c)

-- row r of the matrix times column c
unfoldable pub mixed_cell : State → ℕ → ℕ → ℕ
mixed_cell state r c =
    bit_xor (bit_xor (bit_xor (mix_term state r c 0) (mix_term state r c 1)) (mix_term state r c 2))
    (mix_term state r c 3)

-- MixColumns (5.1.3)
unfoldable pub mix_columns : State → State
mix_columns state = state_by (mixed_cell state)

-- MixColumns of one column
abbrev pub mixed_column : ℕ → ℕ → ℕ → ℕ → List ℕ
mixed_column a b c d = map (λ r. mixed_cell (a ∷ b ∷ c ∷ d ∷ []) r 0) (range_with_len 0 4)

-- ---- key expansion (5.2): words of 4 bytes

-- the first bytes of Rcon[1] to Rcon[10], whose others are 0
abbrev pub round_constants : List ℕ
round_constants =
    0x01 ∷ 0x02 ∷ 0x04 ∷ 0x08 ∷ 0x10 ∷ 0x20 ∷ 0x40 ∷ 0x80 ∷ 0x1b ∷ 0x36 ∷ []

-- RotWord
abbrev pub rotated_word : List ℕ → List ℕ
rotated_word [] = []
rotated_word (b ∷ word) = word ++ b ∷ []

-- word i of bytes
abbrev pub word_of : List ℕ → ℕ → List ℕ
word_of bytes i = slice_range bytes (4 * i) (4 * i + 4)

-- what word i - 4 is combined with, from the word before word i
unfoldable pub temporary : List ℕ → ℕ → List ℕ
temporary previous i =
    if i % 4 == 0
    then
    xor_with (map sub_byte (rotated_word previous))
    (slice_index round_constants (i / 4 - 1) ∷ 0 ∷ 0 ∷ 0 ∷ [])
    else previous

-- n + 4 words with the next one after them
unfoldable pub with_next_word : ℕ → List ℕ → List ℕ
with_next_word n bytes =
    bytes ++ xor_with (word_of bytes n) (temporary (word_of bytes (n + 3)) (n + 4))

-- the bytes of the key's 4 words and n more
unfoldable pub expanded_key : List ℕ → ℕ → List ℕ
expanded_key key zero = key
expanded_key key (suc n) = with_next_word n (expanded_key key n)

-- words 4n to 4n + 3
unfoldable pub round_key : List ℕ → ℕ → List ℕ
round_key words n = slice_range words (16 * n) (16 * n + 16)

-- ---- the cipher (5.1)

-- the state after the initial AddRoundKey and n whole rounds
unfoldable pub after_rounds : List ℕ → State → ℕ → State
after_rounds words block zero = xor_with block (round_key words 0)
after_rounds words block (suc n) =
    xor_with (mix_columns (shift_rows (sub_bytes (after_rounds words block n)))) (round_key words (n + 1))

-- the last round has no MixColumns
unfoldable pub aes128_under : List ℕ → State → State
aes128_under words block =
    xor_with (shift_rows (sub_bytes (after_rounds words block 9))) (round_key words 10)

-- the block encrypted under the key
unfoldable pub aes128_of : List ℕ → List ℕ → List ℕ
aes128_of key block = aes128_under (expanded_key key 40) block
