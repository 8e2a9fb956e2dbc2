-- The steps of a round on words.
use Rattle.std.proofs.Common.{◌≡◌, ℕ, ◌+◌, ◌*◌, ◌<◌, ◌≤◌, List, [], ◌∷◌, ◌++◌, length, get_or, slice_index, refl, sym, ◌∙◌, ap}
use Rattle.std.specs.Prelude.{bit_xor}
use Rattle.std.specs.Int.{w32, to_be_bytes}
use Rattle.aes_block.specs.Field.{sub_byte}
use Rattle.aes_block.specs.Cipher.{xor_with, sub_bytes, shift_rows, mixed_cell, mixed_column, mix_columns, round_key}
use Rattle.aes_block.specs.Words.{bytes_of}
use Rattle.aes_block.specs.declared.tables.TheConstants.{FIRST_ROW, SECOND_ROW, THIRD_ROW, FOURTH_ROW}
use Rattle.aes_block.proofs.Entries.{FIRST_ROW-at, SECOND_ROW-at, THIRD_ROW-at, FOURTH_ROW-at}
use Rattle.aes_block.proofs.ListLemmas.{cells_of, four_at}
use Rattle.aes_block.proofs.WordLemmas.{to_be_bytes-xor, bytes_of-xor, bytes_of-four, round_key-bytes_of}

-- four words combined by exclusive or
to_be_bytes-xor_four : (a b c d : ℕ) (ps qs rs ts : List ℕ) →
    to_be_bytes w32 a ≡ ps → to_be_bytes w32 b ≡ qs → to_be_bytes w32 c ≡ rs → to_be_bytes w32 d ≡ ts →
    to_be_bytes w32 (bit_xor (bit_xor (bit_xor a b) c) d) ≡ xor_with (xor_with (xor_with ps qs) rs) ts
to_be_bytes-xor_four a b c d ps qs rs ts is-a is-b is-c is-d =
    to_be_bytes-xor (bit_xor (bit_xor a b) c) d
    ∙ ap (λ w. xor_with w (to_be_bytes w32 d)) (to_be_bytes-xor (bit_xor a b) c)
    ∙ ap (λ w. xor_with (xor_with w (to_be_bytes w32 c)) (to_be_bytes w32 d)) (to_be_bytes-xor a b)
    ∙ rw (is-a, is-b, is-c, is-d) refl

pub mixed_word-is : (a b c d : ℕ) → a < 256 → b < 256 → c < 256 → d < 256 →
    to_be_bytes w32
    (bit_xor (bit_xor (bit_xor (slice_index FIRST_ROW a) (slice_index SECOND_ROW b)) (slice_index THIRD_ROW c))
    (slice_index FOURTH_ROW d))
    ≡ mixed_column (sub_byte a) (sub_byte b) (sub_byte c) (sub_byte d)
unfolding xor_with mixed_cell
mixed_word-is a b c d below-a below-b below-c below-d =
    to_be_bytes-xor_four _ _ _ _ _ _ _ _ (FIRST_ROW-at a below-a) (SECOND_ROW-at b below-b)
    (THIRD_ROW-at c below-c)
    (FOURTH_ROW-at d below-d)

-- the bytes of a state's four words
pub record AreColumns (state ps qs rs ts : List ℕ) : Type 0 where
  pub len : length state ≡ 4
  pub first : ps ≡ to_be_bytes w32 (get_or state 0 0)
  pub second : qs ≡ to_be_bytes w32 (get_or state 1 0)
  pub third : rs ≡ to_be_bytes w32 (get_or state 2 0)
  pub fourth : ts ≡ to_be_bytes w32 (get_or state 3 0)

-- SubBytes of a byte of each row, from four columns
abbrev pub diagonal : List ℕ → List ℕ → List ℕ → List ℕ → List ℕ
diagonal ps qs rs ts =
    sub_byte (get_or ps 0 0) ∷ sub_byte (get_or qs 1 0) ∷ sub_byte (get_or rs 2 0) ∷ sub_byte (get_or ts 3 0) ∷
    []

abbrev pub mixed_diagonal : List ℕ → List ℕ → List ℕ → List ℕ → List ℕ
mixed_diagonal ps qs rs ts =
    mixed_column (sub_byte (get_or ps 0 0)) (sub_byte (get_or qs 1 0)) (sub_byte (get_or rs 2 0))
    (sub_byte (get_or ts 3 0))

-- what a step makes of each diagonal, one after another
abbrev along : (List ℕ → List ℕ → List ℕ → List ℕ → List ℕ) → List ℕ → List ℕ → List ℕ → List ℕ → List ℕ
along step ps qs rs ts =
    step ps qs rs ts ++ (step qs rs ts ps ++ (step rs ts ps qs ++ (step ts ps qs rs ++ [])))

pub bytes_of-shifted : (state ps qs rs ts : List ℕ) (a b c d : ℕ) → AreColumns state ps qs rs ts →
    to_be_bytes w32 a ≡ diagonal ps qs rs ts → to_be_bytes w32 b ≡ diagonal qs rs ts ps →
    to_be_bytes w32 c ≡ diagonal rs ts ps qs → to_be_bytes w32 d ≡ diagonal ts ps qs rs →
    bytes_of (a ∷ b ∷ c ∷ d ∷ []) ≡ shift_rows (sub_bytes (bytes_of state))
unfolding bytes_of sub_bytes shift_rows
bytes_of-shifted state ps qs rs ts a b c d columns is-a is-b is-c is-d =
    let all : along diagonal ps qs rs ts ≡ shift_rows (sub_bytes (bytes_of (four_at state 0))) =
    rw (columns.first, columns.second, columns.third, columns.fourth) refl in
    bytes_of-four a b c d _ _ _ _ is-a is-b is-c is-d
    ∙ all
    ∙ ap (λ s. shift_rows (sub_bytes (bytes_of s))) (sym (cells_of 4 state columns.len))

pub bytes_of-mixed : (state ps qs rs ts : List ℕ) (a b c d : ℕ) → AreColumns state ps qs rs ts →
    to_be_bytes w32 a ≡ mixed_diagonal ps qs rs ts → to_be_bytes w32 b ≡ mixed_diagonal qs rs ts ps →
    to_be_bytes w32 c ≡ mixed_diagonal rs ts ps qs → to_be_bytes w32 d ≡ mixed_diagonal ts ps qs rs →
    bytes_of (a ∷ b ∷ c ∷ d ∷ []) ≡ mix_columns (shift_rows (sub_bytes (bytes_of state)))
unfolding bytes_of sub_bytes shift_rows mixed_cell mix_columns
bytes_of-mixed state ps qs rs ts a b c d columns is-a is-b is-c is-d =
    let all : along mixed_diagonal ps qs rs ts ≡ mix_columns
    (shift_rows (sub_bytes (bytes_of (four_at state 0)))) =
    rw (columns.first, columns.second, columns.third, columns.fourth) refl in
    bytes_of-four a b c d _ _ _ _ is-a is-b is-c is-d
    ∙ all
    ∙ ap (λ s. mix_columns (shift_rows (sub_bytes (bytes_of s)))) (sym (cells_of 4 state columns.len))

pub bytes_of-with_round_key : (state words : List ℕ) (round k : ℕ) →
    length state ≡ 4 → 4 * round ≡ k → k + 4 ≤ length words →
    bytes_of (xor_with (four_at state 0) (four_at words k)) ≡ xor_with (bytes_of state)
    (round_key (bytes_of words) round)
bytes_of-with_round_key state words round k len at room =
    bytes_of-xor (four_at state 0) (four_at words k)
    ∙ ap (λ s. xor_with (bytes_of s) (bytes_of (four_at words k))) (sym (cells_of 4 state len))
    ∙ ap (xor_with (bytes_of state)) (sym (round_key-bytes_of words round k at room))
