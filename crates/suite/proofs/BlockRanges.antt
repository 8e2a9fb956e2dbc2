-- A block encrypted under a key of 16 bytes is 16 bytes.
use Rattle.std.proofs.Common.{ℕ, zero, suc, ◌≡◌, ◌<◌, ◌+◌, ◌-◌, ◌*◌, ◌/◌, ◌%◌, ◌^◌, ◌==◌, true, false, List, [], ◌∷◌, ◌++◌, length, map, drop, refl, ◌∙◌, arith, rules, length-append}
use Rattle.std.specs.Prelude.{bit_xor, slice_index, slice_range, sum_by, if◌then◌else◌}
use Rattle.std.specs.List.{range_with_len}
use Rattle.std.proofs.lemmas.Nat.{xor_of_8, mod_below}
use Rattle.std.proofs.lemmas.List.{length-map}
use Rattle.std.proofs.lemmas.List.Elements.{All-nil, All-cons, All-head, All-tail, All-append, All-take, All-drop, All-map, All-replicate, All-from_recursion}
use Rattle.std.proofs.lemmas.List.FromFn.{length-map-range_with_len}
use Rattle.aes_block.specs.Field.{affine, affine_bit, inverse, sub_byte}
use Rattle.aes_block.specs.Cipher.{State, cell, xor_with, sub_bytes, shift_rows, round_constants, rotated_word, word_of, temporary, with_next_word, expanded_key, round_key, after_rounds, aes128_under, aes128_of}
use Rattle.pmem_base.specs.Lines.{AreBytes}
use Rattle.pmem_base.proofs.Parts.{length-part}
use Rattle.suite.proofs.ByteLemmas.{get_or-below}

-- ---- bytes

sum_of_bits : (bit : ℕ → ℕ) → ((i : ℕ) → bit i < 2) → sum_by (λ i. bit i * 2 ^ i) (range_with_len 0 8) < 256
sum_of_bits bit small =
    omega (arith, small 0, small 1, small 2, small 3, small 4, small 5, small 6, small 7)

affine-below : (b : ℕ) → affine b < 256
unfolding affine
affine-below b = sum_of_bits (affine_bit b) (λ i. mod_below _ 2 (omega arith))

sub_byte-below : (b : ℕ) → sub_byte b < 256
unfolding sub_byte
sub_byte-below b = affine-below (inverse b)

substituted-AreBytes : (bytes : List ℕ) → AreBytes (map sub_byte bytes)
substituted-AreBytes bytes = All-map (λ b. b < 256) sub_byte bytes (λ k d inside. sub_byte-below _)

xor_with-AreBytes : (xs ys : List ℕ) → AreBytes xs → AreBytes ys → AreBytes (xor_with xs ys)
unfolding xor_with
xor_with-AreBytes [] ys one two = All-nil (λ b. b < 256)
xor_with-AreBytes (x ∷ xs) [] one two = All-nil (λ b. b < 256)
xor_with-AreBytes (x ∷ xs) (y ∷ ys) one two =
    All-cons (λ b. b < 256) (bit_xor x y) (xor_with xs ys)
    (xor_of_8 x y (All-head (λ b. b < 256) x xs one) (All-head (λ b. b < 256) y ys two))
    (xor_with-AreBytes xs ys (All-tail (λ b. b < 256) x xs one) (All-tail (λ b. b < 256) y ys two))

length-xor_with : (xs ys : List ℕ) (n : ℕ) → length xs ≡ n → length ys ≡ n → length (xor_with xs ys) ≡ n
unfolding xor_with
length-xor_with [] ys n one two = one
length-xor_with (x ∷ xs) [] n one two = absurd (omega (arith, one, two))
length-xor_with (x ∷ xs) (y ∷ ys) zero one two = absurd (omega (arith, one))
length-xor_with (x ∷ xs) (y ∷ ys) (suc n) one two =
    let rest : length (xor_with xs ys) ≡ n = length-xor_with xs ys n (omega (arith, one)) (omega (arith, two)) in
    omega (arith, rest)

-- a part of a list
slice_range-AreBytes : (bytes : List ℕ) (i j : ℕ) → AreBytes bytes → AreBytes (slice_range bytes i j)
slice_range-AreBytes bytes i j small =
    All-take (λ b. b < 256) (j - i) (drop i bytes) (All-drop (λ b. b < 256) i bytes small)

-- ---- the key's words

constants-AreBytes : AreBytes round_constants
constants-AreBytes = All-from_recursion (λ b. b < 256) round_constants (search rules)

temporary-AreBytes : (previous : List ℕ) (i : ℕ) → AreBytes previous → AreBytes (temporary previous i)
unfolding temporary
temporary-AreBytes previous i small =
    elim (i % 4 == 0) as (λ t.
    AreBytes (if t
    then xor_with (map sub_byte (rotated_word previous)) (slice_index round_constants (i / 4 - 1) ∷ 0 ∷ 0 ∷ 0 ∷ [])
    else previous)) [
      | true ↦ xor_with-AreBytes (map sub_byte (rotated_word previous))
          (slice_index round_constants (i / 4 - 1) ∷ 0 ∷ 0 ∷ 0 ∷ [])
          (substituted-AreBytes (rotated_word previous))
          (All-cons (λ b. b < 256) (slice_index round_constants (i / 4 - 1)) (0 ∷ 0 ∷ 0 ∷ [])
          (get_or-below round_constants (i / 4 - 1) constants-AreBytes)
          (All-replicate (λ b. b < 256) 3 0 (omega arith)))
      | false ↦ small
    ]

length-rotated : (word : List ℕ) → length (map sub_byte (rotated_word word)) ≡ length word
length-rotated [] = refl
length-rotated (b ∷ word) =
    length-map (word ++ b ∷ []) sub_byte ∙ omega (arith, length-append word (b ∷ []))

length-temporary : (previous : List ℕ) (i : ℕ) → length previous ≡ 4 → length (temporary previous i) ≡ 4
unfolding temporary
length-temporary previous i long =
    elim (i % 4 == 0) as (λ t.
    length (if t
    then xor_with (map sub_byte (rotated_word previous)) (slice_index round_constants (i / 4 - 1) ∷ 0 ∷ 0 ∷ 0 ∷ [])
    else previous) ≡ 4) [
      | true ↦ length-xor_with (map sub_byte (rotated_word previous))
          (slice_index round_constants (i / 4 - 1) ∷ 0 ∷ 0 ∷ 0 ∷ []) 4 (length-rotated previous ∙ long) refl
      | false ↦ long
    ]

expanded_key-AreBytes : (key : List ℕ) (n : ℕ) → AreBytes key → AreBytes (expanded_key key n)
unfolding expanded_key with_next_word
expanded_key-AreBytes key zero small = small
expanded_key-AreBytes key (suc n) small =
    let bytes = expanded_key key n in
    let before : AreBytes bytes = expanded_key-AreBytes key n small in
    All-append (λ b. b < 256) bytes (xor_with (word_of bytes n) (temporary (word_of bytes (n + 3)) (n + 4)))
    before
    (xor_with-AreBytes (word_of bytes n) (temporary (word_of bytes (n + 3)) (n + 4))
    (slice_range-AreBytes bytes (4 * n) (4 * n + 4) before)
    (temporary-AreBytes (word_of bytes (n + 3)) (n + 4)
    (slice_range-AreBytes bytes (4 * (n + 3)) (4 * (n + 3) + 4) before)))

length-expanded_key : (key : List ℕ) (n : ℕ) → length key ≡ 16 → length (expanded_key key n) ≡ 16 + 4 * n
unfolding expanded_key with_next_word
length-expanded_key key zero long = long
length-expanded_key key (suc n) long =
    let bytes = expanded_key key n in
    let before : length bytes ≡ 16 + 4 * n = length-expanded_key key n long in
    let next = xor_with (word_of bytes n) (temporary (word_of bytes (n + 3)) (n + 4)) in
    let more : length next ≡ 4 =
    length-xor_with (word_of bytes n) (temporary (word_of bytes (n + 3)) (n + 4)) 4
    (length-part bytes (4 * n) 4 (omega (arith, before)))
    (length-temporary (word_of bytes (n + 3)) (n + 4)
    (length-part bytes (4 * (n + 3)) 4 (omega (arith, before)))) in
    omega (arith, length-append bytes next, before, more)

-- ---- the last round

shifted-AreBytes : (state : State) → AreBytes state → AreBytes (shift_rows state)
unfolding shift_rows
shifted-AreBytes state small =
    All-map (λ b. b < 256) (λ j. cell state (j % 4) ((j / 4 + j % 4) % 4)) (range_with_len 0 16)
    (λ k d inside. get_or-below state _ small)

length-shifted : (state : State) → length (shift_rows state) ≡ 16
unfolding shift_rows
length-shifted state = length-map-range_with_len (λ j. cell state (j % 4) ((j / 4 + j % 4) % 4)) 0 16

substituted_state-AreBytes : (state : State) → AreBytes (sub_bytes state)
unfolding sub_bytes
substituted_state-AreBytes state = substituted-AreBytes state

module _ (key block : List ℕ) (long : length key ≡ 16) where
  last_key-long : length (round_key (expanded_key key 40) 10) ≡ 16
  unfolding round_key
  last_key-long =
      length-part (expanded_key key 40) 160 16 (omega (arith, length-expanded_key key 40 long))

  pub length-aes128_of : length (aes128_of key block) ≡ 16
  unfolding aes128_of aes128_under
  length-aes128_of =
      length-xor_with (shift_rows (sub_bytes (after_rounds (expanded_key key 40) block 9)))
      (round_key (expanded_key key 40) 10) 16
      (length-shifted (sub_bytes (after_rounds (expanded_key key 40) block 9)))
      last_key-long

round_key-AreBytes : (words : List ℕ) (n : ℕ) → AreBytes words → AreBytes (round_key words n)
unfolding round_key
round_key-AreBytes words n small = slice_range-AreBytes words (16 * n) (16 * n + 16) small

pub aes128_of-AreBytes : (key block : List ℕ) → AreBytes key → AreBytes (aes128_of key block)
unfolding aes128_of aes128_under
aes128_of-AreBytes key block small =
    let words = expanded_key key 40 in
    let state = sub_bytes (after_rounds words block 9) in
    xor_with-AreBytes (shift_rows state) (round_key words 10)
    (shifted-AreBytes state (substituted_state-AreBytes (after_rounds words block 9)))
    (round_key-AreBytes words 10 (expanded_key-AreBytes key 40 small))
