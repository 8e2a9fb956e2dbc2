-- The key expansion, word by word.
use Rattle.std.proofs.Common.{◌≡◌, ◌≢◌, ℕ, zero, suc, ◌+◌, ◌-◌, ◌/◌, ◌%◌, ◌^◌, ◌<◌, ◌≤◌, List, [], ◌∷◌, ◌++◌, length, get_or, set, take, replicate, refl, sym, subst, inl, inr, lit<, ◌∙◌, ap, arith, length-append, take_all}
use Rattle.std.specs.Prelude.{bit_xor, slice_index}
use Rattle.std.specs.Int.{w32, to_be_bytes}
use Rattle.std.specs.Int.Bits.{xor_zero_r}
use Rattle.std.proofs.lemmas.List.{take_more_set, get_or-take, length-take-le, take-append-le, get_or-set_same, get_or-set_other}
use Rattle.std.proofs.lemmas.Bool.{ne_eqb, cases_eq}
use Rattle.aes_block.specs.Field.{sub_byte}
use Rattle.aes_block.specs.Cipher.{xor_with, word_of, temporary, with_next_word, expanded_key, round_constants}
use Rattle.aes_block.specs.Words.{bytes_of, key_of, IsExpanded}
use Rattle.aes_block.proofs.WordLemmas.{to_be_bytes-xor, bytes_of-append, word_of-bytes_of, words_of-bytes_of}

pub temporary-fourth : (a b c d i : ℕ) → i % 4 ≡ 0 →
    temporary (a ∷ b ∷ c ∷ d ∷ []) i
    ≡ bit_xor (sub_byte b) (slice_index round_constants (i / 4 - 1)) ∷ sub_byte c ∷ sub_byte d ∷ sub_byte a ∷ []
unfolding temporary xor_with
temporary-fourth a b c d i e =
    rw (e, xor_zero_r (sub_byte c), xor_zero_r (sub_byte d), xor_zero_r (sub_byte a)) refl

pub temporary-other : (previous : List ℕ) (i : ℕ) → i % 4 ≢ 0 → temporary previous i ≡ previous
unfolding temporary
temporary-other previous i ne = rw (ne_eqb (i % 4) 0 ne) refl

-- one more word of the expansion
pub expanded_key-more : (key words : List ℕ) (i n word t : ℕ) → n + 4 ≡ i → i < length words →
    bytes_of (take i words) ≡ expanded_key key n → word ≡ bit_xor (get_or words n 0) t →
    to_be_bytes w32 t ≡ temporary (to_be_bytes w32 (get_or words (n + 3) 0)) i →
    bytes_of (take (i + 1) (set words i word)) ≡ expanded_key key (suc n)
unfolding expanded_key with_next_word bytes_of
expanded_key-more key words i n word t at in' so-far is-word is-t =
    let len : length (take i words) ≡ i = length-take-le i words (omega arith) in
    let bytes = bytes_of (take i words) in
    let read : (j : ℕ) → j < i → word_of bytes j ≡ to_be_bytes w32 (get_or words j 0) =
    λ j below.
    word_of-bytes_of (take i words) j (omega arith) ∙ ap (to_be_bytes w32) (get_or-take i words j 0 below) in
    let first : word_of bytes n ≡ to_be_bytes w32 (get_or words n 0) = read n (omega arith) in
    let last : word_of bytes (n + 3) ≡ to_be_bytes w32 (get_or words (n + 3) 0) = read (n + 3) (omega arith) in
    let next : to_be_bytes w32 word ≡ xor_with (word_of bytes n) (temporary (word_of bytes (n + 3)) (n + 4)) =
    ap (to_be_bytes w32) is-word
    ∙ to_be_bytes-xor (get_or words n 0) t
    ∙ rw (is-t, first, last, at) refl in
    ap bytes_of (take_more_set words i word in')
    ∙ bytes_of-append (take i words) (word ∷ [])
    ∙ ap (λ w. bytes ++ w) next
    ∙ ap (with_next_word n) so-far

-- an expansion begins with the key
pub take-expanded_key : (key : List ℕ) (n : ℕ) → length key ≡ 16 →
    (take 16 (expanded_key key n) ≡ key) × (16 ≤ length (expanded_key key n))
unfolding expanded_key with_next_word
take-expanded_key key zero len = (take_all 16 key (omega arith), omega arith)
take-expanded_key key (suc n) len =
    let before = take-expanded_key key n len in
    let bytes = expanded_key key n in
    let more = xor_with (word_of bytes n) (temporary (word_of bytes (n + 3)) (n + 4)) in
    (take-append-le 16 bytes more before.1 ∙ before.0, omega (arith, length-append bytes more, before.1))

pub bytes_of-expanded : (key words : List ℕ) (i : ℕ) → length words ≡ 44 → i ≡ 44 →
    bytes_of (take i words) ≡ expanded_key key (i - 4) → bytes_of words ≡ expanded_key key 40
bytes_of-expanded key words i len end so-far =
    sym (ap bytes_of (take_all 44 words (omega arith)))
    ∙ subst (λ j. bytes_of (take j words) ≡ expanded_key key (j - 4)) end so-far

pub key_of-expanded : (key words : List ℕ) → length key ≡ 16 → bytes_of words ≡ expanded_key key 40 →
    key_of words ≡ key
unfolding key_of
key_of-expanded key words len e = ap (take 16) e ∙ (take-expanded_key key 40 len).0

pub IsExpanded-from : (key words : List ℕ) → length key ≡ 16 → ((k : ℕ) → get_or words k 0 < 2 ^ 32) →
    bytes_of words ≡ expanded_key key 40 → IsExpanded words
IsExpanded-from key words len below e = record {
  expanded = e ∙ ap (λ k. expanded_key k 40) (sym (key_of-expanded key words len e));
  in_range = words_of-bytes_of words below;
}

-- ---- the words stay below 2^32

get_or-zeros : (n k : ℕ) → get_or (replicate n 0) k 0 < 2 ^ 32
get_or-zeros zero k = lit< tt
get_or-zeros (suc n) zero = lit< tt
get_or-zeros (suc n) (suc k) = get_or-zeros n k

pub in_range-first : (a b c d : ℕ) → a < 2 ^ 32 → b < 2 ^ 32 → c < 2 ^ 32 → d < 2 ^ 32 → (k : ℕ) →
    get_or (a ∷ b ∷ c ∷ d ∷ replicate 40 0) k 0 < 2 ^ 32
in_range-first a b c d below-a below-b below-c below-d zero = below-a
in_range-first a b c d below-a below-b below-c below-d (suc zero) = below-b
in_range-first a b c d below-a below-b below-c below-d (suc (suc zero)) = below-c
in_range-first a b c d below-a below-b below-c below-d (suc (suc (suc zero))) = below-d
in_range-first a b c d below-a below-b below-c below-d (suc (suc (suc (suc k)))) = get_or-zeros 40 k

pub in_range-set : (words : List ℕ) (i word : ℕ) → i < length words → ((k : ℕ) → get_or words k 0 < 2 ^ 32) →
    word < 2 ^ 32 → (k : ℕ) → get_or (set words i word) k 0 < 2 ^ 32
in_range-set words i word in' below small k =
    elim (cases_eq k i) [
      | inl same ↦ subst (λ n. n < 2 ^ 32)
          (sym (ap (λ j. get_or (set words i word) j 0) same ∙ get_or-set_same words i word 0 in')) small
      | inr other ↦ subst (λ n. n < 2 ^ 32) (sym (get_or-set_other words i k word 0 other)) (below k)
    ]
