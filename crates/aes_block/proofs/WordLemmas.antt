-- Words and their bytes.
use Rattle.std.proofs.Common.{◌≡◌, ℕ, zero, suc, ◌+◌, ◌-◌, ◌*◌, ◌/◌, ◌%◌, ◌^◌, ◌<◌, ◌≤◌, List, [], ◌∷◌, ◌++◌, length, get_or, take, drop, refl, sym, ◌∙◌, ap, arith, lit<}
use Rattle.std.specs.Prelude.{bit_xor}
use Rattle.std.specs.Int.{w32, to_be_bytes, from_be_bytes}
use Rattle.std.proofs.lemmas.Nat.{be_bytes_4, from_be_bytes-to_be_bytes_4, xor_shr, xor_mod}
use Rattle.std.proofs.lemmas.List.{drop-drop, drop_more, drop_all}
use Rattle.aes_block.specs.Cipher.{xor_with, word_of, round_key}
use Rattle.aes_block.specs.Words.{bytes_of, words_of_bytes}
use Rattle.aes_block.proofs.ListLemmas.{cells_of, four_at, drop-four_at}

-- ---- one word

four-below : (a b c d : ℕ) → a < 256 → b < 256 → c < 256 → d < 256 →
    (i : ℕ) → get_or (a ∷ b ∷ c ∷ d ∷ []) i 0 < 256
four-below a b c d below-a below-b below-c below-d zero = below-a
four-below a b c d below-a below-b below-c below-d (suc zero) = below-b
four-below a b c d below-a below-b below-c below-d (suc (suc zero)) = below-c
four-below a b c d below-a below-b below-c below-d (suc (suc (suc zero))) = below-d
four-below a b c d below-a below-b below-c below-d (suc (suc (suc (suc i)))) = lit< tt

-- the bytes of a word that is made of four bytes
pub to_be_bytes-from : (a b c d word : ℕ) → a < 256 → b < 256 → c < 256 → d < 256 →
    word ≡ from_be_bytes w32 (a ∷ b ∷ c ∷ d ∷ []) → to_be_bytes w32 word ≡ a ∷ b ∷ c ∷ d ∷ []
to_be_bytes-from a b c d word below-a below-b below-c below-d e =
    be_bytes_4 (a ∷ b ∷ c ∷ d ∷ []) word refl (four-below a b c d below-a below-b below-c below-d) e

byte-xor : (k a b : ℕ) →
    bit_xor a b / 2 ^ k % 2 ^ 8 ≡ bit_xor (a / 2 ^ k % 2 ^ 8) (b / 2 ^ k % 2 ^ 8)
byte-xor k a b = ap (λ n. n % 2 ^ 8) (xor_shr a b k) ∙ xor_mod (a / 2 ^ k) (b / 2 ^ k) 8

pub to_be_bytes-xor : (a b : ℕ) →
    to_be_bytes w32 (bit_xor a b) ≡ xor_with (to_be_bytes w32 a) (to_be_bytes w32 b)
unfolding xor_with
to_be_bytes-xor a b = rw (byte-xor 24 a b, byte-xor 16 a b, byte-xor 8 a b, xor_mod a b 8) refl

-- ---- lists of words

pub bytes_of-append : (xs ys : List ℕ) → bytes_of (xs ++ ys) ≡ bytes_of xs ++ bytes_of ys
unfolding bytes_of
bytes_of-append [] ys = refl
bytes_of-append (x ∷ xs) ys = ap (λ bytes. to_be_bytes w32 x ++ bytes) (bytes_of-append xs ys)

pub bytes_of-xor : (words keys : List ℕ) →
    bytes_of (xor_with words keys) ≡ xor_with (bytes_of words) (bytes_of keys)
unfolding bytes_of xor_with
bytes_of-xor [] keys = refl
bytes_of-xor (word ∷ words) [] = refl
bytes_of-xor (word ∷ words) (key ∷ keys) =
    ap (λ bytes. bytes ++ bytes_of (xor_with words keys)) (to_be_bytes-xor word key)
    ∙ ap (λ bytes. xor_with (to_be_bytes w32 word) (to_be_bytes w32 key) ++ bytes)
    (bytes_of-xor words keys)

pub drop-bytes_of : (k : ℕ) (words : List ℕ) → drop (4 * k) (bytes_of words) ≡ bytes_of (drop k words)
unfolding bytes_of
drop-bytes_of zero words = refl
drop-bytes_of (suc k) [] = drop_all (4 * suc k) [] (omega arith)
drop-bytes_of (suc k) (word ∷ words) =
    let e : 4 * suc k ≡ 4 + 4 * k = omega arith in
    ap (λ n. drop n (bytes_of (word ∷ words))) e
    ∙ sym (drop-drop (4 * k) 4 (bytes_of (word ∷ words)))
    ∙ drop-bytes_of k words

pub word_of-bytes_of : (words : List ℕ) (i : ℕ) → i < length words →
    word_of (bytes_of words) i ≡ to_be_bytes w32 (get_or words i 0)
unfolding bytes_of
word_of-bytes_of words i below =
    let e : 4 * i + 4 - 4 * i ≡ 4 = omega arith in
    ap (λ n. take n (drop (4 * i) (bytes_of words))) e
    ∙ ap (take 4) (drop-bytes_of i words ∙ ap bytes_of (drop_more words i 0 below))

pub round_key-bytes_of : (words : List ℕ) (round k : ℕ) → 4 * round ≡ k → k + 4 ≤ length words →
    round_key (bytes_of words) round ≡ bytes_of (four_at words k)
unfolding bytes_of round_key
round_key-bytes_of words round k at room =
    let e : 16 * round + 16 - 16 * round ≡ 16 = omega arith in
    let start : 16 * round ≡ 4 * k = omega arith in
    ap (λ n. take n (drop (16 * round) (bytes_of words))) e
    ∙ ap (λ n. take 16 (drop n (bytes_of words))) start
    ∙ ap (take 16) (drop-bytes_of k words ∙ ap bytes_of (drop-four_at words k room))

pub words_of-bytes_of : (words : List ℕ) → ((i : ℕ) → get_or words i 0 < 2 ^ 32) →
    words_of_bytes (bytes_of words) ≡ words
unfolding bytes_of words_of_bytes
words_of-bytes_of [] below = refl
words_of-bytes_of (word ∷ words) below =
    ap (λ w. w ∷ words_of_bytes (bytes_of words)) (from_be_bytes-to_be_bytes_4 word (below 0))
    ∙ ap (λ ws. word ∷ ws) (words_of-bytes_of words (λ i. below (suc i)))

-- ---- four words

-- the bytes of four words, word by word
pub bytes_of-four : (a b c d : ℕ) (ps qs rs ts : List ℕ) →
    to_be_bytes w32 a ≡ ps → to_be_bytes w32 b ≡ qs → to_be_bytes w32 c ≡ rs → to_be_bytes w32 d ≡ ts →
    bytes_of (a ∷ b ∷ c ∷ d ∷ []) ≡ ps ++ (qs ++ (rs ++ (ts ++ [])))
unfolding bytes_of
bytes_of-four a b c d ps qs rs ts is-a is-b is-c is-d =
    ap (λ bytes. bytes ++ bytes_of (b ∷ c ∷ d ∷ [])) is-a
    ∙ ap (λ bytes. ps ++ (bytes ++ bytes_of (c ∷ d ∷ []))) is-b
    ∙ ap (λ bytes. ps ++ (qs ++ (bytes ++ bytes_of (d ∷ [])))) is-c
    ∙ ap (λ bytes. ps ++ (qs ++ (rs ++ (bytes ++ [])))) is-d

-- the bytes of four words that are read from 16 bytes
pub bytes_of-load : (bytes : List ℕ) → length bytes ≡ 16 → ((i : ℕ) → get_or bytes i 0 < 256) → (a b c d : ℕ) →
    a ≡ from_be_bytes w32 (four_at bytes 0) → b ≡ from_be_bytes w32 (four_at bytes 4) →
    c ≡ from_be_bytes w32 (four_at bytes 8) → d ≡ from_be_bytes w32 (four_at bytes 12) →
    bytes_of (a ∷ b ∷ c ∷ d ∷ []) ≡ bytes
bytes_of-load bytes len below a b c d is-a is-b is-c is-d =
    let word : (k w : ℕ) → w ≡ from_be_bytes w32 (four_at bytes k) → to_be_bytes w32 w ≡ four_at bytes k =
    λ k w. to_be_bytes-from _ _ _ _ w (below k) (below (k + 1)) (below (k + 2)) (below (k + 3)) in
    bytes_of-four a b c d _ _ _ _ (word 0 a is-a) (word 4 b is-b) (word 8 c is-c) (word 12 d is-d)
    ∙ sym (cells_of 16 bytes len)
