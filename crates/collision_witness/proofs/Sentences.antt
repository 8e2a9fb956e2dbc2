-- The words of a sentence, and the numbers and bytes that they spell.
use Rattle.std.proofs.Common.{◌≡◌, ◌∙◌, ◌+◌, ◌-◌, ◌/◌, ◌%◌, ◌^◌, ◌<◌, ◌≤◌, ◌==◌, ℕ, true, false, List, [], ◌∷◌, ◌++◌, length, get_or, refl, sym, ap, arith, inl, inr, rules, length-append}
use Rattle.std.specs.Prelude.{All, Some, None, Result, Ok, ⊤, decimal, filter, is_some, nat_lt}
use Rattle.std.specs.List.{slice_split, list_all}
use Rattle.std.specs.Char.{is_ascii_digit}
use Rattle.std.proofs.lemmas.Bool.{cases_lt, ltb-true, le-leb, lt-leb, ne_eqb}
use Rattle.std.proofs.lemmas.Bool.Decides.{nat_tests}
use Rattle.std.proofs.lemmas.Fmt.{decimal_nonempty, decimal_by_steps, digits_decimal, digits_value-decimal}
use Rattle.std.proofs.lemmas.List.{get_or_past}
use Rattle.std.proofs.lemmas.List.Elements.{All-nil, All-cons, All-head, All-tail, All-append}
use Rattle.std.proofs.lemmas.List.Splits.{slice_split_at, slice_split_none}
use Rattle.std.proofs.lemmas.List.Sums.{AllPass-from_list_all}
use Rattle.hex.specs.Hex.{lower_digits, encode_with, hex_digit_value}
use Rattle.hex.proofs.HexLemmas.{IsDigits-lower_digits, length-encode_with, decode_sized-encode_lower}
use Rattle.pmem_base.specs.declared.lines.Line.{Line}
use Rattle.pmem_base.specs.declared.commands.Kind.{Kind}
use Rattle.pmem_base.specs.Lines.{AreBytes, IsLine, IsTag}
use Rattle.collision_witness.specs.Words.{Word, is_gap, has_a_byte, words_of, without_return, is_numeral, number_up_to, bytes_decoded, hex_bytes, hex_line, ◌>>=◌}
use Rattle.collision_witness.specs.Texts.{sentence, hex_text, line_text}
use Rattle.collision_witness.specs.Reading.{is_dot}
use Rattle.collision_witness.proofs.NumberLemmas.{own, same_test, digits_of_word}
use Rattle.collision_witness.proofs.WordLemmas.{keeps_word}

-- each byte is above a space
abbrev pub IsAboveSpace : ℕ → Type 0
IsAboveSpace b = 32 < b

-- a word of such bytes
pub record IsSolid (word : Word) : Type 0 where
  pub some : 0 < length word
  pub above : All IsAboveSpace word

abbrev pub AreSolid : List Word → Type 0
AreSolid [] = ⊤
AreSolid (word ∷ words) = IsSolid word × AreSolid words

above-no_gap : (b : ℕ) → 32 < b → is_gap b ≡ false
above-no_gap b above = grind (arith, nat_tests)

-- ---- the words of a sentence

words_of-one : (word : Word) → IsSolid word → words_of word ≡ word ∷ []
unfolding words_of
words_of-one word solid =
    ap (filter has_a_byte) (slice_split_none is_gap word (λ k d h. above-no_gap _ (solid.above k d h)))
    ∙ keeps_word word [] solid.some

words_of-more : (word rest : List ℕ) → IsSolid word → words_of (word ++ 32 ∷ rest) ≡ word ∷ words_of rest
unfolding words_of
words_of-more word rest solid =
    ap (filter has_a_byte) (slice_split_at is_gap word 32 rest (λ k d h. above-no_gap _ (solid.above k d h)) refl)
    ∙ keeps_word word (slice_split is_gap rest) solid.some

pub words_of-sentence : (word : Word) (words : List Word) → IsSolid word → AreSolid words → words_of (sentence (word ∷ words)) ≡ word ∷ words
words_of-sentence word [] solid all = words_of-one word solid
words_of-sentence word (next ∷ words) solid all =
    words_of-more word (sentence (next ∷ words)) solid
    ∙ ap (λ others. word ∷ others) (words_of-sentence next words all.0 all.1)

-- ---- a sentence has no CR at its end

abbrev pub IsNoReturn : ℕ → Type 0
IsNoReturn b = (b == 13) ≡ false

above-no_return : (b : ℕ) → 32 < b → IsNoReturn b
above-no_return b above = ne_eqb b 13 (λ same. omega (arith, above, same))

word-no_return : (word : Word) → IsSolid word → All IsNoReturn word
word-no_return word solid = λ k d h. above-no_return _ (solid.above k d h)

pub sentence-no_return : (word : Word) (words : List Word) → IsSolid word → AreSolid words → All IsNoReturn (sentence (word ∷ words))
sentence-no_return word [] solid all = word-no_return word solid
sentence-no_return word (next ∷ words) solid all =
    All-append IsNoReturn word (32 ∷ sentence (next ∷ words)) (word-no_return word solid)
    (All-cons IsNoReturn 32 (sentence (next ∷ words)) refl (sentence-no_return next words all.0 all.1))

pub sentence-some : (word : Word) (words : List Word) → IsSolid word → 0 < length (sentence (word ∷ words))
sentence-some word [] solid = solid.some
sentence-some word (next ∷ words) solid =
    rw (length-append word (32 ∷ sentence (next ∷ words))) (omega (arith, solid.some))

pub without_return-none : (text : List ℕ) → 0 < length text → All IsNoReturn text → without_return text ≡ text
unfolding without_return
without_return-none text some none =
    let last : (get_or text (length text - 1) 0 == 13) ≡ false = none (length text - 1) 0 (omega (arith, some)) in
    rw last refl

-- ---- numbers

abbrev IsAboveDot : ℕ → Type 0
IsAboveDot b = 46 < b

decimal-above : (n : ℕ) → n < 2 ^ 64 → All IsAboveDot (decimal n)
decimal-above n small =
    decimal_by_steps (λ n digits. All IsAboveDot digits)
    (λ n h. All-cons IsAboveDot (48 + n) [] (omega arith) (All-nil IsAboveDot))
    (λ n digits h before.
    All-append IsAboveDot digits ((48 + n % 10) ∷ []) before
    (All-cons IsAboveDot (48 + n % 10) [] (omega arith) (All-nil IsAboveDot)))
    n small

pub decimal-solid : (n : ℕ) → n < 2 ^ 64 → IsSolid (decimal n)
decimal-solid n small =
    record {
      some = decimal_nonempty n small;
      above = λ k d h. let high = decimal-above n small k d h in omega (arith, high);
    }

pub decimal-no_dot : (n : ℕ) → n < 2 ^ 64 → All (λ b. is_dot b ≡ false) (decimal n)
decimal-no_dot n small =
    λ k d h. let high = decimal-above n small k d h in ne_eqb _ 46 (λ same. omega (arith, high, same))

pub decimal-numeral : (n : ℕ) → n < 2 ^ 64 → is_numeral (decimal n) ≡ true
decimal-numeral n small =
    let digits : list_all is_ascii_digit (decimal n) ≡ true = sym (same_test (decimal n)) ∙ digits_decimal own n small in
    rw (le-leb 1 (length (decimal n)) (decimal_nonempty n small), le-leb (length (decimal n)) 20 (digits_of_word n small), digits) refl

pub number_read : (most n : ℕ) → n ≤ most → n < 2 ^ 64 → number_up_to most (decimal n) ≡ Ok n
unfolding number_up_to
number_read most n fits small =
    rw (decimal-numeral n small, digits_value-decimal own n small, le-leb n most fits) refl

-- ---- hex

low-no_digit : (c : ℕ) → c ≤ 32 → hex_digit_value c ≡ None
low-no_digit c low =
    rw (lt-leb 65 c (omega (arith, low)), lt-leb 97 c (omega (arith, low)), lt-leb 48 c (omega (arith, low))) refl

digit-above : (d : ℕ) → d < 16 → IsAboveSpace (get_or lower_digits d 0)
digit-above d small = elim (cases_lt 32 (get_or lower_digits d 0)) [
  | inl above ↦ above
  | inr low ↦
      let both : None ≡ Some d = sym (low-no_digit (get_or lower_digits d 0) low) ∙ IsDigits-lower_digits d small in
      let bad : false ≡ true = ap is_some both in
      absurd (search rules)
]

hex-above : (bytes : List ℕ) → AreBytes bytes → All IsAboveSpace (encode_with lower_digits bytes)
unfolding encode_with
hex-above [] all = All-nil IsAboveSpace
hex-above (b ∷ rest) all =
    let small : b < 256 = All-head (λ b. b < 256) b rest all in
    All-cons IsAboveSpace (get_or lower_digits (b / 16) 0) (get_or lower_digits (b % 16) 0 ∷ encode_with lower_digits rest) (digit-above (b / 16) (omega (arith, small)))
    (All-cons IsAboveSpace (get_or lower_digits (b % 16) 0) (encode_with lower_digits rest) (digit-above (b % 16) (omega arith))
    (hex-above rest (All-tail (λ b. b < 256) b rest all)))

pub hex-solid : (bytes : List ℕ) → 0 < length bytes → AreBytes bytes → IsSolid (hex_text bytes)
hex-solid bytes some all =
    let twice = length-encode_with lower_digits bytes in
    record { some = omega (arith, twice, some); above = hex-above bytes all }

pub hex_read : (n : ℕ) (bytes : List ℕ) → length bytes ≡ n → AreBytes bytes → hex_bytes n (hex_text bytes) ≡ Ok bytes
unfolding hex_bytes
hex_read n bytes long all =
    let inside : (i : ℕ) → get_or bytes i 0 < 256 = λ i. elim (cases_lt i (length bytes)) [
      | inl below ↦ all i 0 below
      | inr past ↦ rw (get_or_past bytes i 0 past) (omega arith)
    ] in
    ap bytes_decoded (decode_sized-encode_lower bytes n long inside)

pub line-solid : (line : Line) → IsLine line → IsSolid (line_text line)
line-solid line whole = hex-solid line.0 (omega (arith, whole.long)) whole.bytes

pub tag-solid : (tag : List ℕ) → IsTag tag → IsSolid (hex_text tag)
tag-solid tag whole = hex-solid tag (omega (arith, whole.long)) whole.bytes

-- ---- words

-- one word that is read as a value
pub read_on : {A B : Type 0} (r : Result A Kind) (value : A) (next : A → Result B Kind) → r ≡ Ok value → (r >>= next) ≡ next value
read_on r value next same = ap (λ s. s >>= next) same

pub line_hex : (line : Line) → IsLine line → hex_line (line_text line) ≡ Ok line
line_hex line whole = read_on (hex_bytes 64 (line_text line)) line.0 _ (hex_read 64 line.0 whole.long whole.bytes)

-- a word of a text, by its test
pub literal-solid : (word : Word) → nat_lt 0 (length word) ≡ true → list_all (λ b. nat_lt 32 b) word ≡ true → IsSolid word
literal-solid word some all =
    record {
      some = ltb-true 0 (length word) some;
      above = λ k d h. ltb-true 32 _ (AllPass-from_list_all (λ b. nat_lt 32 b) word all k d h);
    }

pub short-solid : (n most : ℕ) → n < most → most ≤ 2 ^ 64 → IsSolid (decimal n)
short-solid n most small fits = decimal-solid n (omega (arith, small, fits))
