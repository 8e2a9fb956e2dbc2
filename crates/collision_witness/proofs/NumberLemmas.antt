-- The values of digits.
use Rattle.std.proofs.Common.{◌≡◌, ◌-◌, ◌^◌, ◌<◌, ◌≤◌, ◌&&◌, ℕ, true, IsTrue, List, [], ◌∷◌, length, take, get_or, refl, ap, arith}
use Rattle.std.specs.Prelude.{decimal}
use Rattle.std.proofs.lemmas.Fmt.{length-decimal-le}
use Rattle.std.specs.List.{list_all}
use Rattle.std.specs.Int.{IsInRange}
use Rattle.std.specs.Char.{is_ascii_digit, digit_value}
use Rattle.std.specs.Str.{all_ascii_digits}
use Rattle.std.specs.Str.Parse.{digits_value}
use Rattle.std.proofs.lemmas.Str.Parse.{IsNumeralModel, numerals_by_value, tells_all_ascii_digits, digits_value_short, digits_value-take-le, digit_at}
use Rattle.std.proofs.lemmas.Bool.Decides.{nat_tests}
use Rattle.collision_witness.specs.Words.{is_numeral}

pub same_test : (ds : List ℕ) → all_ascii_digits ds ≡ list_all is_ascii_digit ds
same_test [] = refl
same_test (d ∷ ds) = ap (λ b. is_ascii_digit d && b) (same_test ds)

pub own : IsNumeralModel (λ ds. all_ascii_digits ds ≡ true) (digits_value 10)
own = numerals_by_value (λ ds. all_ascii_digits ds ≡ true) tells_all_ascii_digits

numeral_test : (word : List ℕ) → IsTrue (is_numeral word) → (length word ≤ 20) × (all_ascii_digits word ≡ true)
numeral_test word numeral = rw same_test (grind (arith, nat_tests))

pub numeral_bound : (word : List ℕ) (i : ℕ) → IsTrue (is_numeral word) → digits_value 10 (take i word) < 10 ^ 20
numeral_bound word i numeral =
    let test = numeral_test word numeral in
    let whole : digits_value 10 word < 10 ^ 20 = digits_value_short own word 20 test.1 test.0 in
    omega (arith, digits_value-take-le 10 word i (omega arith))

digit_value-digit : (c : ℕ) → IsInRange 48 57 c → digit_value c ≡ c - 48
digit_value-digit c range = grind (arith, nat_tests)

pub numeral_digit : (word : List ℕ) (i : ℕ) → IsTrue (is_numeral word) → i < length word → (48 ≤ get_or word i 0) × (get_or word i 0 ≤ 57) × (digit_value (get_or word i 0) ≡ get_or word i 0 - 48)
numeral_digit word i numeral inside =
    let range = digit_at word i (own.to word (numeral_test word numeral).1) inside in
    (range.0, range.1, digit_value-digit (get_or word i 0) range)

-- A number of 64 bits has at most twenty digits.
pub digits_of_word : (n : ℕ) → n < 2 ^ 64 → length (decimal n) ≤ 20
digits_of_word n small = length-decimal-le 20 n (omega arith) (omega arith) small
