-- Minors as digits of base 128, the highest first.
use Rattle.std.proofs.Common.{rules, ℕ, zero, suc, ◌≡◌, ◌<◌, ◌≤◌, ◌+◌, ◌*◌, ◌/◌, ◌%◌, ◌^◌, List, [], ◌∷◌, ◌++◌, length, get_or, refl, sym, ap, subst, ◌∙◌, arith}
use Rattle.std.specs.List.{All}
use Rattle.std.proofs.lemmas.List.Elements.{All-weaker}
use Rattle.pmem_base.proofs.Digits.{digits, number, length-digits, digits-small, number-below, digits-number, number-digits, digits-join, number-append, get_or-digits}
use Rattle.split_counters.specs.Blocks.{number_of_minors, minors_of_number}

minors_of_number-digits : (n value : ℕ) → minors_of_number n value ≡ digits 128 n value
minors_of_number-digits zero value = refl
minors_of_number-digits (suc n) value = ap (λ z. (value / 128 ^ n) % 128 ∷ z) (minors_of_number-digits n value)

number_of_minors-number : (minors : List ℕ) → number_of_minors minors ≡ number 128 minors
number_of_minors-number [] = refl
number_of_minors-number (m ∷ minors) = ap (λ z. m * 128 ^ length minors + z) (number_of_minors-number minors)

pub length-minors_of_number : (n value : ℕ) → length (minors_of_number n value) ≡ n
length-minors_of_number n value = ap length (minors_of_number-digits n value) ∙ length-digits 128 n value

pub minors_of_number-small : (n value : ℕ) → All (λ m. m ≤ 127) (minors_of_number n value)
minors_of_number-small n value = search (rules, minors_of_number-digits, All-weaker, digits, digits-small)

are_digits : (minors : List ℕ) → All (λ m. m ≤ 127) minors → All (λ m. m < 128) minors
are_digits minors small = All-weaker (λ m. m ≤ 127) (λ d. d < 128) (λ m below. omega (arith, below)) minors small

pub number_of_minors-below : (minors : List ℕ) → All (λ m. m ≤ 127) minors → number_of_minors minors < 128 ^ length minors
number_of_minors-below minors small = subst (λ z. z < 128 ^ length minors) (sym (number_of_minors-number minors)) (number-below 128 minors (are_digits minors small))

pub number_of_minors-minors_of_number : (n value : ℕ) → value < 128 ^ n → number_of_minors (minors_of_number n value) ≡ value
number_of_minors-minors_of_number n value below = ap number_of_minors (minors_of_number-digits n value) ∙ (number_of_minors-number (digits 128 n value) ∙ number-digits 128 n value (omega arith) below)

pub minors_of_number-number_of_minors : (minors : List ℕ) → All (λ m. m ≤ 127) minors → minors_of_number (length minors) (number_of_minors minors) ≡ minors
minors_of_number-number_of_minors minors small = minors_of_number-digits (length minors) (number_of_minors minors) ∙ (ap (digits 128 (length minors)) (number_of_minors-number minors) ∙ digits-number 128 minors (omega arith) (are_digits minors small))

pub minors_of_number-join : (m n high low : ℕ) → low < 128 ^ n → minors_of_number (m + n) (high * 128 ^ n + low) ≡ minors_of_number m high ++ minors_of_number n low
minors_of_number-join m n high low below = search (rules, minors_of_number-digits, digits-join)

pub number_of_minors-append : (xs ys : List ℕ) → number_of_minors (xs ++ ys) ≡ number_of_minors xs * 128 ^ length ys + number_of_minors ys
number_of_minors-append xs ys = search (rules, number_of_minors-number, number-append)

-- minor i, which k minors follow
pub get_or-minors_of_number : (n value i k : ℕ) → i + 1 + k ≡ n → get_or (minors_of_number n value) i 0 ≡ value / 128 ^ k % 128
get_or-minors_of_number n value i k e = ap (λ ds. get_or ds i 0) (minors_of_number-digits n value) ∙ get_or-digits 128 n value i k e
