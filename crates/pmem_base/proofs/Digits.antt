-- Numbers as digits of one base, the highest first, and so as bytes.
use Rattle.std.proofs.Common.{ℕ, zero, suc, ◌≡◌, ◌<◌, ◌≤◌, ◌+◌, ◌-◌, ◌*◌, ◌/◌, ◌%◌, ◌^◌, List, [], ◌∷◌, ◌++◌, length, get_or, take, drop, drop-cons, zero-add, refl, sym, ap, subst, ◌∙◌, arith}
use Rattle.std.specs.List.{All, slice_range}
use Rattle.std.specs.Int.{w32, to_be_bytes, from_be_bytes}
use Rattle.std.proofs.lemmas.List.Elements.{All-nil, All-cons, All-head, All-tail}
use Rattle.std.proofs.lemmas.Nat.{pow-add, div_below, mod_below, mul-add-lt, div-mul-add, div-add-mod'}
use Rattle.std.proofs.lemmas.List.{length-append}
use Rattle.std.proofs.Math.Nat.{add_comm, div-one, div-div-eq-div-mul, pow-zero, pow-suc, one-le-pow, mul-add-div_right, mul-add-mod_self_right, mod-eq_of_lt}
use Rattle.pmem_base.specs.Lines.{AreBytes, big_endian, from_big_endian}

-- the n lowest digits
abbrev pub digits : ℕ → ℕ → ℕ → List ℕ
digits base zero value = []
digits base (suc n) value = (value / base ^ n) % base ∷ digits base n value

abbrev pub number : ℕ → List ℕ → ℕ
number base [] = 0
number base (d ∷ ds) = d * base ^ length ds + number base ds

pub length-digits : (base n value : ℕ) → length (digits base n value) ≡ n
length-digits base zero value = refl
length-digits base (suc n) value = ap suc (length-digits base n value)

pub digits-small : (base n value : ℕ) → 0 < base → All (λ d. d < base) (digits base n value)
digits-small base zero value pos = All-nil (λ d. d < base)
digits-small base (suc n) value pos =
    All-cons (λ d. d < base) ((value / base ^ n) % base) (digits base n value) (mod_below (value / base ^ n) base pos) (digits-small base n value pos)

pub number-below : (base : ℕ) (ds : List ℕ) → All (λ d. d < base) ds → number base ds < base ^ length ds
number-below base [] small = omega (arith, pow-zero base)
number-below base (d ∷ ds) small =
    subst (λ z. d * base ^ length ds + number base ds < z) (sym (pow-suc base (length ds)))
    (mul-add-lt d (base ^ length ds) (number base ds) base (All-head (λ x. x < base) d ds small) (number-below base ds (All-tail (λ x. x < base) d ds small)))

power_pos : (base n : ℕ) → 0 < base → 0 < base ^ n
power_pos base n pos = let h = one-le-pow n base pos in omega (arith, h)

-- higher digits don't matter
digits-high : (base n k value : ℕ) → 0 < base → digits base n (k * base ^ n + value) ≡ digits base n value
digits-high base zero k value pos = refl
digits-high base (suc n) k value pos =
    let power : k * base ^ suc n ≡ (k * base) * base ^ n = ap (λ z. k * z) (pow-suc base n) ∙ omega arith in
    let first : ((k * base) * base ^ n + value) / base ^ n % base ≡ value / base ^ n % base =
    ap (λ z. z % base) (mul-add-div_right (power_pos base n pos) (k * base) value) ∙ mul-add-mod_self_right k base (value / base ^ n) in
    ap (λ z. digits base (suc n) (z + value)) power
    ∙ (ap (λ z. z ∷ digits base n ((k * base) * base ^ n + value)) first
    ∙ ap (λ z. value / base ^ n % base ∷ z) (digits-high base n (k * base) value pos))

pub digits-number : (base : ℕ) (ds : List ℕ) → 0 < base → All (λ d. d < base) ds → digits base (length ds) (number base ds) ≡ ds
digits-number base [] pos small = refl
digits-number base (d ∷ ds) pos small =
    let rest = All-tail (λ x. x < base) d ds small in
    let below = number-below base ds rest in
    let first : (d * base ^ length ds + number base ds) / base ^ length ds % base ≡ d =
    ap (λ z. z % base) (div-mul-add d (base ^ length ds) (number base ds) below) ∙ mod-eq_of_lt (All-head (λ x. x < base) d ds small) in
    ap (λ z. z ∷ digits base (length ds) (d * base ^ length ds + number base ds)) first
    ∙ ap (λ z. d ∷ z) (digits-high base (length ds) d (number base ds) pos ∙ digits-number base ds pos rest)

pub number-digits : (base n value : ℕ) → 0 < base → value < base ^ n → number base (digits base n value) ≡ value
number-digits base zero value pos below = omega (arith, below, pow-zero base)
number-digits base (suc n) value pos below =
    let P = base ^ n in
    let power = power_pos base n pos in
    let inside : value < base * base ^ n = subst (λ z. value < z) (pow-suc base n ∙ omega arith) below in
    let first : value / base ^ n % base ≡ value / base ^ n = mod-eq_of_lt (div_below value (base ^ n) base power inside) in
    let rest : digits base n value ≡ digits base n (value % base ^ n) =
    ap (digits base n) (sym (div-add-mod' value (base ^ n))) ∙ digits-high base n (value / base ^ n) (value % base ^ n) pos in
    let low : number base (digits base n value) ≡ value % base ^ n = ap (number base) rest ∙ number-digits base n (value % base ^ n) pos (mod_below value (base ^ n) power) in
    ap (λ z. z * base ^ length (digits base n value) + number base (digits base n value)) first
    ∙ (ap (λ z. value / base ^ n * base ^ z + number base (digits base n value)) (length-digits base n value)
    ∙ (ap (λ z. value / base ^ n * base ^ n + z) low ∙ div-add-mod' value (base ^ n)))

-- two numbers' digits in a row
pub digits-join : (base m n high low : ℕ) → 0 < base → low < base ^ n → digits base (m + n) (high * base ^ n + low) ≡ digits base m high ++ digits base n low
digits-join base zero n high low pos below = ap (λ k. digits base k (high * base ^ n + low)) (zero-add n) ∙ digits-high base n high low pos
digits-join base (suc m) n high low pos below =
    let whole = high * base ^ n + low in
    let more : suc m + n ≡ suc (m + n) = omega arith in
    let power : base ^ (m + n) ≡ base ^ n * base ^ m = ap (λ k. base ^ k) (add_comm m n) ∙ pow-add base n m in
    let first : whole / base ^ (m + n) ≡ high / base ^ m =
    ap (λ k. whole / k) power
    ∙ (sym (div-div-eq-div-mul whole (base ^ n) (base ^ m)) ∙ ap (λ k. k / base ^ m) (div-mul-add high (base ^ n) low below)) in
    ap (λ k. digits base k whole) more
    ∙ (ap (λ k. k % base ∷ digits base (m + n) whole) first
    ∙ ap (λ ds. high / base ^ m % base ∷ ds) (digits-join base m n high low pos below))

pub number-append : (base : ℕ) (xs ys : List ℕ) → number base (xs ++ ys) ≡ number base xs * base ^ length ys + number base ys
number-append base [] ys = omega arith
number-append base (x ∷ xs) ys =
    let rest = number-append base xs ys in
    let power : base ^ length (xs ++ ys) ≡ base ^ length xs * base ^ length ys = ap (λ k. base ^ k) (length-append xs ys) ∙ pow-add base (length xs) (length ys) in
    ap (λ k. x * k + number base (xs ++ ys)) power ∙ omega (arith, rest)

-- digit i, which k digits follow
pub get_or-digits : (base n value i k : ℕ) → i + 1 + k ≡ n → get_or (digits base n value) i 0 ≡ value / base ^ k % base
get_or-digits base zero value i k e = absurd (omega (arith, e))
get_or-digits base (suc n) value zero k e = let same : n ≡ k = omega (arith, e) in ap (λ z. value / base ^ z % base) same
get_or-digits base (suc n) value (suc i) k e = get_or-digits base n value i k (omega (arith, e))

-- ---- bytes

big_endian-digits : (n value : ℕ) → big_endian n value ≡ digits 256 n value
big_endian-digits zero value = refl
big_endian-digits (suc n) value = ap (λ z. (value / 256 ^ n) % 256 ∷ z) (big_endian-digits n value)

from_big_endian-number : (bytes : List ℕ) → from_big_endian bytes ≡ number 256 bytes
from_big_endian-number [] = refl
from_big_endian-number (b ∷ bytes) = ap (λ z. b * 256 ^ length bytes + z) (from_big_endian-number bytes)

pub from_big_endian-below : (bytes : List ℕ) → AreBytes bytes → from_big_endian bytes < 256 ^ length bytes
from_big_endian-below bytes small = subst (λ z. z < 256 ^ length bytes) (sym (from_big_endian-number bytes)) (number-below 256 bytes small)

pub from_big_endian-big_endian : (n value : ℕ) → value < 256 ^ n → from_big_endian (big_endian n value) ≡ value
from_big_endian-big_endian n value below = ap from_big_endian (big_endian-digits n value) ∙ (from_big_endian-number (digits 256 n value) ∙ number-digits 256 n value (omega arith) below)

pub big_endian-from_big_endian : (bytes : List ℕ) → AreBytes bytes → big_endian (length bytes) (from_big_endian bytes) ≡ bytes
big_endian-from_big_endian bytes small = big_endian-digits (length bytes) (from_big_endian bytes) ∙ (ap (digits 256 (length bytes)) (from_big_endian-number bytes) ∙ digits-number 256 bytes (omega arith) small)

pub big_endian-join : (m n high low : ℕ) → low < 256 ^ n → big_endian (m + n) (high * 256 ^ n + low) ≡ big_endian m high ++ big_endian n low
big_endian-join m n high low below =
    big_endian-digits (m + n) (high * 256 ^ n + low)
    ∙ (digits-join 256 m n high low (omega arith) below
    ∙ (ap (λ ds. ds ++ digits 256 n low) (sym (big_endian-digits m high)) ∙ ap (λ ds. big_endian m high ++ ds) (sym (big_endian-digits n low))))

pub from_big_endian-append : (xs ys : List ℕ) → from_big_endian (xs ++ ys) ≡ from_big_endian xs * 256 ^ length ys + from_big_endian ys
from_big_endian-append xs ys =
    from_big_endian-number (xs ++ ys)
    ∙ (number-append 256 xs ys
    ∙ (ap (λ z. z * 256 ^ length ys + number 256 ys) (sym (from_big_endian-number xs))
    ∙ ap (λ z. from_big_endian xs * 256 ^ length ys + z) (sym (from_big_endian-number ys))))

-- byte i, which k bytes follow
pub get_or-big_endian : (n value i k : ℕ) → i + 1 + k ≡ n → get_or (big_endian n value) i 0 ≡ value / 256 ^ k % 256
get_or-big_endian n value i k e = ap (λ ds. get_or ds i 0) (big_endian-digits n value) ∙ get_or-digits 256 n value i k e

-- ---- four bytes of a list

four_bytes : (a b c d : ℕ) → from_be_bytes w32 (a ∷ b ∷ c ∷ d ∷ []) ≡ from_big_endian (a ∷ b ∷ c ∷ d ∷ [])
four_bytes a b c d = omega arith

-- the four elements from a place on
four_from : (bytes : List ℕ) (at : ℕ) → at + 4 ≤ length bytes
    → get_or bytes at 0 ∷ get_or bytes (at + 1) 0 ∷ get_or bytes (at + 2) 0 ∷ get_or bytes (at + 3) 0 ∷ []
    ≡ slice_range bytes at (at + 4)
four_from bytes at within =
    let first = drop-cons bytes at 0 (omega arith) in
    let second = drop-cons bytes (at + 1) 0 (omega arith) in
    let third = drop-cons bytes (at + 2) 0 (omega arith) in
    let fourth = drop-cons bytes (at + 3) 0 (omega arith) in
    let s1 : suc at ≡ at + 1 = omega arith in
    let s2 : suc (at + 1) ≡ at + 2 = omega arith in
    let s3 : suc (at + 2) ≡ at + 3 = omega arith in
    let four : at + 4 - at ≡ 4 = omega arith in
    sym (ap (λ k. take k (drop at bytes)) four
    ∙ ap (take 4) (first ∙ ap (λ k. get_or bytes at 0 ∷ drop k bytes) s1)
    ∙ ap (λ l. get_or bytes at 0 ∷ take 3 l) (second ∙ ap (λ k. get_or bytes (at + 1) 0 ∷ drop k bytes) s2)
    ∙ ap (λ l. get_or bytes at 0 ∷ get_or bytes (at + 1) 0 ∷ take 2 l) (third ∙ ap (λ k. get_or bytes (at + 2) 0 ∷ drop k bytes) s3)
    ∙ ap (λ l. get_or bytes at 0 ∷ get_or bytes (at + 1) 0 ∷ get_or bytes (at + 2) 0 ∷ take 1 l) fourth)

-- their number
pub number_of_four : (bytes : List ℕ) (at : ℕ) → at + 4 ≤ length bytes
    → from_be_bytes w32 (get_or bytes at 0 ∷ get_or bytes (at + 1) 0 ∷ get_or bytes (at + 2) 0 ∷ get_or bytes (at + 3) 0 ∷ [])
    ≡ from_big_endian (slice_range bytes at (at + 4))
number_of_four bytes at within =
    four_bytes (get_or bytes at 0) (get_or bytes (at + 1) 0) (get_or bytes (at + 2) 0) (get_or bytes (at + 3) 0)
    ∙ ap from_big_endian (four_from bytes at within)

-- the bytes of a number of 32 bits
pub bytes_of_four : (value : ℕ) → to_be_bytes w32 value ≡ big_endian 4 value
bytes_of_four value =
    ap (λ z. value / 256 ^ 3 % 256 ∷ value / 256 ^ 2 % 256 ∷ value / 256 ^ 1 % 256 ∷ z % 256 ∷ [])
    (sym (div-one value))
