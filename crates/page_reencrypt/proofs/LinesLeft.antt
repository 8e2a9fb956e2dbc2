-- The lines that are left of a page: the least of them, and how many.
use Rattle.std.proofs.Common.{rules}
use Rattle.std.proofs.Common.{ℕ, zero, suc, ◌≡◌, ◌≢◌, ◌<◌, ◌≤◌, ◌+◌, ◌-◌, ◌*◌, ◌%◌, ◌^◌, Bool, true, false, cond, List, [], ◌∷◌, length, Some, None, inl, inr, refl, sym, ap, ◌∙◌, arith}
use Rattle.std.specs.Prelude.{not, ◌==◌, bit_or, nat_lt, filter, slice_get}
use Rattle.std.specs.Int.{w64, bit_at, bit_not, trailing_ones}
use Rattle.std.specs.List.{range_with_len}
use Rattle.std.proofs.lemmas.Bool.{cases_eq, cases_lt, lt-ltb}
use Rattle.std.proofs.lemmas.List.{length-append, nil_from_length}
use Rattle.std.proofs.lemmas.List.Elements.{filter-append}
use Rattle.std.proofs.lemmas.Nat.{ones_cat, mod-pow-add, mod_below, pow_pos, pow_below, one_shl, or_lt}
use Rattle.std.proofs.lemmas.Nat.Bits.{bit_at-lt, bit_at-zero, bit_at_not, bit_at-trailing_ones}
use lib.Count.{ones}
use Rattle.pmem_base.specs.declared.registers.Progress.{Progress}
use Rattle.pmem_base.specs.Registers.{places_of_page, is_done, not_done, with_done}
use Rattle.pmem_base.proofs.ListLaws.{range_more}
use Rattle.page_reencrypt.proofs.DoneBits.{none_left_from_done, done_from_none_left}
use Rattle.page_reencrypt.specs.Marked.{marked}

-- ---- the least line

-- the first number of a range that passes
first_passing : (p : ℕ → Bool) (n start t : ℕ) → start ≤ t → t < start + n → p t ≡ true → ((j : ℕ) → start ≤ j → j < t → p j ≡ false) → slice_get (filter p (range_with_len start n)) 0 ≡ Some t
first_passing p zero start t from inside passes before = absurd (omega (arith, from, inside))
first_passing p (suc n) start t from inside passes before =
    elim (cases_eq start t) [
      | inl same ↦
          let now : p start ≡ true = ap p same ∙ passes in
          ap (λ b. slice_get (cond b (start ∷ filter p (range_with_len (start + 1) n)) (filter p (range_with_len (start + 1) n))) 0) now
          ∙ ap Some same
      | inr apart ↦
          let later : p start ≡ false = before start (omega arith) (omega (arith, from, apart)) in
          ap (λ b. slice_get (cond b (start ∷ filter p (range_with_len (start + 1) n)) (filter p (range_with_len (start + 1) n))) 0) later
          ∙ first_passing p n (start + 1) t (omega (arith, from, apart)) (omega (arith, inside)) passes (λ j above below. before j (omega (arith, above)) below)
    ]

pub least_left : (register : Progress) → register.done + 1 < 2 ^ 64 → slice_get (not_done register) 0 ≡ Some (trailing_ones w64 register.done)
unfolding not_done places_of_page
least_left register some =
    let found = bit_at-trailing_ones w64 register.done some in
    first_passing (λ i. not (is_done register i)) 64 0 (trailing_ones w64 register.done) (omega arith) (omega (arith, found.0))
    (ap (λ b. not (b == 1)) found.1)
    (λ j above below. ap (λ b. not (b == 1)) (found.2 j below))

-- ---- how many

one_bit : (b i : ℕ) → b < 2 → length (cond (b == 1) (i ∷ []) []) ≡ ones b
unfolding ones
one_bit v0 i small = search rules

no_bits : (value : ℕ) → ones (value % 2 ^ 0) ≡ 0
unfolding ones
no_bits value = let none : value % 2 ^ 0 ≡ 0 = omega arith in ap (λ n. ones n) none

-- a test that is that of a number's bits counts its ones
bits_counted : (p : ℕ → Bool) (value n : ℕ) → ((i : ℕ) → i < n → p i ≡ (bit_at value i == 1)) → length (filter p (range_with_len 0 n)) ≡ ones (value % 2 ^ n)
bits_counted p value zero tests = sym (no_bits value)
bits_counted p value (suc n) tests =
    let longer : suc n ≡ 1 + n = omega arith in
    let split : value % 2 ^ suc n ≡ bit_at value n * 2 ^ n + value % 2 ^ n =
    ap (λ k. value % 2 ^ k) longer ∙ mod-pow-add value 1 n in
    let high : ones (value % 2 ^ suc n) ≡ ones (bit_at value n) + ones (value % 2 ^ n) =
    ap ones split ∙ ones_cat n (bit_at value n) (value % 2 ^ n) (mod_below value (2 ^ n) (pow_pos n)) in
    let start : 0 + n ≡ n = omega arith in
    let last : filter p ((0 + n) ∷ []) ≡ cond (bit_at value n == 1) (n ∷ []) [] =
    ap (λ m. filter p (m ∷ [])) start ∙ ap (λ b. cond b (n ∷ []) []) (tests n (omega arith)) in
    let parts : length (filter p (range_with_len 0 (suc n))) ≡ length (filter p (range_with_len 0 n)) + length (cond (bit_at value n == 1) (n ∷ []) []) =
    ap (λ ms. length (filter p ms)) (range_more 0 n)
    ∙ (ap length (filter-append p (range_with_len 0 n) ((0 + n) ∷ []))
    ∙ (length-append (filter p (range_with_len 0 n)) (filter p ((0 + n) ∷ []))
    ∙ ap (λ ms. length (filter p (range_with_len 0 n)) + length ms) last)) in
    let rest = bits_counted p value n (λ i below. tests i (omega (arith, below))) in
    omega (arith, high, parts, rest, one_bit (bit_at value n) n (bit_at-lt value n))

turned : (b c : ℕ) → b < 2 → c ≡ 1 - b → not (b == 1) ≡ (c == 1)
turned v0 c small same = search rules

pub number_left : (register : Progress) → register.done < 2 ^ 64 → length (not_done register) ≡ ones (bit_not w64 register.done)
unfolding not_done places_of_page
number_left register fits =
    let whole : bit_not w64 register.done % 2 ^ 64 ≡ bit_not w64 register.done = omega arith in
    bits_counted (λ i. not (is_done register i)) (bit_not w64 register.done) 64
    (λ i below. turned (bit_at register.done i) (bit_at (bit_not w64 register.done) i) (bit_at-lt register.done i) (bit_at_not w64 register.done i fits below))
    ∙ ap (λ n. ones n) whole

-- ---- none, and all

pub none_left : (register : Progress) → register.done ≡ 2 ^ 64 - 1 → slice_get (not_done register) 0 ≡ None
none_left register all = ap (λ ms. slice_get ms 0) (nil_from_length (not_done register) (none_left_from_done register all))

all_pass : (p : ℕ → Bool) (xs : List ℕ) → ((x : ℕ) → p x ≡ true) → filter p xs ≡ xs
all_pass p [] passes = refl
all_pass p (x ∷ xs) passes =
    ap (λ b. cond b (x ∷ filter p xs) (filter p xs)) (passes x) ∙ ap (λ ys. x ∷ ys) (all_pass p xs passes)

pub all_left : (register : Progress) → register.done ≡ 0 → not_done register ≡ places_of_page
unfolding not_done
all_left register none =
    all_pass (λ i. not (is_done register i)) places_of_page
    (λ i. ap (λ n. not (bit_at n i == 1)) none ∙ ap (λ b. not (b == 1)) (bit_at-zero i))

-- ---- a line done

-- a register whose word isn't full has lines left
pub some_left_from_word : (register : Progress) → register.done < 2 ^ 64 → register.done ≢ 2 ^ 64 - 1 → 0 < length (not_done register)
some_left_from_word register fits full =
    elim (cases_lt 0 (length (not_done register))) [
      | inl some ↦ some
      | inr none ↦ absurd (full (done_from_none_left register fits (omega (arith, none))))
    ]

pub marked-none : (register : Progress) (i : ℕ) → (with_done register i).done ≡ 2 ^ 64 - 1 → marked register i ≡ None
marked-none register i full =
    let empty : length (not_done (with_done register i)) ≡ 0 = none_left_from_done (with_done register i) full in
    ap (λ n. cond (nat_lt 0 n) (Some (with_done register i)) None) empty

pub marked-some : (register : Progress) (i : ℕ) → 0 < length (not_done (with_done register i)) → marked register i ≡ Some (with_done register i)
marked-some register i some = search rules

-- the word that the code makes
pub word_done : (register : Progress) (i : ℕ) → i < 64 → bit_or register.done (1 * 2 ^ i % 2 ^ 64) ≡ (with_done register i).done
word_done register i small = ap (λ bit. bit_or register.done bit) (one_shl i 64 small)

pub word_fits : (register : Progress) (i : ℕ) → i < 64 → register.done < 2 ^ 64 → (with_done register i).done < 2 ^ 64
word_fits register i small fits = or_lt 64 register.done (2 ^ i) fits (pow_below i 64 small)
