-- The bits of a mask.
use Rattle.std.proofs.Common.{◌≡◌, ℕ, ◌+◌, ◌-◌, ◌*◌, ◌/◌, ◌%◌, ◌^◌, ◌≤◌, Bool, true, false, refl, sym, ap, ◌∙◌, inl, inr, arith, lit<}
use Rattle.std.specs.Prelude.{◌==◌, ◌&&◌, ◌||◌, nat_lt, nat_le, bit_or, if◌then◌else◌}
use Rattle.std.specs.Int.{bit_at}
use Rattle.std.proofs.Math.Nat.{pow-le-pow_right}
use Rattle.std.proofs.lemmas.Bool.{cases_lt, eq-eqb, or_right, and_from, and_left, and_right, lt-ltb, le-ltb, le-leb, lt-leb, cond-true, cond-false}
use Rattle.std.proofs.lemmas.Nat.Bits.{bit_at_or, bit_at-lt, ones_shr, bit_at_mask_inside, bit_at_mask_below, bit_at_mask_above}
use Rattle.std.proofs.lemmas.Nat.{pow-add}

less_one : (k m p : ℕ) → k + 1 ≡ m → k * p ≡ p * m - p
less_one k m p h = let e : (k + 1) * p ≡ m * p = ap (λ n. n * p) h in omega arith

-- ones from one bit up to another, as the shifts compute them
pub ones_shifted : (len from : ℕ) → from + len ≤ 64
    → (2 ^ 64 - 1) / 2 ^ (64 - len) * 2 ^ from % 2 ^ 64 ≡ 2 ^ (from + len) - 2 ^ from
ones_shifted len from inside =
    let low : (2 ^ 64 - 1) / 2 ^ (64 - len) ≡ 2 ^ len - 1 =
    ones_shr 64 (64 - len) (omega arith) ∙ ap (λ n. 2 ^ n - 1) (omega arith) in
    let split : 2 ^ (from + len) ≡ 2 ^ from * 2 ^ len = pow-add 2 from len in
    let most : 2 ^ (from + len) ≤ 2 ^ 64 = pow-le-pow_right {n = 2} (lit< tt) {i = from + len} {j = 64} inside in
    let some : 2 ^ 0 ≤ 2 ^ from = pow-le-pow_right {n = 2} (lit< tt) {i = 0} {j = from} (omega arith) in
    let one : 2 ^ 0 ≤ 2 ^ len = pow-le-pow_right {n = 2} (lit< tt) {i = 0} {j = len} (omega arith) in
    let less : (2 ^ len - 1) * 2 ^ from ≡ 2 ^ from * 2 ^ len - 2 ^ from =
    less_one (2 ^ len - 1) (2 ^ len) (2 ^ from) (omega arith) in
    ap (λ n. n * 2 ^ from % 2 ^ 64) low ∙ omega arith

or_false : (x : Bool) → (x || false) ≡ x
or_false true = refl
or_false false = refl

-- a bit of a mask that others were added to
pub bit_of_both : (old new i : ℕ) (has : Bool) → bit_at new i ≡ (if has then 1 else 0)
    → (bit_at (bit_or old new) i == 1) ≡ (bit_at old i == 1 || has)
bit_of_both old new i true is =
    eq-eqb (bit_at (bit_or old new) i) 1 (bit_at_or old new i ∙ omega (arith, bit_at-lt old i))
    ∙ sym (or_right (bit_at old i == 1) true refl)
bit_of_both old new i false is =
    ap (λ n. n == 1) (bit_at_or old new i ∙ omega arith) ∙ sym (or_false (bit_at old i == 1))

-- a bit of a run of ones
pub bit_of_run : (from end i : ℕ) → bit_at (2 ^ end - 2 ^ from) i ≡ (if nat_le from i && nat_lt i end then 1 else 0)
bit_of_run from end i =
    elim (cases_lt i from) [
      | inl below ↦
          bit_at_mask_below from end i below
          ∙ sym (cond-false (nat_le from i && nat_lt i end) 1 0 (and_left (nat_le from i) (nat_lt i end) (lt-leb from i below)))
      | inr least ↦ elim (cases_lt i end) [
        | inl inside ↦
            bit_at_mask_inside from end i least inside
            ∙ sym (cond-true (nat_le from i && nat_lt i end) 1 0
            (and_from (nat_le from i) (nat_lt i end) (le-leb from i least) (lt-ltb i end inside)))
        | inr above ↦
            bit_at_mask_above from end i above
            ∙ sym (cond-false (nat_le from i && nat_lt i end) 1 0 (and_right (nat_le from i) (nat_lt i end) (le-ltb i end above)))
      ]
    ]
