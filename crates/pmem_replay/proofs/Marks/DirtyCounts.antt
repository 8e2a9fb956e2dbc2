-- How many numbers pass a test, and how many different keys there can be.
use Rattle.std.proofs.Common.{ℕ, zero, suc, ◌≡◌, ◌≢◌, ◌<◌, ◌≤◌, ◌+◌, ◌*◌, Bool, true, false, cond, List, [], ◌∷◌, refl, sym, ap, ap₂, subst, ◌∙◌, arith, inl, inr}
use Rattle.std.specs.Prelude.{not, ◌&&◌, ◌==◌, nat_lt, count_by, All, AllPairs, slice_index_or}
use Rattle.std.specs.List.{range_with_len}
use Rattle.std.proofs.lemmas.Bool.{cases_Bool, cases_eq, eq-eqb, ne_eqb, and_parts, and_from, and_right, true≢false, cases_order, lt-ltb, le-ltb}
use Rattle.std.proofs.lemmas.List.Sums.{sum_by-cons}
use Rattle.std.proofs.lemmas.List.Elements.{All-head, All-tail}
use Rattle.pmem_base.proofs.ListLaws.{AllPairs-tail, AllPairs-head}
use Rattle.meta_path.specs.Blocks.{sum_below}

-- 1 where the test passes
abbrev one_if : Bool → ℕ
one_if true = 1
one_if false = 0

one_if-is : (b : Bool) → cond b 1 0 ≡ one_if b
one_if-is true = refl
one_if-is false = refl

counted_one : {X : Type 0} (p : X → Bool) (x : X) (xs : List X) → count_by p (x ∷ xs) ≡ one_if (p x) + count_by p xs
counted_one p x xs = sum_by-cons (λ x. cond (p x) 1 0) x xs ∙ ap (λ n. n + count_by p xs) (one_if-is (p x))

one_le : (b c : Bool) → (b ≡ true → c ≡ true) → one_if b ≤ one_if c
one_le false c follows = omega arith
one_le true true follows = omega arith
one_le true false follows = absurd (true≢false (sym (follows refl)))

-- a stronger test passes fewer
pub count_by-le : {X : Type 0} (p q : X → Bool) (xs : List X) → ((x : X) → p x ≡ true → q x ≡ true) → count_by p xs ≤ count_by q xs
count_by-le p q [] follows = omega arith
count_by-le p q (x ∷ xs) follows =
    omega (arith, counted_one p x xs, counted_one q x xs, one_le (p x) (q x) (follows x), count_by-le p q xs follows)

count_by-split : {X : Type 0} (p q r : X → Bool) (xs : List X) → ((x : X) → one_if (p x) + one_if (q x) ≡ one_if (r x)) → count_by p xs + count_by q xs ≡ count_by r xs
count_by-split p q r [] joins = refl
count_by-split p q r (x ∷ xs) joins =
    omega (arith, counted_one p x xs, counted_one q x xs, counted_one r x xs, joins x, count_by-split p q r xs joins)

pub count_by-none : {X : Type 0} (p : X → Bool) (xs : List X) → ((x : X) → p x ≡ false) → count_by p xs ≡ 0
count_by-none p [] none = refl
count_by-none p (x ∷ xs) none =
    let here : one_if (p x) ≡ 0 = ap one_if (none x) in
    omega (arith, counted_one p x xs, here, count_by-none p xs none)

-- one number of a range less
abbrev without : (ℕ → Bool) → ℕ → ℕ → Bool
without q x y = q y && not (y == x)

and_true : (b : Bool) → (b && true) ≡ b
and_true true = refl
and_true false = refl

other_one : (q : ℕ → Bool) (x a : ℕ) → a ≢ x → one_if (without q x a) ≡ one_if (q a)
other_one q x a apart = ap one_if (ap (λ b. q a && not b) (ne_eqb a x apart) ∙ and_true (q a))

count_above : (q : ℕ → Bool) (x a n : ℕ) → x < a → count_by (without q x) (range_with_len a n) ≡ count_by q (range_with_len a n)
count_above q x a zero above = refl
count_above q x a (suc n) above =
    omega (
      arith,
      counted_one (without q x) a (range_with_len (a + 1) n),
      counted_one q a (range_with_len (a + 1) n),
      other_one q x a (λ same. omega (arith, same, above)),
      count_above q x (a + 1) n (omega (arith, above)),
    )

count_without : (q : ℕ → Bool) (x a n : ℕ) → a ≤ x → x < a + n → q x ≡ true → count_by (without q x) (range_with_len a n) + 1 ≡ count_by q (range_with_len a n)
count_without q x a zero low high passes = absurd (omega (arith, low, high))
count_without q x a (suc n) low high passes =
    elim (cases_eq a x) [
      | inl same ↦
          let here : one_if (without q x a) ≡ 0 =
          ap one_if (and_right (q a) (not (a == x)) (ap not (eq-eqb a x same))) in
          let its : one_if (q a) ≡ 1 = ap one_if (ap q same ∙ passes) in
          omega (
            arith,
            counted_one (without q x) a (range_with_len (a + 1) n),
            counted_one q a (range_with_len (a + 1) n),
            here,
            its,
            count_above q x (a + 1) n (omega (arith, same)),
          )
      | inr apart ↦
          omega (
            arith,
            counted_one (without q x) a (range_with_len (a + 1) n),
            counted_one q a (range_with_len (a + 1) n),
            other_one q x a apart,
            count_without q x (a + 1) n (omega (arith, low, apart)) (omega (arith, high)) passes,
          )
    ]

-- of a list whose keys differ, no more pass than there are keys that may
pub keys_bound : {X : Type 0} (p : X → Bool) (key : X → ℕ) (q : ℕ → Bool) (n : ℕ) (xs : List X)
    → AllPairs (λ a b. key a ≢ key b) xs
    → All (λ x. p x ≡ true → (q (key x) ≡ true) × (key x < n)) xs
    → count_by p xs ≤ count_by q (range_with_len 0 n)
keys_bound p key q n [] distinct each = omega arith
keys_bound {X} p key q n (x ∷ xs) distinct each =
    let apart = AllPairs-head (λ a b. key a ≢ key b) x xs distinct in
    let later = All-tail (λ x. p x ≡ true → (q (key x) ≡ true) × (key x < n)) x xs each in
    let rest = AllPairs-tail (λ a b. key a ≢ key b) x xs distinct in
    elim (cases_Bool (p x)) [
      | inl passes ↦
          let its = All-head (λ x. p x ≡ true → (q (key x) ≡ true) × (key x < n)) x xs each passes in
          let fewer : count_by p xs ≤ count_by (without q (key x)) (range_with_len 0 n) =
          keys_bound p key (without q (key x)) n xs rest
          (λ k d within passing.
          let other = later k d within passing in (
            and_from (q (key (slice_index_or xs k d))) (not (key (slice_index_or xs k d) == key x)) other.0
                (ap not (ne_eqb (key (slice_index_or xs k d)) (key x) (λ same. apart k d within (sym same)))),
            other.1,
          )) in
          let one : one_if (p x) ≡ 1 = ap one_if passes in
          omega (arith, counted_one p x xs, one, fewer, count_without q (key x) 0 n (omega arith) (omega (arith, its.1)) its.0)
      | inr fails ↦
          let none : one_if (p x) ≡ 0 = ap one_if fails in
          omega (arith, counted_one p x xs, none, keys_bound p key q n xs rest later)
    ]

-- ---- sums over classes

pub sum_below-le : (f h : ℕ → ℕ) (m : ℕ) → ((s : ℕ) → s < m → f s ≤ h s) → sum_below f m ≤ sum_below h m
sum_below-le f h zero each = omega arith
sum_below-le f h (suc m) each =
    omega (arith, sum_below-le f h m (λ s small. each s (omega (arith, small))), each m (omega arith))

pub sum_below-same : (n m : ℕ) → sum_below (λ s. n) m ≡ m * n
sum_below-same n zero = omega arith
sum_below-same n (suc m) = ap (λ k. k + n) (sum_below-same n m) ∙ omega arith

one_more : (b : Bool) (n m : ℕ) → one_if (b && nat_lt n m) + one_if (b && (n == m)) ≡ one_if (b && nat_lt n (suc m))
one_more false n m = refl
one_more true n m =
    elim (cases_order n m) [
      | inl same ↦
          ap₂ (λ a b. one_if a + one_if b) (le-ltb n m (omega (arith, same))) (eq-eqb n m same)
          ∙ ap one_if (sym (lt-ltb n (suc m) (omega (arith, same))))
      | inr apart ↦
          elim apart [
            | inl below ↦
                ap₂ (λ a b. one_if a + one_if b) (lt-ltb n m below) (ne_eqb n m (λ same. omega (arith, same, below)))
                ∙ ap one_if (sym (lt-ltb n (suc m) (omega (arith, below))))
            | inr above ↦
                ap₂ (λ a b. one_if a + one_if b) (le-ltb n m (omega (arith, above))) (ne_eqb n m (λ same. omega (arith, same, above)))
                ∙ ap one_if (sym (le-ltb n (suc m) (omega (arith, above))))
          ]
    ]

-- the numbers that pass, class by class, below class m
pub sum_of_classes : (r : ℕ → Bool) (f : ℕ → ℕ) (xs : List ℕ) (m : ℕ)
    → sum_below (λ s. count_by (λ x. r x && (f x == s)) xs) m ≡ count_by (λ x. r x && nat_lt (f x) m) xs
sum_of_classes r f xs zero = sym (count_by-none (λ x. r x && nat_lt (f x) 0) xs (λ x. and_right (r x) (nat_lt (f x) 0) (le-ltb (f x) 0 (omega arith))))
sum_of_classes r f xs (suc m) =
    ap (λ n. n + count_by (λ x. r x && (f x == m)) xs) (sum_of_classes r f xs m)
    ∙ count_by-split (λ x. r x && nat_lt (f x) m) (λ x. r x && (f x == m)) (λ x. r x && nat_lt (f x) (suc m)) xs
    (λ x. one_more (r x) (f x) m)

-- so together they are no more than all that pass
pub classes_bound : (r : ℕ → Bool) (f : ℕ → ℕ) (xs : List ℕ) (m : ℕ)
    → sum_below (λ s. count_by (λ x. r x && (f x == s)) xs) m ≤ count_by r xs
classes_bound r f xs m =
    subst (λ n. n ≤ count_by r xs) (sym (sum_of_classes r f xs m))
    (count_by-le (λ x. r x && nat_lt (f x) m) r xs (λ x both. (and_parts (r x) (nat_lt (f x) m) both).0))
