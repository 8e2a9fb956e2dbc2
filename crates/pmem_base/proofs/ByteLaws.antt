-- Laws of the test on equal bytes, and of a number's bytes.
use Rattle.std.proofs.Common.{ℕ, zero, suc, ◌≡◌, ◌<◌, ◌/◌, ◌%◌, ◌^◌, true, eqb, List, [], ◌∷◌, length, refl, ap, subst, arith}
use Rattle.std.proofs.lemmas.List.Elements.{All-nil, All-cons}
use Rattle.std.proofs.lemmas.Bool.{eqb-true, eq-eqb, and_parts, and_from, false≢true}
use Rattle.pmem_base.specs.Lines.{AreBytes, same_bytes, big_endian}

pub same_bytes-refl : (xs : List ℕ) → same_bytes xs xs ≡ true
same_bytes-refl [] = refl
same_bytes-refl (x ∷ xs) = and_from (eqb x x) (same_bytes xs xs) (eq-eqb x x refl) (same_bytes-refl xs)

pub same_bytes-from : (xs ys : List ℕ) → xs ≡ ys → same_bytes xs ys ≡ true
same_bytes-from xs ys e = subst (λ l. same_bytes xs l ≡ true) e (same_bytes-refl xs)

pub same_bytes-true : (xs ys : List ℕ) → same_bytes xs ys ≡ true → xs ≡ ys
same_bytes-true [] [] h = refl
same_bytes-true [] (y ∷ ys) h = absurd (false≢true h)
same_bytes-true (x ∷ xs) [] h = absurd (false≢true h)
same_bytes-true (x ∷ xs) (y ∷ ys) h =
    let parts = and_parts (eqb x y) (same_bytes xs ys) h in
    let first = eqb-true x y parts.0 in
    let rest = same_bytes-true xs ys parts.1 in
    cc

pub length-big_endian : (n value : ℕ) → length (big_endian n value) ≡ n
length-big_endian zero value = refl
length-big_endian (suc n) value = ap suc (length-big_endian n value)

pub big_endian-AreBytes : (n value : ℕ) → AreBytes (big_endian n value)
big_endian-AreBytes zero value = All-nil (λ b. b < 256)
big_endian-AreBytes (suc n) value =
    All-cons (λ b. b < 256) ((value / 256 ^ n) % 256) (big_endian n value) (omega arith) (big_endian-AreBytes n value)
