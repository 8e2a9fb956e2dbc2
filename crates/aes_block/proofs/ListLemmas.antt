-- Lists of bytes, by element.
use Rattle.std.proofs.Common.{◌≡◌, ℕ, zero, suc, ◌+◌, ◌<◌, ◌≤◌, List, [], ◌∷◌, ◌++◌, length, get_or, drop, map, refl, sym, ◌∙◌, ap, arith, not-suc-le-zero}
use Rattle.std.specs.Prelude.{bit_xor}
use Rattle.std.specs.List.{range_with_len}
use Rattle.std.proofs.lemmas.List.{drop_more}
use Rattle.std.proofs.lemmas.List.FromFn.{fill_by_all}
use Rattle.aes_block.specs.Cipher.{xor_with}

-- a list of n elements, by its elements
pub cells_of : (n : ℕ) (xs : List ℕ) → length xs ≡ n → xs ≡ map (λ k. get_or xs k 0) (range_with_len 0 n)
cells_of n xs len = fill_by_all (λ k. get_or xs k 0) xs n 0 len (λ k _. refl)

pub length-xor_with : (xs ys : List ℕ) → length xs ≡ length ys →
    length (xor_with xs ys) ≡ length xs
unfolding xor_with
length-xor_with [] ys h = refl
length-xor_with (x ∷ xs) [] h = sym h
length-xor_with (x ∷ xs) (y ∷ ys) h = ap suc (length-xor_with xs ys (omega arith))

pub get_or-xor_with : (xs ys : List ℕ) (k : ℕ) → length xs ≡ length ys → k < length xs →
    get_or (xor_with xs ys) k 0 ≡ bit_xor (get_or xs k 0) (get_or ys k 0)
unfolding xor_with
get_or-xor_with [] ys k h lt = absurd (not-suc-le-zero lt)
get_or-xor_with (x ∷ xs) [] k h lt = absurd (omega arith)
get_or-xor_with (x ∷ xs) (y ∷ ys) zero h lt = refl
get_or-xor_with (x ∷ xs) (y ∷ ys) (suc k) h lt = get_or-xor_with xs ys k (omega arith) (omega arith)

-- the four elements at a place
abbrev pub four_at : List ℕ → ℕ → List ℕ
four_at xs k = get_or xs k 0 ∷ get_or xs (k + 1) 0 ∷ get_or xs (k + 2) 0 ∷ get_or xs (k + 3) 0 ∷ []

pub drop-four_at : (xs : List ℕ) (k : ℕ) → k + 4 ≤ length xs → drop k xs ≡ four_at xs k ++ drop (k + 4) xs
drop-four_at xs k h =
    let next : (i j : ℕ) → i < length xs → i + 1 ≡ j → drop i xs ≡ get_or xs i 0 ∷ drop j xs =
    λ i j below e. drop_more xs i 0 below ∙ ap (λ n. get_or xs i 0 ∷ drop n xs) e in
    next k (k + 1) (omega arith) refl
    ∙ ap (λ t. get_or xs k 0 ∷ t) (next (k + 1) (k + 2) (omega arith) (omega arith))
    ∙ ap (λ t. get_or xs k 0 ∷ get_or xs (k + 1) 0 ∷ t) (next (k + 2) (k + 3) (omega arith) (omega arith))
    ∙ ap (λ t. get_or xs k 0 ∷ get_or xs (k + 1) 0 ∷ get_or xs (k + 2) 0 ∷ t)
    (next (k + 3) (k + 4) (omega arith) (omega arith))
