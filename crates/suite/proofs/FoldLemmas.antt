-- The exclusive or of many bytes, combined in four rows at a time.
use Rattle.std.proofs.Common.{ℕ, ◌≡◌, ◌≤◌, List, [], ◌∷◌, ◌++◌, length, fold, take, drop, refl, sym, ap, ◌∙◌, arith}
use Rattle.std.specs.Prelude.{bit_xor}
use Rattle.std.specs.Simd.Lanes.{zip2, fold_l}
use Rattle.std.specs.Int.Bits.{xor_zero_l}
use Rattle.std.proofs.lemmas.Nat.{xor_comm}
use Rattle.std.proofs.lemmas.Simd.{length-zip2}
use Rattle.std.proofs.lemmas.List.Sums.{fold-append}
use Rattle.std.proofs.lemmas.List.{length-take-le, length-drop, take-take, take_all}
use Rattle.std.proofs.Math.Seq.{take-add}
use lib.Bits.{xor_assoc}

xor_swap : (a b c : ℕ) → bit_xor (bit_xor a b) c ≡ bit_xor (bit_xor a c) b
xor_swap a b c = xor_assoc a b c ∙ ap (bit_xor a) (xor_comm b c) ∙ sym (xor_assoc a c b)

-- what the fold begins with may be combined at the end
fold_later : (a b : ℕ) (xs : List ℕ) → fold bit_xor (bit_xor a b) xs ≡ bit_xor (fold bit_xor a xs) b
fold_later a b [] = refl
fold_later a b (x ∷ xs) = ap (λ s. fold bit_xor s xs) (xor_swap a b x) ∙ fold_later (bit_xor a x) b xs

fold_lanes : (a : ℕ) (xs : List ℕ) → fold_l bit_xor a xs ≡ fold bit_xor a xs
fold_lanes a [] = refl
fold_lanes a (x ∷ xs) = fold_lanes (bit_xor a x) xs

-- two rows combined are folded like one behind the other
fold_zipped : (a : ℕ) (xs ys : List ℕ) → length xs ≡ length ys → fold bit_xor a (zip2 bit_xor xs ys) ≡ fold bit_xor a (xs ++ ys)
fold_zipped a [] [] long = refl
fold_zipped a [] (y ∷ ys) long = absurd (omega (arith, long))
fold_zipped a (x ∷ xs) [] long = absurd (omega (arith, long))
fold_zipped a (x ∷ xs) (y ∷ ys) long =
    fold_zipped (bit_xor a (bit_xor x y)) xs ys (omega (arith, long))
    ∙ fold-append bit_xor (bit_xor a (bit_xor x y)) xs ys
    ∙ ap (λ s. fold bit_xor s ys) (ap (λ s. fold bit_xor s xs) (sym (xor_assoc a x y)) ∙ fold_later (bit_xor a x) y xs)
    ∙ sym (fold-append bit_xor (bit_xor a x) xs (y ∷ ys))

fold_joined : (a : ℕ) (xs front ys : List ℕ) → length xs ≡ length ys → fold bit_xor a xs ≡ fold bit_xor a front
    → fold bit_xor a (zip2 bit_xor xs ys) ≡ fold bit_xor a (front ++ ys)
fold_joined a xs front ys long same =
    fold_zipped a xs ys long
    ∙ fold-append bit_xor a xs ys
    ∙ ap (λ s. fold bit_xor s ys) same
    ∙ sym (fold-append bit_xor a front ys)

row_long : (bytes : List ℕ) (i : ℕ) → length bytes ≡ 64 → i ≤ 48 → length (take 16 (drop i bytes)) ≡ 16
row_long bytes i long inside = length-take-le 16 (drop i bytes) (omega (arith, length-drop i bytes, long, inside))

fold_whole_rows : (start : ℕ) (bytes : List ℕ) → length bytes ≡ 64
    → bit_xor start (fold_l bit_xor 0 (zip2 bit_xor (zip2 bit_xor (zip2 bit_xor (take 16 bytes) (take 16 (drop 16 bytes))) (take 16 (drop 32 bytes))) (take 16 (drop 48 bytes))))
    ≡ fold bit_xor start bytes
fold_whole_rows start bytes long =
    let first = take 16 bytes in
    let second = take 16 (drop 16 bytes) in
    let third = take 16 (drop 32 bytes) in
    let fourth = take 16 (drop 48 bytes) in
    let first_long : length (take 16 bytes) ≡ 16 = length-take-le 16 bytes (omega (arith, long)) in
    let second_long = row_long bytes 16 long (omega arith) in
    let third_long = row_long bytes 32 long (omega arith) in
    let fourth_long = row_long bytes 48 long (omega arith) in
    let two_long : length (zip2 bit_xor first second) ≡ 16 = length-zip2 bit_xor first second (first_long ∙ sym second_long) ∙ first_long in
    let three_long : length (zip2 bit_xor (zip2 bit_xor first second) third) ≡ 16 =
    length-zip2 bit_xor (zip2 bit_xor first second) third (two_long ∙ sym third_long) ∙ two_long in
    let two : fold bit_xor 0 (zip2 bit_xor first second) ≡ fold bit_xor 0 (take 32 bytes) =
    fold_joined 0 first first second (first_long ∙ sym second_long) refl
    ∙ ap (fold bit_xor 0) (sym (take-add 16 16 bytes)) in
    let three : fold bit_xor 0 (zip2 bit_xor (zip2 bit_xor first second) third) ≡ fold bit_xor 0 (take 48 bytes) =
    fold_joined 0 (zip2 bit_xor first second) (take 32 bytes) third (two_long ∙ sym third_long) two
    ∙ ap (fold bit_xor 0) (sym (take-add 32 16 bytes)) in
    let four : fold bit_xor 0 (zip2 bit_xor (zip2 bit_xor (zip2 bit_xor first second) third) fourth) ≡ fold bit_xor 0 bytes =
    fold_joined 0 (zip2 bit_xor (zip2 bit_xor first second) third) (take 48 bytes) fourth (three_long ∙ sym fourth_long) three
    ∙ ap (fold bit_xor 0) (sym (take-add 48 16 bytes) ∙ take_all 64 bytes (omega (arith, long))) in
    ap (bit_xor start) (fold_lanes 0 (zip2 bit_xor (zip2 bit_xor (zip2 bit_xor first second) third) fourth) ∙ four)
    ∙ xor_comm start (fold bit_xor 0 bytes)
    ∙ sym (fold_later 0 start bytes)
    ∙ ap (λ s. fold bit_xor s bytes) (xor_zero_l start)

-- sixty-four bytes, by the first sixteen at each of four places, which are combined
pub fold_rows : (start : ℕ) (bytes : List ℕ) → length bytes ≡ 64
    → bit_xor start (fold_l bit_xor 0 (zip2 bit_xor (zip2 bit_xor (zip2 bit_xor (take 16 bytes) (take 16 (take 48 (drop 16 bytes)))) (take 16 (take 32 (drop 32 bytes)))) (take 16 (take 16 (drop 48 bytes)))))
    ≡ fold bit_xor start bytes
fold_rows start bytes long =
    ap (λ row. bit_xor start (fold_l bit_xor 0 (zip2 bit_xor (zip2 bit_xor (zip2 bit_xor (take 16 bytes) row) (take 16 (take 32 (drop 32 bytes)))) (take 16 (take 16 (drop 48 bytes))))))
    (take-take 16 48 (drop 16 bytes) (omega arith))
    ∙ ap (λ row. bit_xor start (fold_l bit_xor 0 (zip2 bit_xor (zip2 bit_xor (zip2 bit_xor (take 16 bytes) (take 16 (drop 16 bytes))) row) (take 16 (take 16 (drop 48 bytes))))))
    (take-take 16 32 (drop 32 bytes) (omega arith))
    ∙ ap (λ row. bit_xor start (fold_l bit_xor 0 (zip2 bit_xor (zip2 bit_xor (zip2 bit_xor (take 16 bytes) (take 16 (drop 16 bytes))) (take 16 (drop 32 bytes))) row)))
    (take-take 16 16 (drop 48 bytes) (omega arith))
    ∙ fold_whole_rows start bytes long
