-- Bytes put into a line, and what is then read from it.
use Rattle.std.proofs.Common.{◌≡◌, ℕ, ◌+◌, ◌-◌, ◌≤◌, ◌<◌, List, ◌++◌, length, get_or, take, drop, refl, sym, ap, ◌∙◌, arith, append_assoc}
use Rattle.std.specs.Prelude.{slice_range}
use Rattle.std.proofs.lemmas.List.{length-append, length-drop, length-take-le, get_or_append_left, get_or-append_right, get_or-take, get_or-drop, take_at, drop_at, take-take, take-append-le, drop-drop}
use Rattle.std.proofs.lemmas.Slice.{between_is}
use Rattle.pmem_base.specs.declared.lines.Line.{Line}
use Rattle.pmem_base.specs.Lines.{put_bytes}

-- ---- a part of a list

pub length-part : (xs : List ℕ) (p m : ℕ) → p + m ≤ length xs → length (slice_range xs p (p + m)) ≡ m
length-part xs p m h =
    let rest : length (drop p xs) ≡ length xs - p = length-drop p xs in
    let size : p + m - p ≡ m = omega arith in
    length-take-le (p + m - p) (drop p xs) (omega arith) ∙ size

pub get_or-part : (xs : List ℕ) (p m k d : ℕ) → k < m → get_or (slice_range xs p (p + m)) k d ≡ get_or xs (p + k) d
get_or-part xs p m k d h =
    get_or-take (p + m - p) (drop p xs) k d (omega arith) ∙ get_or-drop p xs k d

-- ---- a byte of a line with bytes put at o

pub length-put_bytes : (line : Line) (o : ℕ) (bytes : List ℕ) → o + length bytes ≤ length line.0
    → length (put_bytes line o bytes).0 ≡ length line.0
length-put_bytes line o bytes h =
    omega (
      arith,
      length-append (take o line.0 ++ bytes) (drop (o + length bytes) line.0),
      length-append (take o line.0) bytes,
      length-take-le o line.0 (omega arith),
      length-drop (o + length bytes) line.0,
    )

pub get_or-put_bytes_within : (line : Line) (o : ℕ) (bytes : List ℕ) (k d : ℕ) → o + length bytes ≤ length line.0
    → o ≤ k → k < o + length bytes → get_or (put_bytes line o bytes).0 k d ≡ get_or bytes (k - o) d
get_or-put_bytes_within line o bytes k d h low high =
    let front : length (take o line.0) ≡ o = length-take-le o line.0 (omega arith) in
    get_or_append_left (take o line.0 ++ bytes) (drop (o + length bytes) line.0) d k
    (omega (arith, front, length-append (take o line.0) bytes))
    ∙ get_or-append_right (take o line.0) bytes o k d front low

pub get_or-put_bytes_before : (line : Line) (o : ℕ) (bytes : List ℕ) (k d : ℕ) → o + length bytes ≤ length line.0
    → k < o → get_or (put_bytes line o bytes).0 k d ≡ get_or line.0 k d
get_or-put_bytes_before line o bytes k d h low =
    let front : length (take o line.0) ≡ o = length-take-le o line.0 (omega arith) in
    get_or_append_left (take o line.0 ++ bytes) (drop (o + length bytes) line.0) d k
    (omega (arith, front, length-append (take o line.0) bytes))
    ∙ get_or_append_left (take o line.0) bytes d k (omega (arith, front))
    ∙ get_or-take o line.0 k d low

pub get_or-put_bytes_behind : (line : Line) (o : ℕ) (bytes : List ℕ) (k d : ℕ) → o + length bytes ≤ length line.0
    → o + length bytes ≤ k → get_or (put_bytes line o bytes).0 k d ≡ get_or line.0 k d
get_or-put_bytes_behind line o bytes k d h low =
    let front : length (take o line.0) ≡ o = length-take-le o line.0 (omega arith) in
    get_or-append_right (take o line.0 ++ bytes) (drop (o + length bytes) line.0) (o + length bytes) k d
    (omega (arith, front, length-append (take o line.0) bytes)) low
    ∙ get_or-drop (o + length bytes) line.0 (k - (o + length bytes)) d
    ∙ ap (λ n. get_or line.0 n d) (omega arith)

-- ---- a part of a line with bytes put at o

rest_at : (line : Line) (o : ℕ) (bytes : List ℕ) → (put_bytes line o bytes).0 ≡ take o line.0 ++ (bytes ++ drop (o + length bytes) line.0)
rest_at line o bytes = append_assoc (take o line.0) bytes (drop (o + length bytes) line.0)

-- what was put
pub part-put_bytes_same : (line : Line) (o : ℕ) (bytes : List ℕ) → o ≤ length line.0 → slice_range (put_bytes line o bytes).0 o (o + length bytes) ≡ bytes
part-put_bytes_same line o bytes inside =
    let rest = drop (o + length bytes) line.0 in
    let count : o + length bytes - o ≡ length bytes = omega arith in
    ap (λ n. take n (drop o (put_bytes line o bytes).0)) count
    ∙ (ap (λ t. take (length bytes) (drop o t)) (rest_at line o bytes)
    ∙ (ap (λ t. take (length bytes) t) (drop_at (take o line.0) (bytes ++ rest) o (length-take-le o line.0 inside))
    ∙ take_at bytes rest (length bytes) refl))

-- what stands before it
pub part-put_bytes_before : (line : Line) (o : ℕ) (bytes : List ℕ) (i j : ℕ) → o ≤ length line.0 → j ≤ o → slice_range (put_bytes line o bytes).0 i j ≡ slice_range line.0 i j
part-put_bytes_before line o bytes i j inside before =
    let rest = drop (o + length bytes) line.0 in
    ap (λ t. slice_range t i j) (rest_at line o bytes)
    ∙ (between_is (take o line.0 ++ (bytes ++ rest)) i j
    ∙ (ap (λ t. drop i t)
    (take-append-le j (take o line.0) (bytes ++ rest) (omega (arith, before, length-take-le o line.0 inside)) ∙ take-take j o line.0 before)
    ∙ sym (between_is line.0 i j)))

-- what stands behind it
pub part-put_bytes_behind : (line : Line) (o : ℕ) (bytes : List ℕ) (i j : ℕ) → o ≤ length line.0 → o + length bytes ≤ i → slice_range (put_bytes line o bytes).0 i j ≡ slice_range line.0 i j
part-put_bytes_behind line o bytes i j inside behind =
    let end = o + length bytes in
    let place : end + (i - end) ≡ i = omega (arith, behind) in
    let front : length (take o line.0 ++ bytes) ≡ end = omega (arith, length-append (take o line.0) bytes, length-take-le o line.0 inside) in
    ap (λ t. take (j - i) t)
    (ap (λ n. drop n (put_bytes line o bytes).0) (sym place)
    ∙ (sym (drop-drop (i - end) end (put_bytes line o bytes).0)
    ∙ (ap (λ t. drop (i - end) t) (drop_at (take o line.0 ++ bytes) (drop end line.0) end front)
    ∙ (drop-drop (i - end) end line.0 ∙ ap (λ n. drop n line.0) place))))
