-- Headers, and the targets that are read from them.
use Rattle.std.proofs.Common.{ℕ, zero, suc, ◌≡◌, ◌≢◌, ◌<◌, ◌≤◌, ◌+◌, ◌-◌, ◌*◌, ◌^◌, false, List, [], ◌∷◌, ◌++◌, length, get_or, take, drop, replicate, refl, sym, ap, subst, ◌∙◌, arith, rules}
use Rattle.std.specs.Int.{w32, from_be_bytes}
use Rattle.line_txn.proofs.Common.{All, slice_range, ◌==◌, flat_map, list_any, false≢true, eq-eqb, length-append, length-take-le, append_assoc, append-nil, take_more, take_all, drop-drop, drop-replicate, All-nil, All-cons, All-head, All-tail, All-append, list_any_at, take-append_seam, drop-append_seam, Line, IsLine, line_of, big_endian, from_big_endian, from_big_endian-big_endian, number_of_four, AreDistinctBelow, IsHeader, numbers_in, targets_in}
use borrow.Rule.Slice.PartMut.{put_mid}
use Rattle.std.proofs.lemmas.Grind.{flat_map-append}
use Rattle.std.proofs.lemmas.List.Quantifiers.{all_pairs_push}
use Rattle.line_txn.specs.Header.{header_of}

-- ---- the header that is made

-- the bytes of a header with this count, and these targets so far
abbrev pub header_bytes : ℕ → List ℕ → List ℕ
header_bytes count targets =
    (count ∷ 0 ∷ 0 ∷ 0 ∷ []) ++ flat_map (big_endian 4) targets ++ replicate (60 - 4 * length targets) 0

length-words : (targets : List ℕ) → length (flat_map (big_endian 4) targets) ≡ 4 * length targets
length-words [] = refl
length-words (t ∷ targets) =
    length-append (big_endian 4 t) (flat_map (big_endian 4) targets) ∙ omega (arith, length-words targets)

-- four bytes put behind a front, over the first four of the zeros there
put_behind : (front bytes : List ℕ) (at k room : ℕ) → length front ≡ at → k ≡ 4 → length bytes ≡ 4
    → put_mid at k (front ++ replicate room 0) bytes ≡ front ++ bytes ++ replicate (room - 4) 0
put_behind front bytes at k room e f g = search (rules, take-append_seam, drop-append_seam, drop-replicate, append_assoc)

pub header_step : (count : ℕ) (targets bytes word : List ℕ) (i k : ℕ) → length targets ≤ 15 → i < length targets
    → bytes ≡ header_bytes count (take i targets) → word ≡ big_endian 4 (get_or targets i 0) → k ≡ 4
    → put_mid (4 * i + 4) k bytes word ≡ header_bytes count (take (i + 1) targets)
header_step count targets bytes word i k few inside before its e =
    let head = count ∷ 0 ∷ 0 ∷ 0 ∷ [] in
    let front = (count ∷ 0 ∷ 0 ∷ 0 ∷ []) ++ flat_map (big_endian 4) (take i targets) in
    let so_far : length (take i targets) ≡ i = length-take-le i targets (omega (arith, inside)) in
    let one_more : length (take (i + 1) targets) ≡ i + 1 = length-take-le (i + 1) targets (omega (arith, inside)) in
    let long : length ((count ∷ 0 ∷ 0 ∷ 0 ∷ []) ++ flat_map (big_endian 4) (take i targets)) ≡ 4 * i + 4 =
    length-append (count ∷ 0 ∷ 0 ∷ 0 ∷ []) (flat_map (big_endian 4) (take i targets))
    ∙ omega (arith, length-words (take i targets), so_far) in
    let four : length word ≡ 4 = ap length its in
    let words : flat_map (big_endian 4) (take i targets) ++ word ≡ flat_map (big_endian 4) (take (i + 1) targets) =
    sym (ap (flat_map (big_endian 4)) (take_more targets i 0 inside)
    ∙ flat_map-append (big_endian 4) (take i targets) (get_or targets i 0 ∷ [])
    ∙ ap (λ l. flat_map (big_endian 4) (take i targets) ++ l) (append-nil (big_endian 4 (get_or targets i 0)) ∙ sym its)) in
    let room : 60 - 4 * length (take i targets) - 4 ≡ 60 - 4 * length (take (i + 1) targets) =
    omega (arith, so_far, one_more) in
    ap (λ l. put_mid (4 * i + 4) k l word) before
    ∙ put_behind front word (4 * i + 4) k (60 - 4 * length (take i targets)) long e four
    ∙ ap (λ l. l ++ replicate (60 - 4 * length (take i targets) - 4) 0)
    (append_assoc head (flat_map (big_endian 4) (take i targets)) word ∙ ap (λ l. head ++ l) words)
    ∙ ap (λ n. head ++ flat_map (big_endian 4) (take (i + 1) targets) ++ replicate n 0) room

pub header_end : (targets bytes : List ℕ) (i : ℕ) → i ≡ length targets → bytes ≡ header_bytes (length targets) (take i targets)
    → line_of bytes ≡ header_of targets
unfolding header_of
header_end targets bytes i all its =
    let whole : take i targets ≡ targets = take_all i targets (omega (arith, all)) in
    ap line_of (its ∙ ap (header_bytes (length targets)) whole)

-- ---- the targets that are read

pub numbers_more : (bytes : List ℕ) (count : ℕ)
    → numbers_in bytes (count + 1) ≡ numbers_in bytes count ++ from_big_endian (take 4 (drop (4 * count) bytes)) ∷ []
numbers_more bytes zero = refl
numbers_more bytes (suc count) =
    let more : suc count + 1 ≡ suc (count + 1) = omega arith in
    let later : 4 * count + 4 ≡ 4 * suc count = omega arith in
    ap (numbers_in bytes) more
    ∙ ap (λ l. from_big_endian (take 4 bytes) ∷ l)
    (numbers_more (drop 4 bytes) count
    ∙ ap (λ d. numbers_in (drop 4 bytes) count ++ from_big_endian (take 4 d) ∷ []) (drop-drop (4 * count) 4 bytes)
    ∙ ap (λ k. numbers_in (drop 4 bytes) count ++ from_big_endian (take 4 (drop k bytes)) ∷ []) (omega arith))

-- what is read of words is what they were made of
numbers_back : (targets rest : List ℕ) → All (λ t. t < 2 ^ 32) targets
    → numbers_in (flat_map (big_endian 4) targets ++ rest) (length targets) ≡ targets
numbers_back [] rest small = refl
numbers_back (t ∷ targets) rest small =
    let first : from_big_endian (big_endian 4 t) ≡ t = from_big_endian-big_endian 4 t (omega (arith, All-head (λ t. t < 2 ^ 32) t targets small)) in
    ap (λ z. z ∷ numbers_in (flat_map (big_endian 4) targets ++ rest) (length targets)) first
    ∙ ap (λ l. t ∷ l) (numbers_back targets rest (All-tail (λ t. t < 2 ^ 32) t targets small))

pub targets_back : (targets : List ℕ) → All (λ t. t < 2 ^ 32) targets → targets_in (header_of targets) (length targets) ≡ targets
unfolding header_of
targets_back targets small = numbers_back targets (replicate (60 - 4 * length targets) 0) small

-- ---- distinct lines below n

pub below_none : (n : ℕ) → AreDistinctBelow n []
below_none n = record { each = All-nil (λ t. t < n); distinct = λ i j d less within. absurd (omega arith) }

pub below_more : (n : ℕ) (targets : List ℕ) (i : ℕ) → i < length targets → get_or targets i 0 < n
    → list_any (λ y. y == get_or targets i 0) (take i targets) ≡ false
    → AreDistinctBelow n (take i targets) → AreDistinctBelow n (take (i + 1) targets)
below_more n targets i inside low new old =
    let t = get_or targets i 0 in
    let apart : (k d : ℕ) → k < length (take i targets) → get_or (take i targets) k d ≢ t =
    λ k d l e. false≢true (sym new ∙ list_any_at (λ y. y == t) (take i targets) k d l (eq-eqb (get_or (take i targets) k d) t e)) in
    let whole : take (i + 1) targets ≡ take i targets ++ t ∷ [] = take_more targets i 0 inside in
    subst (AreDistinctBelow n) (sym whole)
    (record {
      each = All-append (λ t. t < n) (take i targets) (t ∷ []) old.each (All-cons (λ t. t < n) t [] low (All-nil (λ t. t < n)));
      distinct = all_pairs_push (λ t u. t ≢ u) (take i targets) t old.distinct apart;
    })

-- ---- the header that is read

first_byte : (targets : List ℕ) → get_or (header_of targets).0 0 0 ≡ length targets
unfolding header_of
first_byte targets = refl

small_targets : (n : ℕ) (targets : List ℕ) → n < 2 ^ 32 → AreDistinctBelow n targets → All (λ t. t < 2 ^ 32) targets
small_targets n targets small its = λ k d l. omega (arith, its.each k d l)

-- a header's count and targets are those read from its line
pub count_of_header : (n : ℕ) (line : Line) (targets : List ℕ) → IsHeader n line targets → get_or line.0 0 0 ≡ length targets
count_of_header n line targets its = ap (λ (l : Line). get_or l.0 0 0) its.its_line ∙ first_byte targets

pub targets_of_header : (n : ℕ) (line : Line) (targets : List ℕ) → n < 2 ^ 32 → IsHeader n line targets
    → targets_in line (get_or line.0 0 0) ≡ targets
targets_of_header n line targets small its =
    ap (targets_in line) (count_of_header n line targets its)
    ∙ ap (λ l. targets_in l (length targets)) its.its_line
    ∙ targets_back targets (small_targets n targets small its.its_targets.below)

-- so a line is the header of one list at most
pub one_header : (n : ℕ) (line : Line) (targets others : List ℕ) → n < 2 ^ 32 → IsHeader n line targets → IsHeader n line others
    → targets ≡ others
one_header n line targets others small its other =
    sym (targets_of_header n line targets small its) ∙ targets_of_header n line others small other

-- ---- the loop that reads

pub numbers_step : (line : Line) (before after : List ℕ) (value i : ℕ) {L : Type 0} → IsLine line → i < 15
    → before ≡ numbers_in (drop 4 line.0) i → after ≡ before ++ value ∷ []
    → value ≡ from_be_bytes w32 (get_or line.0 (4 * i + 4) 0 ∷ get_or line.0 (4 * i + 4 + 1) 0 ∷ get_or line.0 (4 * i + 4 + 2) 0 ∷ get_or line.0 (4 * i + 4 + 3) 0 ∷ [])
    → L → (after ≡ numbers_in (drop 4 line.0) (i + 1)) × L
numbers_step line before after value i whole low its pushed read long =
    let at = 4 * i + 4 in
    let part : slice_range line.0 (4 * i + 4) (4 * i + 4 + 4) ≡ take 4 (drop (4 * i) (drop 4 line.0)) =
    let four : 4 * i + 4 + 4 - (4 * i + 4) ≡ 4 = omega arith in
    ap (λ k. take k (drop (4 * i + 4) line.0)) four ∙ ap (take 4) (sym (drop-drop (4 * i) 4 line.0 ∙ ap (λ k. drop k line.0) (omega arith))) in
    let word : value ≡ from_big_endian (take 4 (drop (4 * i) (drop 4 line.0))) =
    read ∙ number_of_four line.0 (4 * i + 4) (omega (arith, whole.long, low)) ∙ ap from_big_endian part in
    (pushed ∙ ap (λ l. l ++ value ∷ []) its ∙ ap (λ v. numbers_in (drop 4 line.0) i ++ v ∷ []) word ∙ sym (numbers_more (drop 4 line.0) i), long)

-- ---- a line that is no header

pub too_many : (n : ℕ) (line : Line) (targets : List ℕ) → 15 < get_or line.0 0 0 → IsHeader n line targets → ⊥
too_many n line targets many its = omega (arith, many, count_of_header n line targets its, its.its_targets.few)

-- the numbers read from a header are below n and distinct, and their header is the line
pub read_of_header : (n : ℕ) (line : Line) (read targets : List ℕ) → n < 2 ^ 32 → read ≡ targets_in line (get_or line.0 0 0)
    → IsHeader n line targets → AreDistinctBelow n read × (header_of read ≡ line)
read_of_header n line read targets small its header =
    let same : targets ≡ read = sym (its ∙ targets_of_header n line targets small header) in
    (subst (AreDistinctBelow n) same header.its_targets.below, ap header_of (sym same) ∙ sym header.its_line)
