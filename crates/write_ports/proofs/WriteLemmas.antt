-- Writes put into a line in order, byte by byte.
use Rattle.std.proofs.Common.{◌≡◌, ℕ, ◌+◌, ◌-◌, ◌≤◌, ◌<◌, ◌^◌, Bool, true, false, List, [], ◌∷◌, ◌++◌, length, get_or, refl, sym, ap, ◌∙◌, ◌⊎◌, inl, inr, arith, take, lit<}
use Rattle.std.specs.Prelude.{◌==◌, ◌||◌, nat_lt, nat_le, if◌then◌else◌, All}
use Rattle.std.specs.Int.{bit_at}
use Rattle.std.specs.List.{list_all, range_with_len}
use Rattle.std.proofs.lemmas.List.Sums.{AllPass-from_list_all, list_all-from_AllPass}
use Rattle.std.proofs.lemmas.Nat.Bits.{bit_at_ones, same_from_bits_below}
use Rattle.std.proofs.lemmas.Bool.{false≢true, both_ways, or_cases, cases_lt, cases_Bool, eq-eqb, eqb-true, and_from, and_left, and_right, lt-ltb, le-ltb, le-leb, lt-leb, cond-true, cond-false, or_parts}
use Rattle.std.proofs.lemmas.List.{ext_get_or}
use Rattle.std.proofs.lemmas.List.Elements.{All-head, All-tail, filter_more}
use Rattle.std.proofs.lemmas.List.Folds.{list_any-append}
use Rattle.std.proofs.lemmas.List.FromFn.{fill_by_all, length-range_with_len, get_or-range_with_len}
use Rattle.pmem_base.specs.declared.lines.Line.{Line}
use Rattle.pmem_base.specs.declared.commands.Posted.{Posted}
use Rattle.pmem_base.specs.Lines.{line_of, zero_line}
use Rattle.pmem_base.specs.Ranges.{IsPosted}
use Rattle.pmem_base.specs.WaitingWrites.{posted_bytes, put_write, put_writes, writes_to, has_byte}
use Rattle.pmem_base.proofs.LineLemmas.{IsLine-zero_line}
use Rattle.pmem_base.proofs.Parts.{length-put_bytes, get_or-put_bytes_within, get_or-put_bytes_before, get_or-put_bytes_behind, length-part, get_or-part}
use Rattle.write_ports.specs.declared.seen.Seen.{Seen}
use Rattle.write_ports.specs.Queues.{have_byte, cover_line}
use Rattle.write_ports.specs.Seen.{is_seen, overlaid_byte, overlaid, IsSight}

-- ---- one write

length-posted_bytes : (write : Posted) → IsPosted write → length (posted_bytes write) ≡ write.len
length-posted_bytes write posted =
    length-part write.line.0 write.from write.len (omega (arith, posted.inside, posted.line_range.long))

pub length-put_write : (line : Line) (write : Posted) → length line.0 ≡ 64 → IsPosted write
    → length (put_write line write).0 ≡ 64
length-put_write line write long posted =
    length-put_bytes line write.from (posted_bytes write)
    (omega (arith, length-posted_bytes write posted, posted.inside))
    ∙ long

-- a byte that the write has
pub get_or-put_write_has : (line : Line) (write : Posted) (i : ℕ) → length line.0 ≡ 64 → IsPosted write
    → write.from ≤ i → i < write.from + write.len
    → get_or (put_write line write).0 i 0 ≡ get_or write.line.0 i 0
get_or-put_write_has line write i long posted low high =
    get_or-put_bytes_within line write.from (posted_bytes write) i 0
    (omega (arith, length-posted_bytes write posted, posted.inside)) low
    (omega (arith, length-posted_bytes write posted))
    ∙ get_or-part write.line.0 write.from write.len (i - write.from) 0 (omega arith)
    ∙ ap (λ n. get_or write.line.0 n 0) (omega arith)

-- any byte
pub get_or-put_write : (line : Line) (write : Posted) (i : ℕ) → length line.0 ≡ 64 → IsPosted write
    → get_or (put_write line write).0 i 0
    ≡ (if has_byte write i then get_or write.line.0 i 0 else get_or line.0 i 0)
get_or-put_write line write i long posted =
    elim (cases_lt i write.from) [
      | inl below ↦
          get_or-put_bytes_before line write.from (posted_bytes write) i 0
          (omega (arith, length-posted_bytes write posted, posted.inside)) below
          ∙ sym (cond-false (has_byte write i) (get_or write.line.0 i 0) (get_or line.0 i 0)
          (and_left (nat_le write.from i) (nat_lt i (write.from + write.len)) (lt-leb write.from i below)))
      | inr least ↦ elim (cases_lt i (write.from + write.len)) [
        | inl inside ↦
            get_or-put_write_has line write i long posted least inside
            ∙ sym (cond-true (has_byte write i) (get_or write.line.0 i 0) (get_or line.0 i 0)
            (and_from (nat_le write.from i) (nat_lt i (write.from + write.len)) (le-leb write.from i least)
            (lt-ltb i (write.from + write.len) inside)))
        | inr above ↦
            get_or-put_bytes_behind line write.from (posted_bytes write) i 0
            (omega (arith, length-posted_bytes write posted, posted.inside))
            (omega (arith, length-posted_bytes write posted))
            ∙ sym (cond-false (has_byte write i) (get_or write.line.0 i 0) (get_or line.0 i 0)
            (and_right (nat_le write.from i) (nat_lt i (write.from + write.len))
            (le-ltb i (write.from + write.len) above)))
      ]
    ]

-- a whole line has each byte, so nothing of the line under it is left
pub whole_has : (write : Posted) (i : ℕ) → IsPosted write → write.len ≡ 64 → i < 64 → has_byte write i ≡ true
whole_has write i posted whole inside =
    and_from (nat_le write.from i) (nat_lt i (write.from + write.len))
    (le-leb write.from i (omega (arith, posted.inside, whole)))
    (lt-ltb i (write.from + write.len) (omega (arith, whole, inside)))

pub put_write_whole : (a b : Line) (write : Posted) → length a.0 ≡ 64 → length b.0 ≡ 64 → IsPosted write → write.len ≡ 64
    → put_write a write ≡ put_write b write
put_write_whole a b write long_a long_b posted whole =
    ap line_of
    (ext_get_or 0 (put_write a write).0 (put_write b write).0
    (length-put_write a write long_a posted ∙ sym (length-put_write b write long_b posted))
    (λ i inside.
    let within : i < 64 = omega (arith, inside, length-put_write a write long_a posted) in
    by_byte a i long_a within ∙ sym (by_byte b i long_b within)))
  where
    by_byte : (line : Line) (i : ℕ) → length line.0 ≡ 64 → i < 64 → get_or (put_write line write).0 i 0 ≡ get_or write.line.0 i 0
    by_byte line i long within =
        get_or-put_write line write i long posted
        ∙ cond-true (has_byte write i) (get_or write.line.0 i 0) (get_or line.0 i 0) (whole_has write i posted whole within)

-- ---- writes in order

pub length-put_writes : (line : Line) (writes : List Posted) → length line.0 ≡ 64 → All IsPosted writes
    → length (put_writes line writes).0 ≡ 64
length-put_writes line [] long posted = long
length-put_writes line (write ∷ writes) long posted =
    length-put_writes (put_write line write) writes
    (length-put_write line write long (All-head IsPosted write writes posted))
    (All-tail IsPosted write writes posted)

pub put_writes-append : (line : Line) (xs ys : List Posted)
    → put_writes line (xs ++ ys) ≡ put_writes (put_writes line xs) ys
put_writes-append line [] ys = refl
put_writes-append line (write ∷ xs) ys = put_writes-append (put_write line write) xs ys

-- a byte that no write has stays
pub get_or-put_writes_none : (line : Line) (writes : List Posted) (i : ℕ) → length line.0 ≡ 64 → All IsPosted writes
    → have_byte writes i ≡ false → get_or (put_writes line writes).0 i 0 ≡ get_or line.0 i 0
get_or-put_writes_none line [] i long posted none = refl
get_or-put_writes_none line (write ∷ writes) i long posted none =
    let apart : (has_byte write i ≡ false) × (have_byte writes i ≡ false) =
    or_parts (has_byte write i) (have_byte writes i) none in
    get_or-put_writes_none (put_write line write) writes i
    (length-put_write line write long (All-head IsPosted write writes posted))
    (All-tail IsPosted write writes posted) apart.1
    ∙ get_or-put_write line write i long (All-head IsPosted write writes posted)
    ∙ cond-false (has_byte write i) (get_or write.line.0 i 0) (get_or line.0 i 0) apart.0

-- a byte that some write has is the same over any two lines
pub get_or-put_writes_some : (a b : Line) (writes : List Posted) (i : ℕ) → length a.0 ≡ 64 → length b.0 ≡ 64
    → All IsPosted writes → have_byte writes i ≡ true
    → get_or (put_writes a writes).0 i 0 ≡ get_or (put_writes b writes).0 i 0
get_or-put_writes_some a b [] i long_a long_b posted some = absurd (false≢true some)
get_or-put_writes_some a b (write ∷ writes) i long_a long_b posted some =
    by_rest (cases_Bool (have_byte writes i))
    (λ has.
    get_or-put_writes_some (put_write a write) (put_write b write) writes i
    (length-put_write a write long_a (All-head IsPosted write writes posted))
    (length-put_write b write long_b (All-head IsPosted write writes posted))
    (All-tail IsPosted write writes posted) has)
  where
    head : IsPosted write
    head = All-head IsPosted write writes posted

    rest : All IsPosted writes
    rest = All-tail IsPosted write writes posted

    here : (line : Line) → length line.0 ≡ 64 → has_byte write i ≡ true
        → get_or (put_write line write).0 i 0 ≡ get_or write.line.0 i 0
    here line long has =
        get_or-put_write line write i long head
        ∙ cond-true (has_byte write i) (get_or write.line.0 i 0) (get_or line.0 i 0) has

    by_here : (has_byte write i ≡ true) ⊎ (have_byte writes i ≡ true) → have_byte writes i ≡ false
        → get_or (put_writes (put_write a write) writes).0 i 0
        ≡ get_or (put_writes (put_write b write) writes).0 i 0
    by_here (inl has) none =
        get_or-put_writes_none (put_write a write) writes i (length-put_write a write long_a head) rest none
        ∙ here a long_a has ∙ sym (here b long_b has)
        ∙ sym (get_or-put_writes_none (put_write b write) writes i (length-put_write b write long_b head) rest none)
    by_here (inr has) none = absurd (both_ways (have_byte writes i) none has)

    by_rest : (have_byte writes i ≡ true) ⊎ (have_byte writes i ≡ false)
        → (have_byte writes i ≡ true
        → get_or (put_writes (put_write a write) writes).0 i 0
        ≡ get_or (put_writes (put_write b write) writes).0 i 0)
        → get_or (put_writes (put_write a write) writes).0 i 0
        ≡ get_or (put_writes (put_write b write) writes).0 i 0
    by_rest (inl has) same = same has
    by_rest (inr none) same = by_here (or_cases (has_byte write i) (have_byte writes i) some) none

-- ---- what is seen

-- over any line, what was seen of the writes is the line with the writes put into it
pub overlaid-sight : (line : Line) (writes : List Posted) (seen : Seen) → length line.0 ≡ 64
    → All IsPosted writes → IsSight writes seen → overlaid line seen ≡ put_writes line writes
unfolding overlaid
overlaid-sight line writes seen long posted sight =
    sym (ap line_of
    (fill_by_all (λ i. overlaid_byte line seen i) (put_writes line writes).0 64 0
    (length-put_writes line writes long posted) (λ k h. at_byte k h (cases_Bool (have_byte writes k)))))
  where
    at_byte : (k : ℕ) → k < 64 → (have_byte writes k ≡ true) ⊎ (have_byte writes k ≡ false)
        → get_or (put_writes line writes).0 k 0 ≡ overlaid_byte line seen k
    at_byte k h (inl has) =
        get_or-put_writes_some line zero_line writes k long IsLine-zero_line.long posted has
        ∙ sym (ap (λ (l : Line). get_or l.0 k 0) sight.newest)
        ∙ sym (cond-true (is_seen seen k) (get_or seen.line.0 k 0) (get_or line.0 k 0) (sight.seen_bytes k h ∙ has))
    at_byte k h (inr none) =
        get_or-put_writes_none line writes k long posted none
        ∙ sym (cond-false (is_seen seen k) (get_or seen.line.0 k 0) (get_or line.0 k 0) (sight.seen_bytes k h ∙ none))

-- whether each of the first n numbers passes
all_below : (p : ℕ → Bool) (n : ℕ) → ((i : ℕ) → i < n → p i ≡ true) → list_all p (range_with_len 0 n) ≡ true
all_below p n each =
    list_all-from_AllPass p (range_with_len 0 n)
    (λ k d h.
    let inside : k < n = omega (arith, length-range_with_len 0 n) in
    ap p (get_or-range_with_len 0 n k d inside ∙ omega arith) ∙ each k inside)

each_below : (p : ℕ → Bool) (n : ℕ) → list_all p (range_with_len 0 n) ≡ true → (i : ℕ) → i < n → p i ≡ true
each_below p n all i h =
    ap p (omega (arith, get_or-range_with_len 0 n i 0 h))
    ∙ AllPass-from_list_all p (range_with_len 0 n) all i 0 (omega (arith, length-range_with_len 0 n))

-- a full mask is seen exactly where the writes have the whole line
pub cover_line_from_mask : (writes : List Posted) (seen : Seen) → IsSight writes seen → seen.mask ≡ 2 ^ 64 - 1
    → cover_line writes ≡ true
unfolding cover_line
cover_line_from_mask writes seen sight full =
    all_below (λ i. have_byte writes i) 64
    (λ k h.
    sym (sight.seen_bytes k h)
    ∙ eq-eqb (bit_at seen.mask k) 1 (ap (λ n. bit_at n k) full ∙ bit_at_ones 64 k h))

pub mask_from_cover_line : (writes : List Posted) (seen : Seen) → IsSight writes seen → seen.mask < 2 ^ 64
    → cover_line writes ≡ true → seen.mask ≡ 2 ^ 64 - 1
unfolding cover_line
mask_from_cover_line writes seen sight small covered =
    same_from_bits_below 64 seen.mask (2 ^ 64 - 1) small (lit< tt)
    (λ i h.
    eqb-true (bit_at seen.mask i) 1
    (sight.seen_bytes i h ∙ each_below (λ k. have_byte writes k) 64 covered i h)
    ∙ sym (bit_at_ones 64 i h))

-- ---- one write more

pub IsSight-push : (xs ys : List Posted) (old new : Seen) → IsSight xs old
    → ((i : ℕ) → i < 64 → is_seen new i ≡ (is_seen old i || have_byte ys i))
    → new.line ≡ put_writes old.line ys → IsSight (xs ++ ys) new
IsSight-push xs ys old new sight mask line =
    record {
      seen_bytes = λ i h. mask i h
          ∙ ap (λ b. b || have_byte ys i) (sight.seen_bytes i h)
          ∙ sym (list_any-append (λ (write : Posted). has_byte write i) xs ys);
      newest = line ∙ ap (λ l. put_writes l ys) sight.newest ∙ sym (put_writes-append zero_line xs ys);
    }

-- the writes to line a among the first i + 1 of a queue
pub writes_to_more : (writes : List Posted) (i at : ℕ) (d : Posted) → i < length writes
    → writes_to (take (i + 1) writes) at ≡ writes_to (take i writes) at ++ writes_to (get_or writes i d ∷ []) at
writes_to_more writes i at d h = filter_more (λ (write : Posted). write.at == at) writes i d h
