-- A wear's record and the wear that it records.
use Rattle.std.proofs.Common.{ℕ, ◌≡◌, ◌<◌, ◌≤◌, ◌-◌, ◌^◌, true, List, ◌++◌, length, take, drop, replicate, Some, None, sym, ap, ◌∙◌, arith, rules}
use Rattle.std.specs.Prelude.{nat_lt as ltb, nat_le as leb}
use Rattle.std.specs.Int.{w32, to_be_bytes}
use Rattle.start_gap.proofs.Common.{slice_range, ◌&&◌, length-append, length-drop, length-take-le, take-append-drop, append_assoc, drop-drop, All-append, All-take, All-drop, All-replicate, cond-true, cond-false, and_from, and_parts, false_from_ne_true, lt-ltb, le-leb, Line, IsLine, line_of, big_endian, from_big_endian, same_bytes, bytes_of_four, from_big_endian-big_endian, big_endian-from_big_endian, Wear, IsWear, start_in, moved_in, is_record, recorded}
use borrow.Rule.Slice.PartMut.{put_mid}
use Rattle.std.proofs.Math.Seq.{drop-append_seam}
use Rattle.pmem_base.proofs.ByteLaws.{same_bytes-from, same_bytes-true, big_endian-AreBytes}
use Rattle.start_gap.specs.Record.{wear_record}

-- ---- the record that is made

pub record_made : (n : ℕ) (wear : Wear) (first second : List ℕ) → first ≡ to_be_bytes w32 wear.start
    → second ≡ to_be_bytes w32 (n - wear.gap)
    → line_of (put_mid 4 4 (first ++ replicate 60 0) second) ≡ wear_record n wear
unfolding wear_record
record_made n wear first second e f =
    ap (λ z. line_of (put_mid 4 4 (z ++ replicate 60 0) second)) (e ∙ bytes_of_four wear.start)
    ∙ ap (λ z. line_of (put_mid 4 4 (big_endian 4 wear.start ++ replicate 60 0) z)) (f ∙ bytes_of_four (n - wear.gap))

-- ---- the wear that is read

-- a line in its three parts
parts : (line : Line) → IsLine line → line ≡ line_of (slice_range line.0 0 4 ++ slice_range line.0 4 8 ++ drop 8 line.0)
parts line whole = search (rules, drop-drop, take-append-drop, append_assoc)

front : (line : Line) → IsLine line → big_endian 4 (start_in line) ≡ slice_range line.0 0 4
front line whole =
    let long : length (take 4 line.0) ≡ 4 = length-take-le 4 line.0 (omega (arith, whole.long)) in
    ap (λ z. big_endian z (from_big_endian (take 4 line.0))) (sym long)
    ∙ big_endian-from_big_endian (take 4 line.0) (All-take (λ b. b < 256) 4 line.0 whole.bytes)

middle : (line : Line) → IsLine line → big_endian 4 (moved_in line) ≡ slice_range line.0 4 8
middle line whole =
    let long : length (take 4 (drop 4 line.0)) ≡ 4 =
    length-take-le 4 (drop 4 line.0) (omega (arith, length-drop 4 line.0, whole.long)) in
    ap (λ z. big_endian z (from_big_endian (take 4 (drop 4 line.0)))) (sym long)
    ∙ big_endian-from_big_endian (take 4 (drop 4 line.0))
    (All-take (λ b. b < 256) 4 (drop 4 line.0) (All-drop (λ b. b < 256) 4 line.0 whole.bytes))

-- the record of what is read from a line differs from it at most behind byte 7
pub record_of_read : (n : ℕ) (line : Line) → IsLine line → moved_in line ≤ n
    → wear_record n (record { start = start_in line; gap = n - moved_in line })
    ≡ line_of (slice_range line.0 0 4 ++ slice_range line.0 4 8 ++ replicate 56 0)
unfolding wear_record
record_of_read n line whole few = search (rules, front, middle)

-- so it is the line exactly if the rest is 0
rest_of_record : (n : ℕ) (line : Line) → IsLine line → moved_in line ≤ n
    → wear_record n (record { start = start_in line; gap = n - moved_in line }) ≡ line
    → drop 8 line.0 ≡ replicate 56 0
rest_of_record n line whole few same = search (rules, length-take-le, length-drop, length-append, record_of_read, drop-append_seam)

-- the test on the parts
is_record_from : (n : ℕ) (line : Line) → start_in line < n → moved_in line ≤ n
    → drop 8 line.0 ≡ replicate 56 0 → is_record n line ≡ true
is_record_from n line low few rest = search (rules, and_from, lt-ltb, le-leb, same_bytes-from)

pub reads : (n s m : ℕ) (line made : Line) → IsLine line → s ≡ start_in line → m ≡ moved_in line → s < n → m ≤ n
    → made ≡ wear_record n (record { start = s; gap = n - m }) → made ≡ line
    → Some (record { start = s; gap = n - m }) ≡ recorded n line
reads n s m line made whole es em low few its same = search (rules, cond-true, is_record_from, rest_of_record)

pub reads_none : (n s m : ℕ) (line made : Line) → IsLine line → s ≡ start_in line → m ≡ moved_in line → m ≤ n
    → made ≡ wear_record n (record { start = s; gap = n - m }) → (made ≡ line → ⊥)
    → None ≡ recorded n line
reads_none n s m line made whole es em few its other =
    let few' : moved_in line ≤ n = omega (arith, em) in
    let wear : record { start = s; gap = n - m } ≡ record { start = start_in line; gap = n - moved_in line } =
    ap (λ (z : ℕ). record { start = z; gap = n - m }) es ∙ ap (λ (z : ℕ). record { start = start_in line; gap = n - z }) em in
    let back : drop 8 line.0 ≡ replicate 56 0 → made ≡ line =
    λ rest. its ∙ ap (wear_record n) wear ∙ record_of_read n line whole few'
    ∙ ap (λ z. line_of (slice_range line.0 0 4 ++ slice_range line.0 4 8 ++ z)) (sym rest) ∙ sym (parts line whole) in
    sym (cond-false (is_record n line) _ _
    (false_from_ne_true (is_record n line) (λ t.
    other (back (same_bytes-true (drop 8 line.0) (replicate 56 0)
    (and_parts (ltb (start_in line) n && leb (moved_in line) n) (same_bytes (drop 8 line.0) (replicate 56 0)) t).1)))))

-- ---- a wear comes back from its record

pub recorded_record : (n : ℕ) (wear : Wear) → n < 2 ^ 32 → IsWear n wear → recorded n (wear_record n wear) ≡ Some wear
unfolding wear_record
recorded_record n wear small its = search (rules, from_big_endian-big_endian, is_record_from)

-- a record is a line
pub wear_record-IsLine : (n : ℕ) (wear : Wear) → IsLine (wear_record n wear)
unfolding wear_record
wear_record-IsLine n wear = search (rules, All-append, big_endian-AreBytes, All-replicate)

-- what is recorded is a wear
pub recorded-IsWear : (n : ℕ) (line : Line) (wear : Wear) → recorded n line ≡ Some wear → IsWear n wear
recorded-IsWear n line wear = search rules
