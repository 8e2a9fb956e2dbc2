-- Eight minors are seven bytes: the line of a block and the block of a line, by groups.
use Rattle.std.proofs.lemmas.Grind.{common_steps}
use Rattle.std.proofs.Common.{rules, ℕ, zero, suc, slice_index, ◌≡◌, ◌<◌, ◌≤◌, ◌+◌, ◌-◌, ◌*◌, ◌/◌, ◌%◌, ◌^◌, List, [], ◌∷◌, ◌++◌, length, take, drop, refl, sym, ap, subst, ◌∙◌, arith}
use Rattle.std.specs.Prelude.{All}
use Rattle.std.proofs.lemmas.List.{append_assoc, append-nil, get_or_append_left, get_or-append-add, length-drop, length-take-le, take_all, drop-drop}
use Rattle.std.proofs.lemmas.Slice.{take-put_mid}
use borrow.Rule.Slice.PartMut.{put_mid}
use Rattle.std.specs.Int.{w64, to_be_bytes, from_be_bytes}
use Rattle.std.proofs.Math.Nat.{pow-le-pow_right, div-one}
use Rattle.std.proofs.lemmas.List.Elements.{All-take, All-drop}
use Rattle.std.proofs.Math.Seq.{take-add}
use Rattle.pmem_base.specs.declared.lines.Line.{Line}
use Rattle.pmem_base.specs.declared.lines.Ctr.{Ctr}
use Rattle.pmem_base.specs.Lines.{AreBytes, IsLine, line_of, big_endian, from_big_endian}
use Rattle.split_counters.specs.declared.Block.{Block}
use Rattle.split_counters.specs.Blocks.{packed, unpacked, minor_of, block_counter, number_of_minors, minors_of_number}
use Rattle.pmem_base.proofs.Digits.{big_endian-join, from_big_endian-append, from_big_endian-below}
use Rattle.split_counters.proofs.MinorDigits.{length-minors_of_number, minors_of_number-join, number_of_minors-append, number_of_minors-below}

-- seven minors have 49 bits
pub number_of_minors-few : (minors : List ℕ) (i : ℕ) → i ≤ 7 → length minors ≡ 8 → All (λ m. m ≤ 127) minors → number_of_minors (take i minors) < 2 ^ 49
number_of_minors-few minors i few long small = grind (arith, common_steps, number_of_minors-below, All-take, pow-le-pow_right, length-take-le)

-- a major's bytes and those of the first g groups of minors
unfoldable pub packed_front : ℕ → List ℕ → ℕ → List ℕ
packed_front major minors g =
    big_endian 8 major ++ big_endian (7 * g) (number_of_minors (take (8 * g) minors))

pub packed_front-none : (major : ℕ) (minors : List ℕ) → packed_front major minors 0 ≡ big_endian 8 major
unfolding packed_front
packed_front-none major minors = append-nil (big_endian 8 major)

pub packed_front-more : (major : ℕ) (minors : List ℕ) (g : ℕ) → All (λ m. m ≤ 127) minors → 8 * g + 8 ≤ length minors → packed_front major minors g ++ big_endian 7 (number_of_minors (take 8 (drop (8 * g) minors))) ≡ packed_front major minors (g + 1)
unfolding packed_front
packed_front-more major minors g small long =
    let front = take (8 * g) minors in
    let group = take 8 (drop (8 * g) minors) in
    let eight : length (take 8 (drop (8 * g) minors)) ≡ 8 = length-take-le 8 (drop (8 * g) minors) (omega (arith, length-drop (8 * g) minors)) in
    let below : number_of_minors (take 8 (drop (8 * g) minors)) < 256 ^ 7 =
    subst (λ n. number_of_minors group < 128 ^ n) eight
    (number_of_minors-below group (All-take (λ m. m ≤ 127) 8 (drop (8 * g) minors) (All-drop (λ m. m ≤ 127) (8 * g) minors small))) in
    let longer : 8 * (g + 1) ≡ 8 * g + 8 = omega arith in
    let whole : number_of_minors (take (8 * (g + 1)) minors) ≡ number_of_minors front * 256 ^ 7 + number_of_minors group =
    search (rules, take-add, number_of_minors-append) in
    let bytes : 7 * g + 7 ≡ 7 * (g + 1) = omega arith in
    append_assoc (big_endian 8 major) (big_endian (7 * g) (number_of_minors front)) (big_endian 7 (number_of_minors group))
    ∙ ap (λ bs. big_endian 8 major ++ bs)
    (sym (big_endian-join (7 * g) 7 (number_of_minors front) (number_of_minors group) below)
    ∙ (ap (λ z. big_endian (7 * g + 7) z) (sym whole)
    ∙ ap (λ n. big_endian n (number_of_minors (take (8 * (g + 1)) minors))) bytes))

pub packed_front-all : (major : ℕ) (minors : List ℕ) → length minors ≡ 64 → packed_front major minors 8 ≡ big_endian 8 major ++ big_endian 56 (number_of_minors minors)
unfolding packed_front
packed_front-all major minors long =
    ap (λ ms. big_endian 8 major ++ big_endian 56 (number_of_minors ms)) (take_all 64 minors (omega (arith, long)))

-- the minors of the first g groups of bytes
unfoldable pub unpacked_front : List ℕ → ℕ → List ℕ
unpacked_front bytes g = minors_of_number (8 * g) (from_big_endian (take (7 * g) bytes))

unpacked_front-length : (bytes : List ℕ) (g : ℕ) → length (unpacked_front bytes g) ≡ 8 * g
unfolding unpacked_front
unpacked_front-length bytes g = length-minors_of_number (8 * g) (from_big_endian (take (7 * g) bytes))

pub unpacked_front-none : (bytes : List ℕ) → unpacked_front bytes 0 ≡ []
unfolding unpacked_front
unpacked_front-none bytes = refl

pub unpacked_front-more : (bytes : List ℕ) (g : ℕ) → AreBytes bytes → 7 * g + 7 ≤ length bytes → unpacked_front bytes g ++ minors_of_number 8 (from_big_endian (take 7 (drop (7 * g) bytes))) ≡ unpacked_front bytes (g + 1)
unfolding unpacked_front
unpacked_front-more bytes g small long =
    let front = take (7 * g) bytes in
    let group = take 7 (drop (7 * g) bytes) in
    let seven : length (take 7 (drop (7 * g) bytes)) ≡ 7 = length-take-le 7 (drop (7 * g) bytes) (omega (arith, length-drop (7 * g) bytes)) in
    let below : from_big_endian (take 7 (drop (7 * g) bytes)) < 128 ^ 8 =
    subst (λ n. from_big_endian group < 256 ^ n) seven
    (from_big_endian-below group (All-take (λ b. b < 256) 7 (drop (7 * g) bytes) (All-drop (λ b. b < 256) (7 * g) bytes small))) in
    let longer : 7 * (g + 1) ≡ 7 * g + 7 = omega arith in
    let whole : from_big_endian (take (7 * (g + 1)) bytes) ≡ from_big_endian front * 128 ^ 8 + from_big_endian group =
    ap (λ n. from_big_endian (take n bytes)) longer
    ∙ (ap from_big_endian (take-add (7 * g) 7 bytes)
    ∙ (from_big_endian-append front group
    ∙ ap (λ n. from_big_endian front * 256 ^ n + from_big_endian group) seven)) in
    let minors : 8 * g + 8 ≡ 8 * (g + 1) = omega arith in
    sym (minors_of_number-join (8 * g) 8 (from_big_endian front) (from_big_endian group) below)
    ∙ (ap (λ z. minors_of_number (8 * g + 8) z) (sym whole)
    ∙ ap (λ n. minors_of_number n (from_big_endian (take (7 * (g + 1)) bytes))) minors)

pub unpacked_front-all : (bytes : List ℕ) → length bytes ≡ 56 → unpacked_front bytes 8 ≡ minors_of_number 64 (from_big_endian bytes)
unfolding unpacked_front
unpacked_front-all bytes long =
    ap (λ bs. minors_of_number 64 (from_big_endian bs)) (take_all 56 bytes (omega (arith, long)))

-- the minors of the first g groups are the first ones of more
front_kept : (bytes : List ℕ) (g d i : ℕ) → AreBytes bytes → 7 * (g + d) ≤ length bytes → i < 8 * g → slice_index (unpacked_front bytes (g + d)) i ≡ slice_index (unpacked_front bytes g) i
front_kept bytes g zero i small long inside = ap (λ n. slice_index (unpacked_front bytes n) i) (omega arith)
front_kept bytes g (suc d) i small long inside =
    let more : g + suc d ≡ g + d + 1 = omega arith in
    let group = minors_of_number 8 (from_big_endian (take 7 (drop (7 * (g + d)) bytes))) in
    ap (λ n. slice_index (unpacked_front bytes n) i) more
    ∙ ap (λ xs. slice_index xs i) (sym (unpacked_front-more bytes (g + d) small (omega (arith, long))))
    ∙ get_or_append_left (unpacked_front bytes (g + d)) group 0 i (omega (arith, unpacked_front-length bytes (g + d), inside))
    ∙ front_kept bytes g d i small (omega (arith, long)) inside

-- minor k of group g of a line, from the group's bytes
pub minor_in_group : (line : Line) (i g k : ℕ) → IsLine line → g < 8 → k < 8 → i ≡ 8 * g + k
    → slice_index (minors_of_number 8 (from_big_endian (take (7 * g + 8 + 7 - (7 * g + 8)) (drop (7 * g + 8) line.0)))) k
    ≡ minor_of (unpacked line) i
unfolding unpacked
minor_in_group line i g k whole inside low is =
    let bytes = drop 8 line.0 in
    let long : length bytes ≡ 56 = length-drop 8 line.0 ∙ omega (arith, whole.long) in
    let small = All-drop (λ b. b < 256) 8 line.0 whole.bytes in
    let seven : 7 * g + 8 + 7 - (7 * g + 8) ≡ 7 = omega arith in
    let later : 7 * g + 8 ≡ 8 + 7 * g = omega arith in
    let group = minors_of_number 8 (from_big_endian (take 7 (drop (7 * g) bytes))) in
    let rest : g + 1 + (7 - g) ≡ 8 = omega (arith, inside) in
    ap (λ n. slice_index (minors_of_number 8 (from_big_endian (take n (drop (7 * g + 8) line.0)))) k) seven
    ∙ ap (λ n. slice_index (minors_of_number 8 (from_big_endian (take 7 (drop n line.0)))) k) later
    ∙ ap (λ t. slice_index (minors_of_number 8 (from_big_endian (take 7 t))) k) (sym (drop-drop (7 * g) 8 line.0))
    ∙ sym (get_or-append-add (unpacked_front bytes g) group k 0)
    ∙ ap (λ n. slice_index (unpacked_front bytes g ++ group) n) (omega (arith, unpacked_front-length bytes g, is))
    ∙ ap (λ xs. slice_index xs i) (unpacked_front-more bytes g small (omega (arith, long, inside)))
    ∙ sym (front_kept bytes (g + 1) (7 - g) i small (omega (arith, long, inside)) (omega (arith, low, is)))
    ∙ ap (λ n. slice_index (unpacked_front bytes n) i) rest
    ∙ ap (λ ms. slice_index ms i) (unpacked_front-all bytes long)

from_eight : (bytes : List ℕ) → length bytes ≡ 8 → from_be_bytes w64 bytes ≡ from_big_endian bytes
from_eight (a ∷ b ∷ c ∷ d ∷ e ∷ f ∷ g ∷ h ∷ []) long = omega arith
from_eight bytes long = absurd (omega (arith, long))

abbrev read_counter : ℕ → ℕ → Ctr
read_counter major minor = record { major = major; minor = minor }

pub counter_read : (line : Line) (first group : List ℕ) (major i g k : ℕ) → IsLine line → i < 64 → g ≡ i / 8 → k ≡ i % 8
    → first ≡ take 8 line.0 → major ≡ from_be_bytes w64 first
    → group ≡ minors_of_number 8 (from_big_endian (take (7 * g + 8 + 7 - (7 * g + 8)) (drop (7 * g + 8) line.0)))
    → read_counter major (slice_index group k) ≡ block_counter (unpacked line) i
unfolding unpacked
counter_read line first group major i g k whole inside its_group its_place read value minors =
    let eight : length (take 8 line.0) ≡ 8 = length-take-le 8 line.0 (omega (arith, whole.long)) in
    let its_major : major ≡ from_big_endian (take 8 line.0) =
    value ∙ (ap (λ t. from_be_bytes w64 t) read ∙ from_eight (take 8 line.0) eight) in
    let its_minor : slice_index group k ≡ minor_of (unpacked line) i =
    ap (λ ms. slice_index ms k) minors
    ∙ minor_in_group line i g k whole (omega (arith, inside, its_group)) (omega (arith, its_place)) (omega (arith, its_group, its_place)) in
    ap (λ m. read_counter m (slice_index group k)) its_major
    ∙ ap (read_counter (from_big_endian (take 8 line.0))) its_minor

-- ---- the steps of the loops: a group is written at its place

put_mid-length : (a k : ℕ) (xs ys : List ℕ) → length ys ≡ k → a + k ≤ length xs → length (put_mid a k xs ys) ≡ length xs
put_mid-length a k xs ys same inside = grind (arith, common_steps, length-take-le, length-drop)

-- the places of a group in the line and among the minors
pub bytes_long : (bytes group : List ℕ) (g : ℕ) → length group ≡ 7 → length bytes ≡ 64 → g < 8 → length (put_mid (7 * g + 8) (7 * g + 15 - (7 * g + 8)) bytes group) ≡ 64
bytes_long bytes group g seven long inside = search (rules, put_mid-length)

pub minors_long : (minors group : List ℕ) (g : ℕ) → length group ≡ 8 → length minors ≡ 64 → g < 8 → length (put_mid (8 * g) (8 * g + 8 - 8 * g) minors group) ≡ 64
minors_long minors group g eight long inside = search (rules, put_mid-length)

pub pack_step : (major : ℕ) (minors bytes group : List ℕ) (g : ℕ) → All (λ m. m ≤ 127) minors → length minors ≡ 64 → length bytes ≡ 64 → g < 8 → take (7 * g + 8) bytes ≡ packed_front major minors g → group ≡ big_endian 7 (number_of_minors (take (8 * g + 8 - 8 * g) (drop (8 * g) minors))) → take (7 * (g + 1) + 8) (put_mid (7 * g + 8) (7 * g + 15 - (7 * g + 8)) bytes group) ≡ packed_front major minors (g + 1)
pack_step major minors bytes group g small count long inside before written =
    let eight : 8 * g + 8 - 8 * g ≡ 8 = omega arith in
    let its : group ≡ big_endian 7 (number_of_minors (take 8 (drop (8 * g) minors))) =
    written ∙ ap (λ n. big_endian 7 (number_of_minors (take n (drop (8 * g) minors)))) eight in
    let seven : length group ≡ 7 = ap length its in
    take-put_mid (7 * g + 8) (7 * g + 15 - (7 * g + 8)) bytes group (7 * (g + 1) + 8) (omega (arith, seven)) (omega (arith, long))
    ∙ (ap (λ t. t ++ group) before
    ∙ (ap (λ t. packed_front major minors g ++ t) its
    ∙ packed_front-more major minors g small (omega (arith, count))))

pub unpack_step : (line minors group : List ℕ) (g : ℕ) → AreBytes line → length line ≡ 64 → length minors ≡ 64 → g < 8 → take (8 * g) minors ≡ unpacked_front (drop 8 line) g → group ≡ minors_of_number 8 (from_big_endian (take (7 * g + 15 - (7 * g + 8)) (drop (7 * g + 8) line))) → take (8 * (g + 1)) (put_mid (8 * g) (8 * g + 8 - 8 * g) minors group) ≡ unpacked_front (drop 8 line) (g + 1)
unpack_step line minors group g small long count inside before read =
    let seven : 7 * g + 15 - (7 * g + 8) ≡ 7 = omega arith in
    let later : 7 * g + 8 ≡ 8 + 7 * g = omega arith in
    let its : group ≡ minors_of_number 8 (from_big_endian (take 7 (drop (7 * g) (drop 8 line)))) =
    read
    ∙ (ap (λ n. minors_of_number 8 (from_big_endian (take n (drop (7 * g + 8) line)))) seven
    ∙ (ap (λ n. minors_of_number 8 (from_big_endian (take 7 (drop n line)))) later
    ∙ ap (λ t. minors_of_number 8 (from_big_endian (take 7 t))) (sym (drop-drop (7 * g) 8 line)))) in
    let eight : length group ≡ 8 = ap length its in
    take-put_mid (8 * g) (8 * g + 8 - 8 * g) minors group (8 * (g + 1)) (omega (arith, eight)) (omega (arith, count))
    ∙ (ap (λ t. t ++ group) before
    ∙ (ap (λ t. unpacked_front (drop 8 line) g ++ t) its
    ∙ unpacked_front-more (drop 8 line) g (All-drop (λ b. b < 256) 8 line small) (omega (arith, length-drop 8 line, long))))

-- ---- the ends of the loops

pub pack_end : (block : Block) (bytes : List ℕ) → length block.minors ≡ 64 → length bytes ≡ 64 → take 64 bytes ≡ packed_front block.major block.minors 8 → line_of bytes ≡ packed block
unfolding packed
pack_end block bytes count long all =
    ap line_of (sym (take_all 64 bytes (omega (arith, long))) ∙ (all ∙ packed_front-all block.major block.minors count))

-- the bytes of a word, the highest first
pub to_eight : (value : ℕ) → to_be_bytes w64 value ≡ big_endian 8 value
to_eight value = search (rules, div-one)

pub unpack_end : (line : Line) (first minors : List ℕ) (major : ℕ) → IsLine line → length minors ≡ 64 → take 64 minors ≡ unpacked_front (drop 8 line.0) 8 → first ≡ take 8 line.0 → major ≡ from_be_bytes w64 first → record { major = major; minors = minors } ≡ unpacked line
unfolding unpacked
unpack_end line first minors major whole count all read value =
    let eight : length (take 8 line.0) ≡ 8 = length-take-le 8 line.0 (omega (arith, whole.long)) in
    let its_major : major ≡ from_big_endian (take 8 line.0) = search (rules, from_eight) in
    let its_minors : minors ≡ minors_of_number 64 (from_big_endian (drop 8 line.0)) =
    sym (take_all 64 minors (omega (arith, count)))
    ∙ (all ∙ unpacked_front-all (drop 8 line.0) (length-drop 8 line.0 ∙ omega (arith, whole.long))) in
    ap (λ (m : ℕ). record { major = m; minors = minors }) its_major
    ∙ ap (λ (ms : List ℕ). record { major = from_big_endian (take 8 line.0); minors = ms }) its_minors
