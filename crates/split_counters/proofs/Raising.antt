-- A minor is raised in a block's line: its group alone is written anew.
use Rattle.std.proofs.Common.{rules, ℕ, slice_index, ◌≡◌, ◌≢◌, ◌<◌, ◌≤◌, ◌+◌, ◌-◌, ◌*◌, ◌/◌, ◌%◌, ◌^◌, List, length, take, drop, sym, ap, subst, ◌∙◌, inl, inr, arith}
use Rattle.std.specs.Prelude.{All, slice_set}
use Rattle.std.proofs.lemmas.Bool.{cases_eq, cases_order}
use Rattle.std.proofs.lemmas.List.{same_lists, length-set, get_or-set_same, get_or-set_other, get_or_default}
use Rattle.std.proofs.lemmas.List.Elements.{All-set}
use Rattle.std.proofs.lemmas.Slice.{between_is, take-put_mid_below, drop-put_mid, between-put_mid}
use borrow.Rule.Slice.PartMut.{put_mid}
use Rattle.std.specs.Int.{w64, from_be_bytes}
use Rattle.pmem_base.specs.declared.lines.Line.{Line}
use Rattle.pmem_base.specs.declared.lines.Ctr.{Ctr}
use Rattle.pmem_base.specs.Lines.{IsLine, big_endian, from_big_endian}
use Rattle.pmem_base.proofs.ByteLaws.{length-big_endian}
use Rattle.pmem_base.proofs.Digits.{from_big_endian-big_endian}
use Rattle.split_counters.specs.Blocks.{packed, unpacked, minor_of, with_minor, number_of_minors, minors_of_number}
use Rattle.split_counters.proofs.MinorDigits.{length-minors_of_number, minors_of_number-small, number_of_minors-below, minors_of_number-number_of_minors}
use Rattle.split_counters.proofs.Packing.{packed-unpacked}
use Rattle.split_counters.proofs.Groups.{minor_in_group, counter_read}
use Rattle.split_counters.proofs.StoredLaws.{length-unpacked}

-- the bytes of group g in a line's bytes, and those bytes with others in their place
abbrev group_at : ℕ → List ℕ → List ℕ
group_at g bytes = take (7 * g + 8 + 7 - (7 * g + 8)) (drop (7 * g + 8) bytes)

abbrev with_group : List ℕ → ℕ → List ℕ → List ℕ
with_group bytes g group = put_mid (7 * g + 8) (7 * g + 8 + 7 - (7 * g + 8)) bytes group

group_here : (bytes group : List ℕ) (g : ℕ) → length bytes ≡ 64 → g < 8 → length group ≡ 7 → group_at g (with_group bytes g group) ≡ group
group_here bytes group g long inside seven = search (rules, between-put_mid)

group_other : (bytes group : List ℕ) (g j : ℕ) → length bytes ≡ 64 → g < 8 → j < 8 → j ≢ g → length group ≡ 7
    → group_at j (with_group bytes g group) ≡ group_at j bytes
group_other bytes group g j long inside low apart seven = search (rules, cases_order, between_is, take-put_mid_below, drop-put_mid)

-- the minors of a group come back from its bytes
group_back : (minors : List ℕ) → length minors ≡ 8 → All (λ m. m ≤ 127) minors → minors_of_number 8 (from_big_endian (big_endian 7 (number_of_minors minors))) ≡ minors
group_back minors eight small =
    let below : number_of_minors minors < 256 ^ 7 = subst (λ n. number_of_minors minors < 128 ^ n) eight (number_of_minors-below minors small) in
    ap (minors_of_number 8) (from_big_endian-big_endian 7 (number_of_minors minors) below)
    ∙ ap (λ n. minors_of_number n (number_of_minors minors)) (sym eight)
    ∙ minors_of_number-number_of_minors minors small

-- a group with its minor k one greater
abbrev pub raised_group : List ℕ → ℕ → List ℕ
raised_group minors k = slice_set minors k (slice_index minors k + 1)

module _ (line : Line) (minors : List ℕ) (i g k : ℕ) (whole : IsLine line) (inside : i < 64) (its_group : g ≡ i / 8) (its_place : k ≡ i % 8)
    (read : minors ≡ minors_of_number 8 (from_big_endian (group_at g line.0))) where
  pub minor_here : slice_index minors k ≡ minor_of (unpacked line) i
  minor_here =
      ap (λ ms. slice_index ms k) read
      ∙ minor_in_group line i g k whole (omega (arith, inside, its_group)) (omega (arith, its_place)) (omega (arith, its_group, its_place))

  pub raised_small : minor_of (unpacked line) i < 127 → All (λ m. m ≤ 127) (raised_group minors k)
  raised_small room =
      All-set (λ m. m ≤ 127) minors k (slice_index minors k + 1) (omega (arith, room, minor_here))
      (subst (All (λ m. m ≤ 127)) (sym read) (minors_of_number-small 8 (from_big_endian (group_at g line.0))))

  abbrev counter : ℕ → ℕ → Ctr
  counter major minor = record { major = major; minor = minor }

  pub raised_counter : (first : List ℕ) (major : ℕ) → first ≡ take 8 line.0 → major ≡ from_be_bytes w64 first
      → counter major (slice_index (raised_group minors k) k) ≡ counter (unpacked line).major (minor_of (unpacked line) i + 1)
  raised_counter first major its_bytes its_major =
      ap (λ m. counter m (slice_index (raised_group minors k) k))
      (ap (λ (ctr : Ctr). ctr.major) (counter_read line first minors major i g k whole inside its_group its_place its_bytes its_major read))
      ∙ ap (counter (unpacked line).major)
      (get_or-set_same minors k (slice_index minors k + 1) 0 (omega (arith, its_place, ap length read ∙ length-minors_of_number 8 (from_big_endian (group_at g line.0))))
      ∙ ap (λ m. m + 1) minor_here)

module _ (line new : Line) (minors group : List ℕ) (i g k : ℕ) (whole : IsLine line) (new_whole : IsLine new) (inside : i < 64)
    (its_group : g ≡ i / 8) (its_place : k ≡ i % 8) (room : minor_of (unpacked line) i < 127)
    (read : minors ≡ minors_of_number 8 (from_big_endian (group_at g line.0)))
    (packed_group : group ≡ big_endian 7 (number_of_minors (raised_group minors k)))
    (written : new.0 ≡ with_group line.0 g group) where
  here : slice_index minors k ≡ minor_of (unpacked line) i
  here = minor_here line minors i g k whole inside its_group its_place read

  eight : length minors ≡ 8
  eight = ap length read ∙ length-minors_of_number 8 (from_big_endian (group_at g line.0))

  seven : length group ≡ 7
  seven = ap length packed_group ∙ length-big_endian 7 (number_of_minors (raised_group minors k))

  new_group : minors_of_number 8 (from_big_endian (group_at g new.0)) ≡ raised_group minors k
  new_group =
      ap (λ bytes. minors_of_number 8 (from_big_endian (group_at g bytes))) written
      ∙ ap (λ bytes. minors_of_number 8 (from_big_endian bytes)) (group_here line.0 group g whole.long (omega (arith, inside, its_group)) seven ∙ packed_group)
      ∙ group_back (raised_group minors k) (length-set minors k (slice_index minors k + 1) ∙ eight)
      (raised_small line minors i g k whole inside its_group its_place read room)

  -- minor j of group h of the new line, at place p
  new_minor : (j h p : ℕ) → j < 64 → h < 8 → p < 8 → j ≡ 8 * h + p → minor_of (unpacked new) j ≡ slice_index (slice_set (unpacked line).minors i (minor_of (unpacked line) i + 1)) j
  new_minor j h p low low_h low_p is =
      sym (minor_in_group new j h p new_whole low_h low_p is)
      ∙ elim (cases_eq h g) [
        | inl same ↦
            ap (λ n. slice_index (minors_of_number 8 (from_big_endian (group_at n new.0))) p) same
            ∙ ap (λ ms. slice_index ms p) new_group
            ∙ elim (cases_eq p k) [
              | inl same_place ↦
                  ap (slice_index (raised_group minors k)) same_place
                  ∙ get_or-set_same minors k (slice_index minors k + 1) 0 (omega (arith, eight, its_place))
                  ∙ ap (λ m. m + 1) here
                  ∙ sym (get_or-set_same (unpacked line).minors i (minor_of (unpacked line) i + 1) 0 (omega (arith, length-unpacked line, inside)))
                  ∙ ap (slice_index (slice_set (unpacked line).minors i (minor_of (unpacked line) i + 1))) (omega (arith, is, same, same_place, its_group, its_place))
              | inr there ↦
                  get_or-set_other minors k p (slice_index minors k + 1) 0 there
                  ∙ ap (λ ms. slice_index ms p) read
                  ∙ minor_in_group line j g p whole (omega (arith, inside, its_group)) low_p (omega (arith, is, same))
                  ∙ sym (get_or-set_other (unpacked line).minors i j (minor_of (unpacked line) i + 1) 0 (λ one. there (omega (arith, one, is, same, its_group, its_place, low_p))))
            ]
        | inr other ↦
            ap (λ bytes. slice_index (minors_of_number 8 (from_big_endian (group_at h bytes))) p) written
            ∙ ap (λ bytes. slice_index (minors_of_number 8 (from_big_endian bytes)) p)
            (group_other line.0 group g h whole.long (omega (arith, inside, its_group)) low_h other seven)
            ∙ minor_in_group line j h p whole low_h low_p is
            ∙ sym (get_or-set_other (unpacked line).minors i j (minor_of (unpacked line) i + 1) 0 (λ one. other (omega (arith, one, is, its_group, low_p))))
      ]

  new_minors : (unpacked new).minors ≡ slice_set (unpacked line).minors i (minor_of (unpacked line) i + 1)
  new_minors =
      same_lists (unpacked new).minors (slice_set (unpacked line).minors i (minor_of (unpacked line) i + 1))
      (length-unpacked new ∙ sym (length-set (unpacked line).minors i (minor_of (unpacked line) i + 1) ∙ length-unpacked line))
      (λ j d low.
      let inside_new : j < 64 = omega (arith, low, length-unpacked new) in
      get_or_default (unpacked new).minors j d 0 low
      ∙ new_minor j (j / 8) (j % 8) inside_new (omega (arith, inside_new)) (omega arith) (omega arith)
      ∙ get_or_default (slice_set (unpacked line).minors i (minor_of (unpacked line) i + 1)) j 0 d
      (omega (arith, inside_new, length-set (unpacked line).minors i (minor_of (unpacked line) i + 1), length-unpacked line)))

  new_major : (unpacked new).major ≡ (unpacked line).major
  unfolding unpacked
  new_major =
      ap from_big_endian
      (ap (take 8) written
      ∙ take-put_mid_below (7 * g + 8) (7 * g + 8 + 7 - (7 * g + 8)) line.0 group 8 (omega arith) (omega (arith, whole.long, inside, its_group)))

  pub raised_line : new ≡ packed (with_minor (unpacked line) i (minor_of (unpacked line) i + 1))
  raised_line =
      sym (packed-unpacked new new_whole)
      ∙ ap packed
      (ap (λ (m : ℕ). record { major = m; minors = (unpacked new).minors }) new_major
      ∙ ap (λ (ms : List ℕ). record { major = (unpacked line).major; minors = ms }) new_minors)
