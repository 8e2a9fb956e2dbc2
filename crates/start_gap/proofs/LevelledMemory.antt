-- Logical memory through each write of a write and its move.
use Rattle.std.proofs.Common.{ℕ, ◌≡◌, ◌<◌, ◌≤◌, ◌+◌, ◌-◌, ◌^◌, inl, inr, List, ◌++◌, length, replicate, Some, sym, ap, ◌∙◌, arith, rules}
use Rattle.start_gap.proofs.Common.{slice_set, cases_eq, length-set, length-replicate, get_or-replicate, Line, line_at, line_of, big_endian, Wear, IsWear, place_of, next_wear, source_of, first_wear, recorded, IsLevelled, begun, written, copied, moved, IsSafeAtEachStage, IsSameUnderNext}
use Rattle.pmem_base.specs.Lines.{zero_line}
use Rattle.pmem_base.proofs.LineSets.{line_at-set_same, line_at-set_other}
use Rattle.start_gap.specs.Record.{wear_record}
use Rattle.start_gap.proofs.Places.{places, next_place, next-IsWear}
use Rattle.start_gap.proofs.Records.{recorded_record}

-- the lines after each change
abbrev with_levelled_line : ℕ → Wear → ℕ → Line → List Line → List Line
with_levelled_line n wear a plain lines = slice_set lines (place_of n wear a) plain

abbrev with_copy : ℕ → Wear → List Line → List Line
with_copy n wear lines = slice_set lines wear.gap (line_at lines (source_of n wear))

abbrev with_record : ℕ → Wear → List Line → List Line
with_record n wear lines = slice_set lines (n + 1) (wear_record n (next_wear n wear))

-- the record stays if another line is set
same_record : (n : ℕ) (lines : List Line) (wear : Wear) (k : ℕ) (line : Line) → k ≤ n
    → recorded n (line_at lines (n + 1)) ≡ Some wear
    → recorded n (line_at (slice_set lines k line) (n + 1)) ≡ Some wear
same_record n lines wear k line low its =
    ap (recorded n) (line_at-set_other lines k (n + 1) line (λ e. omega (arith, e, low))) ∙ its

-- a logical line is written
pub write_levels : (n : ℕ) (lines memory : List Line) (wear : Wear) (a : ℕ) (plain : Line) → a < n
    → IsLevelled n lines wear memory → IsLevelled n (with_levelled_line n wear a plain lines) wear (slice_set memory a plain)
write_levels n lines memory wear a plain ha old =
    let its = places n wear old.its_wear in
    let within = its.within a ha in
    record {
      size = length-set lines (place_of n wear a) plain ∙ old.size;
      its_wear = old.its_wear;
      its_record = same_record n lines wear (place_of n wear a) plain within old.its_record;
      holds =
          record {
            count = length-set memory a plain ∙ old.holds.count;
            each =
                λ b hb. elim (cases_eq b a) [
                  | inl e ↦
                      ap (λ k. line_at (with_levelled_line n wear a plain lines) (place_of n wear k)) e
                      ∙ line_at-set_same lines (place_of n wear a) plain (omega (arith, within, old.size))
                      ∙ sym (ap (line_at (slice_set memory a plain)) e ∙ line_at-set_same memory a plain (omega (arith, ha, old.holds.count)))
                  | inr e ↦
                      line_at-set_other lines (place_of n wear a) (place_of n wear b) plain (λ same. e (its.distinct b a hb ha same))
                      ∙ old.holds.each b hb
                      ∙ sym (line_at-set_other memory a b plain e)
                ];
          };
    }

-- the gap holds no line
pub copy_levels : (n : ℕ) (lines memory : List Line) (wear : Wear)
    → IsLevelled n lines wear memory → IsLevelled n (with_copy n wear lines) wear memory
copy_levels n lines memory wear old = search (rules, places, length-set, same_record, line_at-set_other)

-- the gap holds what the source holds, once that is copied
pub copy_same : (n : ℕ) (lines : List Line) (wear : Wear) → IsWear n wear → length lines ≡ n + 2
    → line_at (with_copy n wear lines) wear.gap ≡ line_at (with_copy n wear lines) (source_of n wear)
copy_same n lines wear its size = search (rules, line_at-set_same, cases_eq, line_at-set_other)

pub same_under_next : (n : ℕ) → IsSameUnderNext n
same_under_next n lines memory wear its same old = search (rules, next_place)

-- the next wear is recorded
pub record_levels : (n : ℕ) (lines memory : List Line) (wear : Wear) → n < 2 ^ 32
    → line_at lines wear.gap ≡ line_at lines (source_of n wear)
    → IsLevelled n lines wear memory → IsLevelled n (with_record n wear lines) (next_wear n wear) memory
record_levels n lines memory wear small same old =
    let next = next-IsWear n wear old.its_wear in
    let held = same_under_next n lines memory wear old.its_wear same old.holds in
    let its = places n (next_wear n wear) next in
    record {
      size = length-set lines (n + 1) (wear_record n (next_wear n wear)) ∙ old.size;
      its_wear = next;
      its_record =
          ap (recorded n) (line_at-set_same lines (n + 1) (wear_record n (next_wear n wear)) (omega (arith, old.size)))
          ∙ recorded_record n (next_wear n wear) small next;
      holds =
          record {
            count = held.count;
            each =
                λ a ha.
                let within = its.within a ha in
                line_at-set_other lines (n + 1) (place_of n (next_wear n wear) a) (wear_record n (next_wear n wear)) (λ e. omega (arith, e, within))
                ∙ held.each a ha;
          };
    }

pub safe_at_each_stage : (n : ℕ) → n < 2 ^ 32 → IsSafeAtEachStage n
safe_at_each_stage n small lines memory wear a plain begun ha old = old
safe_at_each_stage n small lines memory wear a plain written ha old = write_levels n lines memory wear a plain ha old
safe_at_each_stage n small lines memory wear a plain copied ha old =
    copy_levels n (with_levelled_line n wear a plain lines) (slice_set memory a plain) wear
    (write_levels n lines memory wear a plain ha old)
safe_at_each_stage n small lines memory wear a plain moved ha old = search (rules, write_levels, record_levels, copy_same, copy_levels)

-- ---- the first memory

zero_record : (n : ℕ) → wear_record n (first_wear n) ≡ zero_line
unfolding wear_record zero_line
zero_record n =
    let none : n - n ≡ 0 = omega arith in
    ap (λ z. line_of (big_endian 4 0 ++ big_endian 4 z ++ replicate 56 0)) none

pub zero_levelled : (n : ℕ) → 1 ≤ n → n < 2 ^ 32
    → IsLevelled n (replicate (n + 2) zero_line) (first_wear n) (replicate n zero_line)
zero_levelled n some small =
    let its : IsWear n (first_wear n) = record { start = omega (arith, some); gap = omega arith } in
    let each = places n (first_wear n) its in
    record {
      size = length-replicate (n + 2) zero_line;
      its_wear = its;
      its_record =
          ap (recorded n) (get_or-replicate (n + 2) (n + 1) zero_line zero_line (omega arith) ∙ sym (zero_record n))
          ∙ recorded_record n (first_wear n) small its;
      holds =
          record {
            count = length-replicate n zero_line;
            each =
                λ a ha.
                let within = each.within a ha in
                get_or-replicate (n + 2) (place_of n (first_wear n) a) zero_line zero_line (omega (arith, within))
                ∙ sym (get_or-replicate n a zero_line zero_line ha);
          };
    }
