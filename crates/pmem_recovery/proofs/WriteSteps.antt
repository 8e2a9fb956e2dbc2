-- The steps of the writes that are due: one more is made, or isn't needed.
use Rattle.std.proofs.Common.{rules, ℕ, zero, suc, ◌≡◌, ◌<◌, ◌≤◌, ◌+◌, Bool, true, false, cond, not, List, [], ◌∷◌, length, Option, Some, None, refl, ap, sym, subst, ◌∙◌, ◌⊎◌, inl, inr, add-one, arith}
use Rattle.std.specs.Prelude.{filter, slice_set, is_some, if◌then◌else◌}
use Rattle.std.specs.List.{range_with_len}
use Rattle.std.proofs.lemmas.Bool.{false≢true, true≢false, cases_eq}
use Rattle.std.proofs.lemmas.Option.{same_Some}
use Rattle.std.proofs.lemmas.List.{length-set}
use Rattle.pmem_base.specs.declared.lines.Line.{Line}
use Rattle.pmem_base.specs.Lines.{line_of, line_at, same_bytes}
use Rattle.pmem_base.proofs.ByteLaws.{same_bytes-refl, same_bytes-true}
use Rattle.pmem_base.proofs.ListLaws.{length-filter_range_more}
use Rattle.pmem_base.proofs.LineSets.{line_at-set_same, line_at-set_other}
use Rattle.board.proofs.CountLemmas.{RisesBy-once}
use Rattle.board.specs.Device.{Device}
use Rattle.board.specs.Steps.{HasWritten, WasCut}
use Rattle.board.proofs.StepLemmas.{is_some-with_line}
use Rattle.pmem_recovery.specs.Parts.{IsUncut}
use Rattle.pmem_recovery.specs.Upward.{is_other}
use Rattle.pmem_recovery.specs.Writing.{HasOnlyWritten, HasWrittenIf, DueWrite, count_changed, AreDue, AreWritten, HasWrittenTo, differing}
use Rattle.pmem_recovery.proofs.PartLaws.{IsUncut-none}

-- ---- the device

pub HasOnlyWritten-none : (old : Device) → HasOnlyWritten 0 old old
HasOnlyWritten-none old = search rules

pub HasOnlyWritten-then : (n m : ℕ) (old mid new : Device) → HasOnlyWritten n old mid → HasOnlyWritten m mid new → HasOnlyWritten (n + m) old new
HasOnlyWritten-then n m old mid new a b = search rules

pub HasOnlyWritten-one : (old : Device) (at : ℕ) (line : Line) (new : Device) → HasWritten old at line new → HasOnlyWritten 1 old new
HasOnlyWritten-one old at line new w = search (rules, RisesBy-once)

HasOnlyWritten-cut : (old new : Device) → WasCut old new → HasOnlyWritten 0 old new
HasOnlyWritten-cut old new c = search rules

-- the lines after a write
written_lines : (old : Device) (at : ℕ) (line : Line) (new : Device) (lines now : List Line) → HasWritten old at line new → old.lines ≡ Some lines → new.lines ≡ Some now → slice_set lines at line ≡ now
written_lines old at line new lines now w told after = search rules

-- if lines are exposed after a step, they were before
pub told_earlier : (old new : Device) (now : List Line) → is_some new.lines ≡ is_some old.lines → new.lines ≡ Some now → (lines : List Line) × (old.lines ≡ Some lines)
told_earlier old new now same told = go old.lines refl
  where
    go : (o : Option (List Line)) → old.lines ≡ o → (lines : List Line) × (old.lines ≡ Some lines)
    go None e = absurd (false≢true (sym (ap is_some e) ∙ sym same ∙ ap is_some told))
    go (Some lines) e = (lines, e)

pub IsUncut-written_if : (changed : Bool) (old : Device) (at : ℕ) (line : Line) (new : Device) → HasWrittenIf changed old at line new → IsUncut old new
IsUncut-written_if true old at line new w = record { cuts = w.cuts; steady = λ was. w.steady ∙ was; live = λ was. w.live ∙ was }
IsUncut-written_if false old at line new same = subst (IsUncut old) (sym same) (IsUncut-none old)

-- ---- lines that differ

pub is_other-same : (line : Line) → is_other line line ≡ false
is_other-same line = ap not (same_bytes-refl line.0)

same_from_is_other : (read line : Line) → is_other read line ≡ false → read ≡ line
same_from_is_other read line q = ap line_of (same_bytes-true read.0 line.0 (go (same_bytes read.0 line.0) q))
  where
    go : (b : Bool) → not b ≡ false → b ≡ true
    go true q = refl
    go false q = absurd (true≢false q)

pub differing-none : (lines : List Line) → differing lines lines ≡ 0
differing-none lines = none (range_with_len 0 (length lines))
  where
    test : ℕ → Bool
    test n = is_other (line_at lines n) (line_at lines n)

    none : (ns : List ℕ) → length (filter test ns) ≡ 0
    none [] = refl
    none (n ∷ ns) =
        ap (λ b. length (cond b (n ∷ filter test ns) (filter test ns))) (is_other-same (line_at lines n)) ∙ none ns

-- a line that was as before becomes another one
differing-more : (old new : List Line) (n : ℕ) (y : Line) → length new ≡ length old → n < length old → line_at new n ≡ line_at old n → is_other (line_at old n) y ≡ true → differing old (slice_set new n y) ≡ differing old new + 1
differing-more old new n y long h same other =
    length-filter_range_more
    (λ m. is_other (line_at old m) (line_at new m))
    (λ m. is_other (line_at old m) (line_at (slice_set new n y) m))
    0 (length old) n (omega arith) (omega arith)
    (λ m ne. ap (λ l. is_other (line_at old m) l) (line_at-set_other new n m y ne))
    (ap (λ l. is_other (line_at old n) l) same ∙ is_other-same (line_at old n))
    (ap (λ l. is_other (line_at old n) l) (line_at-set_same new n y (omega arith)) ∙ other)

-- ---- how many

module _ (due : ℕ → DueWrite) where
  pub count_changed-le : (k : ℕ) → count_changed due k ≤ k
  unfolding count_changed
  count_changed-le zero = omega arith
  count_changed-le (suc k) = go (due k).changed (count_changed-le k)
    where
      go : (b : Bool) → count_changed due k ≤ k → count_changed due k + (if b then 1 else 0) ≤ suc k
      go true h = omega arith
      go false h = omega arith

  pub count_changed-none : (k : ℕ) → ((j : ℕ) → j < k → (due j).changed ≡ false) → count_changed due k ≡ 0
  unfolding count_changed
  count_changed-none zero none = refl
  count_changed-none (suc k) none =
      let rest = count_changed-none k (λ j low. none j (omega arith)) in
      ap (λ b. count_changed due k + (if b then 1 else 0)) (none k (omega arith)) ∙ omega (arith, rest)

  count_is : (k : ℕ) (b : Bool) → (due k).changed ≡ b → count_changed due (k + 1) ≡ count_changed due k + (if b then 1 else 0)
  unfolding count_changed
  count_is k b is = ap (count_changed due) (add-one k) ∙ ap (λ c. count_changed due k + (if c then 1 else 0)) is

  -- ---- the lines

  AreWritten-none : (lines : List Line) → AreWritten due 0 lines lines
  unfolding count_changed
  AreWritten-none lines = record { count = refl; each = λ j low. absurd (omega arith); others = λ n apart. refl; differ = differing-none lines }

  module _ (all : ℕ) (lines : List Line) (are : AreDue due all lines) (k : ℕ) (low : k < all) (now : List Line) (w : AreWritten due k lines now) where
    abbrev place : ℕ
    place = (due k).place

    as_was : line_at now (due k).place ≡ line_at lines (due k).place
    as_was = w.others (due k).place (λ j less. are.distinct j k less low)

    written_more : (due k).changed ≡ true → AreWritten due (k + 1) lines (slice_set now (due k).place (due k).line)
    written_more other =
        record {
          count = length-set now place (due k).line ∙ w.count;
          each = λ j less. at j less (cases_eq j k);
          others = λ n apart.
              line_at-set_other now place n (due k).line (λ e. apart k (omega arith) (sym e)) ∙ w.others n (λ j less. apart j (omega arith));
          differ =
              differing-more lines now place (due k).line w.count (are.inside k low) as_was (sym (are.compared k low) ∙ other)
              ∙ ap (λ n. n + 1) w.differ ∙ sym (count_is k true other);
        }
      where
        at : (j : ℕ) → j < k + 1 → (j ≡ k) ⊎ (j ≡ k → ⊥) → line_at (slice_set now place (due k).line) (due j).place ≡ (due j).line
        at j less (inl e) =
            subst (λ i. line_at (slice_set now place (due k).line) (due i).place ≡ (due i).line) (sym e)
            (line_at-set_same now place (due k).line (subst (λ n. place < n) (sym w.count) (are.inside k low)))
        at j less (inr ne) =
            let before : j < k = omega arith in
            line_at-set_other now place (due j).place (due k).line (are.distinct j k before low) ∙ w.each j before

    written_skip : (due k).changed ≡ false → AreWritten due (k + 1) lines now
    written_skip same =
        record {
          count = w.count;
          each = λ j less. at j less (cases_eq j k);
          others = λ n apart. w.others n (λ j less. apart j (omega arith));
          differ = w.differ ∙ (let none : count_changed due k ≡ count_changed due k + 0 = omega arith in none) ∙ sym (count_is k false same);
        }
      where
        at : (j : ℕ) → j < k + 1 → (j ≡ k) ⊎ (j ≡ k → ⊥) → line_at now (due j).place ≡ (due j).line
        at j less (inl e) =
            subst (λ i. line_at now (due i).place ≡ (due i).line) (sym e)
            (as_was ∙ same_from_is_other (line_at lines place) (due k).line (sym (are.compared k low) ∙ same))
        at j less (inr ne) = w.each j (omega arith)

  -- ---- and the device

  pub HasWrittenTo-none : (all : ℕ) (old : Device) → HasWrittenTo due all 0 old old
  unfolding count_changed
  HasWrittenTo-none all old =
      record {
        steps = HasOnlyWritten-none old;
        lines = λ lines told now after are. subst (AreWritten due 0 lines) (same_Some lines now (sym told ∙ after)) (AreWritten-none lines);
      }

  -- a cut after the first ones
  pub HasWrittenTo-cut : (all k : ℕ) (old mid new : Device) → HasWrittenTo due all k old mid → WasCut mid new → HasWrittenTo due all k old new
  HasWrittenTo-cut all k old mid new w c =
      let same : count_changed due k + 0 ≡ count_changed due k = omega arith in
      record {
        steps = subst (λ n. HasOnlyWritten n old new) same (HasOnlyWritten-then (count_changed due k) 0 old mid new w.steps (HasOnlyWritten-cut mid new c));
        lines = λ lines told now after. w.lines lines told now (sym c.lines ∙ after);
      }

  pub HasWrittenTo-more : (all k : ℕ) (old mid new : Device) → k < all → HasWrittenTo due all k old mid
      → HasWrittenIf (due k).changed mid (due k).place (due k).line new → HasWrittenTo due all (k + 1) old new
  HasWrittenTo-more all k old mid new low w step = by (due k).changed refl step
    where
      by : (b : Bool) → (due k).changed ≡ b → HasWrittenIf b mid (due k).place (due k).line new → HasWrittenTo due all (k + 1) old new
      by true is was =
          record {
            steps =
                subst (λ n. HasOnlyWritten n old new) (sym (count_is k true is))
                (HasOnlyWritten-then (count_changed due k) 1 old mid new w.steps (HasOnlyWritten-one mid (due k).place (due k).line new was));
            lines = λ lines told now after are.
                let earlier = told_earlier mid new now (ap is_some was.lines ∙ is_some-with_line mid.lines (due k).place (due k).line) after in
                subst (AreWritten due (k + 1) lines) (written_lines mid (due k).place (due k).line new earlier.0 now was earlier.1 after)
                (written_more all lines are k low earlier.0 (w.lines lines told earlier.0 earlier.1 are) is);
          }
      by false is same =
          let none : count_changed due k ≡ count_changed due k + 0 = omega arith in
          subst (HasWrittenTo due all (k + 1) old) (sym same)
          (record {
            steps = subst (λ n. HasOnlyWritten n old mid) (none ∙ sym (count_is k false is)) w.steps;
            lines = λ lines told now after are. written_skip all lines are k low now (w.lines lines told now after are) is;
          })
