-- The trials of a window, one candidate after another.
use Rattle.std.proofs.Common.{ℕ, zero, suc, ◌≡◌, ◌<◌, ◌≤◌, ◌+◌, ◌-◌, Bool, true, false, cond, List, [], ◌∷◌, ◌++◌, length, refl, sym, ap, ◌∙◌, arith, subst, inl, inr}
use Rattle.std.specs.Prelude.{min, filter, All}
use Rattle.std.specs.List.{range_with_len}
use Rattle.std.proofs.lemmas.List.{append-nil}
use Rattle.std.proofs.lemmas.List.Elements.{filter-append, All-filter, All-weaker, All-head, All-from_get_or}
use Rattle.std.proofs.lemmas.List.FromFn.{length-range_with_len, get_or-range_with_len}
use Rattle.std.proofs.lemmas.Bool.{cases_Bool, cases_lt}
use Rattle.pmem_base.specs.declared.lines.Line.{Line}
use Rattle.pmem_base.specs.Counts.{last_count, risen, risen_times}
use Rattle.pmem_base.specs.Lines.{same_bytes}
use Rattle.pmem_base.proofs.ListLaws.{range_more}
use Rattle.suite.specs.Formulas.{Formulas}
use Rattle.stop_loss.specs.declared.Found.{Found}
use Rattle.stop_loss.specs.Windows.{minors_within}
use Rattle.stop_loss.specs.Trials.{is_match, matching_minors, found_among, found_after, IsFoundWithin}

found_among-more : (minors : List ℕ) (minor : ℕ) (matches : Bool) → found_after (found_among minors) minor matches ≡ found_among (minors ++ cond matches (minor ∷ []) [])
found_among-more minors minor false = ap found_among (sym (append-nil minors))
found_among-more [] minor true = refl
found_among-more (low ∷ []) minor true = refl
found_among-more (low ∷ high ∷ more) minor true = refl

-- the candidates before the next one are tried
pub record HasTried (formulas : Formulas) (a major : ℕ) (cipher : Line) (tag : List ℕ) (first last next : ℕ) (found : Found) : Type 0 where
  pub from_first : first ≤ next
  pub to_last : next - first ≤ last + 1 - first
  pub finds : found ≡ found_among (matching_minors formulas a major cipher tag (range_with_len first (next - first)))

pub HasTried-none : (formulas : Formulas) (a major : ℕ) (cipher : Line) (tag : List ℕ) (first last : ℕ) → HasTried formulas a major cipher tag first last first Found.Nothing
HasTried-none formulas a major cipher tag first last =
    let none : 0 ≡ first - first = omega arith in
    record {
      from_first = omega arith;
      to_last = omega arith;
      finds = ap (λ n. found_among (matching_minors formulas a major cipher tag (range_with_len first n))) none;
    }

pub HasTried-more : (formulas : Formulas) (a major : ℕ) (cipher : Line) (tag : List ℕ) (first last next : ℕ) (found : Found) (trial : List ℕ) (matches : Bool) (result : Found) → HasTried formulas a major cipher tag first last next found → next < last + 1 → trial ≡ formulas.tag_of a (record { major = major; minor = next }) cipher → matches ≡ same_bytes trial tag → result ≡ found_after found next matches → HasTried formulas a major cipher tag first last (next + 1) result
HasTried-more formulas a major cipher tag first last next found trial matches result before inside made compared after =
    let test = λ (minor : ℕ). is_match formulas a major cipher tag minor in
    let tried = range_with_len first (next - first) in
    let from : first ≤ next = before.from_first in
    let same : matches ≡ is_match formulas a major cipher tag next = compared ∙ ap (λ t. same_bytes t tag) made in
    let place : first + (next - first) ≡ next = omega (arith, from) in
    let count : suc (next - first) ≡ next + 1 - first = omega (arith, from) in
    let candidates : range_with_len first (next - first) ++ next ∷ [] ≡ range_with_len first (next + 1 - first) =
    ap (λ m. range_with_len first (next - first) ++ m ∷ []) (sym place)
    ∙ (sym (range_more first (next - first)) ∙ ap (λ n. range_with_len first n) count) in
    record {
      from_first = omega (arith, from);
      to_last = omega (arith, from, inside);
      finds =
          after
          ∙ (ap (λ b. found_after found next b) same
          ∙ (ap (λ f. found_after f next (is_match formulas a major cipher tag next)) before.finds
          ∙ (found_among-more (filter test tried) next (is_match formulas a major cipher tag next)
          ∙ (ap found_among (sym (filter-append test tried (next ∷ [])))
          ∙ ap (λ ms. found_among (filter test ms)) candidates))));
    }

-- all candidates are tried
pub all_tried : (first last next : ℕ) → first ≤ next → next - first ≤ last + 1 - first → last + 1 ≤ next → range_with_len first (next - first) ≡ minors_within first last
all_tried first last next from to end =
    let count : next - first ≡ last + 1 - first = omega (arith, from, to, end) in
    ap (λ n. range_with_len first n) count

pub HasTried-all : (formulas : Formulas) (a major : ℕ) (cipher : Line) (tag : List ℕ) (first last next : ℕ) (found : Found) → HasTried formulas a major cipher tag first last next found → last + 1 ≤ next → found ≡ found_among (matching_minors formulas a major cipher tag (minors_within first last))
HasTried-all formulas a major cipher tag first last next found tried end =
    tried.finds
    ∙ ap (λ ms. found_among (matching_minors formulas a major cipher tag ms)) (all_tried first last next tried.from_first tried.to_last end)

-- ---- what is found lies in the window

All-range : (start n : ℕ) → All (λ m. (start ≤ m) × (m < start + n)) (range_with_len start n)
All-range start n =
    All-from_get_or (λ m. (start ≤ m) × (m < start + n)) (range_with_len start n) 0
    (λ k inside.
    let small : k < n = subst (λ z. k < z) (length-range_with_len start n) inside in
    subst (λ m. (start ≤ m) × (m < start + n)) (sym (get_or-range_with_len start n k 0 small)) (omega arith, omega (arith, small)))

-- a first match, and those after it
found_first : (start last : ℕ) (more : List ℕ) → start ≤ last → All (λ m. (start + 1 ≤ m) × (m ≤ last)) more → IsFoundWithin start last (found_among (start ∷ more))
found_first start last [] inside later = (omega arith, inside)
found_first start last (high ∷ more) inside later =
    let next = All-head (λ m. (start + 1 ≤ m) × (m ≤ last)) high more later in
    (omega arith, omega (arith, next.0), next.1)

wider : (start last : ℕ) (found : Found) → IsFoundWithin (start + 1) last found → IsFoundWithin start last found
wider start last Found.Nothing within = tt
wider start last (Found.One minor) within = (omega (arith, within.0), within.1)
wider start last (Found.Twin low high) within = (omega (arith, within.0), within.1, within.2)

found_within : (p : ℕ → Bool) (n start last : ℕ) → start + n ≡ last + 1 → IsFoundWithin start last (found_among (filter p (range_with_len start n)))
found_within p zero start last end = tt
found_within p (suc n) start last end =
    let rest = filter p (range_with_len (start + 1) n) in
    elim (cases_Bool (p start)) [
      | inl passes ↦
          subst (λ b. IsFoundWithin start last (found_among (cond b (start ∷ rest) rest))) (sym passes)
          (found_first start last rest (omega (arith, end))
          (All-filter p (λ m. (start + 1 ≤ m) × (m ≤ last)) (range_with_len (start + 1) n)
          (All-weaker (λ m. (start + 1 ≤ m) × (m < start + 1 + n)) (λ m. (start + 1 ≤ m) × (m ≤ last)) (λ m both. (both.0, omega (arith, both.1, end))) (range_with_len (start + 1) n) (All-range (start + 1) n))))
      | inr fails ↦
          subst (λ b. IsFoundWithin start last (found_among (cond b (start ∷ rest) rest))) (sym fails)
          (wider start last (found_among rest) (found_within p n (start + 1) last (omega (arith, end))))
    ]

-- an empty window, or one with its ends
pub result_within : (formulas : Formulas) (a major : ℕ) (cipher : Line) (tag : List ℕ) (first last : ℕ) (found : Found) → found ≡ found_among (matching_minors formulas a major cipher tag (minors_within first last)) → IsFoundWithin first last found
result_within formulas a major cipher tag first last found same =
    subst (IsFoundWithin first last) (sym same)
    (elim (cases_lt last first) [
      | inl empty ↦
          let none : 0 ≡ last + 1 - first = omega (arith, empty) in
          subst (λ n. IsFoundWithin first last (found_among (matching_minors formulas a major cipher tag (range_with_len first n)))) none tt
      | inr some ↦
          found_within (is_match formulas a major cipher tag) (last + 1 - first) first last (omega (arith, some))
    ])

-- ---- the count of tags

pub risen_times-min : (n count : ℕ) → count ≤ last_count → risen_times n count ≡ min (count + n) last_count
risen_times-min zero count small = omega (arith, small)
risen_times-min (suc n) count small = let before = risen_times-min n count small in ap risen before ∙ omega arith

pub tries-more : (first next old count : ℕ) → first ≤ next → count ≡ risen_times (next - first) old → risen count ≡ risen_times (next + 1 - first) old
tries-more first next old count from before =
    let more : suc (next - first) ≡ next + 1 - first = omega (arith, from) in
    ap risen before ∙ ap (λ n. risen_times n old) more

pub tries-all : (first last next old count : ℕ) → first ≤ next → next - first ≤ last + 1 - first → last + 1 ≤ next → count ≡ risen_times (next - first) old → count ≡ risen_times (length (minors_within first last)) old
tries-all first last next old count from to end tried =
    let all : next - first ≡ length (minors_within first last) =
    sym (length-range_with_len first (next - first)) ∙ ap length (all_tried first last next from to end) in
    tried ∙ ap (λ n. risen_times n old) all
