-- The header of a line, as it is read: it is found exactly if the line is one.
use Rattle.std.proofs.Common.{ℕ, suc, nat_le, length, ◌≡◌, ◌≢◌, ◌<◌, ◌^◌, Bool, true, false, not, cond, eqb, List, [], ◌∷◌, get_or, Option, Some, None, refl, sym, ap, subst, ◌∙◌, arith, rules}
use Rattle.line_txn.proofs.Common.{All, ◌==◌, nat_lt, ◌&&◌, AllPairs, list_any, cases_Bool, lt-ltb, ltb-true, le-leb, leb-true, ne_eqb, eq-eqb, and_parts, and_from, not_from_false, not-true, false≢true, All-cons, All-head, All-tail, list_any_none, list_any_at, AllPairs-cons, Line, AreDistinctBelow, IsHeader, are_distinct_below, is_header_of, header_in}
use Rattle.pmem_base.specs.Lines.{same_bytes, line_of}
use Rattle.line_txn.specs.Header.{header_of}
use Rattle.pmem_base.proofs.ByteLaws.{same_bytes-from, same_bytes-true}
use Rattle.line_txn.proofs.Headers.{below_none, targets_of_header}

-- ---- distinct lines below n

abbrev is_among : ℕ → List ℕ → Bool
is_among t targets = list_any (λ other. other == t) targets

distinct_tail : (t : ℕ) (targets : List ℕ) → AllPairs (λ t u. t ≢ u) (t ∷ targets) → AllPairs (λ t u. t ≢ u) targets
distinct_tail t targets its = λ i j d less within. its (suc i) (suc j) d (omega (arith, less)) (omega (arith, within))

distinct_head : (t : ℕ) (targets : List ℕ) → AllPairs (λ t u. t ≢ u) (t ∷ targets) → All (λ other. eqb other t ≡ false) targets
distinct_head t targets its = λ k d within.
    let apart = its 0 (suc k) d (omega arith) (omega (arith, within)) in
    ne_eqb _ _ (λ e. apart (sym e))

distinct_true : (n : ℕ) (targets : List ℕ) → AreDistinctBelow n targets → are_distinct_below n targets ≡ true
distinct_true n [] its = refl
distinct_true n (t ∷ targets) its =
    let others : is_among t targets ≡ false = list_any_none (λ other. other == t) targets (distinct_head t targets its.distinct) in
    let rest : AreDistinctBelow n targets =
    record { each = All-tail (λ t. t < n) t targets its.each; distinct = distinct_tail t targets its.distinct } in
    and_from (nat_lt t n && not (is_among t targets)) (are_distinct_below n targets)
    (and_from (nat_lt t n) (not (is_among t targets)) (lt-ltb t n (All-head (λ t. t < n) t targets its.each))
    (not_from_false (is_among t targets) others))
    (distinct_true n targets rest)

distinct_back : (n : ℕ) (targets : List ℕ) → are_distinct_below n targets ≡ true → AreDistinctBelow n targets
distinct_back n [] it = below_none n
distinct_back n (t ∷ targets) it =
    let first = and_parts (nat_lt t n && not (is_among t targets)) (are_distinct_below n targets) it in
    let second = and_parts (nat_lt t n) (not (is_among t targets)) first.0 in
    let rest = distinct_back n targets first.1 in
    let none : is_among t targets ≡ false = not-true (is_among t targets) second.1 in
    record {
      each = All-cons (λ t. t < n) t targets (ltb-true t n second.0) rest.each;
      distinct =
          AllPairs-cons (λ t u. t ≢ u) t targets
          (λ k d within e. false≢true (sym none ∙ list_any_at (λ other. other == t) targets k d within (eq-eqb _ t (sym e))))
          rest.distinct;
    }

-- ---- a line that is a header

header_true : (n : ℕ) (line : Line) (targets : List ℕ) → IsHeader n line targets → is_header_of n line targets ≡ true
header_true n line targets its = search (rules, and_from, le-leb, distinct_true, same_bytes-from)

header_back : (n : ℕ) (line : Line) (targets : List ℕ) → is_header_of n line targets ≡ true → IsHeader n line targets
header_back n line targets it =
    let first = and_parts (nat_le (length targets) 15 && are_distinct_below n targets) (same_bytes line.0 (header_of targets).0) it in
    let second = and_parts (nat_le (length targets) 15) (are_distinct_below n targets) first.0 in
    record {
      its_targets = record { few = leb-true (length targets) 15 second.0; below = distinct_back n targets second.1 };
      its_line = ap line_of (same_bytes-true line.0 (header_of targets).0 first.1);
    }

abbrev found_as : Bool → List ℕ → Option (List ℕ)
found_as found targets = cond found (Some targets) None

pub header_found : (n : ℕ) (line : Line) (targets : List ℕ) → n < 2 ^ 32 → IsHeader n line targets → header_in n line ≡ Some targets
header_found n line targets small its =
    subst (λ ts. found_as (is_header_of n line ts) ts ≡ Some targets) (sym (targets_of_header n line targets small its))
    (ap (λ b. found_as b targets) (header_true n line targets its))

pub header_none : (n : ℕ) (line : Line) → ((targets : List ℕ) → IsHeader n line targets → ⊥) → header_in n line ≡ None
header_none n line none = search (rules, get_or, cases_Bool, header_back)
