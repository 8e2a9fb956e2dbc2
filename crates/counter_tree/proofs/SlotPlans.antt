-- The lines of the shadow tree, and what is shown of slot lines, are functions of the slot lines.
use Rattle.std.proofs.Common.{ℕ, zero, suc, ◌≡◌, ◌≢◌, ◌<◌, ◌≤◌, ◌+◌, ◌-◌, List, [], ◌∷◌, length, map, refl, sym, ap, subst, inl, inr, ◌∙◌, arith, rules}
use Rattle.std.proofs.lemmas.List.FromFn.{length-map-range_with_len, get_or-map-range_with_len}
use Rattle.counter_tree.proofs.Common.{range_with_len, cases_eq, cond-true, cond-false, ext_get_or, Line, Exhibit, level_start, meta_lines, Shape, same_bytes, Formulas, level_of, level_of-IsAtLevel, level_of-le, meta_lines-level, same_line, other_line, shadow_tree_line, shape_of_height, up, FirstDiffers, IsShadowTree, WatchState, IsSlotClash, first_other, is_same_there, top_other}
use Rattle.pmem_base.specs.Lines.{zero_line}
use Rattle.counter_tree.specs.Plans.{clash_of, shadow_tree}
use Rattle.counter_tree.proofs.ChipTree.{chip-line}

-- ---- what is shown

pub first_other-is : (first second : List Line) (i : ℕ) → length first ≡ length second → FirstDiffers first second i → first_other first second ≡ i
first_other-is [] second i long it = absurd (omega (arith, it.within))
first_other-is (line ∷ first) [] i long it = absurd (omega (arith, long))
first_other-is (line ∷ first) (other ∷ second) zero long it = search other_line
first_other-is (line ∷ first) (other ∷ second) (suc i) long it =
    cond-true (same_bytes line.0 other.0) (suc (first_other first second)) 0 (same_line line other (it.before 0 (omega arith)))
    ∙ ap suc (first_other-is first second i (omega (arith, long))
    (record { within = omega (arith, it.within); differ = it.differ; before = λ j low. it.before (suc j) (omega (arith, low)) }))

pub top_other-is : (f : Formulas) (h : ℕ) (first second : List Line) (leaf n m : ℕ) → m ≤ n
    → ((k : ℕ) → m < k → k ≤ n → shadow_tree_line f h first k (up k leaf) ≡ shadow_tree_line f h second k (up k leaf))
    → shadow_tree_line f h first m (up m leaf) ≢ shadow_tree_line f h second m (up m leaf) → top_other f h first second leaf n ≡ m
top_other-is f h first second leaf zero m most above differ = search rules
top_other-is f h first second leaf (suc n) m most above differ =
    let here = is_same_there f h first second (suc n) (up (suc n) leaf) in
    elim (cases_eq m (suc n)) [
      | inl top ↦ search (rules, cond-false, other_line)
      | inr low ↦
          cond-true here (top_other f h first second leaf n) (suc n) (same_line _ _ (above (suc n) (omega (arith, most, low)) (omega arith)))
          ∙ top_other-is f h first second leaf n m (omega (arith, most, low)) (λ k over within. above k over (omega (arith, within))) differ
    ]

pub clash-is : (watch : WatchState) (slots : List Line) (shown : Exhibit) → length slots ≡ length watch.slots → IsSlotClash watch slots shown
    → shown ≡ clash_of watch slots
unfolding clash_of
clash-is watch slots shown long it = search (rules, first_other-is, top_other-is)

-- ---- the tree's lines

pub chip-tree-is : (f : Formulas) (h : ℕ) (slots tree : List Line) → h ≤ 5 → length tree ≡ level_start (suc h) → IsShadowTree f h slots tree
    → tree ≡ shadow_tree f h slots
unfolding shadow_tree
chip-tree-is f h slots tree few long it =
    let g : Shape = shape_of_height h in
    let each : ℕ → Line = λ x. shadow_tree_line f h slots (h - level_of x) x in
    ext_get_or zero_line tree (map each (range_with_len 0 (level_start (suc h)))) (long ∙ sym (length-map-range_with_len each 0 (level_start (suc h))))
    (λ x low.
    let inside : x < level_start (suc h) = subst (λ n. x < n) long low in
    let small : h ≤ 6 = omega (arith, few) in
    let size : meta_lines g ≡ level_start (suc h) = meta_lines-level g in
    let on_tree : x < meta_lines g = omega (arith, inside, size) in
    let deep : level_of x ≤ h = level_of-le g x small on_tree in
    let sum : level_of x + (h - level_of x) ≡ h = omega (arith, deep) in
    chip-line f h slots tree (h - level_of x) (level_of x) x it sum (level_of-IsAtLevel g x small on_tree)
    ∙ sym (get_or-map-range_with_len each 0 (level_start (suc h)) x x zero_line inside (omega arith)))
