-- The lowest lines of a page's path: their positions, and what stands there.
use Rattle.std.proofs.Common.{ℕ, ◌≡◌, ◌<◌, ◌≤◌, ◌+◌, ◌-◌, Bool, true, false, List, [], length, drop, get_or, refl, sym, ap, subst, ◌∙◌, inl, inr, arith}
use Rattle.std.specs.Prelude.{◌==◌, nat_le}
use Rattle.std.specs.List.{All, list_any}
use Rattle.std.proofs.lemmas.Bool.{and_parts, and_from, and_cases, and_left, and_right, eqb-true, eq-eqb, leb-true, leb-false, le-leb, lt-leb}
use Rattle.std.proofs.lemmas.List.{get_or-drop, length-drop, get_or_default}
use Rattle.std.proofs.lemmas.List.Elements.{All-from_get_or}
use Rattle.std.proofs.lemmas.List.Folds.{list_any_at, Any-from_list_any}
use Rattle.pmem_base.specs.declared.lines.Line.{Line}
use Rattle.pmem_base.specs.Shape.{Shape}
use Rattle.pmem_base.specs.Layout.{meta_lines, pages}
use Rattle.pmem_base.specs.Lines.{zero_line}
use Rattle.bonsai_tree.specs.Positions.{level_of, is_on_path, counter_position}
use Rattle.bonsai_tree.proofs.PathPositions.{on_path-level, path_of-on_path, path_of-level, path_of-block}
use Rattle.meta_path.specs.Blocks.{path_at}
use Rattle.meta_path.specs.Storing.{IsPathOf, new_line}
use Rattle.meta_path.proofs.PathFacts.{path_at-lt}
use Rattle.meta_path.proofs.StoreLemmas.{length-path_lines, position_of}
use Rattle.plain_model.specs.Bounds.{path_length}
use Rattle.pmem_engine.specs.CallFacts.{is_grouped}

-- past the last line
abbrev pub past : ℕ × Line
past = (0, record { 0 = [] })

module _ (g : Shape) (page : ℕ) (path : List (ℕ × Line)) (few : g.levels ≤ 6) (its : IsPathOf g page path) (grouped : ℕ) where
  abbrev first : ℕ
  first = path_length g - grouped

  -- the entry at a place below the first is of its level
  pub at_level : (i : ℕ) → i < length (drop first path)
      → (first + i ≤ g.levels) × ((get_or (drop first path) i past).0 ≡ path_at g page (first + i))
      × (get_or (drop first path) i past ≡ get_or path (first + i) past)
  at_level i within =
      let long = length-path_lines g page path its in
      let left = length-drop first path in
      let inside : first + i < length path = omega (arith, within, left, long) in (
        omega (arith, inside, long),
        ap (λ (e : ℕ × Line). e.0) (get_or-drop first path i past) ∙ position_of g page path (first + i) past its inside,
        get_or-drop first path i past,
      )

  pub level_at : (i : ℕ) → i < length (drop first path) → level_of (get_or (drop first path) i past).0 ≡ first + i
  level_at i within =
      let at = at_level i within in ap level_of at.1 ∙ path_of-level g page (first + i) few its.its_page at.0

  -- each is a metadata line, with the path's new line of its level
  pub entries_on_path : All (λ (e : ℕ × Line). (e.0 < meta_lines g) × (e.1 ≡ new_line path (level_of e.0))) (drop first path)
  entries_on_path =
      All-from_get_or (λ (e : ℕ × Line). (e.0 < meta_lines g) × (e.1 ≡ new_line path (level_of e.0))) (drop first path) past
      (λ i within.
      let at = at_level i within in (
        subst (λ x. x < meta_lines g) (sym at.1) (path_at-lt g page (first + i) its.its_page at.0),
        ap (λ (e : ℕ × Line). e.1) at.2
            ∙ same_line (first + i) (omega (arith, at.0, length-path_lines g page path its))
            ∙ sym (ap (new_line path) (level_at i within)),
      ))
    where
      same_line : (j : ℕ) → j < length path → (get_or path j past).1 ≡ new_line path j
      same_line j inside = ap (λ (e : ℕ × Line). e.1) (get_or_default path j past (0, zero_line) inside)

  -- they are of the positions that are grouped
  pub entered_is : (x : ℕ) → list_any (λ (e : ℕ × Line). e.0 == x) (drop first path) ≡ is_grouped g page grouped x
  entered_is x = alike (list_any (λ (e : ℕ × Line). e.0 == x) (drop first path)) (is_grouped g page grouped x) onward back
    where
      alike : (a b : Bool) → (a ≡ true → b ≡ true) → (b ≡ true → a ≡ true) → a ≡ b
      alike true b to from = sym (to refl)
      alike false true to from = from refl
      alike false false to from = refl

      found : (i : ℕ) → i < length (drop first path) → ((get_or (drop first path) i past).0 == x) ≡ true → is_grouped g page grouped x ≡ true
      found i within is =
          let at = at_level i within in
          let here : (get_or (drop first path) i past).0 ≡ x = eqb-true _ x is in
          and_from (is_on_path g page x) (nat_le first (level_of x))
          (ap (is_on_path g page) (sym here ∙ at.1) ∙ path_of-on_path g page (first + i) at.0)
          (le-leb first (level_of x) (omega (arith, sym (ap level_of here) ∙ level_at i within)))

      onward : list_any (λ (e : ℕ × Line). e.0 == x) (drop first path) ≡ true → is_grouped g page grouped x ≡ true
      onward any =
          let some = Any-from_list_any (λ (e : ℕ × Line). e.0 == x) (drop first path) any in
          found some.0 some.2
          (ap (λ (e : ℕ × Line). e.0 == x) (get_or_default (drop first path) some.0 past some.1 some.2 ∙ some.3) ∙ some.4)

      back : is_grouped g page grouped x ≡ true → list_any (λ (e : ℕ × Line). e.0 == x) (drop first path) ≡ true
      back is =
          let both = and_parts (is_on_path g page x) (nat_le first (level_of x)) is in
          let at = on_path-level g page x few its.its_page both.0 in
          let low : first ≤ level_of x = leb-true first (level_of x) both.1 in
          let within : level_of x - first < length (drop first path) =
          omega (arith, low, at.0, length-drop first path, length-path_lines g page path its) in
          let there = at_level (level_of x - first) within in
          let again : first + (level_of x - first) ≡ level_of x = omega (arith, low) in
          list_any_at (λ (e : ℕ × Line). e.0 == x) (drop first path) (level_of x - first) past within
          (eq-eqb _ x (there.1 ∙ ap (path_at g page) again ∙ at.1))

-- ---- which positions are grouped

-- fewer lines are of fewer positions
pub grouped_below : (g : Shape) (page few more x : ℕ) → few ≤ more → is_grouped g page more x ≡ false
    → is_grouped g page few x ≡ false
grouped_below g page few more x le un =
    elim (and_cases (is_on_path g page x) (nat_le (path_length g - more) (level_of x)) un) [
      | inl off ↦ and_left (is_on_path g page x) _ off
      | inr above ↦
          and_right (is_on_path g page x) _
          (lt-leb (path_length g - few) (level_of x)
          (omega (arith, le, leb-false (path_length g - more) (level_of x) above)))
    ]

-- the page's counter block is, if any line is
pub block_grouped : (g : Shape) (page grouped : ℕ) → g.levels ≤ 6 → page < pages g → 1 ≤ grouped
    → is_grouped g page grouped (counter_position g page) ≡ true
block_grouped g page grouped few inside some =
    let level : level_of (counter_position g page) ≡ g.levels =
    ap level_of (sym (path_of-block g page)) ∙ path_of-level g page g.levels few inside (omega arith) in
    and_from (is_on_path g page (counter_position g page)) _
    (ap (is_on_path g page) (sym (path_of-block g page)) ∙ path_of-on_path g page g.levels (omega arith))
    (le-leb (path_length g - grouped) (level_of (counter_position g page)) (omega (arith, level, some)))
