-- Which slot a node has.
use Rattle.std.proofs.Common.{ℕ, suc, ◌≡◌, ◌≢◌, ◌<◌, ◌≤◌, ◌+◌, ◌-◌, ◌*◌, ◌/◌, ◌%◌, ◌^◌, List, [], ◌∷◌, Bool, true, refl, sym, ap, subst, inl, inr, ◌∙◌, arith, rules}
use Rattle.std.proofs.lemmas.Nat.{div-mul-add, mod_below}
use Rattle.asit_shadow.proofs.Common.{◌==◌, ◌||◌, slice_index, list_any, cases_Bool, cases_eq, cond-false, ne_eqb, eq-eqb, eqb-true, or_left, or_right, mul-le-mul_right, pow-suc, Shape, IsShape, pages, meta_lines, path_of, is_on_path, level_of-IsAtLevel, level_of-le, level_start-le, meta_lines-level, path_position-IsAtLevel, on_path-position, on_path-level, path_position-top, path_position-on_path, tree_lines, tree_slots, is_on_line_path, slot_of, line_path, is_path_slot}
use Rattle.bonsai_tree.specs.Positions.{level_of}

pub slot_of-below : (g : Shape) (x : ℕ) → x ≢ 0 → slot_of g x ≡ 1 + (level_of x - 1) * g.sets + x % g.sets
slot_of-below g x low = cond-false (x == 0) 0 (1 + (level_of x - 1) * g.sets + x % g.sets) (ne_eqb x 0 low)

pub level_of-low : (g : Shape) (x : ℕ) → IsShape g → x < meta_lines g → x ≢ 0 → 1 ≤ level_of x
level_of-low g x shape inside low = search (rules, cases_eq, level_of-IsAtLevel)

pub slot_of-inside : (g : Shape) (x : ℕ) → IsShape g → x < meta_lines g → slot_of g x < tree_slots g
slot_of-inside g x shape inside = search (rules, cases_eq, level_of-le, level_of-low, mod_below, mul-le-mul_right, slot_of-below)

-- nodes of one slot are of one level
pub slot_of-level : (g : Shape) (x y : ℕ) → IsShape g → x < meta_lines g → y < meta_lines g → slot_of g x ≡ slot_of g y → level_of x ≡ level_of y
slot_of-level g x y shape in_x in_y same =
    elim (cases_eq x 0) [
      | inl top ↦ elim (cases_eq y 0) [
        | inl also ↦ ap level_of (top ∙ sym also)
        | inr low ↦ absurd (omega (arith, slot_of-below g y low, sym (ap (slot_of g) top) ∙ same))
      ]
      | inr low ↦ elim (cases_eq y 0) [
        | inl top ↦ absurd (omega (arith, slot_of-below g x low, same ∙ ap (slot_of g) top))
        | inr also ↦
            let a = slot_of-below g x low in
            let b = slot_of-below g y also in
            let rows : (level_of x - 1) * g.sets + x % g.sets ≡ (level_of y - 1) * g.sets + y % g.sets = omega (arith, a, b, same) in
            let one = div-mul-add (level_of x - 1) g.sets (x % g.sets) (mod_below x g.sets (omega (arith, shape.at_least_one_set))) in
            let two = div-mul-add (level_of y - 1) g.sets (y % g.sets) (mod_below y g.sets (omega (arith, shape.at_least_one_set))) in
            let row : level_of x - 1 ≡ level_of y - 1 = sym one ∙ (ap (λ n. n / g.sets) rows ∙ two) in
            omega (arith, row, level_of-low g x shape in_x low, level_of-low g y shape in_y also)
      ]
    ]

-- ---- the nodes of a path

pub page_of_line : (g : Shape) (a : ℕ) → a < tree_lines g → a / 4 < pages g
page_of_line g a inside = omega (arith, inside, pow-suc 4 g.levels, more)
  where
    more : 4 ^ (g.levels + 1) ≡ 4 ^ suc g.levels
    more = ap (λ n. 4 ^ n) (omega arith)

pub on_path-inside : (g : Shape) (a x : ℕ) → a < tree_lines g → is_on_line_path g a x ≡ true → x < meta_lines g
on_path-inside g a x inside on = search (rules, on_path-position, path_position-IsAtLevel, page_of_line, level_start-le, meta_lines-level)

pub path_slots-apart : (g : Shape) (a x y : ℕ) → IsShape g → a < tree_lines g → is_on_line_path g a x ≡ true → is_on_line_path g a y ≡ true → slot_of g x ≡ slot_of g y → x ≡ y
path_slots-apart g a x y shape inside on_x on_y same =
    let page = page_of_line g a inside in
    let level = slot_of-level g x y shape (on_path-inside g a x inside on_x) (on_path-inside g a y inside on_y) same in
    let its_x = on_path-level g (a / 4) x shape.at_most_six_levels page on_x in
    let its_y = on_path-level g (a / 4) y shape.at_most_six_levels page on_y in
    sym its_x.1 ∙ (ap (slice_index (path_of g (a / 4))) level ∙ its_y.1)

pub top_on_path : (g : Shape) (a : ℕ) → a < tree_lines g → is_on_line_path g a 0 ≡ true
top_on_path g a inside =
    subst (λ z. is_on_path g (a / 4) z ≡ true) (path_position-top g (a / 4) (page_of_line g a inside))
    (path_position-on_path g (a / 4) 0 (omega arith))

-- ---- whether a slot is one of a path's

-- a number that passes is in the list
pub any_from : (q : ℕ → Bool) (xs : List ℕ) → list_any q xs ≡ true → (x : ℕ) × (list_any (λ z. z == x) xs ≡ true) × (q x ≡ true)
any_from q [] any = absurd cc
any_from q (y ∷ ys) any =
    elim (cases_Bool (q y)) [
      | inl here ↦ (y, or_left (y == y) (list_any (λ z. z == y) ys) (eq-eqb y y refl), here)
      | inr not ↦
          let rest : list_any q ys ≡ true = sym (ap (λ b. b || list_any q ys) not) ∙ any in
          let found = any_from q ys rest in
          (found.0, or_right (y == found.0) (list_any (λ z. z == found.0) ys) found.1, found.2)
    ]

-- and a number of the list that passes makes some pass
pub any_of : (q : ℕ → Bool) (xs : List ℕ) (x : ℕ) → list_any (λ z. z == x) xs ≡ true → q x ≡ true → list_any q xs ≡ true
any_of q [] x here fits = absurd cc
any_of q (y ∷ ys) x here fits =
    elim (cases_Bool (y == x)) [
      | inl same ↦ or_left (q y) (list_any q ys) (ap q (eqb-true y x same) ∙ fits)
      | inr other ↦ or_right (q y) (list_any q ys) (any_of q ys x (sym (ap (λ b. b || list_any (λ z. z == x) ys) other) ∙ here) fits)
    ]

pub path_slot-of : (g : Shape) (a x : ℕ) → is_on_line_path g a x ≡ true → is_path_slot g a (slot_of g x) ≡ true
path_slot-of g a x on = any_of (λ z. slot_of g z == slot_of g x) (line_path g a) x on (eq-eqb (slot_of g x) (slot_of g x) refl)

pub path_slot-from : (g : Shape) (a i : ℕ) → is_path_slot g a i ≡ true → (x : ℕ) × (is_on_line_path g a x ≡ true) × (slot_of g x ≡ i)
path_slot-from g a i it =
    let found = any_from (λ z. slot_of g z == i) (line_path g a) it in
    (found.0, found.1, eqb-true (slot_of g found.0) i found.2)
