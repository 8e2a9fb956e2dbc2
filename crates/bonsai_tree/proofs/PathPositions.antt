-- Paths: one position a level from the top down to a page's counter block, and what two paths share.
use Rattle.std.proofs.lemmas.Grind.{common_steps}
use Rattle.std.proofs.Common.{rules}
use Rattle.std.proofs.Common.{ℕ, zero, suc, ◌≡◌, ◌<◌, ◌≤◌, ◌+◌, ◌-◌, ◌*◌, ◌/◌, ◌%◌, ◌^◌, true, false, List, [], ◌∷◌, ◌++◌, length, inl, inr, refl, sym, ap, subst, ◌∙◌, arith, length-append, add-one}
use Rattle.std.specs.Prelude.{◌==◌, All, slice_index}
use Rattle.std.specs.List.{list_any}
use Rattle.std.proofs.Math.Nat.{pow-suc, div-div-eq-div-mul}
use Rattle.std.proofs.lemmas.Bool.{cases_eq, eqb-true, eq-eqb, or_cases, or_left, or_right, false≢true}
use Rattle.std.proofs.lemmas.List.{get_or_at, get_or_append_left}
use Rattle.std.proofs.lemmas.List.Folds.{list_any-append, list_any_at}
use Rattle.std.proofs.lemmas.List.Elements.{All-cons, All-nil, All-append, All-weaker}
use Rattle.pmem_base.specs.Shape.{Shape}
use Rattle.pmem_base.specs.Layout.{pages, meta_lines, level_start}
use Rattle.bonsai_tree.specs.Positions.{parent, child_position, level_of, counter_position, path_down_to, path_of, is_on_path}
use Rattle.bonsai_tree.proofs.Levels.{IsAtLevel, IsAtLevel-once, level_of-at, level_start-suc, level_start-le, parent-child, counter_position-lt}

-- ---- the position of each level

-- the position at level j on a page's path
abbrev pub path_position : Shape → ℕ → ℕ → ℕ
path_position g page j = level_start j + page / 4 ^ (g.levels - j)

pub path_position-top : (g : Shape) (page : ℕ) → page < pages g → path_position g page 0 ≡ 0
path_position-top g page inside = search rules

pub path_position-block : (g : Shape) (page : ℕ) → path_position g page g.levels ≡ counter_position g page
path_position-block g page = search rules

-- the position one level down
pub path_position-suc : (g : Shape) (page j : ℕ) → j < g.levels → path_position g page (suc j) ≡ child_position (path_position g page j) (page / 4 ^ (g.levels - suc j) % 4)
path_position-suc g page j above =
    let more : g.levels - j ≡ suc (g.levels - suc j) = omega (arith, above) in
    let quarter : page / 4 ^ (g.levels - j) ≡ page / 4 ^ (g.levels - suc j) / 4 =
    ap (λ n. page / 4 ^ n) more
    ∙ (ap (λ n. page / n) (pow-suc 4 (g.levels - suc j))
    ∙ sym (div-div-eq-div-mul page (4 ^ (g.levels - suc j)) 4)) in
    omega (arith, quarter, level_start-suc j)

pub path_position-parent : (g : Shape) (page j : ℕ) → j < g.levels → parent (path_position g page (suc j)) ≡ path_position g page j
path_position-parent g page j above = search (rules, path_position-suc, parent-child)

pub path_position-IsAtLevel : (g : Shape) (page j : ℕ) → page < pages g → j ≤ g.levels → IsAtLevel j (path_position g page j)
path_position-IsAtLevel g page zero inside le = search (rules, IsAtLevel, path_position-top)
path_position-IsAtLevel g page (suc j) inside le =
    let above = path_position-IsAtLevel g page j inside (omega (arith, le)) in
    let slot = page / 4 ^ (g.levels - suc j) % 4 in
    subst (IsAtLevel (suc j)) (sym (path_position-suc g page j (omega (arith, le))))
    (record {
      from = omega (arith, above.from, level_start-suc j);
      below = omega (arith, above.below, level_start-suc j, level_start-suc (suc j));
    })

-- ---- the path as a list

pub length-path_down_to : (j x : ℕ) → length (path_down_to j x) ≡ suc j
length-path_down_to zero x = refl
length-path_down_to (suc j) x = length-append (path_down_to j (parent x)) (x ∷ []) ∙ omega (arith, length-path_down_to j (parent x))

-- one more position at the end of a path
pub path_down_to-suc : (g : Shape) (page j : ℕ) → j < g.levels → path_down_to (suc j) (path_position g page (suc j)) ≡ path_down_to j (path_position g page j) ++ path_position g page (suc j) ∷ []
path_down_to-suc g page j above = search (rules, path_position-parent)

path_down_to-at : (g : Shape) (page j i : ℕ) → j ≤ g.levels → i ≤ j → slice_index (path_down_to j (path_position g page j)) i ≡ path_position g page i
path_down_to-at g page zero i le within = search rules
path_down_to-at g page (suc j) i le within =
    let above : j < g.levels = omega (arith, le) in
    let front = path_down_to j (path_position g page j) in
    let long : length front ≡ suc j = length-path_down_to j (path_position g page j) in
    ap (λ xs. slice_index xs i) (path_down_to-suc g page j above)
    ∙ elim (cases_eq i (suc j)) [
      | inl last ↦
          subst (λ n. slice_index (front ++ path_position g page (suc j) ∷ []) n ≡ path_position g page n) (sym last)
          (get_or_at front (path_position g page (suc j)) [] 0 (suc j) long)
      | inr before ↦
          get_or_append_left front (path_position g page (suc j) ∷ []) 0 i (omega (arith, within, before, long))
          ∙ path_down_to-at g page j i (omega (arith, le)) (omega (arith, within, before))
    ]

-- the laws of a page's path
pub length-path_of : (g : Shape) (page : ℕ) → length (path_of g page) ≡ g.levels + 1
length-path_of g page = length-path_down_to g.levels (counter_position g page) ∙ omega arith

pub path_of-at : (g : Shape) (page j : ℕ) → j ≤ g.levels → slice_index (path_of g page) j ≡ path_position g page j
path_of-at g page j le =
    ap (λ x. slice_index (path_down_to g.levels x) j) (sym (path_position-block g page))
    ∙ path_down_to-at g page g.levels j (omega arith) le

pub path_of-top : (g : Shape) (page : ℕ) → page < pages g → slice_index (path_of g page) 0 ≡ 0
path_of-top g page inside = path_of-at g page 0 (omega arith) ∙ path_position-top g page inside

pub path_of-block : (g : Shape) (page : ℕ) → slice_index (path_of g page) g.levels ≡ counter_position g page
path_of-block g page = path_of-at g page g.levels (omega arith) ∙ path_position-block g page

-- each position is the parent of the next
pub path_of-parent : (g : Shape) (page j : ℕ) → j < g.levels → parent (slice_index (path_of g page) (suc j)) ≡ slice_index (path_of g page) j
path_of-parent g page j above = search (rules, path_of-at, path_position-parent)

-- one position a level
pub path_of-IsAtLevel : (g : Shape) (page j : ℕ) → page < pages g → j ≤ g.levels → IsAtLevel j (slice_index (path_of g page) j)
path_of-IsAtLevel g page j inside le = search (rules, IsAtLevel, path_of-at, path_position-IsAtLevel)

path_down_to-bounded : (j x : ℕ) → All (λ y. y ≤ x) (path_down_to j x)
path_down_to-bounded zero x = All-cons (λ y. y ≤ x) x [] (omega arith) (All-nil (λ y. y ≤ x))
path_down_to-bounded (suc j) x =
    All-append (λ y. y ≤ x) (path_down_to j (parent x)) (x ∷ [])
    (All-weaker (λ y. y ≤ parent x) (λ y. y ≤ x) (λ y h. omega arith) (path_down_to j (parent x))
    (path_down_to-bounded j (parent x)))
    (All-cons (λ y. y ≤ x) x [] (omega arith) (All-nil (λ y. y ≤ x)))

-- the positions of a page's path are metadata lines
pub path_of-within : (g : Shape) (page : ℕ) → page < pages g → All (λ x. x < meta_lines g) (path_of g page)
path_of-within g page inside = grind (arith, common_steps, All-weaker, counter_position-lt, path_down_to-bounded)

-- ---- a path built from the top down

pub path_position-small : (g : Shape) (page j : ℕ) → page < pages g → g.levels ≤ 6 → j < g.levels → path_position g page j < 1365
path_position-small g page j inside few above = search (rules, path_position-IsAtLevel, level_start-le)

pub quarter-is : (levels j below : ℕ) → j < levels → below ≡ 4 ^ (levels - j) → below / 4 ≡ 4 ^ (levels - (j + 1))
quarter-is levels j below above is =
    let more : levels - j ≡ suc (levels - (j + 1)) = omega (arith, above) in
    let four : below ≡ 4 ^ (levels - (j + 1)) * 4 = is ∙ (ap (λ n. 4 ^ n) more ∙ pow-suc 4 (levels - (j + 1))) in
    omega (arith, four)

pub next-is : (g : Shape) (page j x below : ℕ) → j < g.levels → x ≡ path_position g page j → below ≡ 4 ^ (g.levels - j) → 4 * x + 1 + page / (below / 4) % 4 ≡ path_position g page (j + 1)
next-is g page j x below above last is =
    ap (λ n. 4 * x + 1 + page / n % 4) (quarter-is g.levels j below above is)
    ∙ (ap (λ y. 4 * y + 1 + page / 4 ^ (g.levels - (j + 1)) % 4) last
    ∙ (ap (λ n. 4 * path_position g page j + 1 + page / 4 ^ (g.levels - n) % 4) (add-one j)
    ∙ (sym (path_position-suc g page j above) ∙ ap (path_position g page) (sym (add-one j)))))

pub path-is : (g : Shape) (page j x below : ℕ) (path new : List ℕ) → j < g.levels → x ≡ path_position g page j → below ≡ 4 ^ (g.levels - j) → path ≡ path_down_to j (path_position g page j) → new ≡ path ++ (4 * x + 1 + page / (below / 4) % 4) ∷ [] → new ≡ path_down_to (j + 1) (path_position g page (j + 1))
path-is g page j x below path new above last is before added =
    added
    ∙ (ap (λ y. path ++ y ∷ []) (next-is g page j x below above last is)
    ∙ (ap (λ ys. ys ++ path_position g page (j + 1) ∷ []) before
    ∙ (ap (λ n. path_down_to j (path_position g page j) ++ path_position g page n ∷ []) (add-one j)
    ∙ (sym (path_down_to-suc g page j above)
    ∙ ap (λ n. path_down_to n (path_position g page n)) (sym (add-one j))))))

-- at the last level
pub path-done : (g : Shape) (page j : ℕ) (path : List ℕ) → j ≡ g.levels → path ≡ path_down_to j (path_position g page j) → path ≡ path_of g page
path-done g page j path end built = search rules

-- ---- which positions are on a page's path

-- a path ends in its position
pub path_down_to-last : (j x : ℕ) → list_any (λ z. z == x) (path_down_to j x) ≡ true
path_down_to-last zero x = or_left (x == x) false (eq-eqb x x refl)
path_down_to-last (suc j) x = search (rules, list_any-append, or_right, or_left, eq-eqb)

-- the page's own counter block is on its path
pub own_block_on_path : (g : Shape) (page : ℕ) → is_on_path g page (counter_position g page) ≡ true
own_block_on_path g page = path_down_to-last g.levels (counter_position g page)

-- the position of each level is on the path
pub path_position-on_path : (g : Shape) (page j : ℕ) → j ≤ g.levels → is_on_path g page (path_position g page j) ≡ true
path_position-on_path g page j le =
    list_any_at (λ y. y == path_position g page j) (path_of g page) j 0 (omega (arith, le, length-path_of g page))
    (eq-eqb (slice_index (path_of g page) j) (path_position g page j) (path_of-at g page j le))

on_path_down_to : (g : Shape) (page j x : ℕ) → j ≤ g.levels → list_any (λ z. z == x) (path_down_to j (path_position g page j)) ≡ true → (i : ℕ) × (i ≤ j) × (x ≡ path_position g page i)
on_path_down_to g page zero x le on = search (rules, or_cases, eqb-true, false≢true)
on_path_down_to g page (suc j) x le on =
    let here = path_position g page (suc j) in
    let front = path_down_to j (path_position g page j) in
    elim (or_cases (list_any (λ z. z == x) front) (list_any (λ z. z == x) (here ∷ []))
    (sym (list_any-append (λ z. z == x) front (here ∷ []))
    ∙ (sym (ap (list_any (λ z. z == x)) (path_down_to-suc g page j (omega (arith, le)))) ∙ on))) [
      | inl above ↦ deeper (on_path_down_to g page j x (omega (arith, le)) above)
      | inr last ↦ elim (or_cases (here == x) false last) [
        | inl same ↦ (suc j, omega arith, sym (eqb-true here x same))
        | inr none ↦ absurd (false≢true none)
      ]
    ]
  where
    deeper : (i : ℕ) × (i ≤ j) × (x ≡ path_position g page i) → (i : ℕ) × (i ≤ suc j) × (x ≡ path_position g page i)
    deeper (i, within, is) = (i, omega (arith, within), is)

-- what is on the path is the position of some level
pub on_path-position : (g : Shape) (page x : ℕ) → is_on_path g page x ≡ true → (j : ℕ) × (j ≤ g.levels) × (x ≡ path_position g page j)
on_path-position g page x on = search (rules, on_path_down_to, path_position-block)

-- at level j that is the path's position there
pub on_path-at : (g : Shape) (page j x : ℕ) → page < pages g → IsAtLevel j x → is_on_path g page x ≡ true → x ≡ path_position g page j
on_path-at g page j x inside at on = go (on_path-position g page x on)
  where
    go : (i : ℕ) × (i ≤ g.levels) × (x ≡ path_position g page i) → x ≡ path_position g page j
    go (i, within, is) =
        is
        ∙ ap (path_position g page)
        (IsAtLevel-once i j x (subst (IsAtLevel i) (sym is) (path_position-IsAtLevel g page i inside within)) at)

-- ---- positions of a path by their levels

-- a position of the path stands in it at its level
pub on_path-level : (g : Shape) (page x : ℕ) → g.levels ≤ 6 → page < pages g → is_on_path g page x ≡ true → (level_of x ≤ g.levels) × (slice_index (path_of g page) (level_of x) ≡ x)
on_path-level g page x few inside on = go (on_path-position g page x on)
  where
    go : (j : ℕ) × (j ≤ g.levels) × (x ≡ path_position g page j) → (level_of x ≤ g.levels) × (slice_index (path_of g page) (level_of x) ≡ x)
    go (j, within, is) =
        let at : IsAtLevel j x = subst (IsAtLevel j) (sym is) (path_position-IsAtLevel g page j inside within) in
        let level : level_of x ≡ j = level_of-at j x (omega (arith, within, few)) at in (
          omega (arith, level, within),
          ap (slice_index (path_of g page)) level ∙ (path_of-at g page j within ∙ sym is),
        )

-- and what stands at a level of it is on it, and of that level
pub path_of-on_path : (g : Shape) (page j : ℕ) → j ≤ g.levels → is_on_path g page (slice_index (path_of g page) j) ≡ true
path_of-on_path g page j le = ap (is_on_path g page) (path_of-at g page j le) ∙ path_position-on_path g page j le

pub path_of-level : (g : Shape) (page j : ℕ) → g.levels ≤ 6 → page < pages g → j ≤ g.levels → level_of (slice_index (path_of g page) j) ≡ j
path_of-level g page j few inside le = level_of-at j (slice_index (path_of g page) j) (omega (arith, le, few)) (path_of-IsAtLevel g page j inside le)
