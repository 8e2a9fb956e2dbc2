-- The lists of changes that a commit and its redo are made of, one change more.
use Rattle.std.proofs.Common.{ℕ, ◌≡◌, ◌<◌, ◌+◌, List, [], ◌∷◌, ◌++◌, length, get_or, take, sym, ap, ◌∙◌, arith}
use Rattle.line_txn.proofs.Common.{All, map_more, take_more, length-map, length-take-le, All-push, All-same, Line, IsLine, Edit, bodies_of, body_edits, copy_edits}
use Rattle.engine_lines.specs.declared.edits.Edit.TheVariants as Make

body_edits-append : (p : ℕ) (xs ys : List Line) → body_edits p (xs ++ ys) ≡ body_edits p xs ++ body_edits (p + length xs) ys
body_edits-append p [] ys = ap (λ j. body_edits j ys) (omega arith)
body_edits-append p (x ∷ xs) ys =
    ap (λ es. Make.Put p x ∷ es)
    (body_edits-append (p + 1) xs ys ∙ ap (λ j. body_edits (p + 1) xs ++ body_edits j ys) (omega arith))

copy_edits-append : (p : ℕ) (xs ys : List ℕ) → copy_edits p (xs ++ ys) ≡ copy_edits p xs ++ copy_edits (p + length xs) ys
copy_edits-append p [] ys = ap (λ j. copy_edits j ys) (omega arith)
copy_edits-append p (x ∷ xs) ys =
    ap (λ es. Make.Copy p x ∷ es)
    (copy_edits-append (p + 1) xs ys ∙ ap (λ j. copy_edits (p + 1) xs ++ copy_edits j ys) (omega arith))

-- a body more, as it is pushed
pub bodies_more : (p : ℕ) (txn : List (ℕ × Line)) (i at : ℕ) (d : ℕ × Line) (before after : List Edit) → i < length txn → at ≡ p + i
    → before ≡ body_edits p (bodies_of (take i txn)) → after ≡ before ++ (Make.Put at (get_or txn i d).1 ∷ [])
    → after ≡ body_edits p (bodies_of (take (i + 1) txn))
bodies_more p txn i at d before after inside place had pushed =
    let bodies = length-map (take i txn) (λ e. e.1) in
    let so_far = length-take-le i txn (omega (arith, inside)) in
    let here : at ≡ p + length (bodies_of (take i txn)) = omega (arith, place, bodies, so_far) in
    pushed
    ∙ ap (λ es. es ++ (Make.Put at (get_or txn i d).1 ∷ [])) had
    ∙ ap (λ j. body_edits p (bodies_of (take i txn)) ++ (Make.Put j (get_or txn i d).1 ∷ [])) here
    ∙ sym (body_edits-append p (bodies_of (take i txn)) ((get_or txn i d).1 ∷ []))
    ∙ ap (body_edits p) (sym (map_more (λ (e : ℕ × Line). e.1) txn i d inside))

pub whole_more : (txn : List (ℕ × Line)) (i : ℕ) (d : ℕ × Line) → i < length txn → All IsLine (bodies_of (take i txn))
    → IsLine (get_or txn i d).1 → All IsLine (bodies_of (take (i + 1) txn))
whole_more txn i d inside before here =
    All-same IsLine (bodies_of (take (i + 1) txn)) (bodies_of (take i txn) ++ ((get_or txn i d).1 ∷ []))
    (map_more (λ (e : ℕ × Line). e.1) txn i d inside) (All-push IsLine (bodies_of (take i txn)) (get_or txn i d).1 before here)

pub copies_more : (p : ℕ) (targets : List ℕ) (i at d : ℕ) (before after : List Edit) → i < length targets → at ≡ p + i
    → before ≡ copy_edits p (take i targets) → after ≡ before ++ (Make.Copy at (get_or targets i d) ∷ [])
    → after ≡ copy_edits p (take (i + 1) targets)
copies_more p targets i at d before after inside place had pushed =
    let so_far = length-take-le i targets (omega (arith, inside)) in
    let here : at ≡ p + length (take i targets) = omega (arith, place, so_far) in
    pushed
    ∙ ap (λ es. es ++ (Make.Copy at (get_or targets i d) ∷ [])) had
    ∙ ap (λ j. copy_edits p (take i targets) ++ (Make.Copy j (get_or targets i d) ∷ [])) here
    ∙ sym (copy_edits-append p (take i targets) (get_or targets i d ∷ []))
    ∙ ap (copy_edits p) (sym (take_more targets i d inside))
