-- Lists with one element apart from the others.
use Rattle.std.proofs.lemmas.Grind.{common_steps}
use Rattle.std.proofs.Common.{rules}
use Rattle.std.proofs.Common.{◌≡◌, ℕ, suc, ◌+◌, ◌<◌, Bool, true, false, cond, List, [], ◌∷◌, ◌++◌, length, get_or, set, take, drop, map, refl, sym, ap, ap₂, ◌∙◌, arith, Option}
use Rattle.std.specs.Prelude.{not, slice_get, filter, remove, IsSome, is_some}
use Rattle.std.specs.List.{cons_option, refill, All, filter_map}
use Rattle.meta_cache.specs.Alone.{IsAlone}
use Rattle.std.proofs.lemmas.Bool.{cond-true, cond-false, not_from_true, not_from_false}
use Rattle.std.proofs.lemmas.List.{take_at, set_at, map-append, drop_more, take_more, take-append-drop, length-take-le}
use Rattle.std.proofs.lemmas.List.Elements.{All-head, All-tail, filter-append, filter_map-append}
use Rattle.std.proofs.lemmas.List.Folds.{map_fixed}

-- ---- a filter that keeps none or all

pub filter_none : {X : Type 0} (p : X → Bool) (xs : List X) → All (λ x. p x ≡ false) xs → filter p xs ≡ []
filter_none p [] none = refl
filter_none p (x ∷ xs) none =
    cond-false (p x) (x ∷ filter p xs) (filter p xs) (All-head (λ x. p x ≡ false) x xs none)
    ∙ filter_none p xs (All-tail (λ x. p x ≡ false) x xs none)

pub filter_every : {X : Type 0} (p : X → Bool) (xs : List X) → All (λ x. p x ≡ true) xs → filter p xs ≡ xs
filter_every p [] all = refl
filter_every p (x ∷ xs) all =
    cond-true (p x) (x ∷ filter p xs) (filter p xs) (All-head (λ x. p x ≡ true) x xs all)
    ∙ ap (λ rest. x ∷ rest) (filter_every p xs (All-tail (λ x. p x ≡ true) x xs all))

-- ---- one element that passes, between others that fail

pub split_alone : {X : Type 0} (xs : List X) (i : ℕ) (d : X) → i < length xs
    → xs ≡ take i xs ++ (get_or xs i d ∷ drop (i + 1) xs)
split_alone xs i d h = sym (take-append-drop i xs) ∙ ap (λ rest. take i xs ++ rest) (drop_more xs i d h)

-- the others, in their order
pub remove_alone : {X : Type 0} (xs : List X) (i : ℕ) → remove xs i ≡ take i xs ++ drop (i + 1) xs
remove_alone xs i = let next : suc i ≡ i + 1 = omega arith in ap (λ n. take i xs ++ drop n xs) next

pub filter_alone : {X : Type 0} (p : X → Bool) (xs : List X) (i : ℕ) (d : X) → IsAlone p xs i d
    → filter p xs ≡ get_or xs i d ∷ []
filter_alone p xs i d alone =
    ap (filter p) (split_alone xs i d alone.within)
    ∙ filter-append p (take i xs) (get_or xs i d ∷ drop (i + 1) xs)
    ∙ ap₂ (λ a b. a ++ b) (filter_none p (take i xs) alone.before)
    (cond-true (p (get_or xs i d)) (get_or xs i d ∷ filter p (drop (i + 1) xs)) (filter p (drop (i + 1) xs)) alone.passes
    ∙ ap (λ rest. get_or xs i d ∷ rest) (filter_none p (drop (i + 1) xs) alone.behind))

not_all : {X : Type 0} (p : X → Bool) (xs : List X) → All (λ x. p x ≡ false) xs → All (λ x. not (p x) ≡ true) xs
not_all p xs all = λ k d h. not_from_false (p (get_or xs k d)) (all k d h)

pub filter_others : {X : Type 0} (p : X → Bool) (xs : List X) (i : ℕ) (d : X) → IsAlone p xs i d
    → filter (λ x. not (p x)) xs ≡ remove xs i
filter_others p xs i d alone =
    ap (filter (λ x. not (p x))) (split_alone xs i d alone.within)
    ∙ filter-append (λ x. not (p x)) (take i xs) (get_or xs i d ∷ drop (i + 1) xs)
    ∙ ap₂ (λ a b. a ++ b) (filter_every (λ x. not (p x)) (take i xs) (not_all p (take i xs) alone.before))
    (cond-false (not (p (get_or xs i d))) (get_or xs i d ∷ filter (λ x. not (p x)) (drop (i + 1) xs))
    (filter (λ x. not (p x)) (drop (i + 1) xs)) (not_from_true (p (get_or xs i d)) alone.passes)
    ∙ filter_every (λ x. not (p x)) (drop (i + 1) xs) (not_all p (drop (i + 1) xs) alone.behind))
    ∙ sym (remove_alone xs i)

-- a change of the element that passes
pub map_alone : {X : Type 0} (p : X → Bool) (f : X → X) (xs : List X) (i : ℕ) (d : X) → IsAlone p xs i d
    → map (λ x. cond (p x) (f x) x) xs ≡ set xs i (f (get_or xs i d))
map_alone {X = X} p f xs i d alone =
    ap (map (λ x. cond (p x) (f x) x)) (split_alone xs i d alone.within)
    ∙ map-append (λ x. cond (p x) (f x) x) (take i xs) (get_or xs i d ∷ drop (i + 1) xs)
    ∙ ap₂ (λ a b. a ++ b) (stays (take i xs) alone.before)
    (ap₂ (λ x rest. x ∷ rest) (cond-true (p (get_or xs i d)) (f (get_or xs i d)) (get_or xs i d) alone.passes)
    (stays (drop (i + 1) xs) alone.behind))
    ∙ sym
    (ap (λ ys. set ys i (f (get_or xs i d))) (split_alone xs i d alone.within)
    ∙ set_at (take i xs) (get_or xs i d) (drop (i + 1) xs) (f (get_or xs i d)) i (length-take-le i xs (omega (arith, alone.within))))
  where
    stays : (ys : List X) → All (λ x. p x ≡ false) ys → map (λ x. cond (p x) (f x) x) ys ≡ ys
    stays ys none = map_fixed (λ x. cond (p x) (f x) x) ys (λ k e h. cond-false (p (get_or ys k e)) (f (get_or ys k e)) (get_or ys k e) (none k e h))

-- what is written back whole
pub refill_same : {X : Type 0} (xs ys : List X) → length ys ≡ length xs → refill (length xs) xs ys ≡ ys
refill_same xs ys h = take_at ys (drop (length ys) xs) (length xs) h

-- ---- the first answer

first_of : {Y : Type 0} (answer : Option Y) (rest : List Y) → IsSome answer
    → answer ≡ slice_get (cons_option answer rest) 0
first_of v0 rest some = search rules

pub first_answer : {X Y : Type 0} (f : X → Option Y) (xs : List X) (i : ℕ) (d : X) → i < length xs
    → filter_map f (take i xs) ≡ [] → IsSome (f (get_or xs i d)) → f (get_or xs i d) ≡ slice_get (filter_map f xs) 0
first_answer f xs i d h none some =
    first_of (f (get_or xs i d)) (filter_map f (drop (i + 1) xs)) some
    ∙ ap (λ answers. slice_get answers 0)
    (sym
    (ap (filter_map f) (split_alone xs i d h)
    ∙ filter_map-append f (take i xs) (get_or xs i d ∷ drop (i + 1) xs)
    ∙ ap (λ before. before ++ filter_map f (get_or xs i d ∷ drop (i + 1) xs)) none))

none_of : {Y : Type 0} (answer : Option Y) → is_some answer ≡ false → cons_option answer [] ≡ []
none_of v0 none = search rules

pub no_answer_more : {X Y : Type 0} (f : X → Option Y) (xs : List X) (i : ℕ) (d : X) → i < length xs
    → filter_map f (take i xs) ≡ [] → is_some (f (get_or xs i d)) ≡ false → filter_map f (take (i + 1) xs) ≡ []
no_answer_more f xs i d h none silent = grind (arith, common_steps, take_more, filter_map-append, get_or, none_of)
