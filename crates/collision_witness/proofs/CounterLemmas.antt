-- The parts of a word at its dots.
use Rattle.std.proofs.Common.{◌≡◌, ◌∙◌, ◌+◌, ◌-◌, ◌<◌, ◌≤◌, ℕ, List, [], ◌∷◌, length, take, drop, refl, sym, ap, arith, inl, inr, length-drop}
use Rattle.std.specs.Prelude.{Err}
use Rattle.std.specs.List.{slice_split, position_or_len}
use Rattle.std.proofs.lemmas.List.{take_all}
use Rattle.std.proofs.lemmas.List.Splits.{slice_split_first, slice_split_none}
use Rattle.std.proofs.lemmas.List.Sums.{fails_before_first}
use Rattle.std.proofs.lemmas.Bool.{cases_lt}
use Rattle.pmem_base.specs.declared.commands.Kind.TheVariants as Kind
use Rattle.collision_witness.specs.Reading.{is_dot, counter_of_parts}

-- the rest of a list by its range
pub rest-take : (text : List ℕ) (n : ℕ) → take (length text - n) (drop n text) ≡ drop n text
rest-take text n = take_all (length text - n) (drop n text) (omega (arith, length-drop n text))

-- a word without a dot is one part
no_dot : (word : List ℕ) (n : ℕ) → n ≡ position_or_len is_dot word → length word ≤ n → slice_split is_dot word ≡ word ∷ []
no_dot word n is outside = slice_split_none is_dot word (λ k d h. fails_before_first is_dot word k d (omega (arith, is)))

-- a word is cut at its first dot
first_dot : (word : List ℕ) (n : ℕ) → n ≡ position_or_len is_dot word → n < length word → slice_split is_dot word ≡ take n word ∷ slice_split is_dot (drop (n + 1) word)
first_dot word n is inside = rw is (slice_split_first is_dot word 0 (omega (arith, is)))

pub parts-none : (word : List ℕ) (n : ℕ) → n ≡ position_or_len is_dot word → length word ≤ n → counter_of_parts (slice_split is_dot word) ≡ Err Kind.Number
parts-none word n is outside = ap counter_of_parts (no_dot word n is outside)

pub parts-some : (word second : List ℕ) (n m : ℕ) → second ≡ drop (n + 1) word → n ≡ position_or_len is_dot word → n < length word → m ≡ position_or_len is_dot second → length second ≤ m → slice_split is_dot word ≡ take n word ∷ second ∷ []
parts-some word second n m behind is inside next outside =
    first_dot word n is inside
    ∙ ap (λ parts. take n word ∷ parts) (ap (slice_split is_dot) (sym behind) ∙ no_dot second m next outside)

-- three parts or more are no counter
more_parts : (first second third : List ℕ) → counter_of_parts (first ∷ second ∷ slice_split is_dot third) ≡ Err Kind.Number
more_parts first second third = elim (cases_lt (position_or_len is_dot third) (length third)) [
  | inl inside ↦
      ap (λ parts. counter_of_parts (first ∷ second ∷ parts)) (first_dot third (position_or_len is_dot third) refl inside)
  | inr outside ↦
      ap (λ parts. counter_of_parts (first ∷ second ∷ parts)) (no_dot third (position_or_len is_dot third) refl outside)
]

pub parts-many : (word second : List ℕ) (n m : ℕ) → second ≡ drop (n + 1) word → n ≡ position_or_len is_dot word → n < length word → m ≡ position_or_len is_dot second → m < length second → counter_of_parts (slice_split is_dot word) ≡ Err Kind.Number
parts-many word second n m behind is inside next within =
    let rest : slice_split is_dot (drop (n + 1) word) ≡ take m second ∷ slice_split is_dot (drop (m + 1) second) =
    ap (slice_split is_dot) (sym behind) ∙ first_dot second m next within in
    ap counter_of_parts (first_dot word n is inside ∙ ap (λ parts. take n word ∷ parts) rest)
    ∙ more_parts (take n word) (take m second) (drop (m + 1) second)
