-- A line's words, taken off its front one by one.
use Rattle.std.proofs.Common.{◌≡◌, ◌∙◌, ◌+◌, ◌<◌, ◌≤◌, ℕ, true, false, List, [], ◌∷◌, length, take, drop, get_or, refl, sym, ap, cond, arith, add-one, inl, inr, lt-ltb}
use Rattle.std.specs.Prelude.{filter, All}
use Rattle.std.specs.List.{slice_split, position_or_len, prefix_len}
use Rattle.std.proofs.lemmas.List.Splits.{slice_split_first, slice_split_none}
use Rattle.std.proofs.lemmas.Grind.{common_steps}
use Rattle.std.proofs.lemmas.List.Sums.{passes_at_first, prefix_len_stops, fails_before_first, prefix_len-le-length}
use Rattle.std.proofs.lemmas.List.{take_all, drop_all}
use Rattle.std.proofs.lemmas.Bool.{cases_lt}
use Rattle.std.proofs.Math.Seq.{drop-cons}
use Rattle.collision_witness.specs.Words.{words_of, is_gap, has_a_byte}

-- a gap before a text adds no word
pub words_of-gap : (b : ℕ) (text : List ℕ) → is_gap b ≡ true → words_of (b ∷ text) ≡ words_of text
unfolding words_of
words_of-gap b text gap = rw gap refl

-- nor do several
pub words_of-drop_gaps : (text : List ℕ) → words_of (drop (prefix_len is_gap text) text) ≡ words_of text
words_of-drop_gaps [] = refl
words_of-drop_gaps (b ∷ text) = elim (is_gap b) as (λ v. is_gap b ≡ v → words_of (drop (cond v (1 + prefix_len is_gap text) 0) (b ∷ text)) ≡ words_of (b ∷ text)) [
  | true ↦ λ yes. let skip : drop (1 + prefix_len is_gap text) (b ∷ text) ≡ drop (prefix_len is_gap text) text = grind (arith, common_steps) in
      ap words_of skip ∙ words_of-drop_gaps text ∙ sym (words_of-gap b text yes)
  | false ↦ λ no. refl
] refl

pub keeps_word : (word : List ℕ) (ws : List (List ℕ)) → 0 < length word → filter has_a_byte (word ∷ ws) ≡ word ∷ filter has_a_byte ws
keeps_word [] ws more = absurd (omega arith)
keeps_word (b ∷ word) ws more = let has : has_a_byte (b ∷ word) ≡ true = lt-ltb 0 (length (b ∷ word)) more in rw has refl

-- a word before the first gap
first_ended : (text : List ℕ) (n : ℕ) → n ≡ position_or_len is_gap text → n < length text → 0 < n → words_of text ≡ take n text ∷ words_of (drop n text)
unfolding words_of
first_ended text n is inside more =
    let here : position_or_len is_gap text < length text = omega (arith, is) in
    let parts : slice_split is_gap text ≡ take n text ∷ slice_split is_gap (drop (n + 1) text) = rw is (slice_split_first is_gap text 0 here) in
    let cell : drop n text ≡ get_or text n 0 ∷ drop (n + 1) text = rw add-one (drop-cons text n 0 inside) in
    let gap : is_gap (get_or text n 0) ≡ true = rw is (passes_at_first is_gap text 0 here) in
    let long : 0 < length (take n text) = grind (arith, common_steps) in
    ap (filter has_a_byte) parts ∙ keeps_word (take n text) (slice_split is_gap (drop (n + 1) text)) long
    ∙ ap (λ ws. take n text ∷ ws) (sym (ap words_of cell ∙ words_of-gap (get_or text n 0) (drop (n + 1) text) gap))

-- a word up to the end
first_alone : (text : List ℕ) (n : ℕ) → n ≡ position_or_len is_gap text → length text ≤ n → 0 < n → words_of text ≡ take n text ∷ words_of (drop n text)
unfolding words_of
first_alone text n is outside more =
    let within : n ≤ length text = rw is (prefix_len-le-length _ text) in
    let none : All (λ b. is_gap b ≡ false) text = λ k d h. fails_before_first is_gap text k d (omega (arith, is)) in
    let whole : take n text ≡ text = take_all n text outside in
    let nothing : drop n text ≡ [] = drop_all n text outside in
    rw (whole, nothing, slice_split_none is_gap text none) (keeps_word text [] (omega arith))

-- a text that begins with a word
pub words_of-first : (text : List ℕ) (n : ℕ) → n ≡ position_or_len is_gap text → 0 < n → words_of text ≡ take n text ∷ words_of (drop n text)
words_of-first text n is more = elim (cases_lt n (length text)) [
  | inl inside ↦ first_ended text n is inside more
  | inr outside ↦ first_alone text n is outside more
]

-- behind its gaps a text has no word
pub words_of-none : (text : List ℕ) (n m : ℕ) → n ≡ prefix_len is_gap text → m ≡ position_or_len is_gap (drop n text) → m ≡ 0 → words_of text ≡ []
unfolding words_of
words_of-none text n m gaps first none = elim (cases_lt n (length text)) [
  | inl inside ↦
      let cell : drop n text ≡ get_or text n 0 ∷ drop (n + 1) text = rw add-one (drop-cons text n 0 inside) in
      let stop : is_gap (get_or text n 0) ≡ false = rw gaps (prefix_len_stops is_gap text 0 (omega (arith, gaps))) in
      let some : 0 < position_or_len is_gap (drop n text) = rw (cell, stop) (omega arith) in
      absurd (omega (arith, first, none, some))
  | inr outside ↦
      let nothing : drop n text ≡ [] = drop_all n text outside in
      let same : words_of (drop n text) ≡ words_of text = rw gaps (words_of-drop_gaps text) in
      sym same ∙ ap words_of nothing
]

-- behind its gaps a text has a word first
pub words_of-some : (text : List ℕ) (n m : ℕ) → n ≡ prefix_len is_gap text → m ≡ position_or_len is_gap (drop n text) → 0 < m → words_of text ≡ take m (drop n text) ∷ words_of (drop m (drop n text))
words_of-some text n m gaps first some =
    let same : words_of (drop n text) ≡ words_of text = rw gaps (words_of-drop_gaps text) in
    sym same ∙ words_of-first (drop n text) m first some
