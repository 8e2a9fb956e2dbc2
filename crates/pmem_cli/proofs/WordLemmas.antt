-- The parts of an option's word.
use Rattle.std.proofs.Common.{◌≡◌, ◌∙◌, ◌-◌, ◌<◌, ◌≤◌, ℕ, Bool, true, false, List, [], ◌∷◌, take, drop, get_or, refl, sym, ap, arith, lt-ltb}
use Rattle.std.specs.Prelude.{Some, None, codes, length, Option, IfNone, if◌then◌else◌}
use Rattle.std.specs.List.{position_or_len}
use Rattle.std.specs.Str.{bytes_eq}
use Rattle.std.proofs.lemmas.Bool.{true≢false, false_from_ne_true}
use Rattle.std.proofs.lemmas.List.{drop-drop, take_all}
use Rattle.std.proofs.lemmas.Slice.Eq.{bytes_eq-Decides}
use Rattle.collision_witness.specs.Words.{Word}
use Rattle.pmem_cli.specs.Words.{is_equals, is_flag, option_parts, choose, choose_log, some_or, next_value, take_options, session_asked, task_of, ◌>>=◌}
use Rattle.pmem_cli.specs.declared.options.Allowed.{Allowed}
use Rattle.pmem_cli.specs.declared.options.Choices.{Choices}

abbrev parts : Word → Word → Option (Word × Option Word)
parts name value = Some (name, Some value)

-- a word that is cut at its first `=`
pub split-some : (word text : List ℕ) (n : ℕ) → bytes_eq (take 2 word) (codes "--") ≡ true → text ≡ drop 2 word → n ≡ position_or_len is_equals text → n < length text
    → parts (take n text) (drop 1 (drop n text)) ≡ option_parts word
split-some word text n dashes same is inside =
    rw (dashes, ← same, ← is, lt-ltb n (length text) inside, ← drop-drop 1 n text) refl

-- ---- the first option of some words

-- a choice alone
chosen_alone : (allowed : Allowed) (chosen : Option Choices) → chosen ≡ (chosen >>= λ more. take_options allowed more [])
unfolding take_options
chosen_alone allowed None = refl
chosen_alone allowed (Some more) = refl

last_step : (allowed : Allowed) (c : Choices) (name : Word) (own : Option Word)
    → some_or own (λ value. choose allowed c name value) None ≡ (next_value own [] >>= λ found. choose allowed c name found.0 >>= λ more. take_options allowed more found.1)
unfolding take_options
last_step allowed c name None = refl
last_step allowed c name (Some value) = chosen_alone allowed (choose allowed c name value)

next_step : (allowed : Allowed) (c : Choices) (name next : Word) (words : List Word) (own : Option Word)
    → some_or own (λ value. choose allowed c name value >>= λ more. take_options allowed more (next ∷ words)) (choose allowed c name next >>= λ more. take_options allowed more words)
    ≡ (next_value own (next ∷ words) >>= λ found. choose allowed c name found.0 >>= λ more. take_options allowed more found.1)
next_step allowed c name next words None = refl
next_step allowed c name next words (Some value) = refl

parts_step : (found : Option (Word × Option Word)) (f g : Word × Option Word → Option Choices) → ((its : Word × Option Word) → f its ≡ g its) → (found >>= f) ≡ (found >>= g)
parts_step None f g same = refl
parts_step (Some its) f g same = same its

if_false : {A : Type 0} (b : Bool) (x y : A) → b ≡ false → (if b then x else y) ≡ y
if_false true x y is = absurd (true≢false is)
if_false false x y is = refl

if_true : {A : Type 0} (b : Bool) (x y : A) → b ≡ true → (if b then x else y) ≡ x
if_true true x y is = refl
if_true false x y is = absurd (true≢false (sym is))

-- an option is its word, its value and a choice, and the others follow
pub options-step : (allowed : Allowed) (c : Choices) (word : Word) (words : List Word) → is_flag allowed word ≡ false → take_options allowed c (word ∷ words)
    ≡ (option_parts word >>= λ its. next_value its.1 words >>= λ found. choose allowed c its.0 found.0 >>= λ more. take_options allowed more found.1)
unfolding take_options
options-step allowed c word [] valued = if_false (is_flag allowed word) _ _ valued ∙ parts_step (option_parts word) _ _ (λ its. last_step allowed c its.0 its.1)
options-step allowed c word (next ∷ words) valued =
    if_false (is_flag allowed word) _ _ valued ∙ parts_step (option_parts word) _ _ (λ its. next_step allowed c its.0 next words its.1)

-- a flag is a choice alone
pub flag-step : (allowed : Allowed) (c : Choices) (word : Word) (words : List Word) (chosen : Option Choices) → is_flag allowed word ≡ true → chosen ≡ choose_log c
    → take_options allowed c (word ∷ words) ≡ (chosen >>= λ more. take_options allowed more words)
unfolding take_options
flag-step allowed c word [] chosen flag is =
    if_true (is_flag allowed word) _ _ flag ∙ sym is ∙ chosen_alone allowed chosen
flag-step allowed c word (next ∷ words) chosen flag is =
    if_true (is_flag allowed word) _ _ flag ∙ ap (λ (its : Option Choices). its >>= λ more. take_options allowed more (next ∷ words)) (sym is)

-- a list by its first element, and the others by their range
pub one_first : {A : Type 0} (xs : List A) (a : A) → 1 ≤ length xs → a ≡ get_or xs 0 a → xs ≡ a ∷ take (length xs - 1) (drop 1 xs)
one_first [] a some first = absurd (omega arith)
one_first (x ∷ xs) a some first =
    let all : take (length (x ∷ xs) - 1) xs ≡ xs = take_all (length (x ∷ xs) - 1) xs (omega arith) in
    rw (all, first) refl

-- ---- an option taken, or the word at which that fails

abbrev TakenChoices : Type 0
TakenChoices = Option Choices

pub taken-no_parts : (allowed : Allowed) (c : Choices) (word : Word) (words : List Word) → is_flag allowed word ≡ false → None ≡ option_parts word → ◌≡◌ {A = TakenChoices} (take_options allowed c (word ∷ words)) None
taken-no_parts allowed c word words valued split =
    options-step allowed c word words valued
    ∙ sym (ap (λ (found : Option (Word × Option Word)). found >>= λ its. next_value its.1 words >>= λ found. choose allowed c its.0 found.0 >>= λ more. take_options allowed more found.1) split)

pub taken-no_value : (allowed : Allowed) (c : Choices) (word : Word) (words : List Word) (name : Word) (own : Option Word)
    → is_flag allowed word ≡ false → Some (name, own) ≡ option_parts word → None ≡ next_value own words → ◌≡◌ {A = TakenChoices} (take_options allowed c (word ∷ words)) None
taken-no_value allowed c word words name own valued split value =
    options-step allowed c word words valued
    ∙ sym (ap (λ (found : Option (Word × Option Word)). found >>= λ its. next_value its.1 words >>= λ found. choose allowed c its.0 found.0 >>= λ more. take_options allowed more found.1) split)
    ∙ sym (ap (λ (found : Option (Word × List Word)). found >>= λ found. choose allowed c name found.0 >>= λ more. take_options allowed more found.1) value)

pub taken-on : (allowed : Allowed) (c : Choices) (word : Word) (words rest : List Word) (name value : Word) (own : Option Word) (chosen : Option Choices)
    → is_flag allowed word ≡ false → Some (name, own) ≡ option_parts word → Some (value, rest) ≡ next_value own words → chosen ≡ choose allowed c name value
    → take_options allowed c (word ∷ words) ≡ (chosen >>= λ more. take_options allowed more rest)
taken-on allowed c word words rest name value own chosen valued split found same =
    options-step allowed c word words valued
    ∙ sym (ap (λ (found : Option (Word × Option Word)). found >>= λ its. next_value its.1 words >>= λ found. choose allowed c its.0 found.0 >>= λ more. take_options allowed more found.1) split)
    ∙ sym (ap (λ (found : Option (Word × List Word)). found >>= λ found. choose allowed c name found.0 >>= λ more. take_options allowed more found.1) found)
    ∙ sym (ap (λ (chosen : Option Choices). chosen >>= λ more. take_options allowed more rest) same)

-- a fact holds where there is nothing, if it holds
pub IfNone-fact : {T : Type 0} (found : Option T) (P : Type 0) → P → IfNone found P
IfNone-fact None P holds = holds
IfNone-fact (Some value) P holds = tt

-- ---- what the first word asks for

-- bytes that are no such text fail its test
differs : (word text : List ℕ) → (word ≡ text → ⊥) → bytes_eq word text ≡ false
differs word text other = false_from_ne_true (bytes_eq word text) (λ same. other ((bytes_eq-Decides word text).0 same))

-- a word that is none of these asks for a session, if anything
pub asks_session : (name : Word) (words : List Word) → (name ≡ codes "run" → ⊥) → (name ≡ codes "check" → ⊥) → (name ≡ codes "make" → ⊥) → (name ≡ codes "sample" → ⊥)
    → task_of (name ∷ words) ≡ session_asked name words
unfolding task_of
asks_session name words run check make sample =
    rw (differs name (codes "run") run, differs name (codes "check") check, differs name (codes "make") make, differs name (codes "sample") sample) refl
