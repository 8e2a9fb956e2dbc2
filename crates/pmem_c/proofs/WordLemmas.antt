-- Where words end.
use Rattle.std.proofs.Common.{◌≡◌, ◌∙◌, ◌++◌, ◌∷◌, ◌≤◌, ◌<◌, ◌-◌, [], ℕ, List, length, take, drop, slice_index_or, refl, sym, ap, arith, append_assoc}
use Rattle.std.specs.Prelude.{◌==◌, ⊤, All, if◌then◌else◌, true, false}
use Rattle.std.proofs.lemmas.Bool.{true≢false}
use Rattle.std.specs.Result.{IsErrAnd}
use Rattle.std.specs.Prelude.{Result, Ok, Err}
use Rattle.std.proofs.Common.{Vec, String, Global}
use Rattle.pmem_c.specs.declared.words.Unread.{Unread}
use Rattle.pmem_c.specs.declared.words.Unread.TheVariants.{NoText}
use Rattle.std.proofs.lemmas.List.{take_all, append-nil}
use Rattle.std.proofs.lemmas.List.Elements.{All-head}
use Rattle.pmem_base.proofs.ListLaws.{All-append_right}
use Rattle.pmem_c.specs.Words.{begun, words_of}

-- no byte of a word ends it
abbrev pub GoesOn : List ℕ → Type 0
GoesOn [] = ⊤
GoesOn (b ∷ word) = ((b == 0) ≡ false) × GoesOn word

-- with one more byte
pub goes_on : (word : List ℕ) (b : ℕ) → GoesOn word → (b == 0) ≡ false → GoesOn (word ++ b ∷ [])
goes_on [] b goes this = (this, tt)
goes_on (c ∷ word) b (first, goes) this = (first, goes_on word b goes this)

-- a word up to its 0
pub word_ends : (word rest : List ℕ) → GoesOn word → words_of (word ++ 0 ∷ rest) ≡ word ∷ words_of rest
word_ends [] rest goes = refl
word_ends (b ∷ word) rest (first, goes) =
    ap (λ is. if is then [] ∷ words_of (word ++ 0 ∷ rest) else begun b (words_of (word ++ 0 ∷ rest))) first
    ∙ ap (begun b) (word_ends word rest goes)

-- a word up to the end of the bytes
pub last_word : (b : ℕ) (word : List ℕ) → GoesOn (b ∷ word) → words_of (b ∷ word) ≡ (b ∷ word) ∷ []
last_word b [] (first, goes) = ap (λ is. if is then [] ∷ [] else begun b []) first
last_word b (c ∷ word) (first, goes) =
    ap (λ is. if is then [] ∷ words_of (c ∷ word) else begun b (words_of (c ∷ word))) first
    ∙ ap (begun b) (last_word c word goes)

-- what each word is, the one after some is too
pub after_some : (P : List ℕ → Type 0) (done : List (List ℕ)) (word : List ℕ) (words all : List (List ℕ)) → all ≡ done ++ word ∷ words → All P all → P word
after_some P done word words all cut each = All-head P word words (All-append_right P done (word ∷ words) (rw cut at each))

-- ---- the words so far, and the bytes that are left

-- all words are those done, and the words of what is begun and left
abbrev pub SoFar : List ℕ → List (List ℕ) → List ℕ → List ℕ → Type 0
SoFar bytes done word rest = words_of bytes ≡ done ++ words_of (word ++ rest)

-- at a byte 0
pub at_end : (bytes : List ℕ) (done : List (List ℕ)) (word rest : List ℕ) → SoFar bytes done word rest → GoesOn word
    → 1 ≤ length rest → slice_index_or rest 0 0 ≡ 0 → words_of bytes ≡ done ++ word ∷ words_of (take (length rest - 1) (drop 1 rest))
at_end bytes done word [] same goes some ends = absurd (omega arith)
at_end bytes done word (b ∷ rest) same goes some ends =
    let all : take (length (b ∷ rest) - 1) rest ≡ rest = take_all (length (b ∷ rest) - 1) rest (omega arith) in
    same ∙ ap (λ b. done ++ words_of (word ++ b ∷ rest)) ends ∙ ap (λ words. done ++ words) (word_ends word rest goes)
    ∙ ap (λ rest. done ++ word ∷ words_of rest) (sym all)

-- the word was put
pub word_put : (bytes : List ℕ) (done now : List (List ℕ)) (word rest fresh : List ℕ) → SoFar bytes done word rest → GoesOn word
    → 1 ≤ length rest → slice_index_or rest 0 0 ≡ 0 → now ≡ done ++ word ∷ [] → fresh ≡ []
    → SoFar bytes now fresh (take (length rest - 1) (drop 1 rest))
word_put bytes done now word rest fresh same goes some ends put none =
    rw (put, none, append_assoc done (word ∷ []) (words_of (take (length rest - 1) (drop 1 rest)))) (at_end bytes done word rest same goes some ends)

-- at another byte
pub byte_put : (bytes : List ℕ) (done : List (List ℕ)) (word rest longer : List ℕ) → SoFar bytes done word rest
    → 1 ≤ length rest → longer ≡ word ++ slice_index_or rest 0 0 ∷ [] → SoFar bytes done longer (take (length rest - 1) (drop 1 rest))
byte_put bytes done word [] longer same some put = absurd (omega arith)
byte_put bytes done word (b ∷ rest) longer same some put =
    let all : take (length (b ∷ rest) - 1) rest ≡ rest = take_all (length (b ∷ rest) - 1) rest (omega arith) in
    rw (put, all, append_assoc word (b ∷ []) rest) same

not_zero : (b : ℕ) → (b ≡ 0 → ⊥) → (b == 0) ≡ false
not_zero b other = grind (arith, other)

-- such a byte goes on
pub goes_longer : (word longer : List ℕ) (b : ℕ) → GoesOn word → (b ≡ 0 → ⊥) → longer ≡ word ++ b ∷ [] → GoesOn longer
goes_longer word longer b goes other put = rw put (goes_on word b goes (not_zero b other))

-- at the end of the bytes, within a word
pub at_last : (bytes : List ℕ) (done : List (List ℕ)) (word rest : List ℕ) → SoFar bytes done word rest → GoesOn word
    → length rest < 1 → (length word == 0) ≡ false → words_of bytes ≡ done ++ word ∷ []
at_last bytes done [] rest same goes none some = absurd (true≢false some)
at_last bytes done (b ∷ word) [] same goes none some =
    same ∙ ap (λ word. done ++ words_of word) (append-nil (b ∷ word)) ∙ ap (λ words. done ++ words) (last_word b word goes)
at_last bytes done (b ∷ word) (c ∷ rest) same goes none some = absurd (omega arith)

-- at the end of the bytes, after a word
pub at_once : (bytes : List ℕ) (done : List (List ℕ)) (word rest : List ℕ) → SoFar bytes done word rest
    → length rest < 1 → (length word == 0) ≡ true → done ≡ words_of bytes
at_once bytes done [] [] same none empty = sym (same ∙ append-nil done)
at_once bytes done [] (c ∷ rest) same none empty = absurd (omega arith)
at_once bytes done (b ∷ word) rest same none empty = absurd (grind (arith, empty))

-- an error handed on is the same
pub handed_on : (result : Result (Vec (String Global) Global) Unread) (error : Unread) → IsErrAnd result (λ e. e ≡ error) → result ≡ Err NoText → error ≡ NoText
handed_on (Err e) error same is = grind (arith, same, is)
handed_on (Ok words) error same is = absurd same
