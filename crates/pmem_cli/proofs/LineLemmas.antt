-- Cutting a trace into lines, piece by piece.
use Rattle.std.proofs.Common.{◌≡◌, ◌∙◌, ◌<◌, ℕ, true, false, List, [], ◌∷◌, ◌++◌, length, refl, ap, arith, append_assoc}
use Rattle.std.specs.Prelude.{All}
use Rattle.std.specs.List.{onto_first, flat_map}
use Rattle.std.proofs.lemmas.List.Elements.{All-head, All-tail}
use Rattle.plain_model.specs.Lines.{lines_of, is_line_end, IsWithin, ended}

-- a line is taken off the front of a trace
pub lines_of-ended : (line rest : List ℕ) → IsWithin line → lines_of (line ++ 10 ∷ rest) ≡ line ∷ lines_of rest
unfolding lines_of
lines_of-ended [] rest within = refl
lines_of-ended (b ∷ line) rest within =
    let other : is_line_end b ≡ false = All-head (λ b. is_line_end b ≡ false) b line within in
    let tail : IsWithin line = All-tail (λ b. is_line_end b ≡ false) b line within in
    rw (other, lines_of-ended line rest tail) refl

pub lines_ahead : (line rest : List ℕ) → IsWithin line → lines_of (ended line ++ rest) ≡ line ∷ lines_of rest
lines_ahead line rest within = ap lines_of (append_assoc line (10 ∷ []) rest) ∙ lines_of-ended line rest within

-- the last line
pub lines_of-last : (line : List ℕ) → IsWithin line → 0 < length line → lines_of line ≡ line ∷ []
unfolding lines_of
lines_of-last [] within more = absurd (omega arith)
lines_of-last (b ∷ []) within more = let other : is_line_end b ≡ false = within 0 0 (omega arith) in rw other refl
lines_of-last (b ∷ c ∷ line) within more =
    let other : is_line_end b ≡ false = within 0 0 (omega arith) in
    let tail : IsWithin (c ∷ line) = All-tail (λ b. is_line_end b ≡ false) b (c ∷ line) within in
    let last : lines_of (c ∷ line) ≡ (c ∷ line) ∷ [] = lines_of-last (c ∷ line) tail (omega arith) in
    rw other (ap (onto_first b) last)

-- lines that were taken off one after the other
pub lines_of-all_ended : (before : List (List ℕ)) (rest : List ℕ) → All IsWithin before → lines_of (flat_map ended before ++ rest) ≡ before ++ lines_of rest
lines_of-all_ended [] rest within = refl
lines_of-all_ended (line ∷ before) rest within =
    let head : IsWithin line = All-head IsWithin line before within in
    let tail : All IsWithin before = All-tail IsWithin line before within in
    ap lines_of (append_assoc (ended line) (flat_map ended before) rest ∙ append_assoc line (10 ∷ []) (flat_map ended before ++ rest))
    ∙ lines_of-ended line (flat_map ended before ++ rest) head
    ∙ ap (λ ls. line ∷ ls) (lines_of-all_ended before rest tail)

begins_one : (b : ℕ) (ls : List (List ℕ)) → (more : List ℕ) × (behind : List (List ℕ)) × (onto_first b ls ≡ (b ∷ more) ∷ behind)
begins_one b [] = ([], [], refl)
begins_one b (line ∷ ls) = (line, ls, refl)

-- the first line begins with the bytes that come first
pub lines_of-begins : (part rest : List ℕ) → IsWithin part → 0 < length part → (more : List ℕ) × (behind : List (List ℕ)) × (lines_of (part ++ rest) ≡ (part ++ more) ∷ behind)
unfolding lines_of
lines_of-begins [] rest within more = absurd (omega arith)
lines_of-begins (b ∷ []) rest within more =
    let other : is_line_end b ≡ false = within 0 0 (omega arith) in
    let found = begins_one b (lines_of rest) in (found.0, found.1, rw other found.2)
lines_of-begins (b ∷ c ∷ part) rest within more =
    let other : is_line_end b ≡ false = within 0 0 (omega arith) in
    let tail : IsWithin (c ∷ part) = All-tail (λ b. is_line_end b ≡ false) b (c ∷ part) within in
    let found = lines_of-begins (c ∷ part) rest tail (omega arith) in
    (found.0, found.1, rw other (ap (onto_first b) found.2))

some_line : (b : ℕ) (ls : List (List ℕ)) → 0 < length (onto_first b ls)
some_line b [] = omega arith
some_line b (line ∷ ls) = omega arith

-- a trace with a byte has a line
pub lines_of-some : (bytes : List ℕ) → 0 < length bytes → 0 < length (lines_of bytes)
unfolding lines_of
lines_of-some [] some = absurd (omega arith)
lines_of-some (b ∷ bytes) some = elim (is_line_end b) as (λ v. is_line_end b ≡ v → 0 < length (lines_of (b ∷ bytes))) [
  | true ↦ λ yes. rw yes (omega arith)
  | false ↦ λ no. rw no (some_line b (lines_of bytes))
] refl
