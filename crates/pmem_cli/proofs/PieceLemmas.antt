-- Pieces of lines, and the bytes that are ahead.
use Rattle.std.proofs.Common.{◌≡◌, ◌∙◌, ◌+◌, ◌-◌, ◌<◌, ◌≤◌, ℕ, List, ◌∷◌, ◌++◌, length, take, drop, get_or, refl, sym, ap, arith, append_assoc, take-append-drop}
use Rattle.std.specs.Prelude.{Option, None, Some, Contains}
use Rattle.std.specs.List.{position_or_len}
use Rattle.std.specs.Io.KnownBytes.{Consumes, prepend_known}
use Rattle.std.proofs.lemmas.List.Sums.{fails_before_first, passes_at_first, split_at_first}
use Rattle.std.proofs.lemmas.List.{get_or-take, drop-take, drop-drop}
use Rattle.std.proofs.lemmas.Bool.{eqb-true, true≢false}
use Rattle.std.proofs.Math.Seq.{take-add, drop-append_seam, take-append_seam}
use Rattle.std.proofs.lemmas.Grind.{common_steps}
use Rattle.plain_model.specs.Lines.{is_line_end, IsWithin}

-- what is before the first LF has none
pub within_first : (xs : List ℕ) (n : ℕ) → n ≡ position_or_len is_line_end xs → IsWithin (take n xs)
within_first xs n is k d h =
    let low : k < n = grind (arith, common_steps) in
    rw get_or-take (fails_before_first is_line_end xs k d (omega (arith, is, low)))

-- and so what has an LF isn't within a line
pub no_end_within : (xs : List ℕ) → IsWithin xs → Contains xs 10 → ⊥
no_end_within xs within (k, low, end) = true≢false (rw end at (within k 10 low))

-- a line that ends here
pub ends_at_first : (xs : List ℕ) (n : ℕ) → n ≡ position_or_len is_line_end xs → n < length xs → xs ≡ take n xs ++ 10 ∷ drop (n + 1) xs
ends_at_first xs n is inside =
    let here : position_or_len is_line_end xs < length xs = omega (arith, is) in
    let end : get_or xs n 0 ≡ 10 = eqb-true (get_or xs n 0) 10 (rw is (passes_at_first is_line_end xs 0 here)) in
    let parts : xs ≡ take n xs ++ (get_or xs n 0 ∷ drop (n + 1) xs) = rw is (split_at_first is_line_end xs 0 here) in
    rw end at parts

-- the unread part of a chunk, n bytes further
pub view_further : (chunk : List ℕ) (at end n : ℕ) → at + n ≤ end → take (end - (at + n)) (drop (at + n) chunk) ≡ drop n (take (end - at) (drop at chunk))
view_further chunk at end n inside =
    let sum : end - at ≡ n + (end - (at + n)) = omega arith in
    rw sum (sym (drop-take n (end - (at + n)) (drop at chunk) ∙ ap (take (end - (at + n))) (drop-drop n at chunk)))

-- n bytes of the unread part are taken
pub piece_taken : (chunk xs : List ℕ) (at end n : ℕ) → take (end - at) (drop at chunk) ≡ xs → at + n ≤ end → xs ≡ take n xs ++ take (end - (at + n)) (drop (at + n) chunk)
piece_taken chunk xs at end n view inside = rw (view_further chunk at end n inside, view) (sym (take-append-drop n xs))

-- n bytes of the unread part are taken, and the LF after them
pub piece_ended : (chunk xs : List ℕ) (at end n : ℕ) → take (end - at) (drop at chunk) ≡ xs → at + n < end → n ≡ position_or_len is_line_end xs → n < length xs → xs ≡ take n xs ++ 10 ∷ take (end - (at + n + 1)) (drop (at + n + 1) chunk)
piece_ended chunk xs at end n view inside is here =
    let further : take (end - (at + (n + 1))) (drop (at + (n + 1)) chunk) ≡ drop (n + 1) xs = rw (view_further chunk at end (n + 1) (omega arith), view) refl in
    let sum : at + n + 1 ≡ at + (n + 1) = omega arith in
    rw (sum, further) (ends_at_first xs n is here)

-- the length of the unread part
pub view_length : (chunk xs : List ℕ) (at end : ℕ) → take (end - at) (drop at chunk) ≡ xs → end ≤ length chunk → length xs ≡ end - at
view_length chunk xs at end view inside = rw (← view) (grind (arith, common_steps))

-- what a source gives, and what it has left
pub gives_front : (items to : List ℕ) (at n : ℕ) → take n to ≡ take n (drop at items) → drop at items ≡ take n to ++ drop (at + n) items
gives_front items to at n copied = rw (copied, ← drop-drop n at items) (sym (take-append-drop n (drop at items)))

-- and what it gave
pub given_further : (items to : List ℕ) (at n : ℕ) → take n to ≡ take n (drop at items) → take (at + n) items ≡ take at items ++ take n to
given_further items to at n copied = rw copied (take-add at n items)

-- what a sink holds after it took some bytes
pub takes_behind : (front back : List ℕ) (at n : ℕ) → length front ≡ at → take (at + n) (front ++ back) ≡ front ++ take n back
takes_behind front back at n is =
    rw (← is, take-add (length front) n (front ++ back), drop-append_seam front back) (ap (λ l. l ++ take n back) (take-append_seam front back))

-- bytes at the front of what is ahead are taken
pub Consumes-front : (known : Option (List ℕ)) (unread part rest : List ℕ) → unread ≡ part ++ rest → Consumes (prepend_known unread known) (prepend_known rest known) part
Consumes-front None unread part rest split = tt
Consumes-front (Some xs) unread part rest split = ap (λ l. l ++ xs) split ∙ append_assoc part rest xs
