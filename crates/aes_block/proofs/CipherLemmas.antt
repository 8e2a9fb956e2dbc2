-- The rounds in order.
use Rattle.std.proofs.Common.{◌≡◌, ℕ, suc, ◌+◌, ◌-◌, ◌≤◌, List, sym, ◌∙◌, ap, arith}
use Rattle.aes_block.specs.Cipher.{xor_with, sub_bytes, shift_rows, mix_columns, round_key, expanded_key, after_rounds, aes128_under, aes128_of}

pub after_rounds-more : (words block : List ℕ) (round : ℕ) (state next : List ℕ) → 1 ≤ round →
    state ≡ after_rounds words block (round - 1) →
    next ≡ xor_with (mix_columns (shift_rows (sub_bytes state))) (round_key words round) →
    next ≡ after_rounds words block (round + 1 - 1)
unfolding after_rounds
after_rounds-more words block round state next low is-state is-next =
    let e : round + 1 - 1 ≡ suc (round - 1) = omega arith in
    let n : round ≡ round - 1 + 1 = omega arith in
    is-next
    ∙ ap (λ s. xor_with (mix_columns (shift_rows (sub_bytes s))) (round_key words round)) is-state
    ∙ ap
    (λ k. xor_with (mix_columns (shift_rows (sub_bytes (after_rounds words block (round - 1))))) (round_key words k))
    n
    ∙ ap (after_rounds words block) (sym e)

pub after_rounds-last : (key words block : List ℕ) (round : ℕ) (state last : List ℕ) →
    words ≡ expanded_key key 40 → round ≡ 10 → state ≡ after_rounds words block (round - 1) →
    last ≡ xor_with (shift_rows (sub_bytes state)) (round_key words 10) → last ≡ aes128_of key block
unfolding aes128_of aes128_under
after_rounds-last key words block round state last expanded end is-state is-last =
    let s : state ≡ after_rounds words block 9 = is-state ∙ ap (λ r. after_rounds words block (r - 1)) end in
    is-last
    ∙ ap (λ t. xor_with (shift_rows (sub_bytes t)) (round_key words 10)) s
    ∙ ap (λ w. aes128_under w block) expanded
