-- Writes that are counted, and the moves that are due by the count.
use Rattle.std.proofs.Common.{ℕ, ◌≡◌, ◌<◌, ◌≤◌, ◌+◌, ◌*◌, ◌/◌, ◌%◌, inl, inr, false, sym, ap, ◌∙◌, arith, rules}
use Rattle.wear_session.proofs.Common.{nat_lt, not, ◌==◌, if◌then◌else◌, mod-lt, mod-eq_of_lt, mul-add-mod_self_left, div-add-mod, add-mod_left, cases_lt, lt-ltb, le-ltb, ne_eqb}

next_mod : (w every : ℕ) → 1 ≤ every → (w + 1) % every ≡ (w % every + 1) % every
next_mod w every some =
    let whole : every * (w / every) + (w % every + 1) ≡ w + 1 = omega (arith, div-add-mod w every) in
    sym (ap (λ k. k % every) whole) ∙ mul-add-mod_self_left every (w / every) (w % every + 1)

-- a move is due exactly if the answers say that it is a turn
pub record IsCounted (every count w : ℕ) : Type 0 where
  pub turn : not (nat_lt (count + 1) every) ≡ ((w + 1) % every == 0)
  pub next : (if not (nat_lt (count + 1) every) then 0 else count + 1) ≡ (w + 1) % every

pub counted_by : (every count w : ℕ) → 1 ≤ every → count ≡ w % every → IsCounted every count w
counted_by every count w some is =
    let below : w % every < every = mod-lt w some in
    let step : (w + 1) % every ≡ (count + 1) % every = next_mod w every some ∙ ap (λ k. (k + 1) % every) (sym is) in
    elim (cases_lt (count + 1) every) [
      | inl early ↦ search (rules, mod-eq_of_lt, lt-ltb, ne_eqb)
      | inr late ↦
          let all : count + 1 ≡ every + 0 = omega (arith, is, below, late) in
          let rest : (w + 1) % every ≡ 0 = search (rules, add-mod_left, mod-eq_of_lt) in
          let high : nat_lt (count + 1) every ≡ false = le-ltb (count + 1) every late in
          record {
            turn = ap not high ∙ sym (ap (λ k. k == 0) rest);
            next = ap (λ b. if not b then 0 else count + 1) high ∙ sym rest;
          }
    ]
