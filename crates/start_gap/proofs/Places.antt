-- Where lines lie, and what moving the gap changes.
use Rattle.std.proofs.Common.{ℕ, ◌≡◌, ◌≢◌, ◌<◌, ◌≤◌, ◌+◌, ◌-◌, ◌%◌, ◌⊎◌, inl, inr, sym, ap, subst, ◌∙◌, arith, rules}
use Rattle.std.proofs.Math.Nat.{mod-eq_of_lt, add-mod_right}
use Rattle.start_gap.proofs.Common.{◌==◌, cases_lt, cases_eq, cond-true, cond-false, lt-ltb, le-ltb, eq-eqb, ne_eqb, Wear, IsWear, past_gap, place_of, next_wear, source_of, ArePlaces}

-- below twice n a rest takes n off at most once
pub one_turn : (x n : ℕ) → x < n + n → ((x < n) × (x % n ≡ x)) ⊎ ((n ≤ x) × (x % n + n ≡ x))
one_turn x n below = elim (cases_lt x n) [
  | inl less ↦ inl (less, mod-eq_of_lt less)
  | inr more ↦
      let whole : x - n + n ≡ x = omega (arith, more) in
      let less : x - n < n = omega (arith, more, below) in
      let rest : x % n ≡ x - n = ap (λ z. z % n) (sym whole) ∙ add-mod_right (x - n) n ∙ mod-eq_of_lt less in
      inr (more, omega (arith, rest, more))
]

pub past_cases : (gap at : ℕ) → ((at < gap) × (past_gap gap at ≡ at)) ⊎ ((gap ≤ at) × (past_gap gap at ≡ at + 1))
past_cases gap at = search (rules, cases_lt, cond-true, lt-ltb, cond-false, le-ltb)

past_injective : (gap x y : ℕ) → past_gap gap x ≡ past_gap gap y → x ≡ y
past_injective gap x y e = search (rules, past_cases)

turn_injective : (n s a b : ℕ) → s < n → a < n → b < n → (a + s) % n ≡ (b + s) % n → a ≡ b
turn_injective n s a b hs ha hb e = search (rules, one_turn)

pub places : (n : ℕ) (wear : Wear) → IsWear n wear → ArePlaces n wear
places n wear its = search (rules, turn_injective, past_injective, past_cases)

-- ---- the next wear

pub next_from_first : (n : ℕ) (wear : Wear) → wear.gap ≡ 0 → next_wear n wear ≡ record { start = (wear.start + 1) % n; gap = n }
next_from_first n wear e = cond-true (wear.gap == 0) _ _ (eq-eqb wear.gap 0 e)

pub next_down : (n : ℕ) (wear : Wear) → wear.gap ≢ 0 → next_wear n wear ≡ record { start = wear.start; gap = wear.gap - 1 }
next_down n wear e = cond-false (wear.gap == 0) _ _ (ne_eqb wear.gap 0 e)

pub source_from_first : (n : ℕ) (wear : Wear) → wear.gap ≡ 0 → source_of n wear ≡ n
source_from_first n wear e = cond-true (wear.gap == 0) n (wear.gap - 1) (eq-eqb wear.gap 0 e)

pub source_down : (n : ℕ) (wear : Wear) → wear.gap ≢ 0 → source_of n wear ≡ wear.gap - 1
source_down n wear e = cond-false (wear.gap == 0) n (wear.gap - 1) (ne_eqb wear.gap 0 e)

pub next-IsWear : (n : ℕ) (wear : Wear) → IsWear n wear → IsWear n (next_wear n wear)
next-IsWear n wear its = search (rules, cases_eq, next_from_first, next_down)

pub source-within : (n : ℕ) (wear : Wear) → IsWear n wear → source_of n wear ≤ n
source-within n wear its = search (rules, cases_eq, source_from_first, source_down)

down_place : (gap q source : ℕ) → gap ≢ 0 → source ≡ gap - 1
    → (past_gap (gap - 1) q ≡ past_gap gap q) ⊎ ((past_gap gap q ≡ source) × (past_gap (gap - 1) q ≡ gap))
down_place gap q source some its = search (rules, past_cases)

-- one turn more takes a line one further, and from the last place to the first
turn_more : (n s a : ℕ) → s < n → a < n
    → ((a + (s + 1) % n) % n ≡ (a + s) % n + 1) ⊎ (((a + s) % n + 1 ≡ n) × ((a + (s + 1) % n) % n ≡ 0))
turn_more n s a hs ha = search (rules, one_turn)

-- a line's place under the next wear: the same, but that the line of the source lies in what was the gap
pub next_place : (n : ℕ) (wear : Wear) (a : ℕ) → IsWear n wear → a < n
    → (place_of n (next_wear n wear) a ≡ place_of n wear a)
    ⊎ ((place_of n wear a ≡ source_of n wear) × (place_of n (next_wear n wear) a ≡ wear.gap))
next_place n wear a its ha = elim (cases_eq wear.gap 0) [
  | inl e ↦ subst Moved (sym (next_from_first n wear e)) (wrapped e)
  | inr e ↦ subst Moved (sym (next_down n wear e)) (down_place wear.gap ((a + wear.start) % n) (source_of n wear) e (source_down n wear e))
]
  where
    Moved : Wear → Type 0
    Moved w =
        (place_of n w a ≡ place_of n wear a) ⊎ ((place_of n wear a ≡ source_of n wear) × (place_of n w a ≡ wear.gap))

    wrapped : wear.gap ≡ 0 → Moved (record { start = (wear.start + 1) % n; gap = n })
    wrapped e =
        let low : (a + (wear.start + 1) % n) % n < n = omega (arith, ha) in
        let source = source_from_first n wear e in
        let old : past_gap wear.gap ((a + wear.start) % n) ≡ (a + wear.start) % n + 1 =
        elim (past_cases wear.gap ((a + wear.start) % n)) [ inl p ↦ absurd (omega (arith, p.0, e)) | inr p ↦ p.1 ] in
        let new : past_gap n ((a + (wear.start + 1) % n) % n) ≡ (a + (wear.start + 1) % n) % n =
        elim (past_cases n ((a + (wear.start + 1) % n) % n)) [ inl p ↦ p.1 | inr p ↦ absurd (omega (arith, p.0, low)) ] in
        elim (turn_more n wear.start a its.start ha) [
          | inl t ↦ inl (new ∙ t ∙ sym old)
          | inr t ↦ inr (old ∙ t.0 ∙ sym source, new ∙ t.1 ∙ sym e)
        ]
