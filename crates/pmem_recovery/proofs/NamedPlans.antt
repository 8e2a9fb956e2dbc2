-- Named positions one after another, as a plan goes on with them.
use Rattle.std.proofs.Common.{ℕ, ◌≡◌, ◌≤◌, ◌<◌, ◌+◌, ◌-◌, Bool, true, false, cond, List, [], ◌∷◌, ◌++◌, Ok, Err, refl, ap, ap₂, subst, ◌∙◌, arith}
use Rattle.std.specs.Prelude.{filter}
use Rattle.std.specs.List.{range_with_len}
use Rattle.std.proofs.lemmas.List.Elements.{filter-append}
use Rattle.pmem_base.specs.declared.lines.Line.{Line}
use Rattle.pmem_base.specs.Shape.{Shape}
use Rattle.pmem_base.proofs.ListLaws.{range_with_len-append, All-into_range, filter_agree_on}
use Rattle.board.specs.Device.{Device}
use Rattle.call_plan.specs.Plans.{Plan, for_each}
use Rattle.call_plan.specs.Following.{Follows}
use Rattle.call_plan.proofs.Loops.{HasReached, reached_ok, reached_err, reached_end}
use Rattle.pmem_recovery.specs.Named.{doubts, IsNextAt}
use Rattle.pmem_recovery.specs.Plans.{doubted_positions}

nothing_passes : (xs : List ℕ) → filter (λ x. false) xs ≡ []
nothing_passes [] = refl
nothing_passes (x ∷ xs) = nothing_passes xs

-- if none is doubted
positions_gap : (g : Shape) (shadow : List Line) (a b : ℕ) → ((x : ℕ) → a ≤ x → x < b → doubts g shadow x ≡ false) → doubted_positions g shadow a b ≡ []
positions_gap g shadow a b none =
    filter_agree_on (λ x. doubts g shadow x) (λ x. false) (range_with_len a (b - a))
    (All-into_range (λ x. doubts g shadow x ≡ false) a (b - a) (λ x low high. none x low (omega (arith, low, high))))
    ∙ nothing_passes (range_with_len a (b - a))

-- in two parts
positions_parts : (g : Shape) (shadow : List Line) (a m b : ℕ) → a ≤ m → m ≤ b
    → doubted_positions g shadow a b ≡ doubted_positions g shadow a m ++ doubted_positions g shadow m b
positions_parts g shadow a m b low high =
    let test : ℕ → Bool = λ x. doubts g shadow x in
    let whole : b - a ≡ (m - a) + (b - m) = omega arith in
    let middle : a + (m - a) ≡ m = omega arith in
    ap (λ n. filter test (range_with_len a n)) whole
    ∙ ap (λ l. filter test l) (range_with_len-append a (m - a) (b - m))
    ∙ filter-append test (range_with_len a (m - a)) (range_with_len (a + (m - a)) (b - m))
    ∙ ap (λ n. filter test (range_with_len a (m - a)) ++ filter test (range_with_len n (b - m))) middle

position_one : (g : Shape) (shadow : List Line) (x : ℕ) → doubts g shadow x ≡ true → doubted_positions g shadow x (x + 1) ≡ x ∷ []
position_one g shadow x named =
    let one : x + 1 - x ≡ 1 = omega arith in
    ap (λ n. filter (λ y. doubts g shadow y) (range_with_len x n)) one ∙ ap (λ b. cond b (x ∷ []) []) named

-- the next one comes first
positions_next : (g : Shape) (shadow : List Line) (from end x : ℕ) → IsNextAt (doubts g shadow) from end x
    → doubted_positions g shadow from end ≡ x ∷ doubted_positions g shadow (x + 1) end
positions_next g shadow from end x next =
    positions_parts g shadow from x end next.low (omega (arith, next.high))
    ∙ ap₂ (λ l r. l ++ r) (positions_gap g shadow from x next.before)
    (positions_parts g shadow x (x + 1) end (omega arith) (omega (arith, next.high))
    ∙ ap (λ l. l ++ doubted_positions g shadow (x + 1) end) (position_one g shadow x next.passes))

module _ {E T : Type 0} {whole : Plan E T} {start now : Device} (turn : ℕ → T → Plan E T) (g : Shape) (shadow : List Line) (from end : ℕ) (t : T)
    (so_far : HasReached whole start (for_each turn (doubted_positions g shadow from end) t) now) where
  module _ (x : ℕ) (next : IsNextAt (doubts g shadow) from end x) where
    here : HasReached whole start (for_each turn (x ∷ doubted_positions g shadow (x + 1) end) t) now
    here = subst (λ xs. HasReached whole start (for_each turn xs t) now) (positions_next g shadow from end x next) so_far

    -- the next position's turn was done
    pub named_ok : {mid : Device} {s : T} → Follows (turn x t) now mid (Ok s)
        → HasReached whole start (for_each turn (doubted_positions g shadow (x + 1) end) s) mid
    unfolding for_each
    named_ok first = reached_ok (turn x t) (λ t. for_each turn (doubted_positions g shadow (x + 1) end) t) here first

    -- it stopped, and so the whole
    pub named_err : {new : Device} {fault : E} → Follows (turn x t) now new (Err fault) → Follows whole start new (Err fault)
    unfolding for_each
    named_err first = reached_err (turn x t) (λ t. for_each turn (doubted_positions g shadow (x + 1) end) t) here first

  -- no other is doubted
  pub named_end : ((x : ℕ) → from ≤ x → x < end → doubts g shadow x ≡ false) → Follows whole start now (Ok t)
  unfolding for_each
  named_end none = reached_end (subst (λ xs. HasReached whole start (for_each turn xs t) now) (positions_gap g shadow from end none) so_far)
