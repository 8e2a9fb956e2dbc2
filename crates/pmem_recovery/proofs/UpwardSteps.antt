-- The steps of making lines upwards, as the loops over levels and positions take them.
use Rattle.std.proofs.Common.{rules, ℕ, suc, ◌≡◌, ◌<◌, ◌≤◌, ◌+◌, true, false, List, [], ◌∷◌, ◌++◌, refl, sym, subst, ◌∙◌, inl, inr, ◌⊎◌, arith}
use Rattle.std.proofs.lemmas.Bool.{cases_eq, cases_lt}
use Rattle.pmem_base.specs.declared.lines.Line.{Line}
use Rattle.pmem_base.specs.declared.registers.Regs.{Regs}
use Rattle.pmem_base.specs.Shape.{IsShape}
use Rattle.pmem_base.specs.Layout as layout
use Rattle.pmem_base.specs.Layout.{level_start}
use Rattle.bonsai_tree.specs.Positions.{counter_position, level_of}
use Rattle.bonsai_tree.proofs.Levels.{IsAtLevel, child-IsAtLevel, level_start-next, level_start-le, counter_position-lt, counter_position-IsAtLevel, IsAtLevel-inner, level_of-IsAtLevel, level_of-at}
use Rattle.suite.specs.Setup.{Setup}
use Rattle.pmem_engine.specs.Invariants.{is_doubted}
use Rattle.pmem_recovery.specs.declared.entries.MadeEntry.{MadeEntry}
use Rattle.pmem_recovery.specs.Upward.{AreMade, AreMadeTo, AreAllMade, IsDoneTo, IsBefore, block_made, node_made}
use Rattle.pmem_recovery.proofs.UpwardLaws.{AreMade-same, AreMade-push, block_made_fixed, node_made_fixed}

-- one more position done, said by the next position
one_more : (setup : Setup) (lines : List Line) (regs : Regs) (i m : ℕ) (made : List MadeEntry) → level_start i ≤ m → AreMade setup lines regs (λ x. IsDoneTo i m x ⊎ (x ≡ m)) made → AreMadeTo setup lines regs i (m + 1) made
one_more setup lines regs i m made low =
    AreMade-same setup lines regs (λ x. IsDoneTo i m x ⊎ (x ≡ m)) (IsDoneTo i (m + 1)) made (λ x h d. to x d) (λ x h d. from x (cases_eq x m) d)
  where
    to : (x : ℕ) → IsDoneTo i m x ⊎ (x ≡ m) → IsDoneTo i (m + 1) x
    to x (inl (inl d)) = inl d
    to x (inl (inr d)) = inr (d.0, omega (arith, d.1))
    to x (inr e) = inr (omega arith, omega arith)

    from : (x : ℕ) → (x ≡ m) ⊎ (x ≡ m → ⊥) → IsDoneTo i (m + 1) x → IsDoneTo i m x ⊎ (x ≡ m)
    from x (inl e) d = inr e
    from x (inr ne) (inl d) = inl (inl d)
    from x (inr ne) (inr d) = inl (inr (d.0, omega (arith, d.1)))

not_yet : (i m : ℕ) → IsAtLevel i m → IsDoneTo i m m → ⊥
not_yet i m l (inl d) = omega (arith, l.below)
not_yet i m l (inr d) = omega (arith, d.1)

-- what is done comes before the next position
deeper : (i k x : ℕ) → level_start (suc i) ≤ x → x < level_start (suc k) → i < k
deeper i k x low high = go (cases_lt i k)
  where
    go : (i < k) ⊎ (k ≤ i) → i < k
    go (inl less) = less
    go (inr le) = let up = level_start-le (suc k) (suc i) (omega arith) in absurd (omega (arith, low, high, up))

comes_before : (setup : Setup) (i m x : ℕ) → IsShape setup.shape → i ≤ setup.shape.levels → IsAtLevel i m → x < layout.meta_lines setup.shape → IsDoneTo i m x → IsBefore x m
comes_before setup i m x shape few l h d = go d
  where
    small : i ≤ 6
    small = omega (arith, few, shape.at_most_six_levels)

    here : level_of m ≡ i
    here = level_of-at i m small l

    go : IsDoneTo i m x → IsBefore x m
    go (inl low) =
        let at = level_of-IsAtLevel setup.shape x shape.at_most_six_levels h in
        inl (subst (λ n. n < level_of x) (sym here) (deeper i (level_of x) x low at.below))
    go (inr le) =
        let below : x < level_start (suc i) = omega (arith, le.1, l.below) in
        inr (level_of-at i x small (record { from = le.0; below = below }) ∙ sym here, le.1)

-- a doubted counter block
pub AreMadeTo-block : (setup : Setup) (lines : List Line) (regs : Regs) (page : ℕ) (made : List MadeEntry) → IsShape setup.shape → page < layout.pages setup.shape → is_doubted setup.shape lines (counter_position setup.shape page) ≡ true → AreMadeTo setup lines regs setup.shape.levels (counter_position setup.shape page) made → AreMadeTo setup lines regs setup.shape.levels (counter_position setup.shape page + 1) (made ++ block_made setup lines regs page ∷ [])
AreMadeTo-block setup lines regs page made shape h q d =
    let m = counter_position setup.shape page in
    let next = level_start-next setup.shape.levels in
    one_more setup lines regs setup.shape.levels m (made ++ block_made setup lines regs page ∷ []) (omega arith)
    (AreMade-push setup lines regs (IsDoneTo setup.shape.levels m) made (block_made setup lines regs page)
    (not_yet setup.shape.levels m (record { from = omega arith; below = omega arith }))
    (λ x on_tree done. comes_before setup setup.shape.levels m x shape (omega arith) (counter_position-IsAtLevel setup.shape page h) on_tree done)
    (counter_position-lt setup.shape page h) q (block_made_fixed setup lines regs page shape h q) refl d)

-- a doubted node, over what is made of its children or read
pub AreMadeTo-node : (setup : Setup) (lines : List Line) (regs : Regs) (i m : ℕ) (made : List MadeEntry) → IsShape setup.shape → i < setup.shape.levels → IsAtLevel i m → is_doubted setup.shape lines m ≡ true → AreMadeTo setup lines regs i m made → AreMadeTo setup lines regs i (m + 1) (made ++ node_made setup lines made m ∷ [])
AreMadeTo-node setup lines regs i m made shape h l q d =
    one_more setup lines regs i m (made ++ node_made setup lines made m ∷ []) l.from
    (AreMade-push setup lines regs (IsDoneTo i m) made (node_made setup lines made m) (not_yet i m l)
    (λ x on_tree done. comes_before setup i m x shape (omega (arith, h)) l on_tree done)
    (IsAtLevel-inner (setup.shape.levels + 1) i m (omega arith) l) q
    (node_made_fixed setup lines regs (IsDoneTo i m) made i m shape d h l (λ c small. inl (child-IsAtLevel i m c l small).from) q)
    refl d)

-- a level is whole, and the one above begins
pub AreMadeTo-next : (setup : Setup) (lines : List Line) (regs : Regs) (i : ℕ) (made : List MadeEntry) → AreMadeTo setup lines regs (suc i) (level_start (suc (suc i))) made → AreMadeTo setup lines regs i (level_start i) made
AreMadeTo-next setup lines regs i made =
    AreMade-same setup lines regs (IsDoneTo (suc i) (level_start (suc (suc i)))) (IsDoneTo i (level_start i)) made (λ x h d. to x d) (λ x h d. from x d)
  where
    to : (x : ℕ) → IsDoneTo (suc i) (level_start (suc (suc i))) x → IsDoneTo i (level_start i) x
    to x (inl d) = let up = level_start-le (suc i) (suc (suc i)) (omega arith) in inl (omega arith)
    to x (inr d) = inl d.0

    at : (x : ℕ) → level_start (suc i) ≤ x → (x < level_start (suc (suc i))) ⊎ (level_start (suc (suc i)) ≤ x) → IsDoneTo (suc i) (level_start (suc (suc i))) x
    at x low (inl b) = inr (low, b)
    at x low (inr b) = inl b

    from : (x : ℕ) → IsDoneTo i (level_start i) x → IsDoneTo (suc i) (level_start (suc (suc i))) x
    from x (inl d) = at x d (cases_lt x (level_start (suc (suc i))))
    from x (inr d) = absurd (omega (arith, d.0, d.1))

-- at the end every position is done
pub AreMade-end : (setup : Setup) (lines : List Line) (regs : Regs) (made : List MadeEntry) → AreMadeTo setup lines regs 0 1 made → AreAllMade setup lines regs made
AreMade-end setup lines regs made =
    AreMade-same setup lines regs (IsDoneTo 0 1) (λ x. level_start 0 ≤ x) made (λ x h d. omega arith) (λ x h d. at x (cases_lt x 1))
  where
    at : (x : ℕ) → (x < 1) ⊎ (1 ≤ x) → IsDoneTo 0 1 x
    at x (inl b) = inr (omega arith, b)
    at x (inr b) = inl b

pub AreMadeTo-upto : (setup : Setup) (lines : List Line) (regs : Regs) (i m n : ℕ) (made : List MadeEntry) → level_start i ≤ m → m ≤ n → ((x : ℕ) → m ≤ x → x < n → is_doubted setup.shape lines x ≡ false) → AreMadeTo setup lines regs i m made → AreMadeTo setup lines regs i n made
AreMadeTo-upto setup lines regs i m n made low le none d = search rules
