-- How long a redo is, and how many steps it takes.
use Rattle.std.proofs.Common.{ℕ, ◌≡◌, ◌<◌, ◌≤◌, ◌+◌, ◌*◌, ◌++◌, cond, List, [], ◌∷◌, length, refl, sym, ap, ◌∙◌, arith, rules}
use Rattle.txn_session.proofs.Common.{All, nat_lt, lt-ltb, ne_eqb, length-append, zero_line, Shape, Memory, Edit, copy_edits, redoing_edits, length-copy_edits, read_steps, write_steps, redo_writes, most_of_redo, cost, length-all_posted}
use Rattle.engine_lines.specs.declared.edits.Edit.TheVariants as Make
use Rattle.txn_session.proofs.WriteLists.{posted_redo}

-- as many writes as changes
pub length-redo : (n : ℕ) (targets : List ℕ) (lines : Memory) → All (λ t. t < n) targets → n + 1 + length targets ≤ length lines
    → length (redo_writes n targets lines) ≡ length (redoing_edits n targets)
length-redo n targets lines low long =
    ap length (sym (posted_redo n targets lines low long)) ∙ length-all_posted lines (redoing_edits n targets)

length-redoing : (n t : ℕ) (targets : List ℕ) → length (redoing_edits n (t ∷ targets)) ≡ length (t ∷ targets) + 1
length-redoing n t targets =
    length-append (copy_edits (n + 1) (t ∷ targets)) (Make.Put n zero_line ∷ []) ∙ ap (λ k. k + 1) (length-copy_edits (n + 1) (t ∷ targets))

pub few_redone : (n : ℕ) (targets : List ℕ) → length (redoing_edits n targets) ≤ length targets + 1
few_redone n [] = omega arith
few_redone n (t ∷ targets) = let all = length-redoing n t targets in omega (arith, all)

-- once it is through none is in force
pub none_redone : (n : ℕ) (targets : List ℕ) → cond (nat_lt (length targets) (length (redoing_edits n targets))) [] targets ≡ []
none_redone n [] = search rules
none_redone n (t ∷ targets) =
    let all = length-redoing n t targets in
    ap (λ b. cond b [] (t ∷ targets)) (lt-ltb (length (t ∷ targets)) (length (redoing_edits n (t ∷ targets))) (omega (arith, all)))

-- ---- steps

cost_copies : (g : Shape) (p : ℕ) (targets : List ℕ) (more : List Edit)
    → cost g (copy_edits p targets ++ more) ≡ length targets * (read_steps g + write_steps g) + cost g more
cost_copies g p [] more = omega arith
cost_copies g p (t ∷ targets) more = let rest = cost_copies g (p + 1) targets more in omega (arith, rest)

pub cost_redo : (g : Shape) (n : ℕ) (targets : List ℕ) → cost g (redoing_edits n targets) ≡ most_of_redo g (length targets)
cost_redo g n [] = refl
cost_redo g n (t ∷ targets) = search (rules, cost_copies, read_steps, ne_eqb)
