-- Laws of making the fixed lines from the counter blocks upwards: it gives the fixed line of every doubted
-- position, and so the found root. They hold of any device.
use Rattle.std.proofs.Common.{rules, ℕ, suc, ◌≡◌, ◌≢◌, ◌<◌, ◌≤◌, ◌+◌, Bool, true, false, ◌||◌, cond, eqb, List, [], ◌∷◌, ◌++◌, get_or, All, Some, refl, ap, sym, ◌∙◌, subst, inl, inr, ◌⊎◌, arith}
use Rattle.std.specs.Prelude.{find, unwrap_or, option_map}
use Rattle.std.proofs.lemmas.Bool.{false≢true, eqb-true, eq-eqb, or_left, or_right}
use Rattle.std.proofs.lemmas.List.Elements.{All-head, All-tail, All-nil, All-append, All-weaker, All-cons}
use Rattle.std.proofs.lemmas.List.Folds.{list_any-append}
use Rattle.pmem_base.specs.declared.lines.Line.{Line}
use Rattle.pmem_base.specs.declared.registers.Regs.{Regs}
use Rattle.pmem_base.specs.Shape.{Shape, IsShape}
use Rattle.pmem_base.specs.Layout as layout
use Rattle.pmem_base.specs.Layout.{level_start}
use Rattle.pmem_base.proofs.ListLaws.{AllPairs-append}
use Rattle.bonsai_tree.specs.Positions.{child_position, counter_position}
use Rattle.bonsai_tree.proofs.Levels.{IsAtLevel, child-IsAtLevel, level_start-le, IsAtLevel-inner}
use Rattle.bonsai_tree.proofs.NodeLaws.{node_over-same}
use Rattle.suite.specs.Setup.{Setup}
use Rattle.pmem_engine.specs.Invariants.{stored_meta, is_doubted}
use Rattle.pmem_recovery.specs.declared.entries.MadeEntry.{MadeEntry}
use Rattle.pmem_recovery.specs.Fixed.{fixed_line, found_root}
use Rattle.pmem_recovery.specs.Upward.{made_or_stored, is_made, is_other, IsMadeLine, IsBefore, AreMade, AreAllMade, block_made, node_made}
use Rattle.pmem_recovery.proofs.FixedEquations.{fixed_line-unnamed, fixed_line-block, fixed_line-node}

-- ---- what stands for a position

-- the line made for x, if the lines made are those of a function
made_or_stored-made : (g : Shape) (lines : List Line) (line : ℕ → Line) (made : List MadeEntry) (x : ℕ) → All (λ entry. entry.line ≡ line entry.at) made → is_made made x ≡ true → made_or_stored g lines made x ≡ line x
made_or_stored-made g lines line [] x all t = absurd (false≢true t)
made_or_stored-made g lines line (entry ∷ made) x all t =
    go (eqb entry.at x) refl t (λ r. made_or_stored-made g lines line made x (All-tail (λ e. e.line ≡ line e.at) entry made all) r)
  where
    go : (b : Bool) → eqb entry.at x ≡ b → (b || is_made made x) ≡ true → (is_made made x ≡ true → made_or_stored g lines made x ≡ line x) → unwrap_or (option_map (λ e. e.line) (cond b (Some entry) (find (λ e. eqb e.at x) made))) (stored_meta g lines x) ≡ line x
    go true q r again = All-head (λ e. e.line ≡ line e.at) entry made all ∙ ap line (eqb-true entry.at x q)
    go false q r again = again r

made_or_stored-none : (g : Shape) (lines : List Line) (made : List MadeEntry) (x : ℕ) → is_made made x ≡ false → made_or_stored g lines made x ≡ stored_meta g lines x
made_or_stored-none g lines [] x q = refl
made_or_stored-none g lines (entry ∷ made) x q =
    go (eqb entry.at x) q (λ r. made_or_stored-none g lines made x r)
  where
    go : (b : Bool) → (b || is_made made x) ≡ false → (is_made made x ≡ false → made_or_stored g lines made x ≡ stored_meta g lines x) → unwrap_or (option_map (λ e. e.line) (cond b (Some entry) (find (λ e. eqb e.at x) made))) (stored_meta g lines x) ≡ stored_meta g lines x
    go true r again = absurd (false≢true (sym r))
    go false r again = again r

-- at a position that is done, what is made or stored is the fixed line
pub made_or_stored_fixed : (setup : Setup) (lines : List Line) (regs : Regs) (done : ℕ → Type 0) (made : List MadeEntry) (x : ℕ) → AreMade setup lines regs done made → x < layout.meta_lines setup.shape → done x → made_or_stored setup.shape lines made x ≡ fixed_line setup lines regs x
made_or_stored_fixed setup lines regs done made x m h d =
    go (is_made made x) refl (is_doubted setup.shape lines x) refl
  where
    go : (b : Bool) → is_made made x ≡ b → (n : Bool) → is_doubted setup.shape lines x ≡ n → made_or_stored setup.shape lines made x ≡ fixed_line setup lines regs x
    go true q n r =
        made_or_stored-made setup.shape lines (fixed_line setup lines regs) made x
        (All-weaker (IsMadeLine setup lines regs) (λ e. e.line ≡ fixed_line setup lines regs e.at) (λ e l. l.fixed) made m.each) q
    go false q true r = absurd (false≢true (sym q ∙ m.every x h d r))
    go false q false r = made_or_stored-none setup.shape lines made x q ∙ sym (fixed_line-unnamed setup lines regs x r)

-- ---- one more line made

-- the positions that are done said in another way
pub AreMade-same : (setup : Setup) (lines : List Line) (regs : Regs) (done same : ℕ → Type 0) (made : List MadeEntry) → ((x : ℕ) → x < layout.meta_lines setup.shape → done x → same x) → ((x : ℕ) → x < layout.meta_lines setup.shape → same x → done x) → AreMade setup lines regs done made → AreMade setup lines regs same made
AreMade-same setup lines regs done same made to from m = search rules

pub AreMade-append : (setup : Setup) (lines : List Line) (regs : Regs) (done also : ℕ → Type 0) (made more : List MadeEntry) → ((x : ℕ) → done x → also x → ⊥) → ((x y : ℕ) → x < layout.meta_lines setup.shape → done x → also y → IsBefore x y) → AreMade setup lines regs done made → AreMade setup lines regs also more → AreMade setup lines regs (λ x. done x ⊎ also x) (made ++ more)
AreMade-append setup lines regs done also made more apart before m n =
    record {
      each = All-append (IsMadeLine setup lines regs) made more m.each n.each;
      only_done =
          All-append (λ e. done e.at ⊎ also e.at) made more
          (All-weaker (λ e. done e.at) (λ e. done e.at ⊎ also e.at) (λ e d. inl d) made m.only_done)
          (All-weaker (λ e. also e.at) (λ e. done e.at ⊎ also e.at) (λ e d. inr d) more n.only_done);
      distinct = AllPairs-append (λ a b. a.at ≢ b.at) made more m.distinct n.distinct across;
      in_order = AllPairs-append (λ a b. IsBefore a.at b.at) made more m.in_order n.in_order ahead;
      every = λ x h d q. list_any-append (λ e. eqb e.at x) made more ∙ at x h q d;
    }
  where
    at : (x : ℕ) → x < layout.meta_lines setup.shape → is_doubted setup.shape lines x ≡ true → done x ⊎ also x → (is_made made x || is_made more x) ≡ true
    at x h q (inl d) = or_left (is_made made x) (is_made more x) (m.every x h d q)
    at x h q (inr d) = or_right (is_made made x) (is_made more x) (n.every x h d q)

    across : All (λ a. All (λ b. a.at ≢ b.at) more) made
    across =
        All-weaker (λ a. done a.at) (λ a. All (λ b. a.at ≢ b.at) more)
        (λ a d. All-weaker (λ b. also b.at) (λ b. a.at ≢ b.at) (λ b k e. apart a.at d (subst also (sym e) k)) more n.only_done)
        made m.only_done

    ahead : All (λ a. All (λ b. IsBefore a.at b.at) more) made
    ahead i d within j c inside =
        before (get_or made i d).at (get_or more j c).at (m.each i d within).on_tree (m.only_done i d within) (n.only_done j c inside)

-- the line of one more doubted position, pushed at the end
pub AreMade-push : (setup : Setup) (lines : List Line) (regs : Regs) (done : ℕ → Type 0) (made : List MadeEntry) (entry : MadeEntry) → (done entry.at → ⊥) → ((x : ℕ) → x < layout.meta_lines setup.shape → done x → IsBefore x entry.at) → entry.at < layout.meta_lines setup.shape → is_doubted setup.shape lines entry.at ≡ true → entry.line ≡ fixed_line setup lines regs entry.at → entry.changed ≡ is_other (stored_meta setup.shape lines entry.at) entry.line → AreMade setup lines regs done made → AreMade setup lines regs (λ x. done x ⊎ (x ≡ entry.at)) (made ++ entry ∷ [])
AreMade-push setup lines regs done made entry new before h q e o m =
    AreMade-append setup lines regs done (λ x. x ≡ entry.at) made (entry ∷ []) (λ x d same. new (subst done same d)) (λ x y on_tree d same. subst (IsBefore x) (sym same) (before x on_tree d)) m
    (record {
      each = All-cons (IsMadeLine setup lines regs) entry [] (record { on_tree = h; named = q; fixed = e; compared = o }) (All-nil (IsMadeLine setup lines regs));
      only_done = All-cons (λ b. b.at ≡ entry.at) entry [] refl (All-nil (λ b. b.at ≡ entry.at));
      distinct = λ i j d less within. absurd (omega arith);
      in_order = λ i j d less within. absurd (omega arith);
      every = λ x h d q. or_left (eqb entry.at x) false (eq-eqb entry.at x (sym d));
    })

-- ---- blocks and nodes

pub block_made_fixed : (setup : Setup) (lines : List Line) (regs : Regs) (page : ℕ) → IsShape setup.shape → page < layout.pages setup.shape → is_doubted setup.shape lines (counter_position setup.shape page) ≡ true → (block_made setup lines regs page).line ≡ fixed_line setup lines regs (counter_position setup.shape page)
block_made_fixed setup lines regs page shape h q = sym (fixed_line-block setup lines regs page shape h q)

-- a node whose children are done
pub node_made_fixed : (setup : Setup) (lines : List Line) (regs : Regs) (done : ℕ → Type 0) (made : List MadeEntry) (i x : ℕ) → IsShape setup.shape → AreMade setup lines regs done made → i < setup.shape.levels → IsAtLevel i x → ((c : ℕ) → c < 4 → done (child_position x c)) → is_doubted setup.shape lines x ≡ true → (node_made setup lines made x).line ≡ fixed_line setup lines regs x
node_made_fixed setup lines regs done made i x shape m h l children q =
    node_over-same setup.formulas x (made_or_stored setup.shape lines made) (fixed_line setup lines regs)
    (λ c small. made_or_stored_fixed setup lines regs done made (child_position x c) m (on_tree c small) (children c small))
    ∙ sym (fixed_line-node setup lines regs i x shape h l q)
  where
    on_tree : (c : ℕ) → c < 4 → child_position x c < layout.meta_lines setup.shape
    on_tree c small = IsAtLevel-inner (setup.shape.levels + 1) (suc i) (child_position x c) (omega arith) (child-IsAtLevel i x c l small)

-- ---- the root

pub made_root : (setup : Setup) (lines : List Line) (regs : Regs) (made : List MadeEntry) → AreAllMade setup lines regs made → setup.formulas.digest_of 0 (made_or_stored setup.shape lines made 0) ≡ found_root setup lines regs
made_root setup lines regs made m =
    let on_tree : 0 < layout.meta_lines setup.shape = level_start-le 1 (setup.shape.levels + 1) (omega arith) in
    ap (setup.formulas.digest_of 0) (made_or_stored_fixed setup lines regs (λ x. level_start 0 ≤ x) made 0 m on_tree (omega arith))
