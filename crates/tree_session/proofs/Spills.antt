-- What a call of the engine leaves of the device's lines: true nodes are written back, and a write puts its group.
use Rattle.std.proofs.Common.{ℕ, zero, suc, ◌≡◌, ◌<◌, ◌≤◌, ◌==◌, ◌⊎◌, ◌++◌, true, false, Bool, inl, inr, List, [], ◌∷◌, length, Option, Some, None, refl, sym, ap, subst, ◌∙◌, arith, rules}
use Rattle.tree_session.proofs.Common.{slice_set, map, if◌then◌else◌, ⊤, list_any, cases_eq, cases_lt, or_left, or_right, eq-eqb, set_past, same_Some, Line, line_at, meta_lines, Setup, BoardMemory, redone, Node, LineSeal, node_line, version_counter, tree_lines, line_of_tag, line_of_node, line_of_slot, node_at, slot_of, slot_line, WatchState, last_seal_of, TreeState, cache_at, IsTreeAnchored, IsTreeTrusted, line_path, path_node, tag_only, KeepsOtherRegisters, spilled_nodes, node_level_write, write_back, is_node_cached, HasFetchedNodes, HasArmedPath, PlainTree, true_count, true_cipher, on_path-inside, steps_in, TreeParts, plain_of_parts, AreLinesSpilled, IsBoardSpilled, IsBoardWritten, put_by_write, board_redone}
use Rattle.pmem_base.proofs.LineSets.{line_at-set_same, line_at-set_other}
use Rattle.asit_shadow.specs.declared.cache.CachedNode.{CachedNode}
use Rattle.asit_shadow.specs.Paths.{write_group}
use Rattle.asit_shadow.specs.Plain.{true_node}
use Rattle.asit_shadow.proofs.LevelWork.{spilled-few, absent-few}
use Rattle.tree_session.proofs.BoardSteps.{taken-exact}
use Rattle.tree_session.proofs.PlainStates.{plain_is, node-is}
use Rattle.tree_session.proofs.Worlds.{TreeEngineCall, from, to, trusted_from}
use Rattle.tree_session.proofs.Refusals.{cipher-here}

-- ---- lines that are put, of which something holds

abbrev Each : (ℕ → Line → Type 0) → List (ℕ × Line) → Type 0
Each W [] = ⊤
Each W (entry ∷ rest) = W entry.0 entry.1 × Each W rest

each-append : (W : ℕ → Line → Type 0) (xs ys : List (ℕ × Line)) → Each W xs → Each W ys → Each W (xs ++ ys)
each-append W [] ys first second = second
each-append W (x ∷ xs) ys first second = (first.0, each-append W xs ys first.1 second)

-- each line is as it was, or it is one of those
put-either : (W : ℕ → Line → Type 0) (group : List (ℕ × Line)) (lines : List Line) → Each W group → (d : ℕ)
    → (line_at (redone group lines) d ≡ line_at lines d) ⊎ W d (line_at (redone group lines) d)
put-either W [] lines each d = inl refl
put-either W (entry ∷ rest) lines each d =
    elim (put-either W rest (slice_set lines entry.0 entry.1) each.1 d) [
      | inr written ↦ inr written
      | inl same ↦ elim (cases_eq d entry.0) [
        | inr other ↦ inl (same ∙ line_at-set_other lines entry.0 d entry.1 other)
        | inl here ↦ elim (cases_lt entry.0 (length lines)) [
          | inl inside ↦
              inr (subst (W d) (sym (same ∙ (ap (line_at (slice_set lines entry.0 entry.1)) here ∙ line_at-set_same lines entry.0 entry.1 inside)))
              (subst (λ p. W p entry.1) (sym here) each.0))
          | inr past ↦ inl (same ∙ ap (λ ls. line_at ls d) (set_past lines entry.0 entry.1 past))
        ]
      ]
    ]

-- ---- write-backs of a trusted chip

-- this is the line of a true node, at its place
abbrev IsNodeAt : Setup → List Node → ℕ → Line → Type 0
IsNodeAt setup nodes d line = (x : ℕ) × (x < meta_lines setup.shape) × (d ≡ line_of_node setup.shape x) × (line ≡ node_line setup.formulas x (node_at nodes x))

module _ (setup : Setup) (engine : TreeState) (regs : Rattle.pmem_base.specs.declared.registers.Regs.Regs) (watch : WatchState) (trusted : IsTreeTrusted setup engine regs watch) where
  back-each : (i : ℕ) (found : Option CachedNode) → cache_at engine.cache i ≡ found → Each (IsNodeAt setup watch.nodes) (write_back setup found)
  back-each i None is = tt
  back-each i (Some held) is = go held.dirty
    where
      go : (dirty : Bool)
          → Each (IsNodeAt setup watch.nodes) (if dirty then (line_of_node setup.shape held.x, node_line setup.formulas held.x held.node) ∷ [] else [])
      go true =
          let it = trusted.cached_true i held is in
          ((held.x, it.on_tree, refl, ap (node_line setup.formulas held.x) it.true_node), tt)
      go false = tt

  level-each : (x : ℕ) → Each (IsNodeAt setup watch.nodes) (node_level_write setup engine.cache x)
  level-each x = go (is_node_cached setup.shape engine.cache x)
    where
      go : (there : Bool) → Each (IsNodeAt setup watch.nodes) (if there then [] else write_back setup (cache_at engine.cache (slot_of setup.shape x)))
      go true = tt
      go false = back-each (slot_of setup.shape x) (cache_at engine.cache (slot_of setup.shape x)) refl

  spilled-each : (a n : ℕ) → Each (IsNodeAt setup watch.nodes) (spilled_nodes setup engine.cache a n)
  spilled-each a zero = tt
  spilled-each a (suc n) =
      each-append (IsNodeAt setup watch.nodes) (spilled_nodes setup engine.cache a n) (node_level_write setup engine.cache (path_node setup.shape a (suc n)))
      (spilled-each a n) (level-each (path_node setup.shape a (suc n)))

-- ---- a call

module _ (c : TreeEngineCall) (a : ℕ) where
  made-by : (n : ℕ) → AreLinesSpilled c.setup (plain_of_parts c.setup c.parts) (redone (spilled_nodes c.setup c.engine.cache a n) c.parts.board.lines)
  made-by n d =
      let trusted = trusted_from c in
      elim (put-either (IsNodeAt c.setup c.parts.watch.nodes) (spilled_nodes c.setup c.engine.cache a n) c.parts.board.lines
      (spilled-each c.setup c.engine c.parts.board.regs c.parts.watch trusted a n) d) [
        | inl same ↦ inl same
        | inr node ↦
            inr (record {
              x = node.0;
              on_tree = node.1;
              place = node.2;
              line =
                  node.3
                  ∙ ap (node_line c.setup.formulas node.0)
                  (sym (node-is c.setup c.parts.watch c.parts.board.regs c.world.whole_shape trusted.anchored (plain_of_parts c.setup c.parts)
                  (plain_is c.setup c.parts c.parts.board.regs c.world.whole_shape trusted.anchored) node.0 node.1));
            })
      ]

  pub spilled_lines : (n : ℕ) → HasFetchedNodes c.setup a n (from c) (to c) → AreLinesSpilled c.setup (plain_of_parts c.setup c.parts) c.board.lines
  spilled_lines n it =
      let lines : c.board.lines ≡ redone (spilled_nodes c.setup c.engine.cache a n) c.parts.board.lines = same_Some _ _ it.lines in
      subst (AreLinesSpilled c.setup (plain_of_parts c.setup c.parts)) (sym lines) (made-by n)

  pub board_spilled : (n : ℕ) (q : TreeParts) → q.board.lines ≡ c.board.lines → q.board.regs ≡ c.board.regs → HasFetchedNodes c.setup a n (from c) (to c)
      → IsBoardSpilled c.setup (plain_of_parts c.setup c.parts) (plain_of_parts c.setup q)
  board_spilled n q lines regs it =
      record {
        lines = subst (AreLinesSpilled c.setup (plain_of_parts c.setup c.parts)) (sym lines) (spilled_lines n it);
        regs = regs ∙ it.regs;
      }

  pub spilled_most : (n : ℕ) → length (spilled_nodes c.setup c.engine.cache a n) ≤ n
  spilled_most n = search (rules, spilled-few, absent-few)

  -- as many line writes at most as levels were fetched
  pub few_spilled : (n : ℕ) → HasFetchedNodes c.setup a n (from c) (to c) → steps_in c.taken ≤ n
  few_spilled n it = search (rules, taken-exact, spilled_most)

  pub few_steps : (n : ℕ) → HasFetchedNodes c.setup a n (from c) (to c) → steps_in c.taken ≤ c.setup.shape.levels
  few_steps n it = omega (arith, few_spilled n it, it.on_path)

  -- ---- a write's group, told by the plain state after it

  same-on : {Y : Type 0} (f g : ℕ → Y) (xs : List ℕ) → ((x : ℕ) → list_any (λ z. z == x) xs ≡ true → f x ≡ g x) → map f xs ≡ map g xs
  same-on f g [] each = refl
  same-on f g (x ∷ xs) each =
      let here = each x (or_left (x == x) (list_any (λ z. z == x) xs) (eq-eqb x x refl)) in
      let rest = same-on f g xs (λ y on. each y (or_right (x == y) (list_any (λ z. z == y) xs) on)) in
      cc

  module _ (within : a < tree_lines c.setup.shape) (q : TreeParts) (watch_is : q.watch ≡ c.watch) (anchored : IsTreeAnchored c.setup c.board.regs c.watch) (seal : LineSeal)
      (last : last_seal_of c.watch a ≡ Some seal) where
    abbrev after : PlainTree
    after = plain_of_parts c.setup q

    anchored_q : IsTreeAnchored c.setup c.board.regs q.watch
    anchored_q = subst (IsTreeAnchored c.setup c.board.regs) (sym watch_is) anchored

    sealed : (anchored_q.seals a within).seal ≡ seal
    sealed =
        same_Some _ _ (sym (anchored_q.seals a within).last ∙ (ap (λ (w : WatchState). last_seal_of w a) watch_is ∙ last))

    cipher : true_cipher c.setup.formulas (plain_of_parts c.setup q) a ≡ seal.cipher
    cipher =
        cipher-here c.setup q c.board.regs q.board c.world.whole_shape c.world.whole_formulas anchored_q a within ∙ ap (λ (s : LineSeal). s.cipher) sealed

    tag : c.setup.formulas.tag_of a (version_counter (true_count (plain_of_parts c.setup q) a)) (true_cipher c.setup.formulas (plain_of_parts c.setup q) a) ≡ seal.tag
    tag =
        let it = anchored_q.seals a within in
        ap (λ n. c.setup.formulas.tag_of a (version_counter n) (true_cipher c.setup.formulas (plain_of_parts c.setup q) a))
        ((plain_is c.setup q c.board.regs c.world.whole_shape anchored_q).counts a within ∙ sym it.counter)
        ∙ (ap (c.setup.formulas.tag_of a (version_counter it.seal.counter)) (cipher ∙ ap (λ (s : LineSeal). s.cipher) (sym sealed))
        ∙ (it.tagged ∙ ap (λ (s : LineSeal). s.tag) sealed))

    group_is : put_by_write c.setup (plain_of_parts c.setup q) a ≡ write_group c.setup.shape a seal c.watch.nodes
    unfolding write_group
    group_is =
        let path : map (λ x. (line_of_slot c.setup.shape (slot_of c.setup.shape x), slot_line x (true_node c.setup.shape (plain_of_parts c.setup q) x))) (line_path c.setup.shape a)
        ≡ map (λ x. (line_of_slot c.setup.shape (slot_of c.setup.shape x), slot_line x (node_at c.watch.nodes x))) (line_path c.setup.shape a) =
        same-on (λ x. (line_of_slot c.setup.shape (slot_of c.setup.shape x), slot_line x (true_node c.setup.shape (plain_of_parts c.setup q) x)))
        (λ x. (line_of_slot c.setup.shape (slot_of c.setup.shape x), slot_line x (node_at c.watch.nodes x))) (line_path c.setup.shape a)
        (λ x on.
        ap (λ (node : Node). (line_of_slot c.setup.shape (slot_of c.setup.shape x), slot_line x node))
        (node-is c.setup q.watch c.board.regs c.world.whole_shape anchored_q (plain_of_parts c.setup q) (plain_is c.setup q c.board.regs c.world.whole_shape anchored_q) x
        (on_path-inside c.setup.shape a x within on)
        ∙ ap (λ (w : WatchState). node_at w.nodes x) watch_is)) in
        ap (λ l. (a, l) ∷ (line_of_tag c.setup.shape a, tag_only (c.setup.formulas.tag_of a (version_counter (true_count (plain_of_parts c.setup q) a)) (true_cipher c.setup.formulas (plain_of_parts c.setup q) a)))
        ∷ map (λ x. (line_of_slot c.setup.shape (slot_of c.setup.shape x), slot_line x (true_node c.setup.shape (plain_of_parts c.setup q) x))) (line_path c.setup.shape a)) cipher
        ∙ (ap (λ t. (a, seal.cipher) ∷ (line_of_tag c.setup.shape a, tag_only t)
        ∷ map (λ x. (line_of_slot c.setup.shape (slot_of c.setup.shape x), slot_line x (true_node c.setup.shape (plain_of_parts c.setup q) x))) (line_path c.setup.shape a)) tag
        ∙ ap (λ entries. (a, seal.cipher) ∷ (line_of_tag c.setup.shape a, tag_only seal.tag) ∷ entries) path)

    pub board_written : (n latches : ℕ) → q.board ≡ c.board → HasArmedPath c.setup a latches seal (from c) (to c)
        → IsBoardWritten c.setup a (plain_of_parts c.setup c.parts) (plain_of_parts c.setup q)
    board_written n latches its it =
        let put : redone c.board.regs.group.items c.board.lines
        ≡ redone (write_group c.setup.shape a seal c.watch.nodes) (redone (spilled_nodes c.setup c.engine.cache a c.setup.shape.levels) c.parts.board.lines) = same_Some _ _ it.lines in
        record {
          spilled = redone (spilled_nodes c.setup c.engine.cache a c.setup.shape.levels) c.parts.board.lines;
          lines = made-by c.setup.shape.levels;
          put =
              ap board_redone its
              ∙ (put ∙ ap (λ g. redone g (redone (spilled_nodes c.setup c.engine.cache a c.setup.shape.levels) c.parts.board.lines)) (sym group_is));
          regs = subst (λ (b : BoardMemory). KeepsOtherRegisters c.parts.board.regs b.regs) (sym its) it.others;
        }

    pub group_kept : c.board.regs.group.items ≡ write_group c.setup.shape a seal c.watch.nodes → c.board.regs.group.items ≡ put_by_write c.setup (plain_of_parts c.setup q) a
    group_kept is = is ∙ sym group_is
