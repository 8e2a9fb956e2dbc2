-- A write: what is left of the session, and what is answered.
use Rattle.std.proofs.Common.{ℕ, ◌≡◌, ◌<◌, ◌≤◌, ◌+◌, ◌⊎◌, false, Bool, inl, inr, List, length, Some, None, Ok, Err, refl, sym, ap, subst, ◌∙◌, arith, rules}
use Rattle.tree_session.proofs.Common.{Option, Result, IfSome, slice_index_or, slice_set, if◌then◌else◌, cases_eq, le-ltb, lt-ltb, length-set, length-map, get_or-set_other, Line, Regs, Exhibit, IsLine, Shape, Device, IsExhibit, AreSmallMinors, Outcome, going, cut_short, shown, Node, LineSeal, tree_lines, node_at, WatchState, steps_in, step_limit, device_during, none_taken, TreeFault, TreeState, write_plan, IsTreeAnchored, TreeEngineParts, HoldsTreeSeal, TreeCallEffect, HasWrittenTreeLine, IsLineWritten, spilled_nodes, IsCutInNodeFetch, IsCutInGroup, HasFetchedPath, writes_made, with_board, going_unshown, TreeAnswer, IsTreeCalled, plain_said, write_said, plain_of_parts, state_of, IsTreeWorld, IsTreeAnswered, IsRooted, IsEngineShown, SaysOfWrite, AnswersWith, IsNodeExhibit, IsNodeRefusal, AllAreMade, tree_write_bound, IsBoardSpilled, none_is}
use Rattle.call_plan.proofs.StillCalls.{untouched}
use Rattle.bonsai_tree.proofs.PathPositions.{length-path_of}
use Rattle.asit_shadow.specs.declared.fault.TreeFault.TheVariants as Fail
use Rattle.asit_shadow.specs.Paths.{write_group}
use Rattle.asit_shadow.specs.Calls as told
use Rattle.tree_session.specs.declared.commands.TreeCommand.TheVariants as Do
use Rattle.tree_session.specs.declared.answers.TreeAnswer.TheVariants as Say
use Rattle.tree_session.proofs.BoardSteps.{goes_on, cut_off, latched, unlatched, then_rests, taken-exact}
use Rattle.tree_session.proofs.PlainStates.{plain_is, plain-kept, plain-written, writes-are}
use Rattle.tree_session.proofs.Worlds.{TreeEngineCall, EndsBy, IsEngineLeft, lit_left, dark_left, called, called_shown, from, to, ended_to, still_up, left, left_resting, trusted_from, powered_from, seals_kept, on_after, rooted_after, off_after, rooted_cut, rooted_still, cut_rooted_still, ended_after}
use Rattle.tree_session.proofs.Spills.{board_spilled, spilled_most, few_steps, board_written, group_kept}
use Rattle.tree_session.proofs.EngineCalls.{undecided_line, kept_plain, rooted_shown, refused_node, shown_node, forged-minors}

-- a write's group has its line, its tag line and the slot lines of its path
group-length : (g : Shape) (a : ℕ) (seal : LineSeal) (nodes : List Node) → length (write_group g a seal nodes) ≡ g.levels + 3
unfolding write_group
group-length g a seal nodes = search (rules, length-map, length-path_of)

-- what the engine said of a write, and that the board followed its plan
pub record WasWritten (c : TreeEngineCall) (a : ℕ) (line : Line) (answer : Result ℕ TreeFault) : Type 0 where
  pub written : HasWrittenTreeLine c.setup a line (from c) (ended_to c) answer
  pub follows : EndsBy c (write_plan c.setup c.parts.board.regs a line) answer

module _ (c : TreeEngineCall) (a : ℕ) (within : a < tree_lines c.setup.shape) (line : Line) (whole : IsLine line) where
  answered : (answer : TreeAnswer) (end : Result ℕ TreeFault) (found : Option TreeState) (hurt : List Bool) → Some answer ≡ write_said c.taken end
      → EndsBy c (write_plan c.setup c.parts.board.regs a line) end → c.watch.setup ≡ c.setup → IsEngineLeft c found → c.watch.exhibit ≡ None
      → IsRooted c.setup (plain_of_parts c.setup (left c found hurt))
      → plain_of_parts c.setup (left c found hurt) ≡ plain_said c.setup.shape (plain_of_parts c.setup c.parts) (Do.Write a line) answer c.board
      → SaysOfWrite c.setup (plain_of_parts c.setup c.parts) a line (plain_of_parts c.setup (left c found hurt)) answer
      → IsTreeAnswered c.setup (state_of c.setup c.parts) (Do.Write a line) answer (state_of c.setup (left c found hurt))
  answered answer end found hurt is follows its_setup kept none rooted plain it =
      let undecided = sym (undecided_line c.parts.board.powered a (tree_lines c.setup.shape) Say.Off Say.Range (powered_from c) within) in
      record {
        not_shown = c.none;
        kept = record { shape = refl; keys = refl; shown = none ∙ sym c.none };
        answered =
            subst (λ d. AnswersWith c.setup (plain_of_parts c.setup c.parts) (Do.Write a line) (plain_of_parts c.setup (left c found hurt)) answer d)
            undecided it;
        called =
            subst (λ d. IsTreeCalled c.setup (state_of c.setup c.parts) (Do.Write a line) (state_of c.setup (left c found hurt)) answer d) undecided
            (called c its_setup (write_plan c.setup c.parts.board.regs a line) write_said answer end found hurt is follows kept, plain);
        rooted = rooted;
      }

  made-is : writes_made (plain_of_parts c.setup c.parts) ≡ Rattle.counter_tree.specs.Nodes.total (node_at c.parts.watch.nodes 0)
  made-is =
      writes-are c.setup c.parts.watch c.parts.board.regs c.world.whole_shape (trusted_from c).anchored (plain_of_parts c.setup c.parts)
      (plain_is c.setup c.parts c.parts.board.regs c.world.whole_shape (trusted_from c).anchored)

  unused : (told.IsUsedUp (from c) → ⊥) → AllAreMade (plain_of_parts c.setup c.parts).counts → ⊥
  unused not up = not (sym made-is ∙ up)

  -- ---- flags once the line is written

  abbrev pub mended : List Bool
  mended = slice_set c.parts.hurt a false

  mended-count : length (slice_set c.parts.hurt a false) ≡ tree_lines c.setup.shape
  mended-count = length-set c.parts.hurt a false ∙ c.world.hurt_count

  mended-seals : (outcome : Outcome) → TreeCallEffect c.setup outcome (from c) (to c) → HoldsTreeSeal c.setup.shape (to c) a
      → (b : ℕ) → b < tree_lines c.setup.shape → slice_index_or (slice_set c.parts.hurt a false) b false ≡ false → HoldsTreeSeal c.setup.shape (to c) b
  mended-seals outcome effect stored b inside unhurt =
      elim (cases_eq b a) [
        | inl same ↦ subst (HoldsTreeSeal c.setup.shape (to c)) (sym same) stored
        | inr other ↦ seals_kept c outcome effect b inside (sym (get_or-set_other c.parts.hurt a b false false other) ∙ unhurt)
      ]

  -- ---- the line is written

  module _ (counter : ℕ) (it : WasWritten c a line (Ok counter)) where
    abbrev done : IsLineWritten c.setup a line (from c) (to c) (Ok counter)
    done = it.written.done (trusted_from c).not_down

    abbrev made : told.IsWriteDone c.setup a line counter (from c) (to c)
    made = ((it.written.done (trusted_from c).not_down).answered (trusted_from c)).2

    pub written_held : IsTreeWorld c.setup (left c (Some c.after) (slice_set c.parts.hurt a false))
    written_held = on_after c done.effect (slice_set c.parts.hurt a false) mended-count (mended-seals going done.effect made.stored) (still_up c (Ok counter) refl it.written.down)

    pub written_done : IsTreeAnswered c.setup (state_of c.setup c.parts) (Do.Write a line) (Say.Written (steps_in c.taken)) (state_of c.setup (left c (Some c.after) (slice_set c.parts.hurt a false)))
    written_done =
        let few = c.watched.follows.few in
        let writes = taken-exact (length (spilled_nodes c.setup c.engine.cache a c.setup.shape.levels) + (c.setup.shape.levels + 3)) c.taken.writes done.work.writes (omega (arith, few)) in
        let latches = taken-exact 2 c.taken.latches done.work.armed.latched (omega (arith, few)) in
        let trusted = done.effect.trusted (trusted_from c) in
        let lit = done.effect.power.1 (powered_from c) in
        let plain =
        plain-written c.setup c.parts (left c (Some c.after) (slice_set c.parts.hurt a false)) a line made.seal c.parts.board.regs made.armed_regs c.board.regs
        c.world.whole_shape c.world.whole_formulas (trusted_from c).anchored trusted.anchored made.armed.armed whole made.armed.sealed refl refl in
        answered (Say.Written (steps_in c.taken)) (Ok counter) (Some c.after) (slice_set c.parts.hurt a false) refl it.follows trusted.anchored.of_setup.its_setup (lit_left c lit)
        (none_is c.watch.exhibit trusted.anchored.no_exhibit)
        (rooted_after c done.effect (slice_set c.parts.hurt a false) mended-count (mended-seals going done.effect made.stored)) plain (
          unused (done.answered (trusted_from c)).0,
          goes_on c.parts.board c.board c.taken c.watched lit,
          latched c.parts.board c.board c.taken c.watched 2 latches,
          omega (arith, writes, latches),
          omega (arith, writes, latches, spilled_most c a c.setup.shape.levels),
          plain,
          board_written c a within (left c (Some c.after) (slice_set c.parts.hurt a false)) refl trusted.anchored done.work.seal done.work.armed.last c.setup.shape.levels 2 refl done.work.armed,
        )

  -- ---- power is cut

  module _ (it : WasWritten c a line (Err Fail.Cut)) where
    abbrev cut : IsLineWritten c.setup a line (from c) (to c) (Err Fail.Cut)
    cut = it.written.done (trusted_from c).not_down

    abbrev said : (told.IsUsedUp (from c) → ⊥) × (told.IsWriteLost (from c) (to c) ⊎ told.IsWriteKept c.setup a line (from c) (to c))
    said = (it.written.done (trusted_from c).not_down).answered (trusted_from c)

    few_before : IsCutInNodeFetch c.setup a (from c) (to c) ⊎ HasFetchedPath c.setup a 0 (from c) (to c) → steps_in c.taken ≤ c.setup.shape.levels
    few_before (inl fetch) = few_steps c a fetch.levels fetch.fetched
    few_before (inr path) = few_steps c a c.setup.shape.levels path.fetched

    below : steps_in c.taken < tree_write_bound c.setup.shape
    below =
        elim cut.work [
          | inl before ↦ omega (arith, few_before before.at)
          | inr group ↦
              let few = c.watched.follows.few in
              let first = group.before.exact (omega (arith, few, group.since.never_falls)) in
              let since = group.since.bound (omega (arith, few)) in
              let one = taken-exact 1 c.taken.latches group.armed.latched (omega (arith, few)) in
              omega (arith, first, since, one, spilled_most c a c.setup.shape.levels)
        ]

    limit : steps_in c.taken < step_limit
    limit = omega (arith, below, c.world.whole_shape.at_most_six_levels)

    pub is_lost : c.taken.latches ≤ 0 → told.IsWriteLost (from c) (to c)
    is_lost none =
        elim said.1 [
          | inl lost ↦ lost
          | inr kept ↦
              let few = c.watched.follows.few in
              let one = taken-exact 1 c.taken.latches kept.latches (omega (arith, few)) in
              absurd (omega (arith, one, none))
        ]

    is_kept : 0 < c.taken.latches → told.IsWriteKept c.setup a line (from c) (to c)
    is_kept some =
        elim said.1 [
          | inl lost ↦ let none = lost.latches in absurd (omega (arith, none, some))
          | inr kept ↦ kept
        ]

    -- by its latches
    not_latched : c.taken.latches ≤ 0 → Some (Say.CutLost (steps_in c.taken)) ≡ write_said c.taken (Err Fail.Cut)
    not_latched none =
        ap (λ (b : Bool). Some (if b then Say.CutKept (steps_in c.taken) else Say.CutLost (steps_in c.taken))) (sym (le-ltb 0 c.taken.latches none))

    was_latched : 0 < c.taken.latches → Some (Say.CutKept (steps_in c.taken)) ≡ write_said c.taken (Err Fail.Cut)
    was_latched some =
        ap (λ (b : Bool). Some (if b then Say.CutKept (steps_in c.taken) else Say.CutLost (steps_in c.taken))) (sym (lt-ltb 0 c.taken.latches some))

    module _ (none : c.taken.latches ≤ 0) where
      -- the path was fetched so far as power lasted
      lost_board : IsBoardSpilled c.setup (plain_of_parts c.setup c.parts) (plain_of_parts c.setup (left c None c.parts.hurt))
      lost_board =
          elim cut.work [
            | inl before ↦ elim before.at [
              | inl fetch ↦ board_spilled c a fetch.levels (left c None c.parts.hurt) refl refl fetch.fetched
              | inr path ↦ board_spilled c a c.setup.shape.levels (left c None c.parts.hurt) refl refl path.fetched
            ]
            | inr group ↦
                let few = c.watched.follows.few in
                let one = taken-exact 1 c.taken.latches group.armed.latched (omega (arith, few)) in
                absurd (omega (arith, one, none))
          ]

      lost_few : steps_in c.taken ≤ c.setup.shape.levels
      lost_few =
          elim cut.work [
            | inl before ↦ few_before before.at
            | inr group ↦
                let few = c.watched.follows.few in
                let one = taken-exact 1 c.taken.latches group.armed.latched (omega (arith, few)) in
                absurd (omega (arith, one, none))
          ]

      pub lost_done : IsTreeAnswered c.setup (state_of c.setup c.parts) (Do.Write a line) (Say.CutLost (steps_in c.taken)) (state_of c.setup (left c None c.parts.hurt))
      lost_done =
          let same = (is_lost none).watch in
          let plain =
          plain-kept c.setup c.parts (left c None c.parts.hurt) (ap (λ (w : WatchState). w.seals) same) (ap (λ (w : WatchState). w.nodes) same)
          (ap (λ (w : WatchState). w.slots) same) refl refl in
          answered (Say.CutLost (steps_in c.taken)) (Err Fail.Cut) None c.parts.hurt (not_latched none) it.follows (ap (λ (w : WatchState). w.setup) same ∙ c.world.its_watch.its_setup) (dark_left c cut.effect.power.1 limit)
          (ap (λ (w : WatchState). w.exhibit) same ∙ c.none) (cut_rooted_still c cut.effect (is_lost none).regs) plain (
            unused said.0,
            cut_off c.parts.board c.board c.taken c.watched cut.effect.power.1 limit,
            unlatched c.parts.board c.board c.taken c.watched (is_lost none).latches,
            lost_few,
            plain,
            lost_board,
          )

    module _ (some : 0 < c.taken.latches) where
      -- power lasted into the group
      in_group : IsCutInGroup c.setup a (from c) (to c)
      in_group =
          elim cut.work [
            | inl before ↦ let none = lost_latches before.at in absurd (omega (arith, none, some))
            | inr group ↦ group
          ]
        where
          lost_latches : IsCutInNodeFetch c.setup a (from c) (to c) ⊎ HasFetchedPath c.setup a 0 (from c) (to c) → c.taken.latches ≡ 0
          lost_latches (inl fetch) = fetch.fetched.latches
          lost_latches (inr path) = path.fetched.latches

      kept_small : length c.board.regs.group.items ≤ c.setup.shape.levels + 3
      kept_small =
          let kept = is_kept some in
          omega (arith, ap length kept.armed.armed.group, group-length c.setup.shape a kept.seal c.watch.nodes)

      pub kept_held : IsTreeWorld c.setup (left c None (slice_set c.parts.hurt a false))
      kept_held = off_after c cut.effect kept_small (slice_set c.parts.hurt a false) mended-count (mended-seals cut_short cut.effect (is_kept some).stored)

      pub kept_done : IsTreeAnswered c.setup (state_of c.setup c.parts) (Do.Write a line) (Say.CutKept (steps_in c.taken)) (state_of c.setup (left c None (slice_set c.parts.hurt a false)))
      kept_done =
          let kept = is_kept some in
          let anchored : IsTreeAnchored c.setup c.board.regs c.watch = cut.effect.trusted (trusted_from c) in
          let few = c.watched.follows.few in
          let plain =
          plain-written c.setup c.parts (left c None (slice_set c.parts.hurt a false)) a line kept.seal c.parts.board.regs c.board.regs c.board.regs
          c.world.whole_shape c.world.whole_formulas (trusted_from c).anchored anchored kept.armed.armed whole kept.armed.sealed refl refl in
          answered (Say.CutKept (steps_in c.taken)) (Err Fail.Cut) None (slice_set c.parts.hurt a false) (was_latched some) it.follows anchored.of_setup.its_setup
          (dark_left c cut.effect.power.1 limit) (none_is c.watch.exhibit anchored.no_exhibit)
          (rooted_cut c cut.effect kept_small (slice_set c.parts.hurt a false) mended-count (mended-seals cut_short cut.effect (is_kept some).stored)) plain (
            unused said.0,
            cut_off c.parts.board c.board c.taken c.watched cut.effect.power.1 limit,
            latched c.parts.board c.board c.taken c.watched 1 (taken-exact 1 c.taken.latches kept.latches (omega (arith, few))),
            omega (arith, some),
            below,
            plain,
            board_written c a within (left c None (slice_set c.parts.hurt a false)) refl anchored in_group.seal in_group.armed.last c.setup.shape.levels 1 refl in_group.armed,
            group_kept c a within (left c None (slice_set c.parts.hurt a false)) refl anchored in_group.seal in_group.armed.last in_group.group,
          )

  -- ---- a node is refused

  module _ (x : ℕ) (it : WasWritten c a line (Err (Fail.Node x))) where
    abbrev node : IsLineWritten c.setup a line (from c) (to c) (Err (Fail.Node x))
    node = it.written.done (trusted_from c).not_down

    pub unwritten_done : IsTreeAnswered c.setup (state_of c.setup c.parts) (Do.Write a line) (Say.RefusedNode x (steps_in c.taken)) (state_of c.setup (left c (Some c.after) c.parts.hurt))
    unwritten_done =
        let keeps = node.watch tt in
        let plain = kept_plain c going (left c (Some c.after) c.parts.hurt) keeps refl refl refl in
        answered (Say.RefusedNode x (steps_in c.taken)) (Err (Fail.Node x)) (Some c.after) c.parts.hurt refl it.follows (keeps.setup ∙ c.world.its_watch.its_setup)
        (lit_left c (node.effect.power.1 (powered_from c))) (keeps.exhibit going_unshown ∙ c.none) (rooted_still c node.effect) plain (
          unused (node.answered (trusted_from c)).0,
          subst (λ s. IsNodeRefusal c.setup s a x) (sym plain) (refused_node c a within c.board refl x (node.answered (trusted_from c)).1),
          goes_on c.parts.board c.board c.taken c.watched (node.effect.power.1 (powered_from c)),
          few_steps c a node.work.levels node.work.fetched,
          plain,
          board_spilled c a node.work.levels (left c (Some c.after) c.parts.hurt) refl refl node.work.fetched,
        )

  -- ---- no write can be counted any more

  module _ (it : WasWritten c a line (Err Fail.Spent)) where
    abbrev spent : IsLineWritten c.setup a line (from c) (to c) (Err Fail.Spent)
    spent = it.written.done (trusted_from c).not_down

    pub spent_done : IsTreeAnswered c.setup (state_of c.setup c.parts) (Do.Write a line) (Say.Spent (steps_in c.taken)) (state_of c.setup (left c (Some c.after) c.parts.hurt))
    spent_done =
        let keeps = spent.watch tt in
        let same : device_during c.board c.taken ≡ device_during c.parts.board none_taken = ap (λ (p : TreeEngineParts). p.device) spent.work in
        let writes : c.taken.writes ≡ 0 = ap (λ (d : Device). d.writes) same in
        let latches : c.taken.latches ≡ 0 = ap (λ (d : Device). d.latches) same in
        let plain = kept_plain c going (left c (Some c.after) c.parts.hurt) keeps refl refl refl in
        answered (Say.Spent (steps_in c.taken)) (Err Fail.Spent) (Some c.after) c.parts.hurt refl it.follows (keeps.setup ∙ c.world.its_watch.its_setup)
        (lit_left c (spent.effect.power.1 (powered_from c))) (keeps.exhibit going_unshown ∙ c.none) (rooted_still c spent.effect) plain (
          made-is ∙ (spent.answered (trusted_from c)).0,
          omega (arith, writes, latches),
          plain
              ∙ ap (with_board (plain_of_parts c.setup c.parts)) (untouched c.parts.board c.board c.taken c.watched same (powered_from c)),
        )

  -- ---- an exhibit

  module _ (exhibit : Exhibit) (is : c.watch.exhibit ≡ Some exhibit) (it : WasWritten c a line (Err Fail.Shown)) where
    abbrev show : IsLineWritten c.setup a line (from c) (to c) (Err Fail.Shown)
    show = it.written.done (trusted_from c).not_down

    abbrev why : (told.IsUsedUp (from c) → ⊥) × told.IsNodeShown c.setup a (from c) (to c)
    why = (it.written.done (trusted_from c).not_down).answered (trusted_from c)

    pub unwritten_shown_minors : AreSmallMinors exhibit
    unwritten_shown_minors = forged-minors c.watch.exhibit exhibit _ _ _ _ is why.1.exhibit

    pub unwritten_shown_held : IsTreeWorld c.setup (left_resting c)
    unwritten_shown_held = ended_after c show.effect (show.watch tt) exhibit is unwritten_shown_minors

    pub unwritten_shown_done : IsEngineShown c.setup (state_of c.setup c.parts) (Do.Write a line) exhibit (state_of c.setup (left_resting c))
    unwritten_shown_done =
        let plain = kept_plain c shown (left_resting c) (show.watch tt) refl refl refl in
        record {
          not_shown = c.none;
          undecided = undecided_line c.parts.board.powered a (tree_lines c.setup.shape) Say.Off Say.Range (powered_from c) within;
          holds = subst (λ e. IfSome e (IsExhibit c.setup.formulas)) is (show.effect.trusted (trusted_from c));
          shows = (
            unused why.0,
            subst (λ s. IsNodeExhibit c.setup s a exhibit) (sym plain) (shown_node c a within (record c.board { powered = false }) refl exhibit is why.1),
          );
          plain = plain;
          called =
              called_shown c ((show.watch tt).setup ∙ c.world.its_watch.its_setup) (write_plan c.setup c.parts.board.regs a line) write_said (Err Fail.Shown) refl
              it.follows (show.effect.power.1 (powered_from c));
          steps = steps_in c.taken;
          taken = then_rests (steps_in c.taken) c.parts.board c.board (goes_on c.parts.board c.board c.taken c.watched (show.effect.power.1 (powered_from c)));
          board = (
            board_spilled c a show.work.stopped.levels (left_resting c) refl refl show.work.stopped.fetched,
            few_steps c a show.work.stopped.levels show.work.stopped.fetched,
          );
          rooted = rooted_shown c (left_resting c) plain (ap (λ (r : Regs). r.root) show.work.stopped.fetched.regs) refl;
          shape = refl;
          keys = refl;
          shown = is;
        }
