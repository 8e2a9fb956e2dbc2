-- A read: what is left of the session, and what is answered.
use Rattle.std.proofs.Common.{ℕ, ◌≡◌, ◌<◌, ◌≤◌, ◌⊎◌, false, inl, inr, Option, Some, None, Ok, Err, refl, sym, ap, subst, ◌∙◌, arith, rules}
use Rattle.tree_session.proofs.Common.{Result, IfSome, slice_index_or, Line, Regs, Exhibit, same_Some, line_at, tag_slot, IsExhibit, AreSmallMinors, going, cut_short, shown, tree_lines, line_of_tag, version_counter, line_counter, last_seal_of, steps_in, step_limit, TreeFault, TreeState, with_board, read_plan, IsTreeSealStored, HoldsTreeSeal, HasReadTreeLine, IsLineRead, line-place, going_unshown, cut_unshown, TreeAnswer, IsTreeCalled, read_said, plain_of_parts, state_of, IsTreeWorld, IsTreeAnswered, IsRooted, IsEngineShown, IsBoardSpilled, SaysOfRead, AnswersWith, IsDataAccepted, IsDataRefusal, IsDataExhibit, IsNodeExhibit, IsNodeRefusal}
use Rattle.asit_shadow.specs.declared.fault.TreeFault.TheVariants as Fail
use Rattle.asit_shadow.specs.Calls as told
use Rattle.tree_session.specs.declared.commands.TreeCommand.TheVariants as Do
use Rattle.tree_session.specs.declared.answers.TreeAnswer.TheVariants as Say
use Rattle.tree_session.proofs.BoardSteps.{goes_on, cut_off, then_rests}
use Rattle.tree_session.proofs.PlainStates.{plain_is}
use Rattle.tree_session.proofs.Worlds.{TreeEngineCall, EndsBy, IsEngineLeft, lit_left, dark_left, called, called_shown, from, to, ended_to, left, left_resting, trusted_from, powered_from, seals_kept, rooted_still, cut_rooted_still, ended_after}
use Rattle.tree_session.proofs.EngineCalls.{undecided_line, kept_plain, rooted_shown, refused_node, shown_node, forged-minors}
use Rattle.tree_session.proofs.Spills.{board_spilled, few_spilled, few_steps}
use Rattle.tree_session.proofs.Refusals.{data-accepted, data-refused, data-shown}

-- what the engine said of a read, and that the board followed its plan
pub record WasRead (c : TreeEngineCall) (a : ℕ) (answer : Result Line TreeFault) : Type 0 where
  pub read : HasReadTreeLine c.setup a (from c) (ended_to c) answer
  pub follows : EndsBy c (read_plan c.setup a) answer

module _ (c : TreeEngineCall) (a : ℕ) (within : a < tree_lines c.setup.shape) where
  -- the answer of the engine, where the state doesn't decide
  answered : (answer : TreeAnswer) (end : Result Line TreeFault) (found : Option TreeState) → Some answer ≡ read_said c.taken end
      → EndsBy c (read_plan c.setup a) end → c.watch.setup ≡ c.setup → IsEngineLeft c found → c.watch.exhibit ≡ None → IsRooted c.setup (plain_of_parts c.setup (left c found c.parts.hurt))
      → plain_of_parts c.setup (left c found c.parts.hurt) ≡ with_board (plain_of_parts c.setup c.parts) c.board
      → SaysOfRead c.setup (plain_of_parts c.setup c.parts) a (plain_of_parts c.setup (left c found c.parts.hurt)) answer
      → IsTreeAnswered c.setup (state_of c.setup c.parts) (Do.Read a) answer (state_of c.setup (left c found c.parts.hurt))
  answered answer end found is follows its_setup kept none rooted plain it =
      let undecided = sym (undecided_line c.parts.board.powered a (tree_lines c.setup.shape) Say.Off Say.Range (powered_from c) within) in
      record {
        not_shown = c.none;
        kept = record { shape = refl; keys = refl; shown = none ∙ sym c.none };
        answered =
            subst (λ d. AnswersWith c.setup (plain_of_parts c.setup c.parts) (Do.Read a) (plain_of_parts c.setup (left c found c.parts.hurt)) answer d)
            undecided it;
        called =
            subst (λ d. IsTreeCalled c.setup (state_of c.setup c.parts) (Do.Read a) (state_of c.setup (left c found c.parts.hurt)) answer d) undecided
            (called c its_setup (read_plan c.setup a) read_said answer end found c.parts.hurt is follows kept, plain);
        rooted = rooted;
      }

  -- ---- the line is read

  module _ (line : Line) (it : WasRead c a (Ok line)) where
    abbrev done : IsLineRead c.setup a (from c) (to c) (Ok line)
    done = it.read.done (trusted_from c).not_down

    pub read_done : IsTreeAnswered c.setup (state_of c.setup c.parts) (Do.Read a) (Say.Got line (steps_in c.taken)) (state_of c.setup (left c (Some c.after) c.parts.hurt))
    read_done =
        let plain = kept_plain c going (left c (Some c.after) c.parts.hurt) done.watch refl refl refl in
        let accepted = (done.answered (trusted_from c)).2 in
        answered (Say.Got line (steps_in c.taken)) (Ok line) (Some c.after) refl it.follows (done.watch.setup ∙ c.world.its_watch.its_setup) (lit_left c (done.effect.power.1 (powered_from c)))
        (done.watch.exhibit going_unshown ∙ c.none) (rooted_still c done.effect) plain (
          (done.answered (trusted_from c)).0 ∙ sym ((plain_is c.setup c.parts c.parts.board.regs c.world.whole_shape (trusted_from c).anchored).memory a within),
          goes_on c.parts.board c.board c.taken c.watched (done.effect.power.1 (powered_from c)),
          few_steps c a c.setup.shape.levels done.work.fetched,
          plain,
          board_spilled c a c.setup.shape.levels (left c (Some c.after) c.parts.hurt) refl refl done.work.fetched,
          subst (λ s. IsDataAccepted c.setup s a) (sym plain)
              (data-accepted c.setup c.parts c.parts.board.regs c.board c.world.whole_shape c.world.whole_formulas (trusted_from c).anchored a accepted.cipher accepted.tags within
              accepted.its.cipher_read accepted.its.tags_read accepted.fits accepted.last),
        )

  -- ---- power is cut

  module _ (it : WasRead c a (Err Fail.Cut)) where
    abbrev cut : IsLineRead c.setup a (from c) (to c) (Err Fail.Cut)
    cut = it.read.done (trusted_from c).not_down

    pub cut_done : IsTreeAnswered c.setup (state_of c.setup c.parts) (Do.Read a) (Say.Cut (steps_in c.taken)) (state_of c.setup (left c None c.parts.hurt))
    cut_done =
        let below : steps_in c.taken < c.setup.shape.levels = omega (arith, few_spilled c a cut.work.levels cut.work.fetched, (cut.work.due (powered_from c)).below) in
        let levels = c.world.whole_shape.at_most_six_levels in
        let few : steps_in c.taken < step_limit = omega (arith, below, levels) in
        let plain = kept_plain c cut_short (left c None c.parts.hurt) cut.watch refl refl refl in
        answered (Say.Cut (steps_in c.taken)) (Err Fail.Cut) None refl it.follows (cut.watch.setup ∙ c.world.its_watch.its_setup) (dark_left c cut.effect.power.1 few) (cut.watch.exhibit cut_unshown ∙ c.none)
        (cut_rooted_still c cut.effect cut.regs) plain (
          cut_off c.parts.board c.board c.taken c.watched cut.effect.power.1 few,
          below,
          plain,
          board_spilled c a cut.work.levels (left c None c.parts.hurt) refl refl cut.work.fetched,
        )

  -- ---- a node is refused

  module _ (x : ℕ) (it : WasRead c a (Err (Fail.Node x))) where
    abbrev node : IsLineRead c.setup a (from c) (to c) (Err (Fail.Node x))
    node = it.read.done (trusted_from c).not_down

    pub node_done : IsTreeAnswered c.setup (state_of c.setup c.parts) (Do.Read a) (Say.RefusedNode x (steps_in c.taken)) (state_of c.setup (left c (Some c.after) c.parts.hurt))
    node_done =
        let plain = kept_plain c going (left c (Some c.after) c.parts.hurt) node.watch refl refl refl in
        answered (Say.RefusedNode x (steps_in c.taken)) (Err (Fail.Node x)) (Some c.after) refl it.follows (node.watch.setup ∙ c.world.its_watch.its_setup) (lit_left c (node.effect.power.1 (powered_from c)))
        (node.watch.exhibit going_unshown ∙ c.none) (rooted_still c node.effect) plain (
          subst (λ s. IsNodeRefusal c.setup s a x) (sym plain) (refused_node c a within c.board refl x (node.answered (trusted_from c))),
          goes_on c.parts.board c.board c.taken c.watched (node.effect.power.1 (powered_from c)),
          few_steps c a node.work.levels node.work.fetched,
          plain,
          board_spilled c a node.work.levels (left c (Some c.after) c.parts.hurt) refl refl node.work.fetched,
        )

  -- ---- the line's tag is refused

  -- a stored line is read: the armed group is empty
  stored_here : c.board.regs ≡ c.parts.board.regs → HoldsTreeSeal c.setup.shape (to c) a → c.watch.seals ≡ c.parts.watch.seals → IsTreeSealStored c.setup.shape c.board.lines c.parts.watch a
  stored_here regs holds seals = search (rules, trusted_from)

  fits_here : IsTreeSealStored c.setup.shape c.board.lines c.parts.watch a
      → (c.setup.formulas.tag_of a (version_counter (line_counter c.setup.shape c.parts.watch.nodes a)) (line_at c.board.lines a) ≡ tag_slot (line_at c.board.lines (line_of_tag c.setup.shape a)) 0)
      × IfSome (last_seal_of c.parts.watch a) (λ seal. line_at c.board.lines a ≡ seal.cipher)
  fits_here stored = line-place c.setup c.board.lines c.parts.board.regs c.parts.watch a (trusted_from c).anchored within stored

  module _ (t : ℕ) (it : WasRead c a (Err (Fail.Tag t))) where
    abbrev tag : IsLineRead c.setup a (from c) (to c) (Err (Fail.Tag t))
    tag = it.read.done (trusted_from c).not_down

    abbrev why : told.IsTreeTagRefused c.setup a (from c) (to c)
    why = ((it.read.done (trusted_from c).not_down).answered (trusted_from c)).2

    hurt : slice_index_or c.parts.hurt a false ≡ false → ⊥
    hurt unhurt =
        let fits = (fits_here (stored_here tag.regs (seals_kept c going tag.effect a within unhurt) tag.watch.seals)).0 in
        why.fails
        (ap (c.setup.formulas.tag_of a (version_counter (line_counter c.setup.shape c.parts.watch.nodes a))) why.its.cipher_read
        ∙ (fits ∙ ap (λ l. tag_slot l 0) (sym why.its.tags_read)))

    pub tag_done : IsTreeAnswered c.setup (state_of c.setup c.parts) (Do.Read a) (Say.RefusedData t (steps_in c.taken)) (state_of c.setup (left c (Some c.after) c.parts.hurt))
    tag_done =
        let plain = kept_plain c going (left c (Some c.after) c.parts.hurt) tag.watch refl refl refl in
        answered (Say.RefusedData t (steps_in c.taken)) (Err (Fail.Tag t)) (Some c.after) refl it.follows (tag.watch.setup ∙ c.world.its_watch.its_setup) (lit_left c (tag.effect.power.1 (powered_from c)))
        (tag.watch.exhibit going_unshown ∙ c.none) (rooted_still c tag.effect) plain (
          ((it.read.done (trusted_from c).not_down).answered (trusted_from c)).0,
          subst (λ s. IsDataRefusal c.setup s a) (sym plain)
              (data-refused c.setup c.parts c.parts.board.regs c.board c.world.whole_shape c.world.whole_formulas (trusted_from c).anchored a why.cipher why.tags within
              why.its.cipher_read why.its.tags_read why.fails hurt),
          goes_on c.parts.board c.board c.taken c.watched (tag.effect.power.1 (powered_from c)),
          few_steps c a c.setup.shape.levels tag.work.fetched,
          plain,
          board_spilled c a c.setup.shape.levels (left c (Some c.after) c.parts.hurt) refl refl tag.work.fetched,
        )

  -- ---- an exhibit

  module _ (exhibit : Exhibit) (is : c.watch.exhibit ≡ Some exhibit) (it : WasRead c a (Err Fail.Shown)) where
    abbrev show : IsLineRead c.setup a (from c) (to c) (Err Fail.Shown)
    show = it.read.done (trusted_from c).not_down

    abbrev which : told.IsNodeShown c.setup a (from c) (to c) ⊎ (told.IsPathAccepted c.setup a (from c) (to c) × told.IsLineShown c.setup a (from c) (to c))
    which = (it.read.done (trusted_from c).not_down).answered (trusted_from c)

    pub shown_minors : AreSmallMinors exhibit
    shown_minors =
        elim which [
          | inl node ↦ forged-minors c.watch.exhibit exhibit _ _ _ _ is node.exhibit
          | inr line ↦ forged-minors c.watch.exhibit exhibit _ _ _ _ is line.1.exhibit
        ]

    pub shown_held : IsTreeWorld c.setup (left_resting c)
    shown_held = ended_after c show.effect show.watch exhibit is shown_minors

    unstored : (line : told.IsLineShown c.setup a (from c) (to c)) → slice_index_or c.parts.hurt a false ≡ false → ⊥
    unstored line unhurt = search (rules, trusted_from, fits_here, stored_here, seals_kept)

    left_before : IsBoardSpilled c.setup (plain_of_parts c.setup c.parts) (plain_of_parts c.setup (left_resting c)) × (steps_in c.taken ≤ c.setup.shape.levels)
    left_before =
        elim show.work [
          | inl node ↦
              (board_spilled c a node.stopped.levels (left_resting c) refl refl node.stopped.fetched, few_steps c a node.stopped.levels node.stopped.fetched)
          | inr line ↦
              (board_spilled c a c.setup.shape.levels (left_resting c) refl refl line.path.fetched, few_steps c a c.setup.shape.levels line.path.fetched)
        ]

    pub shown_done : IsEngineShown c.setup (state_of c.setup c.parts) (Do.Read a) exhibit (state_of c.setup (left_resting c))
    shown_done =
        let plain = kept_plain c shown (left_resting c) show.watch refl refl refl in
        record {
          not_shown = c.none;
          undecided = undecided_line c.parts.board.powered a (tree_lines c.setup.shape) Say.Off Say.Range (powered_from c) within;
          holds = subst (λ e. IfSome e (IsExhibit c.setup.formulas)) is (show.effect.trusted (trusted_from c));
          shows =
              elim which [
                | inl node ↦
                    inl (subst (λ s. IsNodeExhibit c.setup s a exhibit) (sym plain) (shown_node c a within (record c.board { powered = false }) refl exhibit is node))
                | inr line ↦
                    inr (subst (λ s. IsDataExhibit c.setup s a exhibit) (sym plain)
                    (data-shown c.setup c.parts c.parts.board.regs (record c.board { powered = false }) c.world.whole_shape c.world.whole_formulas (trusted_from c).anchored a
                    line.1.cipher line.1.tags exhibit within line.1.its.cipher_read line.1.its.tags_read line.1.fits line.1.other
                    (same_Some exhibit _ (sym is ∙ line.1.exhibit)) (unstored line.1)))
              ];
          plain = plain;
          called =
              called_shown c (show.watch.setup ∙ c.world.its_watch.its_setup) (read_plan c.setup a) read_said (Err Fail.Shown) refl it.follows
              (show.effect.power.1 (powered_from c));
          steps = steps_in c.taken;
          taken = then_rests (steps_in c.taken) c.parts.board c.board (goes_on c.parts.board c.board c.taken c.watched (show.effect.power.1 (powered_from c)));
          board = left_before;
          rooted = rooted_shown c (left_resting c) plain (ap (λ (r : Regs). r.root) show.regs) refl;
          shape = refl;
          keys = refl;
          shown = is;
        }
