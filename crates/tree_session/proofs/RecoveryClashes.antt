-- A recovery that ends with a clash.
use Rattle.std.proofs.Common.{◌≡◌, true, false, Bool, List, [], Some, None, Err, refl, sym, ap, subst, ◌∙◌}
use Rattle.tree_session.proofs.Common.{IfSome, same_Some, Line, Regs, Exhibit, Clash, Setup, IsExhibit, AreSmallMinors, shadow_root, shadow_tree_line, shadow_height, IsShadowDifference, IsSlotClash, HasShown, first_shown, steps_in, slots_read, HasTreeRecovered, with_board, true_slots, plain_of_parts, state_of, IsTreeWorld, IsRooted, IsEngineShown, IsShadowExhibit}
use Rattle.asit_shadow.specs.declared.recovery.TreeRec.TheVariants as Fail
use Rattle.tree_session.proofs.Refusals.{slots-free, rooted_with}
use Rattle.tree_session.specs.declared.commands.TreeCommand.TheVariants as Do
use Rattle.tree_session.specs.declared.answers.TreeAnswer.TheVariants as Say
use Rattle.tree_session.proofs.BoardSteps.{goes_on, from_dark, then_rests}
use Rattle.tree_session.proofs.PlainStates.{plain_is, plain-kept, true_slots-is}
use Rattle.tree_session.proofs.Worlds.{ended, rooted_open}
use Rattle.tree_session.proofs.Recoveries.{TreeRecoveryCall, RecoversBy, started, uncut, rest_from, rest_to, left_with, resting, dark, anchored_from, frame, finished_steps, group_done, slots_true, tampered_slot, read_are}

module _ (c : TreeRecoveryCall) (exhibit : Exhibit) (is : c.watch.exhibit ≡ Some exhibit) (it : HasTreeRecovered c.setup (rest_from c) (rest_to c) c.before c.later (Err Fail.Shown))
    (follows : RecoversBy c (Err Fail.Shown)) where
  abbrev clash : Rattle.asit_shadow.specs.Recovering.IsTreeClashShown c.setup (rest_from c) (rest_to c)
  clash = it.answered

  abbrev at : Exhibit
  at = it.answered.place.0

  abbrev seen : HasShown c.parts.watch c.watch it.answered.place.0
  seen = it.answered.place.2

  exhibit_is : exhibit ≡ it.answered.place.0
  exhibit_is = same_Some exhibit _ (sym is ∙ (seen.exhibit ∙ ap (λ e. first_shown e it.answered.place.0) c.none))

  its_clash : IsSlotClash c.parts.watch clash.slots exhibit
  its_clash = subst (IsSlotClash c.parts.watch clash.slots) (sym exhibit_is) it.answered.place.1

  empty_shown : c.board.regs.group.items ≡ []
  empty_shown = ap (λ (r : Regs). r.group.items) it.group.regs

  slots_are : clash.slots ≡ slots_read c.setup.shape c.board.lines
  slots_are = read_are c clash.slots it.size clash.read

  pub clash_minors : AreSmallMinors exhibit
  clash_minors = subst AreSmallMinors (sym its_clash.its) tt

  pub clash_held : IsTreeWorld c.setup (left_with c (resting c) None)
  clash_held =
      ended c.setup (left_with c (resting c) None) exhibit (frame c (resting c) None refl it.size seen.setup seen.seals seen.nodes seen.slots) is
      (record {
        holds = subst (λ e. IfSome e (IsExhibit c.setup.formulas)) is (it.trusted (anchored_from c));
        minors = clash_minors;
        no_engine = refl;
        unpowered = refl;
      })

  pub clash_done : IsEngineShown c.setup (state_of c.setup c.parts) Do.On exhibit (state_of c.setup (left_with c (resting c) None))
  clash_done =
      let plain =
      plain-kept c.setup c.parts (left_with c (resting c) None) seen.seals seen.nodes seen.slots refl refl in
      let true_are : true_slots c.setup.shape (plain_of_parts c.setup c.parts) ≡ c.parts.watch.slots =
      true_slots-is c.setup c.parts.watch c.parts.board.regs c.world.whole_shape (anchored_from c) (plain_of_parts c.setup c.parts)
      (plain_is c.setup c.parts c.parts.board.regs c.world.whole_shape (anchored_from c)) in
      record {
        not_shown = c.none;
        undecided = ap (λ (b : Bool). Rattle.std.specs.Prelude.if◌then◌else◌ b (Some Say.Already) None) (dark c);
        holds = subst (λ e. IfSome e (IsExhibit c.setup.formulas)) is (it.trusted (anchored_from c));
        shows = subst (λ s. IsShadowExhibit c.setup s exhibit) (sym plain) (shadow_shown true_are);
        plain = plain;
        called =
            started c None (Err Fail.Shown) (resting c) None refl follows (seen.setup ∙ c.world.its_watch.its_setup) (uncut c (it.power.1 refl)) refl refl;
        steps = steps_in c.taken;
        taken =
            from_dark (steps_in c.taken) false c.parts.board (resting c)
            (then_rests (steps_in c.taken) (record c.parts.board { powered = true }) c.board
            (goes_on (record c.parts.board { powered = true }) c.board c.taken c.watched (it.power.1 refl)));
        board = (group_done c empty_shown it.lines (resting c) refl refl it.group, finished_steps c it.group);
        rooted =
            subst (IsRooted c.setup) (sym plain)
            (rooted_with c.setup (plain_of_parts c.setup c.parts) (resting c) (rooted_open c.setup c.parts c.world c.none) it.root refl);
        shape = refl;
        keys = refl;
        shown = is;
      }
    where
      same_setup : c.parts.watch.setup ≡ c.setup
      same_setup = c.world.its_watch.its_setup

      shadow_shown : true_slots c.setup.shape (plain_of_parts c.setup c.parts) ≡ c.parts.watch.slots → IsShadowExhibit c.setup (with_board (plain_of_parts c.setup c.parts) (resting c)) exhibit
      shadow_shown true_are =
          let truth : true_slots c.setup.shape (with_board (plain_of_parts c.setup c.parts) (resting c)) ≡ c.parts.watch.slots =
          slots-free c.setup.shape (plain_of_parts c.setup c.parts) (resting c) (plain_of_parts c.setup c.parts).named ∙ true_are in
          let place = subst (λ (s : Setup). IsShadowDifference s.formulas (shadow_height s.shape) clash.slots c.parts.watch.slots its_clash.slot its_clash.height its_clash.position) same_setup its_clash.place in
          let its = subst (λ (s : Setup). exhibit ≡ Clash its_clash.position (shadow_tree_line s.formulas (shadow_height s.shape) clash.slots its_clash.height its_clash.position)
          (shadow_tree_line s.formulas (shadow_height s.shape) c.parts.watch.slots its_clash.height its_clash.position)) same_setup its_clash.its in
          record {
            slot = its_clash.slot;
            height = its_clash.height;
            position = its_clash.position;
            place =
                tampered_slot c empty_shown it.lines
                (λ clear. clash.other (slots_are ∙ slots_true c empty_shown it.lines clear it.size));
            one_root = ap (shadow_root c.setup.shape c.setup.formulas) (sym slots_are) ∙ (clash.root ∙ sym it.root);
            difference =
                subst (λ (ls : List Line). IsShadowDifference c.setup.formulas (shadow_height c.setup.shape) (slots_read c.setup.shape c.board.lines) ls its_clash.slot its_clash.height its_clash.position) (sym truth)
                (subst (λ (ls : List Line). IsShadowDifference c.setup.formulas (shadow_height c.setup.shape) ls c.parts.watch.slots its_clash.slot its_clash.height its_clash.position) slots_are place);
            its =
                its
                ∙ (ap (λ (ls : List Line). Clash its_clash.position (shadow_tree_line c.setup.formulas (shadow_height c.setup.shape) ls its_clash.height its_clash.position)
                (shadow_tree_line c.setup.formulas (shadow_height c.setup.shape) c.parts.watch.slots its_clash.height its_clash.position)) slots_are
                ∙ ap (λ (ls : List Line). Clash its_clash.position (shadow_tree_line c.setup.formulas (shadow_height c.setup.shape) (slots_read c.setup.shape c.board.lines) its_clash.height its_clash.position)
                (shadow_tree_line c.setup.formulas (shadow_height c.setup.shape) ls its_clash.height its_clash.position)) (sym truth));
          }
