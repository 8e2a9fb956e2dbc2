-- A recovery: what is left of the session, and what is answered.
use Rattle.std.proofs.Common.{ℕ, zero, suc, ◌≡◌, ◌≢◌, ◌<◌, ◌≤◌, ◌+◌, true, false, Bool, inl, inr, ◌⊎◌, List, [], ◌∷◌, length, Option, Some, None, Ok, Err, refl, sym, ap, subst, ◌∙◌, arith, rules}
use Rattle.tree_session.proofs.Common.{Result, IfSome, All, slice_index_or, cases_Bool, cases_eq, true≢false, same_Some, Line, Regs, IsLine, Setup, AreLinesOf, BoardMemory, device_of, redone, finishing_latches, Follows, Work, tree_slots, tree_size, line_of_slot, shadow_root, WatchState, Taken, steps_in, step_limit, device_during, none_taken, IsWatched, TreeRec, TreeState, IsTreeAnchored, IsTreeTrusted, IsSlotStored, slots_read, Rest, rest_of, rest_redone, HasTreeRecovered, IsGroupFinished, IsGroupBegun, AreSlotsRead, KeepsRestPlaces, KeepsRestNode, recover_parts, tree_recover_plan, IsNodeHeld, with_board, slots-place, lines-equal, length-slots_read, line_at-slots_read, TreeAnswer, HasTreeStarted, IsTreeCalled, on_said, board_resting, engine_made, watch_in, TreeParts, plain_of_parts, state_of, IsTreeWorld, IsTreeOff, IsTreeOpen, IsTreeAnswered, IsRooted, IsTreeMemoryWanted, SaysOfOn, HasTrueSlots, AnswersWith, IsSlotTampered, IsShadowRefusal, IsGroupDone, group_steps, board_redone, tree_recovery_bound}
use Rattle.call_plan.specs.Plans as plans
use Rattle.call_plan.proofs.StillCalls.{untouched, rests}
use Rattle.commit_regs.proofs.GroupLemmas.{one_latch}
use Rattle.asit_shadow.specs.declared.recovery.TreeRec.TheVariants as Fail
use Rattle.tree_session.specs.declared.commands.TreeCommand.TheVariants as Do
use Rattle.tree_session.specs.declared.answers.TreeAnswer.TheVariants as Say
use Rattle.tree_session.proofs.BoardSteps.{goes_on, cut_off, from_dark, cut_from_dark, then_rests, taken-exact}
use Rattle.tree_session.proofs.PlainStates.{plain_is, plain-kept, true_slots-is}
use Rattle.tree_session.proofs.Worlds.{IsFrame, opened, open_in, off_in, usable_on, usable_off, rooted_on, rooted_off}

-- a flag that is set below n, or none
some_flag : (flag : ℕ → Bool) (n : ℕ) → ((i : ℕ) → i < n → flag i ≡ false) ⊎ ((i : ℕ) × (i < n) × (flag i ≡ true))
some_flag flag zero = inl (λ i low. absurd (omega (arith, low)))
some_flag flag (suc n) =
    elim (cases_Bool (flag n)) [
      | inl set ↦ inr (n, omega arith, set)
      | inr clear ↦ elim (some_flag flag n) [
        | inr found ↦ let low = found.1 in inr (found.0, omega (arith, low), found.2)
        | inl none ↦
            inl (λ i low.
            elim (cases_eq i n) [
              | inl last ↦ subst (λ j. flag j ≡ false) (sym last) clear
              | inr other ↦ none i (omega (arith, low, other))
            ])
      ]
    ]

some_latch : (group : List (ℕ × Line)) → group ≢ [] → finishing_latches group ≡ 1
some_latch [] some = absurd (some refl)
some_latch (entry ∷ group) some = refl

-- a recovery, as the session's parts have it: power came on before it
pub record TreeRecoveryCall : Type 0 where
  pub setup : Setup
  pub parts : TreeParts
  pub board : BoardMemory
  pub watch : WatchState
  pub taken : Taken
  pub world : IsTreeWorld setup parts
  pub none : parts.watch.exhibit ≡ None
  pub there : parts.engine ≡ None
  pub watched : IsWatched (record parts.board { powered = true }) board taken
  pub pads : ℕ
  pub same_pads : pads ≡ parts.pads
  pub tags : ℕ
  pub same_tags : tags ≡ parts.tags
  pub before : ℕ
  pub same_before : before ≡ parts.digests
  pub later : ℕ

module _ (c : TreeRecoveryCall) where
  abbrev pub rest_from : Rest
  rest_from = rest_of (device_during (record c.parts.board { powered = true }) none_taken) c.parts.watch

  abbrev pub rest_to : Rest
  rest_to = rest_of (device_during c.board c.taken) c.watch

  abbrev pub left_with : BoardMemory → Option TreeState → TreeParts
  left_with board found = record c.parts { pads = c.pads; tags = c.tags; digests = c.later; board = board; watch = c.watch; engine = found }

  abbrev pub resting : BoardMemory
  resting = record c.board { powered = false }

  opened_in : IsTreeOpen c.setup c.parts
  opened_in = open_in c.setup c.parts c.world c.none

  off : IsTreeOff c.setup c.parts
  off = off_in c.setup c.parts (open_in c.setup c.parts c.world c.none) c.there

  pub dark : c.parts.board.powered ≡ false
  dark = (off_in c.setup c.parts (open_in c.setup c.parts c.world c.none) c.there).unpowered

  pub anchored_from : IsTreeAnchored c.setup c.parts.board.regs c.parts.watch
  anchored_from = (off_in c.setup c.parts (open_in c.setup c.parts c.world c.none) c.there).anchored

  -- the board followed the plan to this end
  abbrev pub RecoversBy : Result (TreeState × Work) TreeRec → Type 0
  RecoversBy end =
      Follows (tree_recover_plan c.setup c.parts.board.regs (recover_parts c.parts.watch c.parts.digests))
      (device_during (record c.parts.board { powered = true }) none_taken) (device_during c.board c.taken) (plans.ended end (recover_parts c.watch c.later))

  pub uncut : c.board.powered ≡ true → c.board.powered ≡ false → steps_in c.taken < step_limit
  uncut lit unlit = absurd (true≢false (sym lit ∙ unlit))

  -- power came on, and recovery ended so
  pub started : (said : Option TreeAnswer) (end : Result (TreeState × Work) TreeRec) (board : BoardMemory) (found : Option TreeState) → said ≡ on_said c.taken end
      → RecoversBy end → c.watch.setup ≡ c.setup → (c.board.powered ≡ false → steps_in c.taken < step_limit) → board ≡ board_resting end c.board → found ≡ engine_made end
      → HasTreeStarted c.setup (state_of c.setup c.parts) (state_of c.setup (left_with board found)) said
  started said end board found is follows its_setup within rests made =
      record {
        board = c.board;
        taken = c.taken;
        end = end;
        outcome =
            record {
              run = record { follows = c.watched.follows; within = within };
              follows =
                  subst (λ w. Follows (tree_recover_plan c.setup c.parts.board.regs (recover_parts w c.parts.digests))
                  (device_during (record c.parts.board { powered = true }) none_taken) (device_during c.board c.taken)
                  (plans.ended end (recover_parts (watch_in c.setup (state_of c.setup (left_with board found))) c.later)))
                  (λ i. record c.parts.watch { setup = c.world.its_watch.its_setup i })
                  (subst (λ w. Follows (tree_recover_plan c.setup c.parts.board.regs (recover_parts c.parts.watch c.parts.digests))
                  (device_during (record c.parts.board { powered = true }) none_taken) (device_during c.board c.taken) (plans.ended end (recover_parts w c.later)))
                  (λ i. record c.watch { setup = its_setup i }) follows);
            };
        is_said = is;
        rests = rests;
        made = made;
        pads = c.same_pads;
        tags = c.same_tags;
      }

  answered : (answer : TreeAnswer) (end : Result (TreeState × Work) TreeRec) (board : BoardMemory) (found : Option TreeState) → Some answer ≡ on_said c.taken end
      → RecoversBy end → c.watch.setup ≡ c.setup → (c.board.powered ≡ false → steps_in c.taken < step_limit) → board ≡ board_resting end c.board → found ≡ engine_made end
      → c.watch.exhibit ≡ None → IsRooted c.setup (plain_of_parts c.setup (left_with board found))
      → plain_of_parts c.setup (left_with board found) ≡ with_board (plain_of_parts c.setup c.parts) board
      → SaysOfOn c.setup (plain_of_parts c.setup c.parts) (plain_of_parts c.setup (left_with board found)) answer
      → IsTreeAnswered c.setup (state_of c.setup c.parts) Do.On answer (state_of c.setup (left_with board found))
  answered answer end board found is follows its_setup within rests made none rooted plain it =
      record {
        not_shown = c.none;
        kept = record { shape = refl; keys = refl; shown = none ∙ sym c.none };
        answered =
            subst (λ (b : Bool). AnswersWith c.setup (plain_of_parts c.setup c.parts) Do.On (plain_of_parts c.setup (left_with board found)) answer
            (Rattle.std.specs.Prelude.if◌then◌else◌ b (Some Say.Already) None)) (sym dark) it;
        called =
            subst (λ (b : Bool). IsTreeCalled c.setup (state_of c.setup c.parts) Do.On (state_of c.setup (left_with board found)) answer
            (Rattle.std.specs.Prelude.if◌then◌else◌ b (Some Say.Already) None)) (sym dark)
            (started (Some answer) end board found is follows its_setup within rests made, plain);
        rooted = rooted;
      }

  -- what is left is of the same session
  pub frame : (board : BoardMemory) (found : Option TreeState) → board.lines ≡ c.board.lines → length c.board.lines ≡ length c.parts.board.lines → c.watch.setup ≡ c.parts.watch.setup
      → c.watch.seals ≡ c.parts.watch.seals → c.watch.nodes ≡ c.parts.watch.nodes → c.watch.slots ≡ c.parts.watch.slots → IsFrame c.setup (left_with board found)
  frame board found lines size setup seals nodes slots =
      record {
        shape = c.world.whole_shape;
        formulas = c.world.whole_formulas;
        watch =
            record {
              its_setup = setup ∙ c.world.its_watch.its_setup;
              seal_count = ap length seals ∙ c.world.its_watch.seal_count;
              node_count = ap length nodes ∙ c.world.its_watch.node_count;
              slot_count = ap length slots ∙ c.world.its_watch.slot_count;
              whole_slots = subst (All IsLine) (sym slots) c.world.its_watch.whole_slots;
            };
        lines =
            subst (AreLinesOf (tree_size c.setup.shape)) (sym lines)
            (record { count = size ∙ c.world.whole_lines.count; each = c.watched.each_line });
        tampered = c.world.tampered_count;
        hurt = c.world.hurt_count;
      }

  frame_same : (board : BoardMemory) (found : Option TreeState) → board.lines ≡ c.board.lines → length c.board.lines ≡ length c.parts.board.lines → c.watch ≡ c.parts.watch
      → IsFrame c.setup (left_with board found)
  frame_same board found lines size same =
      frame board found lines size (ap (λ (w : WatchState). w.setup) same) (ap (λ (w : WatchState). w.seals) same) (ap (λ (w : WatchState). w.nodes) same)
      (ap (λ (w : WatchState). w.slots) same)

  plain_same : (q : TreeParts) → q.watch ≡ c.watch → c.watch ≡ c.parts.watch → q.tampered ≡ c.parts.tampered → q.hurt ≡ c.parts.hurt
      → plain_of_parts c.setup q ≡ with_board (plain_of_parts c.setup c.parts) q.board
  plain_same q its same tampered hurt =
      plain-kept c.setup c.parts q (ap (λ (w : WatchState). w.seals) (its ∙ same)) (ap (λ (w : WatchState). w.nodes) (its ∙ same)) (ap (λ (w : WatchState). w.slots) (its ∙ same)) tampered hurt

  -- the steps are those of the whole group and its latch, which are few enough
  pub finished_steps : IsGroupFinished (device_during (record c.parts.board { powered = true }) none_taken) (device_during c.board c.taken) → steps_in c.taken ≡ group_steps c.parts.board
  finished_steps it = search (rules, taken-exact)

  group_few : group_steps c.parts.board ≤ tree_recovery_bound c.setup.shape
  group_few = omega (arith, one_latch c.parts.board.regs.group.items, off.small_group)

  few_steps : steps_in c.taken ≡ group_steps c.parts.board → steps_in c.taken ≤ tree_recovery_bound c.setup.shape
  few_steps is = let few = group_few in omega (arith, is, few)

  -- ---- where the group is finished, the lines are those that it makes
  module _ (empty : c.board.regs.group.items ≡ []) (again : rest_redone rest_to ≡ rest_redone rest_from) where
    lines_made : c.board.lines ≡ board_redone c.parts.board
    lines_made =
        let here : redone c.board.regs.group.items c.board.lines ≡ redone c.parts.board.regs.group.items c.parts.board.lines = same_Some _ _ again in
        sym (ap (λ g. redone g c.board.lines) empty) ∙ here

    pub group_done : (b : BoardMemory) → b.lines ≡ c.board.lines → b.regs ≡ c.board.regs
        → IsGroupFinished (device_during (record c.parts.board { powered = true }) none_taken) (device_during c.board c.taken) → IsGroupDone c.parts.board b
    group_done b lines regs finished = record { lines = lines ∙ lines_made; regs = regs ∙ finished.regs }

    -- where no slot line was changed, the device has the true ones
    pub slots_true : ((i : ℕ) → i < tree_slots c.setup.shape → slice_index_or c.parts.tampered (line_of_slot c.setup.shape i) false ≡ false)
        → length c.board.lines ≡ length c.parts.board.lines → slots_read c.setup.shape c.board.lines ≡ c.parts.watch.slots
    slots_true clear size =
        slots-place c.setup c.board.lines c.parts.board.regs c.parts.watch anchored_from (size ∙ c.world.whole_lines.count)
        (λ i inside.
        let stored : IsSlotStored c.setup.shape (redone c.parts.board.regs.group.items c.parts.board.lines) c.parts.watch i = opened_in.places.slots i inside (clear i inside) in
        subst (λ ls. IsSlotStored c.setup.shape ls c.parts.watch i) (sym lines_made) stored)

    pub tampered_slot : (((i : ℕ) → i < tree_slots c.setup.shape → slice_index_or c.parts.tampered (line_of_slot c.setup.shape i) false ≡ false) → ⊥)
        → IsSlotTampered c.setup.shape c.parts.tampered
    tampered_slot not =
        elim (some_flag (λ i. slice_index_or c.parts.tampered (line_of_slot c.setup.shape i) false) (tree_slots c.setup.shape)) [
          | inl clear ↦ absurd (not clear)
          | inr found ↦ record { slot = found.0; inside = found.1; its_line = found.2 }
        ]

  -- the slot lines read are those of the device
  pub read_are : (slots : List Line) → length c.board.lines ≡ length c.parts.board.lines → AreSlotsRead c.setup.shape slots (device_during c.board c.taken) → slots ≡ slots_read c.setup.shape c.board.lines
  read_are slots size read =
      let count = length-slots_read c.setup.shape c.board.lines (size ∙ c.world.whole_lines.count) in
      lines-equal slots (slots_read c.setup.shape c.board.lines) (read.count ∙ sym count)
      (λ i low.
      let inside : i < tree_slots c.setup.shape = omega (arith, low, read.count) in
      read.told i inside ∙ sym (line_at-slots_read c.setup.shape c.board.lines i inside))

  -- ---- recovered

  module _ (engine : TreeState) (work : Work) (it : HasTreeRecovered c.setup rest_from rest_to c.before c.later (Ok (engine, work)))
      (follows : RecoversBy (Ok (engine, work))) where
    trusted_made : IsTreeTrusted c.setup engine c.board.regs c.watch
    trusted_made = it.trusted anchored_from

    same_made : c.watch ≡ c.parts.watch
    same_made = it.answered.0.same

    places_made : KeepsRestPlaces c.setup rest_from rest_to (Ok (engine, work))
    places_made = it.places anchored_from

    powered_made : c.board.powered ≡ true
    powered_made = it.power.1 refl

    pub recovered_held : IsTreeWorld c.setup (left_with c.board (Some engine))
    recovered_held =
        opened c.setup (left_with c.board (Some engine)) (frame_same c.board (Some engine) refl it.size same_made)
        (ap (λ (w : WatchState). w.exhibit) same_made ∙ c.none)
        (record {
          chip =
              record {
                powered = powered_made;
                its_shape = trusted_made.its_shape;
                usable = usable_on c.setup engine (device_of c.board) c.watch (it.size ∙ c.world.whole_lines.count) trusted_made;
                trusted = trusted_made;
                nodes = λ x unchanged. places_made.nodes x unchanged.0 (off.nodes x unchanged);
              };
          places =
              record {
                seals = λ a inside clear. places_made.seals a inside (opened_in.places.seals a inside clear);
                slots = λ i inside clear. places_made.slots i inside (opened_in.places.slots i inside clear);
              };
        })

    -- the slot lines that it read were the true ones
    slots_made : HasTrueSlots c.setup (plain_of_parts c.setup (left_with c.board (Some engine)))
    slots_made =
        sym (read_are it.answered.0.slots it.size it.answered.0.read)
        ∙ (it.answered.0.true_slots
        ∙ (ap (λ (w : WatchState). w.slots) (sym same_made)
        ∙ sym (true_slots-is c.setup c.watch c.board.regs c.world.whole_shape trusted_made.anchored (plain_of_parts c.setup (left_with c.board (Some engine)))
        (plain_is c.setup (left_with c.board (Some engine)) c.board.regs c.world.whole_shape trusted_made.anchored))))

    pub recovered_done : IsTreeAnswered c.setup (state_of c.setup c.parts) Do.On (Say.Recovered work.digests (steps_in c.taken)) (state_of c.setup (left_with c.board (Some engine)))
    recovered_done =
        let plain = plain_same (left_with c.board (Some engine)) refl same_made refl refl in
        answered (Say.Recovered work.digests (steps_in c.taken)) (Ok (engine, work)) c.board (Some engine) refl follows (ap (λ (w : WatchState). w.setup) same_made ∙ c.world.its_watch.its_setup) (uncut powered_made) refl refl
        (ap (λ (w : WatchState). w.exhibit) same_made ∙ c.none)
        (rooted_on c.setup (left_with c.board (Some engine)) c.world.whole_shape trusted_made.anchored trusted_made.no_group) plain (
          it.answered.1.digests,
          from_dark (steps_in c.taken) true c.parts.board c.board (goes_on (record c.parts.board { powered = true }) c.board c.taken c.watched powered_made),
          group_done trusted_made.no_group it.lines c.board refl refl it.group,
          finished_steps it.group,
          few_steps (finished_steps it.group),
          plain,
          slots_made,
        )

  -- ---- power is off afterwards, and the watch knows what it knew

  dark_held : (power : Bool) → power ≡ false → (answer : Result (TreeState × Work) TreeRec) → length c.board.lines ≡ length c.parts.board.lines → c.watch ≡ c.parts.watch
      → IsTreeAnchored c.setup c.board.regs c.watch → length c.board.regs.group.items ≤ c.setup.shape.levels + 3 → KeepsRestPlaces c.setup rest_from rest_to answer
      → ((x : ℕ) → KeepsRestNode c.setup rest_to answer x → IfSome (rest_redone rest_to) (λ lines. IsNodeHeld c.setup lines c.watch x))
      → IsTreeWorld c.setup (left_with (record c.board { powered = power }) None)
  dark_held power unpowered answer size same anchored small places held =
      opened c.setup (left_with (record c.board { powered = power }) None) (frame_same (record c.board { powered = power }) None refl size same)
      (ap (λ (w : WatchState). w.exhibit) same ∙ c.none)
      (record {
        chip =
            record {
              unpowered = unpowered;
              usable = usable_off c.setup (device_of (record c.board { powered = power })) c.watch (size ∙ c.world.whole_lines.count) anchored;
              small_group = small;
              anchored = anchored;
              nodes = λ x unchanged. held x (places.nodes x unchanged.0 (off.nodes x unchanged));
            };
        places =
            record {
              seals = λ a inside clear. places.seals a inside (opened_in.places.seals a inside clear);
              slots = λ i inside clear. places.slots i inside (opened_in.places.slots i inside clear);
            };
      })

  -- ---- cut

  module _ (it : HasTreeRecovered c.setup rest_from rest_to c.before c.later (Err Fail.Cut)) (follows : RecoversBy (Err Fail.Cut)) where
    begun_of : IsGroupBegun (device_during (record c.parts.board { powered = true }) none_taken) (device_during c.board c.taken)
    begun_of = it.begun refl refl

    cut_group : length c.board.regs.group.items ≤ c.setup.shape.levels + 3
    cut_group =
        let begun = begun_of in
        omega (arith, ap (λ (r : Regs). length r.group.items) begun.regs, off.small_group)

    cut_steps : steps_in c.taken < tree_recovery_bound c.setup.shape
    cut_steps = search (rules, begun_of)

    -- a cut comes before the group is finished
    cut_early : steps_in c.taken < group_steps c.parts.board
    cut_early = search (rules, begun_of, some_latch)

    pub cut_held : IsTreeWorld c.setup (left_with c.board None)
    cut_held =
        dark_held c.board.powered it.power.1 (Err Fail.Cut) it.size it.answered (it.trusted anchored_from) cut_group (it.places anchored_from) (λ x held. held)

    pub cut_done : IsTreeAnswered c.setup (state_of c.setup c.parts) Do.On (Say.Cut (steps_in c.taken)) (state_of c.setup (left_with c.board None))
    cut_done =
        let few : steps_in c.taken < step_limit = omega (arith, cut_steps, c.world.whole_shape.at_most_six_levels) in
        let plain = plain_same (left_with c.board None) refl it.answered refl refl in
        answered (Say.Cut (steps_in c.taken)) (Err Fail.Cut) c.board None refl follows (ap (λ (w : WatchState). w.setup) it.answered ∙ c.world.its_watch.its_setup) (λ _. few) (ap (λ p. record c.board { powered = p }) it.power.1) refl
        (ap (λ (w : WatchState). w.exhibit) it.answered ∙ c.none)
        (rooted_off c.setup (left_with c.board None) c.world.whole_shape (it.trusted anchored_from) it.power.1) plain (
          cut_from_dark (steps_in c.taken) c.parts.board c.board (cut_off (record c.parts.board { powered = true }) c.board c.taken c.watched it.power.1 few),
          same_Some _ _ it.lines,
          (it.begun refl refl).regs,
          cut_early,
          cut_steps,
          plain,
        )

  -- ---- the root is refused

  module _ (kept found : List ℕ) (it : HasTreeRecovered c.setup rest_from rest_to c.before c.later (Err (Fail.Shadow kept found)))
      (follows : RecoversBy (Err (Fail.Shadow kept found))) where
    abbrev refused : Rattle.asit_shadow.specs.Recovering.IsRootRefused c.setup kept found rest_from rest_to
    refused = it.answered.0

    same_refused : c.watch ≡ c.parts.watch
    same_refused = it.answered.1

    empty_refused : c.board.regs.group.items ≡ []
    empty_refused = ap (λ (r : Regs). r.group.items) it.group.regs

    anchored_refused : IsTreeAnchored c.setup c.board.regs c.watch
    anchored_refused = it.trusted anchored_from

    found_is : found ≡ shadow_root c.setup.shape c.setup.formulas (slots_read c.setup.shape c.board.lines)
    found_is = refused.root ∙ ap (shadow_root c.setup.shape c.setup.formulas) (read_are refused.slots it.size refused.read)

    not_clear : ((i : ℕ) → i < tree_slots c.setup.shape → slice_index_or c.parts.tampered (line_of_slot c.setup.shape i) false ≡ false) → ⊥
    not_clear clear =
        refused.differ
        (refused.register
        ∙ (anchored_from.root ∙ (ap (shadow_root c.setup.shape c.setup.formulas) (sym (slots_true empty_refused it.lines clear it.size)) ∙ sym found_is)))

    pub refused_held : IsTreeWorld c.setup (left_with resting None)
    refused_held =
        dark_held false refl (Err (Fail.Shadow kept found)) it.size same_refused anchored_refused (omega (arith, ap length empty_refused)) (it.places anchored_from) (λ x held. held)

    pub refused_done : IsTreeAnswered c.setup (state_of c.setup c.parts) Do.On (Say.RefusedShadow kept found (steps_in c.taken)) (state_of c.setup (left_with resting None))
    refused_done =
        let plain = plain_same (left_with resting None) refl same_refused refl refl in
        answered (Say.RefusedShadow kept found (steps_in c.taken)) (Err (Fail.Shadow kept found)) resting None refl follows (ap (λ (w : WatchState). w.setup) same_refused ∙ c.world.its_watch.its_setup) (uncut (it.power.1 refl)) refl refl
        (ap (λ (w : WatchState). w.exhibit) same_refused ∙ c.none)
        (rooted_off c.setup (left_with resting None) c.world.whole_shape anchored_refused refl) plain (
          subst (λ s. IsShadowRefusal c.setup s kept found) (sym plain)
              (record {
                place = tampered_slot empty_refused it.lines not_clear;
                its_root = refused.register ∙ sym it.root;
                root_found = found_is;
                differ = refused.differ;
              }),
          from_dark (steps_in c.taken) false c.parts.board resting
              (then_rests (steps_in c.taken) (record c.parts.board { powered = true }) c.board
              (goes_on (record c.parts.board { powered = true }) c.board c.taken c.watched (it.power.1 refl))),
          group_done empty_refused it.lines resting refl refl it.group,
          finished_steps it.group,
          few_steps (finished_steps it.group),
          plain,
        )

  -- ---- want of memory

  module _ (it : HasTreeRecovered c.setup rest_from rest_to c.before c.later (Err Fail.Memory)) where
    same_device : device_during c.board c.taken ≡ device_during (record c.parts.board { powered = true }) none_taken
    same_device = ap (λ (r : Rest). r.device) it.answered

    pub as_it_was : left_with resting None ≡ c.parts
    as_it_was =
        let lit : BoardMemory = record c.parts.board { powered = true } in
        let rested : resting ≡ c.parts.board = rests c.parts.board lit c.board refl dark (untouched lit c.board c.taken c.watched same_device refl) in
        same_parts (left_with resting None) c.parts refl c.same_pads c.same_tags (it.work ∙ c.same_before) rested (ap (λ (r : Rest). r.watch) it.answered) (sym c.there) refl refl
      where
        same_parts : (p q : TreeParts) → p.keys ≡ q.keys → p.pads ≡ q.pads → p.tags ≡ q.tags → p.digests ≡ q.digests → p.board ≡ q.board → p.watch ≡ q.watch → p.engine ≡ q.engine → p.tampered ≡ q.tampered → p.hurt ≡ q.hurt → p ≡ q
        same_parts p q keys pads tags digests board watch engine tampered hurt = grind arith

    -- it wasn't on already
    pub memory_wanted : IsTreeMemoryWanted (state_of c.setup c.parts) Do.On × (state_of c.setup (left_with resting None) ≡ state_of c.setup c.parts)
    memory_wanted = (record { takes = refl; not_shown = c.none; needs = dark }, ap (state_of c.setup) as_it_was)

    pub memory_held : IsTreeWorld c.setup (left_with resting None)
    memory_held = subst (IsTreeWorld c.setup) (sym as_it_was) c.world
