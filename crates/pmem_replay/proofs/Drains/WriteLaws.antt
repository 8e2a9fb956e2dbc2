-- Drains and fences: the reply is legal and fits, whatever the engine makes of the last write.
use Rattle.std.proofs.Common.{ℕ, suc, ◌≡◌, ◌≢◌, ◌<◌, ◌≤◌, ◌+◌, ◌-◌, ◌++◌, inl, inr, true, false, List, [], ◌∷◌, take, Option, Some, None, Err, IsTrue, refl, sym, ap, subst, ◌∙◌, arith}
use Rattle.std.specs.Prelude.{⊤, All, Result, MatchOption, MatchBool, IfSome, is_none, unwrap_or, option_map}
use Rattle.std.proofs.lemmas.Option.{same_Some, slice_get_within}
use Rattle.std.proofs.lemmas.Bool.{false_from_ne_true}
use Rattle.std.proofs.lemmas.List.{append-nil}
use Rattle.pmem_base.specs.declared.lines.Ctr.{Ctr}
use Rattle.pmem_base.specs.declared.commands.Posted.{Posted}
use Rattle.pmem_base.specs.declared.commands.Command.{Command}
use Rattle.pmem_base.specs.declared.answers.Mark.{Mark}
use Rattle.pmem_base.specs.declared.answers.Exhibit.{Exhibit}
use Rattle.pmem_base.specs.declared.answers.Exhibit.TheVariants.{Clash, Forged}
use Rattle.pmem_base.specs.declared.answers.Place.{Place}
use Rattle.pmem_base.specs.declared.answers.Answer.TheVariants as Say
use Rattle.pmem_base.specs.Layout as layout
use Rattle.pmem_base.specs.Layout.{page_of}
use Rattle.pmem_base.specs.Lines.{line_at}
use Rattle.pmem_base.specs.Marks.{last_seal}
use Rattle.pmem_base.specs.WaitingWrites.{queue_of}
use Rattle.bonsai_tree.specs.Positions.{is_on_path}
use Rattle.meta_path.specs.Blocks.{dirty_count}
use Rattle.suite.specs.Formulas.{cipher_of}
use Rattle.suite.specs.Setup.{Setup}
use Rattle.plain_model.specs.State.{PlainState, is_flagged}
use Rattle.plain_model.specs.View.{view_after_marks, counter_at, true_line}
use Rattle.plain_model.specs.After.{after_drains}
use Rattle.plain_model.specs.Asked.{Moment, moment_of, marks_of_write, marks_of_writes}
use Rattle.plain_model.specs.Legal.{port_drained, state_at_turn, can_put_first, MayDiffer, IsRefusalCaused}
use Rattle.plain_model.specs.Shown.{IsShown}
use Rattle.plain_model.specs.Bounds.{writing_bound, path_length, spent_bound, dirty_bound, is_spent_in_flight, cut_bound, IsCutWriteWithin, IsSpentWithin}
use Rattle.plain_model.specs.Fits.{IsStopped, IsSpentNext, IsPlaceInFlight}
use Rattle.pmem_engine.specs.declared.fault.Fault.{Fault}
use Rattle.pmem_engine.specs.declared.fault.Fault.TheVariants as Fail
use Rattle.pmem_engine.specs.Engine.{EngineState}
use Rattle.call_effects.specs.Outcomes.{going}
use Rattle.pmem_engine.specs.Outcomes.{outcome_of, is_sealed_by, OneLossEffect, KeepsPlaces}
use Rattle.pmem_engine.specs.Faults.{IsClashShown}
use Rattle.pmem_engine.specs.Calls.{HasWrittenLine, IsPartOf, IsRefusedLine, TakesOfWrite, TakesSpent, write_bound, IsForgedInWrite}
use Rattle.pmem_engine.proofs.Laws.TrueLines.{true_line-is}
use Rattle.pmem_replay.specs.World.{WorldState, IsOn, IsWorld, view_in, lines_in}
use Rattle.watched_board.specs.declared.taken.Taken.{Taken}
use Rattle.watched_board.specs.Watching.{none_taken, steps_in, step_limit}
use Rattle.watched_board.proofs.StepLaws.{at_most, fewer}
use Rattle.pmem_replay.specs.During.{parts_in}
use Rattle.pmem_engine.proofs.PostedWrites.WriteParts.{last_seal-unsealed}
use Rattle.pmem_engine.proofs.PostedWrites.StoppedWrites.{stopped}
use Rattle.pmem_replay.proofs.Marks.SealedLines.{counter_now}
use Rattle.pmem_replay.specs.EngineCalls.{IsCall}
use Rattle.pmem_replay.proofs.Steps.WorldsAfterCalls.{on_in, cut_at_fuse, within_fuse}
use Rattle.pmem_replay.proofs.Steps.FaultCauses.{on_path-within, may_differ, fetched_before, stored_unspoiled, hurt_before, tag_unstored, forged_unstored, forged_other, zero_within, shown_uncut}
use Rattle.pmem_replay.proofs.Marks.DirtyBlocks.{dirty_count-le}
use Rattle.pmem_replay.proofs.Steps.MarklessCalls.{accounted_in}
use Rattle.pmem_replay.proofs.Marks.OpenPages.{IsWholePage, whole_pages}
use Rattle.pmem_replay.proofs.Marks.AskedMarks.{asked_form, asked_seals, asked_few, refused_within, part_apart}
use Rattle.plain_model.proofs.WriteMarks.{writing_bound-append}
use Rattle.pmem_replay.proofs.Drains.DrainLists.{writing_bound-few}
use Rattle.pmem_replay.proofs.Drains.WriteWorlds.{front_on_memory}
use Rattle.pmem_replay.proofs.Drains.DrainChain.{IsDrainedTo, IsNextDrain, next-known, next-short, can-more, marks-more, fuse_more, fuse_cut, drains_fuse}
use Rattle.pmem_replay.proofs.Drains.WriteReplies.{IsReplayWriting, part_none, place_refused, meta_refused, refused_part}
use Rattle.pmem_replay.proofs.Steps.GoodReplies.{IsGood, good}
use Rattle.pmem_replay.proofs.Drains.WriteBounds.{takes_meta, takes_tag, some_asked, view_both, refused_bound, refusal_within, none_within, bound_by, first_next, bound_at, CanBeRefusedIn, next_count}

module _ (setup : Setup) (old mid new : WorldState) (command : Command) (d : Option ℕ) (port n : ℕ) (made : List Mark) (spent : ℕ)
    (writing : IsReplayWriting setup old command d port n) (drained : IsDrainedTo setup old mid port n made spent) (world : IsWorld setup old)
    (small : port < 8) (write : Posted) (later : List Posted) (waits : queue_of mid.state.queues port ≡ write ∷ later)
    (engine after : EngineState) (taken : Taken) (call : IsCall setup mid new engine after taken) where
  on_mid : IsOn setup mid engine
  on_mid = on_in setup mid engine call.world call.was_on

  abbrev queue : List Posted
  queue = queue_of old.state.queues port

  abbrev now : Moment
  now = moment_of old.state (view_in setup old)

  abbrev asked : Option (List Mark)
  asked = marks_of_write setup.formulas (moment_of mid.state (view_in setup mid)) write

  abbrev x_state : PlainState
  x_state = after_drains old.state port n

  next : IsNextDrain setup old mid port n made write
  next = next-known setup old mid port n made spent drained world small write later waits

  within : write.at < layout.data_lines setup.shape
  within = front_on_memory setup mid.state port write later call.world.queues small waits

  pages_whole : All (IsWholePage setup.shape) (view_in setup mid).open_pages
  pages_whole = whole_pages setup mid.board.regs mid.ledger on_mid.trusted.anchored

  -- the fuse of the world in between
  mid_fuse : mid.state.fuse ≡ option_map (λ left. left - spent) old.state.fuse
  mid_fuse =
      ap (λ (s : PlainState). s.fuse) drained.state ∙ ap (option_map (λ left. left - spent)) (drains_fuse old.state port n)

  all_within : new.board.powered ≡ true → IfSome old.state.fuse (λ left. spent + steps_in taken ≤ left)
  all_within powered =
      fuse_more old.state.fuse spent (steps_in taken) drained.fuse
      (subst (λ fuse. IfSome fuse (λ left. steps_in taken ≤ left)) mid_fuse
      (within_fuse mid.state mid.board new.board taken call.world.board call.follows powered))

  all_cut : new.board.powered ≡ false → steps_in taken < step_limit → old.state.fuse ≡ Some (spent + steps_in taken)
  all_cut off few =
      fuse_cut old.state.fuse spent (steps_in taken) drained.fuse
      (sym mid_fuse ∙ cut_at_fuse mid.state mid.board new.board taken call.world.board call.follows off few)

  done_writes : IsTrue (can_put_first old.state (port_drained command) (unwrap_or d 0))
  done_writes =
      subst (λ p. IsTrue (can_put_first old.state p (unwrap_or d 0))) (sym writing.its_port)
      (subst (λ k. IsTrue (can_put_first old.state port k)) (sym writing.count) drained.can)

  turn_state : state_at_turn old.state command (unwrap_or d 0) ≡ x_state
  turn_state = ap (state_at_turn old.state command) writing.count ∙ writing.turn

  -- what a refusal of a data line rests on
  data_caused : (b : ℕ) → IsTrue (is_flagged mid.state.hurt b)
      → IsRefusalCaused setup (state_at_turn old.state command (unwrap_or d 0)) command (Place.Line b)
  data_caused b hurt =
      subst (λ s. IsRefusalCaused setup s command (Place.Line b)) (sym turn_state)
      (subst (λ (s : PlainState). IsTrue (is_flagged s.hurt b)) drained.state hurt, writing.no_read b)

  -- and of a metadata line
  meta_caused : (x : ℕ) → IsTrue (is_on_path setup.shape (page_of write.at) x) → MayDiffer setup mid.state x
      → IsRefusalCaused setup (state_at_turn old.state command (unwrap_or d 0)) command (Place.Meta x)
  meta_caused x on may =
      subst (λ s. IsRefusalCaused setup s command (Place.Meta x)) (sym turn_state)
      (subst (λ a. MatchOption a ⊥ (λ a. IsTrue (is_on_path setup.shape (page_of a) x) × MayDiffer setup x_state x))
      (sym (writing.line x_state ∙ ap (option_map (λ write. write.at)) next.front))
      (on, subst (λ s. MayDiffer setup s x) drained.state may))

  -- ---- refusals

  -- the refusal of a place is legal and fits, with so many steps
  refusal : (more : List Mark) (place : Place) (steps : ℕ) → IfSome old.state.fuse (λ left. steps ≤ left)
      → IsRefusalCaused setup (state_at_turn old.state command (unwrap_or d 0)) command place
      → IsPartOf asked more → IsPlaceInFlight setup.formulas now queue n (made ++ more) place
      → (asked ≡ None → IsSpentWithin setup.shape old.state d (made ++ more) steps)
      → steps ≤ writing_bound setup.shape (n + 1) (made ++ more)
      → CanBeRefusedIn setup old command (made ++ more) d place steps
  refusal more place steps fuse caused part in_flight if_spent bound =
      record {
        legal = record { listed = writing.can_refuse place steps; within_fuse = fuse; writes_whole = done_writes; caused = caused };
        fits =
            record {
              marks_asked =
                  writing.marks (made ++ more) (Say.Refused d place steps)
                  (subst (λ k. IsStopped setup.formulas now queue k (made ++ more) × IsPlaceInFlight setup.formulas now queue k (made ++ more) place)
                  (sym writing.count)
                  (stopped setup.formulas now queue n made more asked write next.its_place drained.asked next.asked part, in_flight));
              peek_true = writing.peek (Say.Refused d place steps);
              steps_counted = tt;
              flush_true = tt;
              within_bounds =
                  writing.bounds (made ++ more) (Say.Refused d place steps)
                  (refusal_within setup old mid port n made spent write drained next d writing.count (made ++ more) steps if_spent bound);
            };
      }

  -- a spent write makes the steps of its path alone, and of blocks that were dirty
  module _ (answer : Result Ctr Fault) (written : HasWrittenLine setup write (parts_in mid engine none_taken) (parts_in new after taken) answer)
      (goes : outcome_of answer ≡ going) (none : asked ≡ None) where
    pub path-steps : (steps_in taken ≤ path_length setup.shape) × (steps_in taken ≤ dirty_bound setup.shape mid.state)
    path-steps =
        let takes =
        subst (λ o. TakesSpent setup.shape o (parts_in mid engine none_taken) (parts_in new after taken)) goes
        (written.steps_of_spent on_mid.trusted mid.state.memory call.world.memory.each none) in
        let path = at_most taken (path_length setup.shape) call.follows.few takes.0.sum in
        let dirty = at_most taken (dirty_count setup.shape engine.cache) call.follows.few takes.1.0.sum in
        let few = dirty_count-le setup.shape engine.cache mid.state (accounted_in setup mid engine call.world on_mid) in
        (path, omega (arith, dirty, few))

    -- in a fence
    pub path-bound : spent + steps_in taken ≤ writing_bound setup.shape n (made ++ written.made) + spent_bound setup.shape
    path-bound =
        omega (arith, drained.bound, path-steps.0, writing_bound-append setup.shape 0 n made written.made)

  module _ (x : ℕ) (written : HasWrittenLine setup write (parts_in mid engine none_taken) (parts_in new after taken) (Err (Fail.Meta x))) where
    pub meta-made : written.made ≡ []
    meta-made = written.marks on_mid.trusted mid.state.memory call.world.memory.each

    pub meta-good : (asked ≡ None → IsSpentWithin setup.shape old.state d (made ++ written.made) (spent + steps_in taken))
        → IsGood setup old command (record { marks = made ++ written.made; answer = Say.Refused d (Place.Meta x) (spent + steps_in taken) })
    meta-good if_spent =
        let refused = written.answered on_mid.trusted mid.state.memory call.world.memory.each in
        let done = subst (λ m. OneLossEffect setup going m (parts_in mid engine none_taken) (parts_in new after taken)) meta-made written.done in
        let powered = done.gone.power.1 (call.world.board.power ∙ on_mid.powered) in
        let in_tree = on_path-within setup.shape (page_of write.at) x (omega (arith, within)) refused.fetched.on_path in
        let other : refused.line ≢ line_at mid.ledger.truth x = λ same. refused.other_digest (ap (setup.formulas.digest_of x) same) in
        let few = at_most taken (write_bound setup.shape written.made) call.follows.few
        (takes_meta setup.shape asked written.made (parts_in mid engine none_taken) (parts_in new after taken) x
        (written.steps on_mid.trusted mid.state.memory call.world.memory.each)).sum in
        let it =
        refusal written.made (Place.Meta x) (spent + steps_in taken) (all_within powered)
        (meta_caused x refused.fetched.on_path
        (may_differ setup mid engine x refused.line on_mid in_tree refused.fetched.uncached
        (fetched_before setup mid new engine after taken (page_of write.at) x refused.line call.world.whole_shape on_mid done.gone in_tree refused.fetched other)
        other))
        (subst (IsPartOf asked) (sym meta-made) (part_none asked (some_asked setup mid write pages_whole)))
        (meta_refused setup.formulas now queue n made written.made asked write next.its_place drained.asked next.asked x meta-made)
        if_spent (refused_bound setup.shape n made written.made spent (steps_in taken) drained.bound few) in
        record { legal = record { legal = it.legal; shown = tt }; fits = it.fits }

  module _ (b : ℕ) (written : HasWrittenLine setup write (parts_in mid engine none_taken) (parts_in new after taken) (Err (Fail.Tag b))) where
    tag_line_of : IsRefusedLine asked written.made write b
    tag_line_of = written.marks on_mid.trusted mid.state.memory call.world.memory.each

    pub tag-good : (asked ≡ None → IsSpentWithin setup.shape old.state d (made ++ written.made) (spent + steps_in taken))
        → IsGood setup old command (record { marks = made ++ written.made; answer = Say.Refused d (Place.Line b) (spent + steps_in taken) })
    tag-good if_spent =
        let refused = written.answered on_mid.trusted mid.state.memory call.world.memory.each in
        let done = written.done in
        let powered = done.gone.power.1 (call.world.board.power ∙ on_mid.powered) in
        let few = at_most taken (write_bound setup.shape written.made) call.follows.few
        (takes_tag setup.shape asked written.made (parts_in mid engine none_taken) (parts_in new after taken) b
        (written.steps on_mid.trusted mid.state.memory call.world.memory.each)).sum in
        let inside = refused_within setup.shape setup.formulas (moment_of mid.state (view_in setup mid)) write written.made b pages_whole within tag_line_of in
        let it =
        refusal written.made (Place.Line b) (spent + steps_in taken) (all_within powered)
        (data_caused b
        (hurt_before setup mid new engine after taken written.made b call.world.kept (done.gone.places on_mid.trusted) inside
        (tag_unstored setup new after taken b (done.gone.trusted on_mid.trusted) refused)))
        (refused_part asked written.made write b (some_asked setup mid write pages_whole) tag_line_of)
        (place_refused setup.formulas now queue n made written.made asked write next.its_place drained.asked next.asked b tag_line_of)
        if_spent (refused_bound setup.shape n made written.made spent (steps_in taken) drained.bound few) in
        record { legal = record { legal = it.legal; shown = tt }; fits = it.fits }

    pub tag-unsealed : is_sealed_by written.made write.at ≡ false
    tag-unsealed =
        part_apart setup.shape setup.formulas (moment_of mid.state (view_in setup mid)) write written.made pages_whole
        (refused_part asked written.made write b (some_asked setup mid write pages_whole) tag_line_of)

  -- ---- a spent write

  module _ (page : ℕ) (written : HasWrittenLine setup write (parts_in mid engine none_taken) (parts_in new after taken) (Err (Fail.Spent page))) where
    pub spent_marks : (asked ≡ None) × (written.made ≡ []) × (page ≡ page_of write.at)
    spent_marks = written.marks on_mid.trusted mid.state.memory call.world.memory.each

    -- its steps are those of its path alone, and of blocks that were dirty
    pub spent-steps : (steps_in taken ≤ path_length setup.shape) × (steps_in taken ≤ dirty_bound setup.shape mid.state)
    spent-steps = path-steps (Err (Fail.Spent page)) written refl spent_marks.0

    pub spent-good : IsSpentWithin setup.shape old.state d (made ++ written.made) (spent + steps_in taken)
        → IsGood setup old command (record { marks = made ++ written.made; answer = Say.Spent d page (spent + steps_in taken) })
    spent-good bound =
        let done = written.done in
        let powered = done.gone.power.1 (call.world.board.power ∙ on_mid.powered) in
        let all : made ++ written.made ≡ made = ap (λ more. made ++ more) spent_marks.1 ∙ append-nil made in
        good (writing.can_spend page (spent + steps_in taken)) (all_within powered) done_writes tt tt
        (writing.marks (made ++ written.made) (Say.Spent d page (spent + steps_in taken))
        (subst (λ k. IsSpentNext setup.formulas now queue k page (made ++ written.made)) (sym writing.count)
        (record {
          one_waits = slice_get_within queue n write next.its_place;
          all_drained = drained.asked ∙ ap (λ (marks : List Mark). Some marks) (sym all);
          spent = next.asked ∙ spent_marks.0;
          its_page =
              subst (λ o. MatchOption o ⊥ (λ write. page_of write.at ≡ page)) (sym next.its_place) (sym spent_marks.2);
        })))
        (writing.peek (Say.Spent d page (spent + steps_in taken))) tt tt
        (writing.bounds (made ++ written.made) (Say.Spent d page (spent + steps_in taken)) bound)

    -- in a fence
    pub spent-bound : spent + steps_in taken ≤ writing_bound setup.shape n (made ++ written.made) + spent_bound setup.shape
    spent-bound = path-bound (Err (Fail.Spent page)) written refl spent_marks.0

  -- ---- a cut

  module _ (written : HasWrittenLine setup write (parts_in mid engine none_taken) (parts_in new after taken) (Err Fail.Cut)) where
    cut_takes : (it : Option (List Mark)) → asked ≡ it → TakesOfWrite setup.shape it written.made (parts_in mid engine none_taken) (parts_in new after taken) (Err Fail.Cut)
    cut_takes it there =
        subst (λ o. TakesOfWrite setup.shape o written.made (parts_in mid engine none_taken) (parts_in new after taken) (Err Fail.Cut)) there
        (written.steps on_mid.trusted mid.state.memory call.world.memory.each)

    cut_few : (it : Option (List Mark)) → asked ≡ it → (spent + steps_in taken < bound_by setup.shape n made it) × (steps_in taken < step_limit)
    cut_few None there =
        let path = fewer taken (path_length setup.shape) call.follows.few (cut_takes None there).0.sum in
        (omega (arith, path, drained.bound), omega (arith, path, call.world.whole_shape.at_most_six_levels))
    cut_few (Some marks) there =
        let few = fewer taken (write_bound setup.shape marks) call.follows.few (cut_takes (Some marks) there).sum in
        let form = asked_form setup.shape setup.formulas (moment_of mid.state (view_in setup mid)) write marks pages_whole there in
        let low = writing_bound-few setup.shape marks call.world.whole_shape (asked_few setup.formulas write marks form) in
        (omega (arith, few, drained.bound, writing_bound-append setup.shape n 1 made marks), omega (arith, few, low))

    -- the bound of a cut, in a fence
    pub cut-bound : spent + steps_in taken < cut_bound setup old.state (view_in setup old) port n
    cut-bound = subst (λ b. spent + steps_in taken < b) (sym (bound_at setup old mid port n made spent write drained next asked refl)) (cut_few asked refl).0

    -- where the write is spent, it is below the blocks that may be dirty
    pub cut-dirty : MatchBool (is_spent_in_flight setup old.state (view_in setup old) port n) (steps_in taken < dirty_bound setup.shape mid.state) ⊤
    cut-dirty =
        subst (λ o. MatchBool (is_none o) (steps_in taken < dirty_bound setup.shape mid.state) ⊤) (sym (first_next setup old mid port n made spent write drained next)) (go asked refl)
      where
        go : (it : Option (List Mark)) → asked ≡ it
            → MatchBool (is_none (option_map (λ more. made ++ more) it)) (steps_in taken < dirty_bound setup.shape mid.state) ⊤
        go None there =
            let live : mid.board.powered ≡ true = call.world.board.power ∙ on_mid.powered in
            let dirty = fewer taken (dirty_count setup.shape engine.cache) call.follows.few ((cut_takes None there).1.1 live).sum in
            let few = dirty_count-le setup.shape engine.cache mid.state (accounted_in setup mid engine call.world on_mid) in
            omega (arith, dirty, few)
        go (Some marks) there = tt

    cut_off : new.board.powered ≡ false
    cut_off = written.done.gone.power.1

    -- the own seal isn't made
    pub lost-good : IsPartOf asked written.made → IsCutWriteWithin setup old.state (view_in setup old) port d (spent + steps_in taken)
        → IsGood setup old command (record { marks = made ++ written.made; answer = Say.CutLost d (spent + steps_in taken) })
    lost-good part bound =
        good (writing.can_lose (spent + steps_in taken)) (all_cut cut_off (cut_few asked refl).1) done_writes tt tt
        (writing.marks (made ++ written.made) (Say.CutLost d (spent + steps_in taken))
        (subst (λ k. IsStopped setup.formulas now queue k (made ++ written.made)) (sym writing.count)
        (stopped setup.formulas now queue n made written.made asked write next.its_place drained.asked next.asked part)))
        (writing.peek (Say.CutLost d (spent + steps_in taken))) tt tt
        (writing.bounds (made ++ written.made) (Say.CutLost d (spent + steps_in taken)) bound)

    pub lost-unsealed : IsPartOf asked written.made → is_sealed_by written.made write.at ≡ false
    lost-unsealed part = part_apart setup.shape setup.formulas (moment_of mid.state (view_in setup mid)) write written.made pages_whole part

    pub kept-sealed : asked ≡ Some written.made → is_sealed_by written.made write.at ≡ true
    kept-sealed whole =
        asked_seals setup.formulas write written.made
        (asked_form setup.shape setup.formulas (moment_of mid.state (view_in setup mid)) write written.made pages_whole whole)

    -- the own seal is made
    pub kept-good : asked ≡ Some written.made → IsCutWriteWithin setup old.state (view_in setup old) port d (spent + steps_in taken)
        → IsGood setup old command (record { marks = made ++ written.made; answer = Say.CutKept d (spent + steps_in taken) })
    kept-good whole bound =
        let one_more : IsTrue (can_put_first old.state port (suc n)) =
        can-more setup old mid port n made spent drained world small write later waits
        (λ part.
        stored_unspoiled setup mid.state (lines_in mid) mid.board.regs.loss mid.ledger write.at call.world.kept within
        (written.sealed_before on_mid.trusted write.at within (kept-sealed whole)
        (inr (omega (arith, part, next-short setup old mid port n made spent drained world small write later waits))))) in
        good (writing.can_keep (spent + steps_in taken)) (all_cut cut_off (cut_few asked refl).1)
        (subst (λ p. IsTrue (can_put_first old.state p (unwrap_or d 0 + 1))) (sym writing.its_port)
        (subst (λ k. IsTrue (can_put_first old.state port k)) (next_count (unwrap_or d 0) writing.count) one_more))
        tt tt
        (writing.marks (made ++ written.made) (Say.CutKept d (spent + steps_in taken)) (
          omega (arith, writing.count, slice_get_within queue n write next.its_place),
          ap (λ k. marks_of_writes setup.formulas now (take k queue)) (sym (next_count (unwrap_or d 0) writing.count))
              ∙ marks-more setup old mid port n made spent drained world small write later waits written.made whole,
        ))
        (writing.peek (Say.CutKept d (spent + steps_in taken))) tt tt
        (writing.bounds (made ++ written.made) (Say.CutKept d (spent + steps_in taken)) bound)

  -- ---- an exhibit

  module _ (written : HasWrittenLine setup write (parts_in mid engine none_taken) (parts_in new after taken) (Err Fail.Shown))
      (exhibit : Exhibit) (its : new.ledger.exhibit ≡ Some exhibit) where
    shown_part : IsPartOf asked written.made
    shown_part = written.marks on_mid.trusted mid.state.memory call.world.memory.each

    clash-shown : written.made ≡ []
        → (clash : IsClashShown setup (page_of write.at) (parts_in mid engine none_taken) (parts_in new after taken))
        → clash.line ≡ line_at mid.board.lines (layout.meta_line setup.shape clash.x)
        → IsShown setup old.state (view_in setup old) command (made ++ written.made) exhibit
    clash-shown none clash before =
        let in_tree = on_path-within setup.shape (page_of write.at) clash.x (omega (arith, within)) clash.fetched.on_path in
        let same = same_Some (Clash clash.x clash.line (line_at mid.ledger.truth clash.x)) exhibit (sym clash.exhibit ∙ its) in
        let it =
        refusal written.made (Place.Meta clash.x) 0 (zero_within old.state.fuse)
        (meta_caused clash.x clash.fetched.on_path
        (may_differ setup mid engine clash.x clash.line on_mid in_tree clash.fetched.uncached before clash.other_line))
        shown_part
        (meta_refused setup.formulas now queue n made written.made asked write next.its_place drained.asked next.asked clash.x none)
        (λ there. none_within setup.shape old.state d (made ++ written.made)) (omega arith) in
        subst (λ e. IsShown setup old.state (view_in setup old) command (made ++ written.made) e) same
        (record {
          holds = record { differ = clash.other_line; one_digest = clash.same_digest };
          in_run =
              record {
                true_second =
                    sym (true_line-is setup mid.board.regs mid.ledger on_mid.trusted.anchored call.world.whole_shape clash.x in_tree)
                    ∙ ap (λ view. true_line setup view clash.x) (sym (view_both setup old mid port n made spent drained written.made ∙ ap (view_after_marks (view_in setup mid)) none));
                refusable = (d, record { legal = it.legal; fits = it.fits });
              };
        })

    forged-shown : (found : IsForgedInWrite setup asked written.made write (parts_in new after taken))
        → KeepsPlaces setup written.made (parts_in mid engine none_taken) (parts_in new after taken)
        → IsShown setup old.state (view_in setup old) command (made ++ written.made) exhibit
    forged-shown found places =
        let done = written.done in
        let forged = found.forged in
        let inside = refused_within setup.shape setup.formulas (moment_of mid.state (view_in setup mid)) write written.made found.at pages_whole within found.refusable in
        let none : new.board.regs.group.items ≡ [] = ap (λ group. group.items) (done.gone.group shown_uncut) ∙ on_mid.trusted.no_group in
        let same = same_Some (Forged found.at forged.ctr forged.cipher forged.tag) exhibit (sym forged.exhibit ∙ its) in
        let unstored = forged_unstored setup new after taken found.at none forged in
        let unsealed : is_sealed_by written.made found.at ≡ false =
        false_from_ne_true (is_sealed_by written.made found.at) (λ sealed. unstored (places.seals found.at inside (inr sealed))) in
        let its_seal : last_seal new.ledger.marks found.at ≡ last_seal mid.ledger.marks found.at =
        ap (λ marks. last_seal marks found.at) done.gone.marks ∙ last_seal-unsealed mid.ledger.marks written.made found.at unsealed in
        let its_ctr : option_map (λ seal. seal.ctr) (last_seal mid.ledger.marks found.at) ≡ Some forged.ctr =
        ap (option_map (λ seal. seal.ctr)) (sym its_seal) ∙ forged.unsealed.counter in
        let hurt = hurt_before setup mid new engine after taken written.made found.at call.world.kept places inside unstored in
        let it =
        refusal written.made (Place.Line found.at) 0 (zero_within old.state.fuse) (data_caused found.at hurt)
        (refused_part asked written.made write found.at (some_asked setup mid write pages_whole) found.refusable)
        (place_refused setup.formulas now queue n made written.made asked write next.its_place drained.asked next.asked found.at found.refusable)
        (λ there. none_within setup.shape old.state d (made ++ written.made)) (omega arith) in
        subst (λ e. IsShown setup old.state (view_in setup old) command (made ++ written.made) e) same
        (record {
          holds = forged.right_tag;
          in_run =
              record {
                last_counter =
                    counter_now setup mid.ledger.marks written.made found.at forged.ctr inside
                    (ap (λ marks. option_map (λ seal. seal.ctr) (last_seal marks found.at)) (sym done.gone.marks) ∙ forged.unsealed.counter)
                    ∙ ap (λ view. counter_at view found.at) (sym (view_both setup old mid port n made spent drained written.made));
                refusable = (
                  d,
                  record { legal = it.legal; fits = it.fits },
                  subst (λ (s : PlainState). forged.cipher ≢ cipher_of setup.formulas found.at forged.ctr (line_at s.memory found.at)) (sym turn_state)
                      (subst (λ (s : PlainState). forged.cipher ≢ cipher_of setup.formulas found.at forged.ctr (line_at s.memory found.at)) drained.state
                      (forged_other setup mid.board.regs mid.ledger mid.state.memory found.at forged.ctr forged.cipher call.world.whole_formulas
                      on_mid.trusted.anchored call.world.memory inside its_ctr
                      (subst (λ seal. IfSome seal (λ s. forged.cipher ≢ s.cipher)) its_seal forged.other_cipher))),
                );
              };
        })

    pub shown-good : ((clash : IsClashShown setup (page_of write.at) (parts_in mid engine none_taken) (parts_in new after taken))
        → clash.line ≡ line_at mid.board.lines (layout.meta_line setup.shape clash.x))
        → KeepsPlaces setup written.made (parts_in mid engine none_taken) (parts_in new after taken)
        → IsGood setup old command (record { marks = made ++ written.made; answer = Say.Shown exhibit })
    shown-good before places =
        good (writing.can_show exhibit) (zero_within old.state.fuse) refl tt
        (elim (written.answered on_mid.trusted mid.state.memory call.world.memory.each) [
          | inl clash ↦ clash-shown clash.0 clash.1 (before clash.1)
          | inr forged ↦ forged-shown forged places
        ])
        (writing.marks (made ++ written.made) (Say.Shown exhibit)
        (n, stopped setup.formulas now queue n made written.made asked write next.its_place drained.asked next.asked shown_part))
        (writing.peek (Say.Shown exhibit)) tt tt (writing.bounds (made ++ written.made) (Say.Shown exhibit) tt)
