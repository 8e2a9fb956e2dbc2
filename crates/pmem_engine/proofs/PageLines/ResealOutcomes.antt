-- The ends of a reseal: its line isn't unsealed, its group is cut, or the line is sealed anew.
use Rattle.std.proofs.Common.{rules, ℕ, ◌≡◌, ◌<◌, ◌+◌, ◌-◌, ◌++◌, inl, inr, true, false, cond, [], ◌∷◌, length, get_or, Some, Result, Ok, Err, refl, sym, ap, subst, ◌∙◌, arith}
use Rattle.std.proofs.lemmas.Bool.{true≢false, eq-eqb, and_from}
use Rattle.std.proofs.lemmas.Option.{same_Some, get_or_from_slice_get}
use Rattle.std.proofs.lemmas.List.Elements.{All-nil, All-cons}
use Rattle.std.proofs.lemmas.List.Sums.{sum_by-cons}
use Rattle.pmem_base.specs.declared.faults.Cut.{Cut}
use Rattle.pmem_base.specs.declared.lines.Ctr.{Ctr}
use Rattle.pmem_base.specs.declared.registers.Progress.{Progress}
use Rattle.pmem_base.specs.declared.answers.Mark.{Mark}
use Rattle.pmem_base.specs.declared.answers.Mark.TheVariants.{Seal}
use Rattle.pmem_base.specs.Counts.{last_count, risen}
use Rattle.pmem_base.specs.Layout as layout
use Rattle.pmem_base.specs.Layout.{page_of, index_in_page}
use Rattle.pmem_base.specs.Lines.{IsLine, line_at, zero_line}
use Rattle.pmem_base.specs.Registers.{IsProgress, is_done, not_done, empty_progress}
use Rattle.suite.specs.Formulas.{AreInRange}
use Rattle.suite.specs.Setup.{Setup}
use Rattle.board.specs.Counts.{RisesBy}
use Rattle.board.specs.Device.{Device, IsDevice}
use Rattle.board.specs.Steps.{HasLatched, WasCut}
use Rattle.commit_regs.specs.Groups.{IsInterrupted}
use Rattle.call_plan.specs.Plans.{mapped_end}
use Rattle.meta_path.specs.Work.{told_line}
use Rattle.page_reencrypt.specs.Registers.{register_held}
use Rattle.page_reencrypt.proofs.DoneBits.{not_done-not_done}
use Rattle.page_reencrypt.proofs.Holding.{old_major-unpacked}
use Rattle.page_reencrypt.proofs.AtPlace.{register_held-at}
use Rattle.seal_ledger.specs.Ledger.{LedgerState, IsSealValue}
use Rattle.plain_model.specs.State.{Memory}
use Rattle.plain_model.specs.Bounds.{is_seal}
use Rattle.plain_model.specs.View.{view_of, counter_at, plain_line}
use Rattle.plain_model.specs.Asked.{reseal_mark, next_major}
use Rattle.plain_model.proofs.Views.{counter_at-last}
use Rattle.pmem_engine.specs.declared.fault.LineFault.{LineFault}
use Rattle.pmem_engine.specs.declared.fault.LineFault.TheVariants as AtLine
use Rattle.pmem_engine.specs.declared.reading.Unsealed.{Unsealed}
use Rattle.pmem_engine.specs.declared.resealing.HeldLine.{HeldLine}
use Rattle.pmem_engine.specs.declared.resealing.NextSeal.{NextSeal}
use Rattle.pmem_engine.specs.Engine.{ChipState}
use Rattle.pmem_engine.specs.Parts.{Parts, parts_with, AreTrusted, HoldsSeal}
use Rattle.call_effects.specs.Outcomes.{going, cut_short, is_going}
use Rattle.pmem_engine.specs.Outcomes.{is_sealed_by, NeverFalls, OneLossEffect, TakesSteps, TakesFewer}
use Rattle.pmem_engine.specs.CallFacts.{IsUsableWith, IsMemory, moment_in, IsUnderMinorZero}
use Rattle.pmem_engine.specs.Inner.{HasUnsealed, IsLastCounter}
use Rattle.pmem_engine.specs.Committing.{next_seal_of, entries_of, HasCommitted}
use Rattle.pmem_engine.specs.Resealing.{IsNextHeld, HasLineSealed, HasResealEnded, line_of_page, HasResealMarks, AnswersReseal, CountsReseal, HasResealed}
use Rattle.pmem_engine.proofs.CallEnds.ErrorAnswers.{line_unrefused}
use Rattle.pmem_engine.proofs.CallEnds.StillParts.{sound_trusted, cut_still}
use Rattle.pmem_engine.proofs.CallEnds.CallChains.{done_chained}
use Rattle.pmem_engine.proofs.CallEnds.MetaLines.{committed_at}
use Rattle.pmem_engine.proofs.CallEnds.UnwrittenLines.{meta_off}
use Rattle.pmem_engine.proofs.Laws.PlainLines.{plain_line-resealed}
use Rattle.pmem_engine.proofs.CheckedReads.UnsealedLines.{risen_never_falls, same_never_falls}
use Rattle.pmem_engine.proofs.Laws.DeviceSteps.{none_written, sealed_here}
use Rattle.pmem_engine.proofs.Seals.GroupCommits.{IsCommit, done_committed, done_cut}
use Rattle.pmem_engine.proofs.PageLines.LineReseals.{IsResealing, resealing}

-- what a call passed to the line that it works on
module _ (setup : Setup) (n : ℕ) (engine : ChipState) (old : Device) (before : LedgerState) (tags digests : ℕ) (held : HeldLine)
    (usable : IsUsableWith setup.shape false old before) (inside : n < length old.regs.progress.items)
    (next : IsNextHeld (get_or old.regs.progress.items n empty_progress) held) where
  abbrev start : Parts
  start = parts_with engine old before tags digests

  abbrev register : Progress
  register = get_or old.regs.progress.items n empty_progress

  in_use : IsProgress setup.shape register
  in_use = usable.ready.valid_regs.each_page n empty_progress inside

  unarmed : old.regs.group.items ≡ []
  unarmed = usable.ready.no_group refl

  -- the line is one of the page
  pub held_in_range : held.at < layout.data_lines setup.shape
  held_in_range = search rules

  its_page : page_of held.at ≡ register.page
  its_page = let place = next.inside in let it = next.its_line in omega (arith, place, it)

  its_place : index_in_page held.at ≡ next.place
  its_place = let place = next.inside in let it = next.its_line in omega (arith, place, it)

  not_yet : is_done register next.place ≡ false
  not_yet =
      subst (λ i. is_done register i ≡ false) (get_or_from_slice_get (not_done register) 0 next.place 0 next.lowest)
      (not_done-not_done register 0 0 in_use.some_left)

  -- its page's register holds it
  holds : register_held old.regs.progress.items held.at ≡ Some register
  holds = search (rules, eq-eqb, and_from, register_held-at, its_page, its_place, not_yet)

  -- so its last counter is the old one
  last_counter : AreTrusted setup start → IsLastCounter start held.at held.now
  last_counter trusted = search (rules, held_in_range, its_place, holds)

  -- ---- the line isn't unsealed

  not_made : (new : Parts) (fault : LineFault) → AreTrusted setup start → (memory : Memory)
      → HasResealMarks setup.formulas (moment_in setup memory start) register.page next.place [] (Err fault)
  not_made new fault trusted memory = search rules

  says : (new : Parts) (fault : LineFault) → HasUnsealed setup held.at held.now start new (Err fault) → AreTrusted setup start
      → AnswersReseal setup (line_of_page register next.place) start new (Err fault)
  says new fault it trusted = search (rules, last_counter)

  counted_none : (new : Parts) (fault : LineFault) → TakesSteps 0 old new.device → CountsReseal start new (Err fault)
  counted_none new AtLine.Cut none = fewer none
    where
      fewer : TakesSteps 0 old new.device → TakesFewer 4 old new.device
      fewer none = search rules
  counted_none new (AtLine.Tag b) none = none
  counted_none new AtLine.Shown none = none

  kept_memory : (new : Parts) (fault : LineFault) → HasUnsealed setup held.at held.now start new (Err fault)
      → (memory : Memory) → IsMemory setup memory start → IsMemory setup memory new
  kept_memory new fault it memory was a within = search rules

  pub not_unsealed : (new : Device) (after : LedgerState) (tags_now digests_now : ℕ) (fault : LineFault)
      → HasUnsealed setup held.at held.now start (parts_with engine new after tags_now digests_now) (Err fault)
      → HasResealed setup n start (parts_with engine new after tags_now digests_now) (Err fault)
  not_unsealed new after tags_now digests_now fault it =
      record {
        place = next.place;
        lowest = next.lowest;
        made = [];
        done = it.done;
        marks = λ trusted memory was. not_made final fault trusted memory;
        memory_kept = λ trusted memory was. kept_memory final fault it memory was;
        line_sealed = tt;
        answered = λ trusted. says final fault it trusted;
        unrefused =
            λ sound.
            line_unrefused Unsealed (ℕ × ℕ) fault (it.unrefused sound (last_counter (sound_trusted setup start sound)));
        few = omega arith;
        sealed_before = λ trusted a within made. absurd (true≢false (sym made));
        counts = counted_none final fault it.no_steps;
        one_seal = λ ok. absurd (true≢false (sym ok));
        work = λ ok. absurd (true≢false (sym ok));
        meta_lines = λ ok. absurd (true≢false (sym ok));
        minors = All-nil IsUnderMinorZero;
        engine = refl;
        truth = λ unshown. ap (λ ledger. ledger.truth) (it.same_ledger unshown);
        root = ap (λ regs. regs.root) it.regs;
        digests = it.digests;
      }
    where
      final : Parts
      final = parts_with engine new after tags_now digests_now

  -- ---- the line is unsealed

  module _ (mid : Device) (ledger : LedgerState) (tags_mid digests_mid : ℕ) (unsealed : Unsealed)
      (it : HasUnsealed setup held.at held.now start (parts_with engine mid ledger tags_mid digests_mid) (Ok unsealed)) where
    abbrev middle : Parts
    middle = parts_with engine mid ledger tags_mid digests_mid

    abbrev sealing : NextSeal
    sealing = next_seal_of setup.formulas held.at held.next unsealed.plain unsealed.tag_line

    abbrev mark : Mark
    mark = Seal sealing.at sealing.ctr sealing.cipher sealing.tag

    same_ledger : ledger ≡ before
    same_ledger = it.same_ledger (λ e. absurd (true≢false (ap is_going e)))

    still_unarmed : mid.regs.group.items ≡ []
    still_unarmed = ap (λ regs. regs.group.items) it.regs ∙ unarmed

    mid_size : mid.size ≡ layout.device_lines setup.shape
    mid_size = it.done.gone.size ∙ usable.ready.its_size

    -- what was unsealed is the line's plain line
    plain_before : AreTrusted setup start → plain_line setup.formulas before.marks held.at ≡ Some unsealed.plain
    plain_before trusted = (it.answered trusted (last_counter trusted)).0

    stored_before : AreTrusted setup start → HoldsSeal setup.shape start held.at
    stored_before trusted = search (rules, last_counter, same_ledger)

    -- the mark is the one that is asked
    next_is : AreTrusted setup start
        → held.next ≡ next_major (counter_at (view_of setup.shape before.marks) held.at) 0
    next_is trusted = search (rules, old_major-unpacked, counter_at-last, held_in_range, last_counter)

    mark_is : AreTrusted setup start → (memory : Memory) → IsMemory setup memory start
        → mark ≡ reseal_mark setup.formulas (moment_in setup memory start) register.page next.place
    mark_is trusted memory was = search (rules, same_Some, held_in_range, plain_before, next_is)

    -- every line keeps its plain line
    memory_now : AreInRange setup.formulas → IsLine unsealed.plain → (after : LedgerState) → IsSealValue sealing.ctr sealing.cipher sealing.tag
        → after.marks ≡ ledger.marks ++ mark ∷ [] → AreTrusted setup start → (memory : Memory) → IsMemory setup memory start
        → (a : ℕ) → a < layout.data_lines setup.shape → plain_line setup.formulas after.marks a ≡ Some (line_at memory a)
    memory_now in_range whole after fits marks trusted memory was a within = search (rules, plain_line-resealed, same_ledger, plain_before)

    -- the line alone was sealed
    stored_sealed : AreTrusted setup start → (a : ℕ) → is_sealed_by (mark ∷ []) a ≡ true → HoldsSeal setup.shape start a
    stored_sealed trusted a made =
        subst (HoldsSeal setup.shape start) (sym (sealed_here held.at a sealing.ctr sealing.cipher sealing.tag made))
        (stored_before trusted)

    -- ---- the group is cut before it was armed

    cut_unarmed : (new : Device) (after : LedgerState) (tags_now digests_now : ℕ) → tags_now ≡ risen tags_mid
        → digests_now ≡ digests_mid → WasCut mid new → after ≡ ledger
        → HasResealed setup n start (parts_with engine new after tags_now digests_now) (Err AtLine.Cut)
    cut_unarmed new after tags_now digests_now more_tags same_digests was_cut told =
        record {
          place = next.place;
          lowest = next.lowest;
          made = [];
          done =
              subst (λ seals. OneLossEffect setup cut_short [] start (parts_with engine new seals tags_now digests_now)) (sym told)
              (done_chained setup cut_short [] [] start middle (parts_with engine new ledger tags_now digests_now) it.done
              (cut_still setup engine mid new ledger tags_mid digests_mid tags_now digests_now was_cut
              (subst (NeverFalls tags_mid) (sym more_tags) (risen_never_falls tags_mid))
              (same_never_falls digests_mid digests_now same_digests)));
          marks = λ trusted memory was. inl refl;
          memory_kept =
              λ trusted memory was a within.
              ap (λ seals. plain_line setup.formulas seals.marks a) (told ∙ same_ledger) ∙ was a within;
          line_sealed = tt;
          answered = λ trusted. tt;
          unrefused = λ sound. tt;
          few = omega arith;
          sealed_before = λ trusted a within made. absurd (true≢false (sym made));
          counts =
              search rules;
          one_seal = λ ok. absurd (true≢false (sym ok));
          work = λ ok. absurd (true≢false (sym ok));
          meta_lines = λ ok. absurd (true≢false (sym ok));
          minors = All-nil IsUnderMinorZero;
          engine = refl;
          truth = λ unshown. ap (λ seals. seals.truth) (told ∙ same_ledger);
          root = ap (λ regs. regs.root) (was_cut.regs ∙ it.regs);
          digests = same_digests ∙ it.digests;
        }
      where
        final : Parts
        final = parts_with engine new after tags_now digests_now

        fewer : new.writes < last_count → new.latches < last_count → new.writes + new.latches < old.writes + old.latches + 4
        fewer one two = search rules

    module _ (new : Device) (after : LedgerState) (tags_now digests_now : ℕ) (more_tags : tags_now ≡ risen tags_mid)
        (same_digests : digests_now ≡ digests_mid) (in_range : AreInRange setup.formulas) (whole : IsLine unsealed.plain)
        (device : IsDevice mid) where
      abbrev final : Parts
      final = parts_with engine new after tags_now digests_now

      never_tags : NeverFalls tags_mid tags_now
      never_tags = subst (NeverFalls tags_mid) (sym more_tags) (risen_never_falls tags_mid)

      never_digests : NeverFalls digests_mid digests_now
      never_digests = same_never_falls digests_mid digests_now same_digests

      held_sealing : IsResealing setup sealing register mid
      held_sealing = search (rules, unarmed, held_in_range, holds, still_unarmed, mid_size)

      module _ (done : HasLineSealed setup.shape sealing mid new ledger after) where
        commit : IsCommit setup (entries_of setup.shape sealing) mark none_written (λ x. zero_line) middle final
        commit =
            resealing setup sealing register engine mid new ledger after tags_mid digests_mid tags_now digests_now held_sealing done
            never_tags never_digests

        truth_is : after.truth ≡ before.truth
        truth_is = done.mark.truth ∙ ap (λ seals. seals.truth) same_ledger

        root_is : new.regs.root ≡ old.regs.root
        root_is = done.line_done.root ∙ ap (λ regs. regs.root) it.regs

        -- ---- or while it was armed

        cut_armed : IsDevice new → (between : Device) → HasLatched mid new.regs between → new.regs.group.items ≡ entries_of setup.shape sealing
            → IsInterrupted (entries_of setup.shape sealing) between new → HasResealed setup n start final (Err AtLine.Cut)
        cut_armed device_now between latched armed was =
            record {
              place = next.place;
              lowest = next.lowest;
              made = mark ∷ [];
              done =
                  done_chained setup cut_short [] (mark ∷ []) start middle final it.done
                  (done_cut setup (entries_of setup.shape sealing) mark none_written (λ x. zero_line) middle final
                  commit between latched armed was device_now);
              marks = λ trusted memory was. inr (ap (λ m. m ∷ []) (mark_is trusted memory was));
              memory_kept =
                  λ trusted memory was.
                  memory_now in_range whole after done.fits done.mark.marks trusted memory was;
              line_sealed = tt;
              answered = λ trusted. tt;
              unrefused = λ sound. tt;
              few = omega arith;
              sealed_before = λ trusted a within made. stored_sealed trusted a made;
              counts =
                  search rules;
              one_seal = λ ok. absurd (true≢false (sym ok));
              work = λ ok. absurd (true≢false (sym ok));
              meta_lines = λ ok. absurd (true≢false (sym ok));
              minors = All-cons IsUnderMinorZero mark [] (ap (λ (ctr : Ctr). ctr.minor) next.next) (All-nil IsUnderMinorZero);
              engine = refl;
              truth = λ unshown. truth_is;
              root = root_is;
              digests = same_digests ∙ it.digests;
            }
          where
            fewer : new.writes < last_count → new.latches < last_count
                → new.writes + new.latches < old.writes + old.latches + 4
            fewer one two = search rules

        -- ---- the line is sealed anew

        resealed : HasCommitted (entries_of setup.shape sealing) mid new
            → HasResealed setup n start final (Ok (held.at, length (not_done register) - 1))
        resealed finished =
            record {
              place = next.place;
              lowest = next.lowest;
              made = mark ∷ [];
              done =
                  done_chained setup going [] (mark ∷ []) start middle final it.done
                  (done_committed setup (entries_of setup.shape sealing) mark none_written (λ x. zero_line) middle final
                  commit finished);
              marks = λ trusted memory was. ap (λ m. m ∷ []) (mark_is trusted memory was);
              memory_kept =
                  λ trusted memory was.
                  memory_now in_range whole after done.fits done.mark.marks trusted memory was;
              line_sealed = record { at = next.its_line; left = omega (arith, in_use.some_left); line_done = search rules };
              answered = λ trusted. tt;
              unrefused = λ sound. tt;
              few = omega arith;
              sealed_before = λ trusted a within made. stored_sealed trusted a made;
              counts = search rules;
              one_seal = λ ok. (refl, sum_by-cons (λ m. cond (is_seal m) 1 0) mark []);
              work =
                  λ ok.
                  record {
                    reads = subst (λ count. RisesBy 2 old.reads count) (sym finished.reads) (it.two_reads refl);
                    no_read = λ none. absurd (omega (arith, none));
                    writes = subst (λ count. RisesBy 2 count new.writes) it.writes finished.writes;
                    no_write = λ none. absurd (omega (arith, none));
                    latches = subst (λ count. RisesBy 2 count new.latches) it.latches finished.latches;
                    no_latch = λ none. absurd (omega (arith, none));
                    tags = more_tags ∙ ap risen (it.one_tag refl);
                    digests = same_digests ∙ it.digests;
                  };
              meta_lines =
                  λ ok x within.
                  committed_at (entries_of setup.shape sealing) mid new (layout.meta_line setup.shape x)
                  (meta_off setup.shape sealing x held_in_range) finished
                  ∙ ap (λ told. told_line told (layout.meta_line setup.shape x)) it.lines;
              minors = All-cons IsUnderMinorZero mark [] (ap (λ (ctr : Ctr). ctr.minor) next.next) (All-nil IsUnderMinorZero);
              engine = refl;
              truth = λ unshown. truth_is;
              root = root_is;
              digests = same_digests ∙ it.digests;
            }

      -- however its group ended
      pub reseal_ended : IsDevice new → (end : Result (Unit {0}) Cut) → HasResealEnded setup.shape sealing mid new ledger after end
          → HasResealed setup n start final
          (mapped_end (λ cut. AtLine.Cut) (λ value. (held.at, length (not_done register) - 1)) end)
      reseal_ended device_now (Ok value) was = resealed was.1 was.0
      reseal_ended device_now (Err cut) (inl was) = cut_unarmed new after tags_now digests_now more_tags same_digests was.0 was.1
      reseal_ended device_now (Err cut) (inr was) = cut_armed was.4 device_now was.0 was.1 was.2 was.3
