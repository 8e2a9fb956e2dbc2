-- The stop-loss number is changed: what the call keeps, and what its answers say.
use Rattle.std.proofs.lemmas.Grind.{common_steps}
use Rattle.std.proofs.Common.{rules, ℕ, ◌≡◌, ◌≢◌, ◌<◌, ◌≤◌, ◌*◌, ◌⊎◌, inl, inr, true, false, List, [], Result, Ok, Err, refl, sym, ap, ap₂, subst, subst₂, ◌∙◌, arith}
use Rattle.std.specs.Prelude.{is_some, IsTrue, IsOk}
use Rattle.std.proofs.lemmas.Bool.{true≢false, cases_lt}
use Rattle.std.proofs.lemmas.List.{append-nil}
use Rattle.std.proofs.lemmas.Option.{same_Some}
use Rattle.pmem_base.specs.declared.lines.Line.{Line}
use Rattle.pmem_base.specs.declared.faults.Cut.{Cut}
use Rattle.pmem_base.specs.declared.registers.Regs.{Regs}
use Rattle.pmem_base.specs.Shape.{Shape, is_loss}
use Rattle.pmem_base.specs.Layout as layout
use Rattle.pmem_base.specs.Lines.{line_at}
use Rattle.bonsai_tree.specs.Positions.{level_of, counter_position}
use Rattle.bonsai_tree.proofs.Levels.{counter_position-lt}
use Rattle.bonsai_tree.proofs.PathPositions.{path_of-block, path_of-level}
use Rattle.board.specs.Device.{Device}
use Rattle.board.specs.Steps.{HasLatched}
use Rattle.commit_regs.specs.Groups.{redone_told}
use Rattle.seal_ledger.specs.Ledger.{LedgerState}
use Rattle.meta_cache.specs.Banks.{is_cached, is_cached_dirty}
use Rattle.meta_path.specs.Blocks.{bank_dirty_count}
use Rattle.stop_loss.proofs.Windows.{is_loss_cases}
use Rattle.suite.specs.Setup.{Setup}
use Rattle.pmem_engine.specs.Engine.{ChipState}
use Rattle.pmem_engine.specs.Invariants.{IsSound, IsCounterStored, stored_meta}
use Rattle.pmem_engine.specs.Steps.{HasLossSet}
use Rattle.pmem_engine.specs.Recached.{IsTrueOrDirty}
use Rattle.pmem_engine.specs.Parts.{Parts, parts_with, AreTrusted, AreSound, HoldsCounters, HoldsMeta, lines_redone}
use Rattle.call_effects.specs.Outcomes.{going, cut_short}
use Rattle.pmem_engine.specs.Outcomes.{of_cut, outcome_of, KeepsPlaces, KeepsMeta, CallEffect, TakesSteps, fault_of_cut}
use Rattle.pmem_engine.specs.CallFacts.{AnswersLoss}
use Rattle.pmem_engine.specs.Calls.{HasSetLoss}
use Rattle.call_plan.specs.Plans.{ended}
use Rattle.call_plan.specs.Following.{Follows}
use Rattle.pmem_engine.specs.Plans.{latch_loss_plan}
use Rattle.pmem_engine.proofs.PlannedCalls.CachePlans.{faulted_end}
use Rattle.pmem_engine.specs.Flushed.{HasWrittenBlocks, HasMadeWay, HasChangedLoss, with_loss, IsBankClean}
use Rattle.pmem_engine.proofs.CallEnds.ErrorAnswers.{cut_not_down}
use Rattle.call_effects.proofs.ToldLines.{told_surely}
use Rattle.pmem_engine.proofs.Laws.CounterBlocks.{IsCounterStored-true}
use Rattle.pmem_engine.proofs.Laws.MendableLaws.{IsMendable-no_group}
use Rattle.pmem_engine.proofs.Laws.CacheLaws.{IsTrueOrDirty-sound}
use Rattle.pmem_engine.proofs.Laws.LossLaws.{IsTrusted-loss_set, IsSound-loss_set, IsCounterStored-loss_raised}
use Rattle.pmem_engine.proofs.CallEnds.CallChains.{gone_chained}
use Rattle.pmem_engine.proofs.CallEnds.StillParts.{nothing_done, no_steps_of, cut_still}
use Rattle.pmem_engine.proofs.CheckedReads.UnsealedLines.{same_never_falls}
use Rattle.pmem_engine.proofs.BlockWrites.LossSteps.{same_steps, other_steps, latched_steps, cut_steps}

-- ---- numbers

-- a greater number is some times the smaller one
times_of : (a b : ℕ) → IsTrue (is_loss a) → IsTrue (is_loss b) → a < b → (times : ℕ) × (b ≡ a * times)
times_of a b known_a known_b less = go (is_loss_cases a known_a) (is_loss_cases b known_b)
  where
    with : (k t : ℕ) → a ≡ k → b ≡ k * t → (times : ℕ) × (b ≡ a * times)
    with k t here there = (t, there ∙ ap (λ z. z * t) (sym here))

    go : (a ≡ 1) ⊎ ((a ≡ 2) ⊎ ((a ≡ 4) ⊎ ((a ≡ 8) ⊎ (a ≡ 16))))
        → (b ≡ 1) ⊎ ((b ≡ 2) ⊎ ((b ≡ 4) ⊎ ((b ≡ 8) ⊎ (b ≡ 16)))) → (times : ℕ) × (b ≡ a * times)
    go (inl a1) any = with 1 b a1 (omega arith)
    go (inr (inl a2)) (inl b1) = absurd (omega (arith, less, a2, b1))
    go (inr (inl a2)) (inr (inl b2)) = absurd (omega (arith, less, a2, b2))
    go (inr (inl a2)) (inr (inr (inl b4))) = with 2 2 a2 b4
    go (inr (inl a2)) (inr (inr (inr (inl b8)))) = with 2 4 a2 b8
    go (inr (inl a2)) (inr (inr (inr (inr b16)))) = with 2 8 a2 b16
    go (inr (inr (inl a4))) (inl b1) = absurd (omega (arith, less, a4, b1))
    go (inr (inr (inl a4))) (inr (inl b2)) = absurd (omega (arith, less, a4, b2))
    go (inr (inr (inl a4))) (inr (inr (inl b4))) = absurd (omega (arith, less, a4, b4))
    go (inr (inr (inl a4))) (inr (inr (inr (inl b8)))) = with 4 2 a4 b8
    go (inr (inr (inl a4))) (inr (inr (inr (inr b16)))) = with 4 4 a4 b16
    go (inr (inr (inr (inl a8)))) (inl b1) = absurd (omega (arith, less, a8, b1))
    go (inr (inr (inr (inl a8)))) (inr (inl b2)) = absurd (omega (arith, less, a8, b2))
    go (inr (inr (inr (inl a8)))) (inr (inr (inl b4))) = absurd (omega (arith, less, a8, b4))
    go (inr (inr (inr (inl a8)))) (inr (inr (inr (inl b8)))) = absurd (omega (arith, less, a8, b8))
    go (inr (inr (inr (inl a8)))) (inr (inr (inr (inr b16)))) = with 8 2 a8 b16
    go (inr (inr (inr (inr a16)))) (inl b1) = absurd (omega (arith, less, a16, b1))
    go (inr (inr (inr (inr a16)))) (inr (inl b2)) = absurd (omega (arith, less, a16, b2))
    go (inr (inr (inr (inr a16)))) (inr (inr (inl b4))) = absurd (omega (arith, less, a16, b4))
    go (inr (inr (inr (inr a16)))) (inr (inr (inr (inl b8)))) = absurd (omega (arith, less, a16, b8))
    go (inr (inr (inr (inr a16)))) (inr (inr (inr (inr b16)))) = absurd (omega (arith, less, a16, b16))

-- ---- the latch

-- a number is latched under which each counter block that was true or dirty still serves
module _ (setup : Setup) (n : ℕ) (engine : ChipState) (mid after : Device) (ledger : LedgerState) (tags digests : ℕ)
    (known : IsTrue (is_loss n)) (no_group : mid.regs.group.items ≡ []) (it : HasLatched mid (with_loss mid.regs n) after)
    (serves : (lines : List Line) (page : ℕ) → page < layout.pages setup.shape
    → IsTrueOrDirty setup.shape engine.cache lines ledger.truth (counter_position setup.shape page)
    → IsCounterStored setup lines mid.regs.loss ledger.truth page → IsCounterStored setup lines n ledger.truth page) where
  abbrev start : Parts
  start = parts_with engine mid ledger tags digests

  abbrev finish : Parts
  finish = parts_with engine after ledger tags digests

  its_loss : after.regs.loss ≡ n
  its_loss = ap (λ regs. regs.loss) it.regs

  same_group : after.regs.group ≡ mid.regs.group
  same_group = ap (λ regs. regs.group) it.regs ∙ ap (λ items. record { items = items }) (sym no_group)

  set : HasLossSet mid.regs after.regs
  set = search (rules, its_loss, same_group)

  redone_same : lines_redone finish ≡ lines_redone start
  redone_same = ap₂ (λ group lines. redone_told group.items lines) same_group it.lines

  sound_after : AreSound setup start → AreSound setup finish
  sound_after sound =
      told_surely (λ lines. IsSound setup engine lines mid.regs ledger) (λ lines. IsSound setup engine lines after.regs ledger)
      mid.lines after.lines (ap is_some it.lines)
      (λ lines lines' was now had.
      subst (λ z. IsSound setup engine z after.regs ledger) (same_Some lines lines' (sym was ∙ sym it.lines ∙ now))
      (IsSound-loss_set setup engine lines mid.regs after.regs ledger had set
      (λ page within.
      subst (λ loss. IsCounterStored setup lines loss ledger.truth page) (sym its_loss)
      (serves lines page within
      (IsTrueOrDirty-sound setup engine lines mid.regs ledger (counter_position setup.shape page) had
      (counter_position-lt setup.shape page within))
      ((IsMendable-no_group setup lines mid.regs ledger had.trusted.no_group had.durable).counters_stored page within)))))
      sound

  places : KeepsPlaces setup [] start finish
  places = grind (arith, common_steps)

  metadata : KeepsMeta setup [] start finish
  metadata = grind (arith, common_steps)

  pub latch_gone : CallEffect setup going [] start finish
  latch_gone = search (rules, append-nil, IsTrusted-loss_set, same_group, set, sound_after, places, metadata)

  pub latch_counters : (page : ℕ) → page < layout.pages setup.shape
      → HoldsMeta setup.shape start (counter_position setup.shape page) → HoldsCounters setup start page
      → HoldsCounters setup finish page
  latch_counters page within meta counters = search (rules, its_loss, redone_same)

-- ---- the call

module _ (setup : Setup) (n : ℕ) (old new : ChipState) (before after : Device) (ledger : LedgerState) (tags digests : ℕ)
    (its_shape : old.shape ≡ setup.shape) (few_levels : setup.shape.levels ≤ 6) (known : IsTrue (is_loss n))
    (known_before : IsTrue (is_loss before.regs.loss)) (no_group : before.regs.group.items ≡ []) where
  abbrev call_start : Parts
  call_start = parts_with old before ledger tags digests

  abbrev call_finish : Parts
  call_finish = parts_with new after ledger tags digests

  -- what was written serves the new number
  way_serves : (count : ℕ) (mid : Device) → HasMadeWay n count old new before mid → n ≢ before.regs.loss
      → (lines : List Line) (page : ℕ) → page < layout.pages setup.shape
      → IsTrueOrDirty setup.shape new.cache lines ledger.truth (counter_position setup.shape page)
      → IsCounterStored setup lines mid.regs.loss ledger.truth page → IsCounterStored setup lines n ledger.truth page
  way_serves count mid way other lines page within meta stored = go (cases_lt before.regs.loss n)
    where
      shape : new.shape ≡ setup.shape
      shape = way.written.shape ∙ its_shape

      same_loss : mid.regs.loss ≡ before.regs.loss
      same_loss = ap (λ regs. regs.loss) way.written.regs

      level : level_of (counter_position setup.shape page) ≡ setup.shape.levels
      level =
          ap level_of (sym (path_of-block setup.shape page))
          ∙ path_of-level setup.shape page setup.shape.levels few_levels within (omega arith)

      lowered : IsBankClean new new.shape.levels → (stored_meta setup.shape lines (counter_position setup.shape page)
          ≡ line_at ledger.truth (counter_position setup.shape page))
          ⊎ (is_cached_dirty setup.shape new.cache (level_of (counter_position setup.shape page)) (counter_position setup.shape page) ≡ true)
          → IsCounterStored setup lines n ledger.truth page
      lowered clean (inl true_line) = IsCounterStored-true setup lines n ledger.truth page true_line
      lowered clean (inr dirty) =
          absurd (true≢false
          (sym dirty
          ∙ ap (λ bank. is_cached_dirty setup.shape new.cache bank (counter_position setup.shape page)) level
          ∙ ap (λ g. is_cached_dirty g new.cache g.levels (counter_position setup.shape page)) (sym shape)
          ∙ clean (counter_position setup.shape page)))

      go : (before.regs.loss < n) ⊎ (n ≤ before.regs.loss) → IsCounterStored setup lines n ledger.truth page
      go (inl raised) =
          let times = times_of before.regs.loss n known_before known raised in
          IsCounterStored-loss_raised setup lines mid.regs.loss n times.0 ledger.truth page
          (times.1 ∙ ap (λ z. z * times.0) (sym same_loss)) stored
      go (inr down) = lowered (way.smaller (omega (arith, down, other))).0 meta

  group_kept : (count : ℕ) (mid : Device) → HasWrittenBlocks count old new before mid → mid.regs.group.items ≡ []
  group_kept count mid written = ap (λ regs. regs.group.items) written.regs ∙ no_group

  loss_gone : (answer : Result ℕ Cut) → HasChangedLoss n old new before after answer
      → CallEffect setup (outcome_of (of_cut answer)) [] call_start call_finish
  loss_gone (Ok steps) (inl it) =
      subst₂ (λ e d. CallEffect setup going [] call_start (parts_with e d ledger tags digests)) (sym it.2) (sym it.3)
      (nothing_done setup call_start).gone
  loss_gone (Ok steps) (inr it) =
      gone_chained setup going [] [] call_start (parts_with new it.1.mid ledger tags digests) call_finish
      (it.1.way.written.done setup ledger tags digests (sym its_shape)).gone
      (latch_gone setup n new it.1.mid after ledger tags digests known (group_kept it.1.count it.1.mid it.1.way.written) it.1.latched
      (way_serves it.1.count it.1.mid it.1.way it.0))
  loss_gone (Err cut) it =
      gone_chained setup cut_short [] [] call_start (parts_with new it.1.1 ledger tags digests) call_finish
      (it.1.2.done setup ledger tags digests (sym its_shape)).gone
      (cut_still setup new it.1.1 after ledger tags digests tags digests it.1.4 (same_never_falls tags tags refl) (same_never_falls digests digests refl)).gone

  loss_counters : (answer : Result ℕ Cut) → HasChangedLoss n old new before after answer → AreTrusted setup call_start
      → (page : ℕ) → page < layout.pages setup.shape
      → HoldsMeta setup.shape call_start (counter_position setup.shape page) → HoldsCounters setup call_start page
      → HoldsCounters setup call_finish page
  loss_counters (Ok steps) (inl it) trusted page within meta held =
      subst₂ (λ e d. HoldsCounters setup (parts_with e d ledger tags digests) page) (sym it.2) (sym it.3) held
  loss_counters (Ok steps) (inr it) trusted page within meta held =
      let first = it.1.way.written.done setup ledger tags digests (sym its_shape) in
      latch_counters setup n new it.1.mid after ledger tags digests known (group_kept it.1.count it.1.mid it.1.way.written) it.1.latched
      (way_serves it.1.count it.1.mid it.1.way it.0) page within
      ((first.gone.metadata trusted).true_or_dirty (counter_position setup.shape page) (counter_position-lt setup.shape page within) meta)
      (first.counters trusted page within held)
  loss_counters (Err cut) it trusted page within meta held =
      let first = it.1.2.done setup ledger tags digests (sym its_shape) in
      let last =
      cut_still setup new it.1.1 after ledger tags digests tags digests it.1.4 (same_never_falls tags tags refl)
      (same_never_falls digests digests refl) in
      last.counters (first.gone.trusted trusted) page within (first.counters trusted page within held)

  -- ---- steps

  abbrev dirty : ℕ
  dirty = bank_dirty_count setup.shape old.cache setup.shape.levels

  loss_answer : (answer : Result ℕ Cut) → HasChangedLoss n old new before after answer
      → AnswersLoss setup.shape n call_start call_finish (of_cut answer)
  loss_answer (Ok steps) (inl it) = (
    same_steps dirty before.regs.loss n steps it.0 it.1,
    subst₂ (λ k d. TakesSteps k before d) (sym it.1) (sym it.3) (no_steps_of before before refl refl),
    ap (λ (d : Device). d.regs.loss) it.3 ∙ sym it.0,
  )
  loss_answer (Ok steps) (inr it) = (
    other_steps dirty before.regs.loss n steps it.1.count it.0 it.1.steps_are it.1.way.greater
        (λ less. (it.1.way.smaller less).1 ∙ ap (λ (g : Shape). bank_dirty_count g old.cache g.levels) its_shape),
    subst (λ k. TakesSteps k before after) (sym it.1.steps_are)
        (latched_steps it.1.count before it.1.mid after it.1.way.written.writes it.1.way.written.latches it.1.latched.latches
        it.1.latched.writes),
    ap (λ regs. regs.loss) it.1.latched.regs,
  )
  loss_answer (Err cut) it = (
    cut_steps dirty before.regs.loss n it.1.0 call_start call_finish it.1.1 it.0 it.1.3 (few it.1.0 it.1.1 it.1.2)
        it.1.2.writes it.1.2.latches it.1.4.latches it.1.4.writes,
    ap (λ regs. regs.loss) (it.1.4.regs ∙ it.1.2.regs),
  )
    where
      few : (count : ℕ) (mid : Device) → HasWrittenBlocks count old new before mid → count ≤ dirty
      few count mid written =
          let of_old : bank_dirty_count old.shape old.cache old.shape.levels ≡ dirty =
          ap (λ (g : Shape). bank_dirty_count g old.cache g.levels) its_shape in
          let both = written.dirty in
          omega (arith, of_old, both)

  loss_reads : (answer : Result ℕ Cut) → HasChangedLoss n old new before after answer → after.reads ≡ before.reads
  loss_reads v0 v1 = grind (arith, common_steps)

  loss_cached : (answer : Result ℕ Cut) → HasChangedLoss n old new before after answer → (bank x : ℕ)
      → is_cached setup.shape new.cache bank x ≡ is_cached setup.shape old.cache bank x
  loss_cached v0 v1 bank x = grind (arith, common_steps)

  -- a smaller number that is set leaves no counter block dirty
  loss_smaller : (answer : Result ℕ Cut) → HasChangedLoss n old new before after answer → n < before.regs.loss → IsOk (of_cut answer)
      → (x : ℕ) → is_cached_dirty setup.shape new.cache setup.shape.levels x ≡ false
  loss_smaller (Ok steps) (inl it) less ok x = absurd (omega (arith, it.0, less))
  loss_smaller (Ok steps) (inr it) less ok x =
      ap (λ (g : Shape). is_cached_dirty g new.cache g.levels x) (sym (it.1.way.written.shape ∙ its_shape))
      ∙ (it.1.way.smaller less).0 x
  loss_smaller (Err fault) it less ok x = absurd (true≢false (sym ok))

  -- one that isn't smaller leaves the cache
  loss_greater : (answer : Result ℕ Cut) → HasChangedLoss n old new before after answer → before.regs.loss ≤ n
      → new.cache ≡ old.cache
  loss_greater (Ok steps) (inl it) least = ap (λ (e : ChipState). e.cache) it.2
  loss_greater (Ok steps) (inr it) least =
      it.1.way.written.none (it.1.way.greater (let other = it.0 in omega (arith, least, other)))
  loss_greater (Err cut) it least = it.1.2.none (it.1.3 (let other = it.0 in omega (arith, least, other)))

  loss_regs : (answer : Result ℕ Cut) → HasChangedLoss n old new before after answer
      → record after.regs { loss = n } ≡ record before.regs { loss = n }
  loss_regs (Ok steps) (inl it) = ap (λ (d : Device). record d.regs { loss = n }) it.3
  loss_regs (Ok steps) (inr it) =
      ap (λ (regs : Regs). record regs { loss = n }) it.1.latched.regs
      ∙ ap (λ (regs : Regs). record (with_loss regs n) { loss = n }) it.1.way.written.regs
      ∙ ap (λ items. record before.regs { group = record { items = items }; loss = n }) (sym no_group)
  loss_regs (Err cut) it = ap (λ (regs : Regs). record regs { loss = n }) (it.1.4.regs ∙ it.1.2.regs)

  pub loss_set : (answer : Result ℕ Cut) → Follows (latch_loss_plan n before.regs old) before after (ended answer new)
      → HasChangedLoss n old new before after answer
      → HasSetLoss setup n call_start call_finish (of_cut answer)
  loss_set answer planned it =
      record {
        plan = faulted_end fault_of_cut answer new planned;
        not_down = cut_not_down answer;
        gone = loss_gone answer it;
        answered = loss_answer answer it;
        counters = λ trusted page within meta held. loss_counters answer it trusted page within meta held;
        smaller = λ less ok. loss_smaller answer it less ok;
        greater = λ least. loss_greater answer it least;
        regs = loss_regs answer it;
        same_ledger = refl;
        same_reads = loss_reads answer it;
        tags = refl;
        digests = refl;
        cached = loss_cached answer it;
      }
