-- Laws of recovery as a whole: the relation that it keeps, from those of its stages.
use Rattle.std.proofs.Common.{rules, ℕ, ◌≡◌, ◌<◌, ◌+◌, ◌*◌, List, [], length, Some, Ok, Err, refl, ap, sym, subst, ◌∙◌, true, false, inl, inr, arith}
use Rattle.std.specs.Prelude.{is_some}
use Rattle.pmem_base.specs.declared.lines.Line.{Line}
use Rattle.pmem_base.specs.Shape.{IsShape, is_lazy}
use Rattle.pmem_base.specs.Layout as layout
use Rattle.pmem_base.specs.Lines.{line_at}
use Rattle.pmem_base.specs.Registers.{IsValidRegs, without_group}
use Rattle.board.specs.Device.{Device, AreLinesOf, AreToldLines}
use Rattle.pmem_base.proofs.LineSets.{length-put_lines}
use Rattle.call_effects.proofs.ToldLines.{whole_lines}
use Rattle.commit_regs.proofs.GroupLemmas.{told_redone}
use Rattle.commit_regs.specs.Groups.{redone, finishing_latches, RisesAtMost, HasFinished, IsInterrupted}
use Rattle.suite.specs.Setup.{Setup}
use Rattle.bonsai_tree.specs.Positions.{level_of}
use Rattle.seal_ledger.specs.Ledger.{LedgerState}
use Rattle.pmem_engine.specs.Engine.{on_chip}
use Rattle.pmem_engine.specs.Invariants.{IsAnchored, IsSealStored, IsMendable, IsDurable, stored_meta}
use Rattle.pmem_engine.specs.Mendable.{IsShadowZero, new_engine}
use Rattle.pmem_engine.specs.Steps.{IsEmptied}
use Rattle.pmem_engine.proofs.Laws.MendableLaws.{IsValidRegs-emptied, IsAnchored-emptied, IsDurable-no_group, IsMendable-emptied, IsSealStored-same, IsSound-new_engine}
use Rattle.call_effects.specs.declared.recovery.Work.{Work}
use Rattle.pmem_engine.specs.Outcomes.{TakesAtMost}
use Rattle.pmem_recovery.specs.declared.faults.RecFault.{RecFault}
use Rattle.pmem_recovery.specs.declared.faults.RecFault.TheVariants.{Memory, Cut, NoCounter, Root, Twin}
use Rattle.pmem_recovery.specs.Writing.{differing}
use Rattle.call_effects.specs.SuiteStates.{SuiteState}
use Rattle.pmem_recovery.specs.Parts.{IfLinesTold, KeepsDevice, IsUncut, StopsBy, SuiteWork, IsFaultShown, IsRefusal, StoppedWork}
use Rattle.pmem_recovery.specs.Mending.{IsPartlyMended, most_reads, most_writes, HasMadeWrites, MayLackSteps, IsStoppedShort}
use Rattle.pmem_recovery.specs.Recovered.{RegsAfter, PowerAfter, HasOnlyRedone, IsUnchanged, most_recovery_steps, StepsAfter, IsTwinValid, IsNoCounterUnmendable, IsMendedAs, PlanAfter, HasRecovered, IsUncounted}
use Rattle.call_plan.specs.Following.{Follows}
use Rattle.pmem_recovery.specs.Plans.{SuiteCounts, counts_of, recover_plan}
use Rattle.pmem_recovery.proofs.MakingEnds.{after_work}
use Rattle.pmem_recovery.proofs.MendEnds.{IsMended, IsLeftBy}
use Rattle.pmem_recovery.specs.Fronts.{IsFrontWritten}
use Rattle.pmem_recovery.proofs.PartLaws.{IsUncut-then, IsCutOff-after}
use Rattle.board.specs.Counts.{RisesBy}
use Rattle.shadow_tables.specs.Entries.{shadow_of}
use Rattle.pmem_recovery.specs.Reads.{all_reads, doubted_reads, IsReadUntil}
use Rattle.pmem_recovery.proofs.WorkLaws.{stopped_memory, stopped_at_once}
use Rattle.pmem_recovery.proofs.WrittenLaws.{partly-data, partly-strict, partly-mendable, partly-front, are_fixed, true_recovered, zero_recovered, top_recovered}
use Rattle.pmem_recovery.proofs.AnswerLaws.{no_counter-caused, IsTrueRefusal, true_refusal, IsEmptied-without, IsTrusted-fresh, IsNewEngine-fresh, redone_told-told, RisesAtMost-then}

-- ---- no memory, and a cut while the group is redone

pub recovered_memory : (setup : Setup) (ledger : LedgerState) (old : Device) (suite : SuiteState) → IsValidRegs setup.shape old.regs → HasRecovered setup ledger old old suite suite (Err Memory)
recovered_memory setup ledger old suite valid =
    let work : (lines : List Line) → StoppedWork setup.shape (redone old.regs.group.items lines) old.regs Memory suite suite = λ lines. stopped_memory setup.shape (redone old.regs.group.items lines) old.regs suite in
    search rules

pub recovered_interrupted : (setup : Setup) (ledger : LedgerState) (old new : Device) (suite : SuiteState) → IsShape setup.shape → old.size ≡ layout.device_lines setup.shape → AreToldLines new.size new.lines → IsValidRegs setup.shape old.regs → (old.regs.group.items ≡ [] → ⊥) → IsInterrupted old.regs.group.items old new → Follows (recover_plan setup old.regs (counts_of suite)) old new (Err (counts_of suite, Cut)) → HasRecovered setup ledger old new suite suite (Err Cut)
recovered_interrupted setup ledger old new suite shape size whole valid armed cut plan =
    let work : (lines : List Line) → StoppedWork setup.shape (redone old.regs.group.items lines) old.regs Cut suite suite = λ lines. stopped_at_once setup.shape (redone old.regs.group.items lines) old.regs suite in
    search rules

-- ---- the group redone, and the doubted lines made and written

-- the stages of a recovery that has its memory
pub record IsRecoveryRun (setup : Setup) (old mid new : Device) : Type 0 where
  pub size : old.size ≡ layout.device_lines setup.shape
  pub whole_before : AreToldLines old.size old.lines
  pub whole_after : AreToldLines new.size new.lines
  pub shape : IsShape setup.shape
  pub valid : IsValidRegs setup.shape old.regs
  pub finished : HasFinished old mid
  pub idle : old.regs.group.items ≡ [] → mid ≡ old
  pub written : HasMadeWrites setup old.regs mid new
  pub few_reads :
      IfLinesTold mid.lines
      (λ lines. RisesAtMost (doubted_reads setup.shape (shadow_of setup.shape lines)) mid.reads new.reads)

module _ (setup : Setup) (ledger : LedgerState) (old mid new : Device) (run : IsRecoveryRun setup old mid new) where
  pub new_regs : new.regs ≡ without_group old.regs
  new_regs = run.written.same_regs ∙ run.finished.regs

  pub emptied : IsEmptied old.regs new.regs
  emptied = IsEmptied-without old.regs new.regs new_regs

  pub goes_before : IsUncut old mid
  goes_before = record { cuts = run.finished.cuts; steady = run.finished.steady; live = run.finished.live }

  pub its_told : is_some new.lines ≡ is_some old.lines
  its_told = run.written.told ∙ ap is_some run.finished.lines ∙ told_redone old.regs.group.items old.lines

  pub its_reads : RisesAtMost (most_reads setup.shape) old.reads new.reads
  its_reads = subst (λ n. RisesAtMost (most_reads setup.shape) n new.reads) run.finished.reads run.written.reads

  pub its_valid : IsValidRegs setup.shape new.regs
  its_valid = IsValidRegs-emptied setup.shape old.regs new.regs emptied run.valid

  pub its_writes : RisesAtMost (length old.regs.group.items + most_writes setup.shape) old.writes new.writes
  its_writes = RisesAtMost-then (length old.regs.group.items) run.written.count _ old.writes mid.writes new.writes run.written.few run.finished.writes run.written.writes

  pub its_latches : RisesAtMost (finishing_latches old.regs.group.items) old.latches new.latches
  its_latches = search rules

  its_steps_in_all : TakesAtMost (most_recovery_steps setup old.regs) old new
  its_steps_in_all = search rules

  pub its_anchored : IsAnchored setup old.regs ledger → IsAnchored setup new.regs ledger
  its_anchored = IsAnchored-emptied setup old.regs new.regs ledger emptied

  -- if the lines are exposed
  pub record AreItsLines (lines now : List Line) : Type 0 where
    pub long : length (redone old.regs.group.items lines) ≡ layout.device_lines setup.shape
    pub whole : AreLinesOf (layout.device_lines setup.shape) now
    pub mid_told : mid.lines ≡ Some (redone old.regs.group.items lines)
    pub partly : IsPartlyMended setup (redone old.regs.group.items lines) old.regs now
    pub kept : redone new.regs.group.items now ≡ now
    pub count : differing (redone old.regs.group.items lines) now ≡ run.written.count
    pub no_count : setup.shape.shadow ≡ true → IsShadowZero setup (redone old.regs.group.items lines) → run.written.count ≡ 0

  -- the lines with the group redone
  pub its_mid : (lines : List Line) → old.lines ≡ Some lines → (mid.lines ≡ Some (redone old.regs.group.items lines)) × (length (redone old.regs.group.items lines) ≡ layout.device_lines setup.shape)
  its_mid lines told =
      let before : AreLinesOf (layout.device_lines setup.shape) lines = subst (λ s. AreLinesOf s lines) run.size (whole_lines old.size old.lines lines run.whole_before told) in (
        run.finished.lines ∙ redone_told-told old.regs.group.items old.lines lines told,
        length-put_lines old.regs.group.items lines ∙ before.count,
      )

  pub its_few_reads : (lines : List Line) → old.lines ≡ Some lines → RisesAtMost (doubted_reads setup.shape (shadow_of setup.shape (redone old.regs.group.items lines))) old.reads new.reads
  its_few_reads lines told =
      let at = its_mid lines told in
      subst (λ n. RisesAtMost (doubted_reads setup.shape (shadow_of setup.shape (redone old.regs.group.items lines))) n new.reads) run.finished.reads
      (run.few_reads (redone old.regs.group.items lines) at.0)

  pub its_lines : (lines now : List Line) → old.lines ≡ Some lines → new.lines ≡ Some now → AreItsLines lines now
  its_lines lines now told after =
      let long : length (redone old.regs.group.items lines) ≡ layout.device_lines setup.shape = (its_mid lines told).1 in
      let mid_told : mid.lines ≡ Some (redone old.regs.group.items lines) = (its_mid lines told).0 in
      let w = run.written.lines (redone old.regs.group.items lines) mid_told now after long in
      record {
        long = long;
        whole = subst (λ s. AreLinesOf s now) (run.written.size ∙ run.finished.size ∙ run.size) (whole_lines new.size new.lines now run.whole_after after);
        mid_told = mid_told;
        partly = w.0;
        kept = ap (λ items. redone items now) emptied.no_group;
        count = w.1;
        no_count = w.2;
      }

  pub its_data : (lines now : List Line) → AreItsLines lines now → (n : ℕ) → n < 80 * layout.pages setup.shape → line_at (redone new.regs.group.items now) n ≡ line_at (redone old.regs.group.items lines) n
  its_data lines now m n low =
      ap (λ l. line_at l n) m.kept ∙ partly-data setup (redone old.regs.group.items lines) old.regs now n m.partly low

  pub its_strict : (lines now : List Line) → AreItsLines lines now → (x : ℕ) → x < layout.meta_lines setup.shape → is_lazy setup.shape (level_of x) ≡ false
      → stored_meta setup.shape (redone new.regs.group.items now) x ≡ stored_meta setup.shape (redone old.regs.group.items lines) x
  its_strict lines now m x on_tree strict =
      ap (λ l. stored_meta setup.shape l x) m.kept ∙ partly-strict setup (redone old.regs.group.items lines) old.regs now x m.partly on_tree strict

  pub its_front : (lines now : List Line) → AreItsLines lines now → IsFrontWritten setup (redone old.regs.group.items lines) old.regs (redone new.regs.group.items now)
  its_front lines now m =
      subst (IsFrontWritten setup (redone old.regs.group.items lines) old.regs) (sym m.kept)
      (partly-front setup (redone old.regs.group.items lines) old.regs now m.partly)

  pub its_seals : (lines now : List Line) → AreItsLines lines now → (a : ℕ) → a < layout.data_lines setup.shape → IsSealStored setup.shape (redone old.regs.group.items lines) ledger.marks a → IsSealStored setup.shape (redone new.regs.group.items now) ledger.marks a
  its_seals lines now m a inside stored =
      IsSealStored-same setup.shape (redone old.regs.group.items lines) (redone new.regs.group.items now) ledger.marks a inside (its_data lines now m) stored

  pub its_steps : (lines now : List Line) → AreItsLines lines now → RisesAtMost (length old.regs.group.items + differing (redone old.regs.group.items lines) now) old.writes new.writes
  its_steps lines now m = search rules

  pub its_no_steps : (lines now : List Line) → AreItsLines lines now → setup.shape.shadow ≡ true → old.regs.group.items ≡ [] → IsShadowZero setup lines → (new.writes ≡ old.writes) × (new.latches ≡ old.latches)
  its_no_steps lines now m tables none zero = search rules

  -- a durable device is durable still, with its group redone and with some lines written
  its_mendable : (lines now : List Line) → AreItsLines lines now → IsDurable setup lines old.regs ledger → IsMendable setup now new.regs ledger
  its_mendable lines now m d =
      IsMendable-emptied setup now old.regs new.regs ledger emptied
      (partly-mendable setup (redone old.regs.group.items lines) old.regs now ledger run.shape d.mendable m.partly)

  pub its_durable : (lines now : List Line) → AreItsLines lines now → IsDurable setup lines old.regs ledger → IsDurable setup now new.regs ledger
  its_durable lines now m d = IsDurable-no_group setup now new.regs ledger emptied.no_group m.whole (its_mendable lines now m d)

  -- ---- a fault

  regs_after : (fault : RecFault) → IsFaultShown setup.formulas fault → RegsAfter (Err fault) old.regs new.regs
  regs_after Memory shown = absurd shown
  regs_after Cut shown = inr new_regs
  regs_after fault shown = new_regs

  power_after : (fault : RecFault) → StopsBy fault mid new → PowerAfter (Err fault) old new
  power_after Cut s = IsCutOff-after old mid new goes_before s
  power_after fault s = IsUncut-then old mid new goes_before s

  only_redone : KeepsDevice mid new → HasOnlyRedone old new
  only_redone r = search rules

  unchanged_after : (fault : RecFault) → IsFaultShown setup.formulas fault → IsStoppedShort setup.shape fault mid new → IsUnchanged (Err fault) old new
  unchanged_after Memory shown short = absurd shown
  unchanged_after Cut shown short = tt
  unchanged_after fault shown short = only_redone short

  lacks_after : MayLackSteps setup.shape old → MayLackSteps setup.shape mid
  lacks_after (inl lit) = inl (run.finished.live lit)
  lacks_after (inr some) = inr some

  steps_after : (fault : RecFault) → IsStoppedShort setup.shape fault mid new → StepsAfter setup (Err fault) (most_recovery_steps setup old.regs) old new
  steps_after Cut short = (
    its_steps_in_all,
    λ due.
        record {
          writes = its_writes.never_falls;
          latches = its_latches.never_falls;
          sum = λ below still.
              let redo = run.finished.writes.exact (omega (arith, below, run.written.writes.never_falls)) in
              let latch = run.finished.latches.exact (omega (arith, still, run.written.latches)) in
              omega (arith, short (lacks_after due) below, redo, latch, run.written.latches);
        },
  )
  steps_after fault short = its_steps_in_all

  twin_valid : (fault : RecFault) → IsFaultShown setup.formulas fault → IsTwinValid setup.formulas fault
  twin_valid (Twin at major low high cipher tag) shown = shown
  twin_valid fault shown = tt

  no_counter_after : (lines : List Line) (fault : RecFault) → IsRefusal setup lines old.regs fault → IsNoCounterUnmendable setup lines old.regs ledger (Err fault)
  no_counter_after lines (NoCounter at) r = no_counter-caused setup lines old.regs ledger at r.1
  no_counter_after lines fault r = tt

  mended_after : (now : List Line) (fault : RecFault) → IsTrueRefusal old.regs ledger fault → IsDurable setup now new.regs ledger → IsMendedAs setup old.regs new.regs ledger now (Err fault)
  mended_after now (NoCounter at) r d = r
  mended_after now (Root kept found) r d = r
  mended_after now (Twin at major low high cipher tag) r d = (r, d)
  mended_after now fault r d = d

  uncounted_after : (suite_old suite_new : SuiteState) (fault : RecFault) → IsFaultShown setup.formulas fault → IsUncounted (Err fault) suite_old suite_new
  uncounted_after suite_old suite_new Memory shown = absurd shown
  uncounted_after suite_old suite_new fault shown = tt

  plan_after : (suite_old suite_new : SuiteState) (fault : RecFault) → IsFaultShown setup.formulas fault → Follows (recover_plan setup old.regs (counts_of suite_old)) old new (Err (counts_of suite_new, fault)) → PlanAfter setup (Err fault) old new suite_old suite_new
  plan_after suite_old suite_new Memory shown it = absurd shown
  plan_after suite_old suite_new fault shown it = it

  -- the counts, from those of the plan's end
  suite_work : (trials digests : ℕ) (suite_old suite_new : SuiteState) → suite_new.keys ≡ suite_old.keys → suite_new.pads ≡ suite_old.pads
      → counts_of suite_new ≡ after_work trials digests (counts_of suite_old) → SuiteWork trials digests suite_old suite_new
  suite_work trials digests suite_old suite_new keys pads counted =
      record { keys = keys; pads = pads; tags = ap (λ (c : SuiteCounts). c.tags) counted; digests = ap (λ (c : SuiteCounts). c.digests) counted }

  pub recovered_fault : (suite_old suite_new : SuiteState) (fault : RecFault) → suite_new.keys ≡ suite_old.keys → suite_new.pads ≡ suite_old.pads
      → Follows (recover_plan setup old.regs (counts_of suite_old)) old new (Err (counts_of suite_new, fault))
      → IsLeftBy setup old.regs mid new (counts_of suite_old) (counts_of suite_new, fault) → HasRecovered setup ledger old new suite_old suite_new (Err fault)
  recovered_fault suite_old suite_new fault keys pads plan left =
      let s = left.stops in
      let worked = suite_work s.trials s.digests suite_old suite_new keys pads s.counted in
      record {
        size = run.written.size ∙ run.finished.size;
        told = its_told;
        reads = its_reads;
        few_reads = its_few_reads;
        exact_reads = λ lines told.
            subst (λ n. IsReadUntil setup.shape (shadow_of setup.shape (redone old.regs.group.items lines)) old.regs fault n new.reads) run.finished.reads
            ((s.over (redone old.regs.group.items lines) (its_mid lines told).0).reads mid.reads new.reads left.its_reads);
        regs = regs_after fault s.shown;
        valid = its_valid;
        power = power_after fault left.device;
        unchanged = unchanged_after fault s.shown left.short;
        writes = its_writes;
        latches = its_latches;
        steps = steps_after fault left.short;
        keys = keys;
        pads = pads;
        trials = tt;
        digests = tt;
        uncounted = uncounted_after suite_old suite_new fault s.shown;
        work = λ lines told.
            record { trials = s.trials; digests = s.digests; so_far = (s.over (redone old.regs.group.items lines) (its_mid lines told).0).work; worked = worked };
        few_work = tt;
        few_trials = record { calls = s.trials; few = s.few_trials; counted = worked.tags };
        few_digests = record { calls = s.digests; few = s.few_digests; counted = worked.digests };
        anchored = its_anchored;
        engine = tt;
        trusted = λ a. tt;
        twin = twin_valid fault s.shown;
        plan = plan_after suite_old suite_new fault s.shown plan;
        lines = λ lines told now after.
            let m = its_lines lines now told after in
            let refused = (s.over (redone old.regs.group.items lines) m.mid_told).refusal in
            record {
              from_durable = λ d.
                  mended_after now fault (true_refusal setup (redone old.regs.group.items lines) old.regs ledger fault run.shape d.mendable refused) (its_durable lines now m d);
              data_same = its_data lines now m;
              seals_kept = its_seals lines now m;
              strict_same = its_strict lines now m;
              front = its_front lines now m;
              fixed = tt;
              cleared = tt;
              decided = refused;
              no_counter = no_counter_after (redone old.regs.group.items lines) fault refused;
              few_steps = its_steps lines now m;
              no_steps = its_no_steps lines now m;
            };
      }

  -- ---- a new engine

  pub recovered_ok : (suite_old suite_new : SuiteState) (work : Work) → suite_new.keys ≡ suite_old.keys → suite_new.pads ≡ suite_old.pads
      → Follows (recover_plan setup old.regs (counts_of suite_old)) old new (Ok (counts_of suite_new, (new_engine setup.shape, work)))
      → IsMended setup old.regs mid new (counts_of suite_old) (counts_of suite_new) work → HasRecovered setup ledger old new suite_old suite_new (Ok (new_engine setup.shape, work))
  recovered_ok suite_old suite_new work keys pads plan mended =
      let worked = suite_work work.trials work.digests suite_old suite_new keys pads mended.counted in
      record {
        size = run.written.size ∙ run.finished.size;
        told = its_told;
        reads = its_reads;
        few_reads = its_few_reads;
        exact_reads = λ lines told.
            subst (λ n. RisesBy (all_reads setup.shape (shadow_of setup.shape (redone old.regs.group.items lines)) old.regs) n new.reads) run.finished.reads
            (mended.all_read (redone old.regs.group.items lines) (its_mid lines told).0);
        regs = new_regs;
        valid = its_valid;
        power = IsUncut-then old mid new goes_before mended.goes;
        unchanged = tt;
        writes = its_writes;
        latches = its_latches;
        steps = its_steps_in_all;
        keys = keys;
        pads = pads;
        trials = worked.tags;
        digests = worked.digests;
        uncounted = tt;
        work = λ lines told. mended.all_work (redone old.regs.group.items lines) (its_mid lines told).0;
        few_work = record { trials = mended.few_trials; digests = mended.few_digests };
        few_trials = record { calls = work.trials; few = mended.few_trials; counted = worked.tags };
        few_digests = record { calls = work.digests; few = mended.few_digests; counted = worked.digests };
        anchored = its_anchored;
        engine = refl;
        trusted = λ a. IsTrusted-fresh setup new.regs ledger (its_anchored a) emptied.no_group;
        twin = tt;
        plan = plan;
        lines = λ lines told now after.
            let m = its_lines lines now told after in
            let r = mended.recovered (redone old.regs.group.items lines) m.mid_told now after m.long in
            let before = redone old.regs.group.items lines in
            let zero = zero_recovered setup before old.regs now r.0 in
            record {
              from_durable = λ d.
                  IsSound-new_engine setup (on_chip (new_engine setup.shape)) now new.regs ledger (IsNewEngine-fresh setup now m.whole zero) m.whole (its_mendable lines now m d)
                  (true_recovered setup before old.regs now r.0 ledger run.shape d.mendable) emptied.no_group;
              data_same = its_data lines now m;
              seals_kept = its_seals lines now m;
              strict_same = its_strict lines now m;
              front = its_front lines now m;
              fixed = are_fixed setup before old.regs now r.0;
              cleared = record { shadow_zero = zero; top = top_recovered setup before old.regs now r.0 ∙ r.1.root ∙ sym emptied.same_root };
              decided = r.1;
              no_counter = tt;
              few_steps = its_steps lines now m;
              no_steps = its_no_steps lines now m;
            };
      }
