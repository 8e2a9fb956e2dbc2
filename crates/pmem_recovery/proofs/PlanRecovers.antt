-- That a board which followed recovery's plan has recovered: all that is promised of a recovery is a law of its plan.
use Rattle.std.proofs.Common.{ℕ, ◌≡◌, inl, inr, List, [], length, Option, Some, None, Result, Ok, Err, refl, sym, ap, ap₂, subst, ◌∙◌}
use Rattle.std.proofs.lemmas.Option.{same_Some}
use Rattle.pmem_base.specs.declared.faults.Cut.{Cut}
use Rattle.pmem_base.specs.declared.lines.Line.{Line}
use Rattle.pmem_base.specs.Shape.{IsShape}
use Rattle.pmem_base.specs.Layout.{device_lines}
use Rattle.pmem_base.specs.Registers.{IsValidRegs, without_group}
use Rattle.pmem_base.proofs.LineSets.{length-put_lines}
use Rattle.board.specs.Device.{Device, AreToldLines}
use Rattle.call_plan.specs.Plans.{Plan, mapped, mapped_end, ended, the_cut}
use Rattle.call_plan.specs.Following.{Follows}
use Rattle.call_plan.proofs.Bind.{parts, unmapped}
use Rattle.commit_regs.specs.Groups.{redone, redone_told, HasFinished}
use Rattle.suite.specs.Setup.{Setup}
use Rattle.seal_ledger.specs.Ledger.{LedgerState}
use Rattle.pmem_engine.specs.Engine.{EngineState}
use Rattle.pmem_engine.specs.Mendable.{new_engine}
use Rattle.call_effects.proofs.ToldLines.{whole_lines}
use Rattle.call_effects.specs.declared.recovery.Work.{Work}
use Rattle.pmem_recovery.specs.declared.faults.RecFault.{RecFault}
use Rattle.pmem_recovery.specs.declared.faults.RecFault.TheVariants as Fault
use Rattle.call_effects.specs.SuiteStates.{SuiteState}
use Rattle.pmem_recovery.specs.Parts.{IfLinesTold}
use Rattle.pmem_recovery.specs.Recovered.{Answer, HasRecovered}
use Rattle.commit_regs.specs.Plans.{redo_plan}
use Rattle.pmem_recovery.specs.Plans.{SuiteCounts, counts_of, fixed_block_plan, making_plan, mend_plan, after_redo, recover_plan}
use Rattle.pmem_recovery.proofs.RedoEnds.{redo_finished, redo_interrupted}
use Rattle.pmem_recovery.proofs.MendEnds.{IsMended, IsLeftBy, HasFollowedMending, mending_followed}
use Rattle.pmem_recovery.proofs.RecoverLaws.{IsRecoveryRun, recovered_interrupted, recovered_fault, recovered_ok}

module _ (setup : Setup) (ledger : LedgerState) (old new : Device) (suite_old suite_new : SuiteState) (valid : IsShape setup.shape)
    (size : old.size ≡ device_lines setup.shape) (regs : IsValidRegs setup.shape old.regs) (whole_old : AreToldLines old.size old.lines)
    (whole_new : AreToldLines new.size new.lines) (keys : suite_new.keys ≡ suite_old.keys) (pads : suite_new.pads ≡ suite_old.pads) where
  abbrev counts : SuiteCounts
  counts = counts_of suite_old

  abbrev Recovered : Answer → Type 0
  Recovered answer = HasRecovered setup ledger old new suite_old suite_new answer

  abbrev Ended : Answer → Type 0
  Ended answer = Follows (recover_plan setup old.regs (counts_of suite_old)) old new (ended answer (counts_of suite_new))

  -- the redo in the words of the whole
  abbrev redoing : Plan (SuiteCounts × RecFault) (Unit {0})
  redoing = mapped (λ cut. (counts_of suite_old, Fault.Cut)) (λ end. end) (redo_plan old.regs)

  -- once the group is redone
  module _ (mid : Device) (finished : HasFinished old mid) (idle : old.regs.group.items ≡ [] → mid ≡ old) where
    long : IfLinesTold mid.lines (λ lines. length lines ≡ device_lines setup.shape)
    long lines its = go old.lines refl
      where
        go : (told : Option (List Line)) → old.lines ≡ told → length lines ≡ device_lines setup.shape
        go None none = let no = sym its ∙ finished.lines ∙ ap (redone_told old.regs.group.items) none in absurd (cc)
        go (Some before) told =
            ap length (same_Some lines (redone old.regs.group.items before) (sym its ∙ finished.lines ∙ ap (redone_told old.regs.group.items) told))
            ∙ length-put_lines old.regs.group.items before ∙ (whole_lines old.size old.lines before whole_old told).count ∙ size

    mending : (end : Result (SuiteCounts × Work) (SuiteCounts × RecFault)) → Follows (mend_plan setup (without_group old.regs) counts) mid new end
        → HasFollowedMending setup old.regs mid new counts end
    unfolding mend_plan making_plan fixed_block_plan
    mending end it = mending_followed setup old.regs counts valid regs.known_loss mid long new end it

    run : {end : Result (SuiteCounts × Work) (SuiteCounts × RecFault)} → HasFollowedMending setup old.regs mid new counts end → IsRecoveryRun setup old mid new
    run it =
        record {
          size = size;
          whole_before = whole_old;
          whole_after = whole_new;
          shape = valid;
          valid = regs;
          finished = finished;
          idle = idle;
          written = it.written;
          few_reads = it.few_reads;
        }

    -- with the end in the words of the whole
    in_whole : (answer : Answer) (end : Result (SuiteCounts × Work) (SuiteCounts × RecFault)) → Ended answer
        → ended answer (counts_of suite_new) ≡ mapped_end (λ left. left) (λ done. (done.0, (new_engine setup.shape, done.1))) end
        → Follows (mend_plan setup (without_group old.regs) counts) mid new end → Recovered answer
    in_whole (Ok done) (Ok made) plan same it =
        let all : (counts_of suite_new, done) ≡ (made.0, (new_engine setup.shape, made.1)) = cc in
        let engine : new_engine setup.shape ≡ done.0 = sym (ap (λ (e : SuiteCounts × (EngineState × Work)). e.1.0) all) in
        let its_end : (made.0, made.1) ≡ (counts_of suite_new, done.1) = sym (ap (λ (e : SuiteCounts × (EngineState × Work)). (e.0, e.1.1)) all) in
        let m = mending (Ok made) it in
        subst (λ (e : EngineState). Recovered (Ok (e, done.1))) engine
        (recovered_ok setup ledger old mid new (run m) suite_old suite_new done.1 keys pads
        (subst (λ (e : EngineState). Ended (Ok (e, done.1))) (sym engine) plan)
        (subst (λ (e : SuiteCounts × Work). IsMended setup old.regs mid new counts e.0 e.1) its_end m.ends))
    in_whole (Err fault) (Err left) plan same it =
        let all : left ≡ (counts_of suite_new, fault) = cc in
        let m = mending (Err left) it in
        recovered_fault setup ledger old mid new (run m) suite_old suite_new fault keys pads plan (subst (λ (e : SuiteCounts × RecFault). IsLeftBy setup old.regs mid new counts e) all m.ends)
    in_whole (Ok done) (Err left) plan same it = absurd (cc)
    in_whole (Err fault) (Ok made) plan same it = absurd (cc)

  -- the redo was cut
  not_redone : (answer : Answer) → Ended answer → ended answer (counts_of suite_new) ≡ Err (counts, Fault.Cut) → Follows (redo_plan old.regs) old new (Err the_cut) → Recovered answer
  not_redone (Ok done) plan same it = absurd (cc)
  not_redone (Err fault) plan same it =
      let all : (counts_of suite_new, fault) ≡ (counts, Fault.Cut) = cc in
      let its_fault : Fault.Cut ≡ fault = sym (ap (λ (e : SuiteCounts × RecFault). e.1) all) in
      let its_counts : counts_of suite_new ≡ counts = ap (λ (e : SuiteCounts × RecFault). e.0) all in
      let suite : suite_old ≡ suite_new = same_suite its_counts in
      let redo = redo_interrupted old old.regs.group.items new the_cut refl it in
      subst (λ (f : RecFault). Recovered (Err f)) its_fault
      (subst (λ (s : SuiteState). HasRecovered setup ledger old new suite_old s (Err Fault.Cut)) suite
      (recovered_interrupted setup ledger old new suite_old valid size whole_new regs redo.1 redo.0
      (subst (λ (e : SuiteCounts × RecFault). Follows (recover_plan setup old.regs counts) old new (Err e)) all plan)))
    where
      same_suite : counts_of suite_new ≡ counts → suite_old ≡ suite_new
      same_suite its =
          ap₂ (λ (k : List ℕ) (p : ℕ). record suite_old { keys = k; pads = p }) (sym keys) (sym pads)
          ∙ ap (λ (c : SuiteCounts). record suite_new { tags = c.tags; digests = c.digests }) (sym its)

  pub plan_recovers : (answer : Answer) → Ended answer → Recovered answer
  unfolding recover_plan
  plan_recovers answer it =
      elim (parts redoing (after_redo setup old.regs counts) it) [
        | inl w ↦ from_redo w.mid w.value w.first w.second
        | inr s ↦
            let e = unmapped (λ cut. (counts, Fault.Cut)) (λ end. end) (redo_plan old.regs) s.first in
            stopped s.left e.its_end e.same s.same e.follows
      ]
    where
      from_redo : (mid : Device) (value : Unit {0}) → Follows redoing old mid (Ok value)
          → Follows (after_redo setup old.regs counts value) mid new (ended answer (counts_of suite_new)) → Recovered answer
      from_redo mid value first second =
          let e = unmapped (λ cut. (counts, Fault.Cut)) (λ end. end) (redo_plan old.regs) first in
          go e.its_end e.same e.follows
        where
          go : (end : Result (Unit {0}) Cut) → (let whole : Result (Unit {0}) (SuiteCounts × RecFault) = Ok value in whole) ≡ mapped_end (λ cut. (counts, Fault.Cut)) (λ end. end) end
              → Follows (redo_plan old.regs) old mid end → Recovered answer
          go (Ok done) same redo =
              let f = redo_finished old old.regs.group.items mid refl redo in
              let m = unmapped (λ left. left) (λ done. (done.0, (new_engine setup.shape, done.1))) (mend_plan setup (without_group old.regs) counts) second in
              in_whole mid f.0 f.1 answer m.its_end it m.same m.follows
          go (Err cut) same redo = absurd (cc)

      stopped : (left : SuiteCounts × RecFault) (end : Result (Unit {0}) Cut)
          → (let whole : Result (Unit {0}) (SuiteCounts × RecFault) = Err left in whole) ≡ mapped_end (λ cut. (counts, Fault.Cut)) (λ end. end) end
          → ended answer (counts_of suite_new) ≡ Err left → Follows (redo_plan old.regs) old new end → Recovered answer
      stopped left (Ok done) same its redo = absurd (cc)
      stopped left (Err cut) same its redo =
          let all : left ≡ (counts, Fault.Cut) = cc in
          not_redone answer it (its ∙ ap (λ l. Err l) all) redo
