-- What is known of a board that followed recovery's plan once the group is redone, from the plan alone.
use Rattle.std.proofs.Common.{ℕ, ◌≡◌, ◌≤◌, ◌<◌, ◌+◌, ◌*◌, ◌⊎◌, inl, inr, true, IsTrue, List, length, All, Some, Result, Ok, Err, refl, ap, sym, subst, ◌∙◌, arith}
use Rattle.std.specs.Prelude.{is_some}
use Rattle.std.proofs.lemmas.Option.{same_Some}
use Rattle.pmem_base.specs.declared.lines.Line.{Line}
use Rattle.std.proofs.lemmas.Bool.{true≢false}
use Rattle.pmem_base.specs.declared.faults.Cut.{Cut}
use Rattle.pmem_base.specs.declared.registers.Regs.{Regs}
use Rattle.pmem_base.specs.Shape.{Shape, IsShape, is_loss}
use Rattle.pmem_base.specs.Layout.{data_lines, meta_lines, device_lines, shadow_lines}
use Rattle.board.specs.Counts.{RisesBy}
use Rattle.board.specs.Device.{Device, AreToldLines}
use Rattle.call_plan.specs.Plans.{bind, mapped_end}
use Rattle.call_plan.specs.Following.{Follows}
use Rattle.call_plan.proofs.Bind.{parts, unmapped}
use Rattle.call_plan.proofs.Leaves.{leaves}
use Rattle.commit_regs.specs.Groups.{RisesAtMost}
use Rattle.shadow_tables.specs.Entries.{shadow_of}
use Rattle.suite.specs.Setup.{Setup}
use Rattle.plain_model.specs.Bounds.{most_blocks, most_nodes}
use Rattle.pmem_engine.specs.Mendable.{IsShadowZero}
use Rattle.call_effects.proofs.ToldLines.{whole_lines}
use Rattle.call_effects.specs.declared.recovery.Work.{Work}
use Rattle.pmem_recovery.specs.declared.faults.RecFault.{RecFault}
use Rattle.pmem_recovery.specs.declared.faults.RecFault.TheVariants as Fault
use Rattle.pmem_recovery.specs.Reads.{all_reads, doubted_reads}
use Rattle.pmem_recovery.specs.Parts.{IfLinesTold, KeepsDevice, IsUncut, IsCutOff, StopsBy, HasRoot, IsAllWork}
use Rattle.pmem_recovery.specs.Writing.{IfBothLinesTold, HasOnlyWritten, differing, DueWrite, writes_due, count_changed, HasWrittenTo}
use Rattle.pmem_recovery.specs.Mending.{most_reads, most_writes, IsWrittenTo, IsPartlyMended, IsRecovered, HasMadeWrites, MayLackSteps, IsStoppedShort}
use Rattle.pmem_recovery.specs.Plans.{SuiteCounts, MadeLines, entries_plan, clear_plan, writes_plan, making_plan, mend_plan}
use Rattle.pmem_recovery.proofs.PartLaws.{IsUncut-then, IsCutOff-after}
use Rattle.pmem_recovery.proofs.ReadLaws.{RisesBy-as}
use Rattle.pmem_recovery.proofs.MakingEnds.{after_work, StopsWith, IsStop, IsCutEnd, cut_end}
use Rattle.pmem_recovery.proofs.RootEnds.{IsMade, making_ends}
use Rattle.pmem_recovery.proofs.WriteSteps.{HasOnlyWritten-none, differing-none, count_changed-le}
use Rattle.pmem_recovery.proofs.WriteEnds.{IsAtWrite, IsCutAmidWrites, writes_leave}
use Rattle.pmem_recovery.proofs.WrittenLaws.{are_due, none_changed}
use Rattle.pmem_recovery.proofs.ReadOnlyPlans.{HasOnlyRead, only_reads}

-- ---- what is known

-- it is done
pub record IsMended (setup : Setup) (regs : Regs) (old new : Device) (first left : SuiteCounts) (work : Work) : Type 0 where
  pub goes : IsUncut old new
  pub counted : left ≡ after_work work.trials work.digests first
  pub few_trials : work.trials ≤ 64 * regs.loss * most_blocks setup.shape
  pub few_digests : work.digests ≤ 4 * most_nodes setup.shape + 1
  pub recovered :
      IfBothLinesTold old new
      (λ lines now. length lines ≡ device_lines setup.shape → IsRecovered setup lines regs now × HasRoot setup lines regs)
  pub all_work : IfLinesTold old.lines (λ lines. IsAllWork setup.shape lines regs work.trials work.digests)
  pub all_read : IfLinesTold old.lines (λ lines. RisesBy (all_reads setup.shape (shadow_of setup.shape lines) regs) old.reads new.reads)

-- it stops, or is cut
pub record IsLeftBy (setup : Setup) (regs : Regs) (old new : Device) (first : SuiteCounts) (left : SuiteCounts × RecFault) : Type 0 where
  pub reads : ℕ
  pub its_reads : RisesBy reads old.reads new.reads
  pub stops : StopsWith setup regs old.lines first left reads
  pub device : StopsBy left.1 old new
  pub short : IsStoppedShort setup.shape left.1 old new

abbrev pub EndsMending : Setup → Regs → Device → Device → SuiteCounts → Result (SuiteCounts × Work) (SuiteCounts × RecFault) → Type 0
EndsMending setup regs old new first (Ok done) = IsMended setup regs old new first done.0 done.1
EndsMending setup regs old new first (Err left) = IsLeftBy setup regs old new first left

pub record HasFollowedMending (setup : Setup) (regs : Regs) (old new : Device) (first : SuiteCounts)
    (end : Result (SuiteCounts × Work) (SuiteCounts × RecFault)) : Type 0 where
  pub written : HasMadeWrites setup regs old new
  pub few_reads : IfLinesTold old.lines (λ lines. RisesAtMost (doubted_reads setup.shape (shadow_of setup.shape lines)) old.reads new.reads)
  pub ends : EndsMending setup regs old new first end

-- ---- the law

-- if lines are exposed, there are as many as the device has
pub all_told : (d : Device) (n : ℕ) → AreToldLines d.size d.lines → d.size ≡ n → IfLinesTold d.lines (λ lines. length lines ≡ n)
all_told d n whole size = λ lines told. (whole_lines d.size d.lines lines whole told).count ∙ size

at_most : (n most before after : ℕ) → n ≤ most → RisesBy n before after → RisesAtMost most before after
at_most n most before after few r = record { never_falls = r.never_falls; bound = λ below. omega (arith, few, r.exact below) }

-- nothing was written: a device that has power was not cut then
short_none : (g : Shape) (fault : RecFault) (old new : Device) → KeepsDevice old new → (old.live ≡ true → new.live ≡ true) → StopsBy fault old new
    → IsStoppedShort g fault old new
short_none g Fault.Memory old new kept lasting stops = kept
short_none g Fault.Cut old new kept lasting stops = λ lacks below. by lacks
  where
    by : MayLackSteps g old → new.writes < old.writes + most_writes g
    by (inl lit) = absurd (true≢false (sym (lasting lit) ∙ stops.off))
    by (inr some) = omega (arith, kept.writes, some)
short_none g (Fault.NoCounter at) old new kept lasting stops = kept
short_none g (Fault.Root k found) old new kept lasting stops = kept
short_none g (Fault.Twin at major low high cipher tag) old new kept lasting stops = kept

module _ (setup : Setup) (regs : Regs) (first : SuiteCounts) (valid : IsShape setup.shape) (loss : IsTrue (is_loss regs.loss)) (old : Device)
    (whole : IfLinesTold old.lines (λ lines. length lines ≡ device_lines setup.shape)) where
  abbrev g : Shape
  g = setup.shape

  abbrev Stops : SuiteCounts × RecFault → ℕ → Type 0
  Stops = IsStop setup regs old.lines first

  abbrev Cuts : SuiteCounts × RecFault → ℕ → Type 0
  Cuts = IsCutEnd setup regs old.lines first

  abbrev Reads : Device → Result (SuiteCounts × MadeLines) (SuiteCounts × RecFault) → Type 0
  Reads new end = HasOnlyRead (IsMade setup regs old.lines first) Stops Cuts old new end

  pub made_so : {new : Device} {end : Result (SuiteCounts × MadeLines) (SuiteCounts × RecFault)} → Follows (making_plan setup regs first) old new end → Reads new end
  made_so it = only_reads (IsMade setup regs old.lines first) Stops Cuts old (making_ends setup regs old.lines first valid loss whole) it

  -- so the lines made can be written, and the shadow lines cleared
  pub made_ready : {new : Device} {made : SuiteCounts × MadeLines} → Follows (making_plan setup regs first) old new (Ok made)
      → All (λ entry. entry.at < meta_lines setup.shape) made.1.made × (length made.1.shadow ≡ shadow_lines setup.shape)
  made_ready it = let made = (made_so it).ends.1 in (made.on_tree, made.long)

  -- the first k lines are written after the reads
  made_writes : (mid new : Device) (count : ℕ) → KeepsDevice old mid → RisesAtMost (most_reads g) old.reads mid.reads → count ≤ most_writes g
      → HasOnlyWritten count mid new
      → IfBothLinesTold old new
      (λ lines now. length lines ≡ device_lines g
      → IsPartlyMended setup lines regs now × (differing lines now ≡ count) × (setup.shape.shadow ≡ true → IsShadowZero setup lines → count ≡ 0))
      → HasMadeWrites setup regs old new
  made_writes mid new count kept reads few s lines =
      record {
        size = s.size ∙ kept.size;
        same_regs = s.regs ∙ kept.regs;
        latches = s.latches ∙ kept.latches;
        reads = subst (RisesAtMost (most_reads g) old.reads) (sym s.reads) reads;
        told = s.told ∙ ap is_some kept.lines;
        count = count;
        few = few;
        writes = subst (λ n. RisesBy count n new.writes) kept.writes s.writes;
        none = λ e. s.none e ∙ kept.writes;
        lines = lines;
      }

  -- it stopped before a write
  stopped : (new : Device) (left : SuiteCounts × RecFault) → Reads new (Err left) → HasFollowedMending setup regs old new first (Err left)
  stopped new left r = by r.ends
    where
      with_stop : StopsWith setup regs old.lines first left r.count → StopsBy left.1 old new → (old.live ≡ true → new.live ≡ true)
          → HasFollowedMending setup regs old new first (Err left)
      with_stop s device lasting =
          record {
            written =
                made_writes new new 0 r.kept (at_most r.count (most_reads g) old.reads new.reads s.few_reads r.reads) (omega arith) (HasOnlyWritten-none new)
                (λ lines told now after long.
                let same : now ≡ lines = same_Some now lines (sym after ∙ r.kept.lines ∙ told) in
                (inl same, ap (differing lines) same ∙ differing-none lines, λ tables cleared. refl));
            few_reads = λ lines its. at_most r.count (doubted_reads g (shadow_of g lines)) old.reads new.reads (s.over lines its).few_reads r.reads;
            ends = record { reads = r.count; its_reads = r.reads; stops = s; device = device; short = short_none g left.1 old new r.kept lasting device };
          }

      by : (IsUncut old new × Stops left r.count) ⊎ (IsCutOff old new × (old.live ≡ true → ⊥) × Cuts left r.count)
          → HasFollowedMending setup regs old new first (Err left)
      by (inl it) = with_stop it.1.0 (it.1.1 old new it.0) it.0.live
      by (inr it) = with_stop it.2.0 (it.2.1 old new it.0) (λ lit. absurd (it.1 lit))

  -- all was made
  module _ (mid : Device) (made : SuiteCounts × MadeLines) (r : Reads mid (Ok made)) where
    its : IsMade setup regs old.lines first made r.count
    its = r.ends.1

    abbrev in_whole : Result (Unit {0}) Cut → Result (SuiteCounts × Work) (SuiteCounts × RecFault)
    in_whole end = mapped_end (λ cut. (made.0, Fault.Cut)) (λ done. (made.0, made.1.work)) end

    abbrev due : ℕ → DueWrite
    due = writes_due g made.1.shadow made.1.made

    abbrev total : ℕ
    total = length made.1.made + shadow_lines g

    few_read : RisesAtMost (most_reads g) old.reads mid.reads
    few_read = at_most r.count (most_reads g) old.reads mid.reads (its).few_reads r.reads

    cut_then : StopsWith setup regs old.lines first (made.0, Fault.Cut) r.count
    cut_then =
        (cut_end setup regs old.lines first made.0 made.1.work.trials made.1.work.digests r.count (its).counted (its).few_trials (its).few_digests
        ((its).few_reads, λ lines told. ((its).over lines told).3)
        (λ lines told.
        let w = ((its).over lines told).1 in
        record { lines_tried = data_lines g; within = omega arith; its_trials = w.its_trials; few_digests = omega (arith, w.its_digests); in_order = inl refl })).0

    named_at : (new : Device) → new.reads ≡ mid.reads → IfLinesTold old.lines (λ lines. RisesAtMost (doubted_reads g (shadow_of g lines)) old.reads new.reads)
    named_at new same lines told =
        subst (λ n. RisesAtMost (doubted_reads g (shadow_of g lines)) old.reads n) (sym same)
        (at_most r.count (doubted_reads g (shadow_of g lines)) old.reads mid.reads ((its).over lines told).3 r.reads)

    reads_at : (new : Device) → new.reads ≡ mid.reads → RisesBy r.count old.reads new.reads
    reads_at new same = subst (λ n. RisesBy r.count old.reads n) (sym same) r.reads

    -- the first k of the writes that are due were made
    written_to : (new : Device) (k : ℕ) → k ≤ total → HasWrittenTo due total k mid new → (lines now : List Line) → old.lines ≡ Some lines → new.lines ≡ Some now
        → length lines ≡ device_lines g → IsWrittenTo setup lines regs made.1.shadow made.1.made k now
    written_to new k few w lines now told after long =
        let all = ((its).over lines told).0 in
        record {
          all = all;
          few = few;
          are_written = w.lines lines (r.kept.lines ∙ told) now after (are_due setup lines regs made.1.shadow made.1.made all long);
        }

    made_to : (new : Device) (k : ℕ) → k ≤ total → HasWrittenTo due total k mid new → HasMadeWrites setup regs old new
    made_to new k few w =
        made_writes mid new (count_changed due k) r.kept few_read (omega (arith, count_changed-le due k, few, (its).few_made, (its).long)) w.steps
        (λ lines told now after long.
        let written = written_to new k few w lines now told after long in (
          inr (made.1.shadow, made.1.made, k, written),
          written.are_written.differ,
          λ tables cleared. none_changed setup lines regs made.1.shadow made.1.made written.all tables cleared k few,
        ))

    -- all of them, or not
    of_writes : (new : Device) (end : Result (Unit {0}) Cut) → Follows (bind (entries_plan g made.1.made) (λ written. clear_plan g made.1.shadow)) mid new end
        → HasFollowedMending setup regs old new first (in_whole end)
    of_writes new (Ok done) it =
        let z = leaves (λ t new. IsAtWrite g made.1.shadow made.1.made mid total new) (λ left new. IsCutAmidWrites g made.1.shadow made.1.made mid new)
        (writes_leave g made.1.shadow made.1.made mid) it in
        let same : new.reads ≡ mid.reads = z.written.steps.reads in
        record {
          written = made_to new total (omega arith) z.written;
          few_reads = named_at new same;
          ends =
              record {
                goes = IsUncut-then old mid new r.ends.0 z.goes;
                counted = (its).counted;
                few_trials = (its).few_trials;
                few_digests = (its).few_digests;
                recovered = λ lines told now after long.
                    let written = written_to new total (omega arith) z.written lines now told after long in
                    (record { shadow = made.1.shadow; made = made.1.made; written = written }, written.all.has_root);
                all_work = λ lines told. ((its).over lines told).1;
                all_read = λ lines told. RisesBy-as r.count (all_reads g (shadow_of g lines) regs) old.reads new.reads ((its).over lines told).2 (reads_at new same);
              };
        }
    of_writes new (Err left) it =
        let z = leaves (λ t new. IsAtWrite g made.1.shadow made.1.made mid total new) (λ left new. IsCutAmidWrites g made.1.shadow made.1.made mid new)
        (writes_leave g made.1.shadow made.1.made mid) it in
        let same : new.reads ≡ mid.reads = z.written.steps.reads in
        let writes : RisesBy (count_changed due z.place) old.writes new.writes =
        subst (λ n. RisesBy (count_changed due z.place) n new.writes) r.kept.writes z.written.steps.writes in
        record {
          written = made_to new z.place (omega (arith, z.within)) z.written;
          few_reads = named_at new same;
          ends =
              record {
                reads = r.count;
                its_reads = reads_at new same;
                stops = cut_then;
                device = IsCutOff-after old mid new r.ends.0 z.off;
                short = λ lacks below. omega (arith, writes.exact below, count_changed-le due z.place, z.within, (its).few_made, (its).long);
              };
        }

    wrote : (new : Device) (end : Result (SuiteCounts × Work) (SuiteCounts × RecFault)) → Follows (writes_plan setup made) mid new end
        → HasFollowedMending setup regs old new first end
    wrote new end it =
        let e = unmapped (λ cut. (made.0, Fault.Cut)) (λ done. (made.0, made.1.work)) (bind (entries_plan g made.1.made) (λ written. clear_plan g made.1.shadow)) it in
        subst (HasFollowedMending setup regs old new first) (sym e.same) (of_writes new e.its_end e.follows)

  pub mending_followed : (new : Device) (end : Result (SuiteCounts × Work) (SuiteCounts × RecFault)) → Follows (mend_plan setup regs first) old new end
      → HasFollowedMending setup regs old new first end
  unfolding mend_plan
  mending_followed new end it =
      elim (parts (making_plan setup regs first) (writes_plan setup) it) [
        | inl w ↦ wrote w.mid w.value (made_so w.first) new end w.second
        | inr s ↦ subst (HasFollowedMending setup regs old new first) (sym s.same) (stopped new s.left (made_so s.first))
      ]
