-- What is known of a board that followed the plan of redoing its armed group.
use Rattle.std.proofs.Common.{ℕ, ◌≡◌, ◌≤◌, List, [], ◌∷◌, ◌++◌, length, Option, Some, None, Ok, Err, refl, sym, ap, subst, ◌∙◌, arith}
use Rattle.std.proofs.lemmas.List.{append-nil, append_assoc, length-append, get_or_append_left}
use Rattle.pmem_base.specs.declared.faults.Cut.{Cut}
use Rattle.pmem_base.specs.declared.lines.Line.{Line}
use Rattle.pmem_base.specs.Registers.{without_group}
use Rattle.board.specs.Counts.{RisesBy}
use Rattle.board.specs.Device.{Device}
use Rattle.board.specs.Steps.{with_line, HasWritten, HasLatched, WasCut}
use Rattle.board.proofs.CountLemmas.{RisesBy-once}
use Rattle.call_plan.specs.Plans.{Plan, done, latch, the_cut}
use Rattle.call_plan.specs.Following.{Took, Follows}
use Rattle.call_plan.specs.Bounds.{Leaves}
use Rattle.call_plan.proofs.Leaves.{leaves, leaves_bind, leaves_more, leaves_for_each}
use Rattle.commit_regs.specs.Groups.{Writes, redone_told, finishing_latches, RisesAtMost, HasFinished, IsInterrupted}
use Rattle.commit_regs.specs.Plans.{line_plan, lines_plan, finish_plan, redo_of}
use Rattle.commit_regs.proofs.GroupLemmas.{redone-nil, redone-redone, Writes-get_or, redone-more}
use Rattle.pmem_recovery.specs.Parts.{IsUncut}
use Rattle.pmem_recovery.specs.Writing.{HasOnlyWritten}
use Rattle.pmem_recovery.proofs.PartLaws.{IsUncut-none, IsUncut-then, IsCutOff-after, IsCutOff-cut}
use Rattle.pmem_recovery.proofs.WriteSteps.{HasOnlyWritten-none, HasOnlyWritten-then, HasOnlyWritten-one}

-- a front of the group is lost in the whole
redone-front : (front later : List (ℕ × Line)) (told : Option (List Line)) → redone_told (front ++ later) (redone_told front told) ≡ redone_told (front ++ later) told
redone-front front later None = refl
redone-front front later (Some lines) =
    ap Some (redone-redone (front ++ later) front lines
    (λ i d inside. subst (λ (e : ℕ × Line). Writes e.0 (front ++ later)) (get_or_append_left front later d i inside)
    (Writes-get_or (front ++ later) i d (omega (arith, length-append front later, inside)))))

module _ (old : Device) where
  abbrev group : List (ℕ × Line)
  group = old.regs.group.items

  -- these lines are left, and those before them are written
  record AreLeft (later : List (ℕ × Line)) (now : Device) : Type 0 where
    pub front : List (ℕ × Line)
    pub both : group ≡ front ++ later
    pub lines : now.lines ≡ redone_told front old.lines
    pub steps : HasOnlyWritten (length front) old now
    pub goes : IsUncut old now

  at_cut : (later : List (ℕ × Line)) (now new : Device) → AreLeft later now → WasCut now new → IsInterrupted group old new
  at_cut later now new left was =
      let off = IsCutOff-after old now new left.goes (IsCutOff-cut now new was) in
      let writes = left.steps.writes in
      let few : length left.front ≤ length group = omega (arith, ap length left.both, length-append left.front later) in
      record {
        unsteady = off.unsteady;
        off = off.off;
        again =
            ap (redone_told group) (was.lines ∙ left.lines)
            ∙ subst (λ g. redone_told g (redone_told left.front old.lines) ≡ redone_told g old.lines) (sym left.both) (redone-front left.front later old.lines);
        writes = subst (RisesAtMost (length group) old.writes) (sym was.writes) (record { never_falls = writes.never_falls; bound = λ below. omega (arith, few, writes.exact below) });
        never_falls = off.never_falls;
        rose = off.rose;
        size = was.size ∙ left.steps.size;
        regs = was.regs ∙ left.steps.regs;
        reads = was.reads ∙ left.steps.reads;
        latches = was.latches ∙ left.steps.latches;
      }

  one_more : (entry : ℕ × Line) (later : List (ℕ × Line)) (now new : Device) → AreLeft (entry ∷ later) now → HasWritten now entry.0 entry.1 new → AreLeft later new
  one_more entry later now new left was =
      record {
        front = left.front ++ entry ∷ [];
        both = left.both ∙ sym (append_assoc left.front (entry ∷ []) later);
        lines = was.lines ∙ ap (λ told. with_line told entry.0 entry.1) left.lines ∙ sym (redone-more left.front entry old.lines);
        steps =
            subst (λ n. HasOnlyWritten n old new) (sym (length-append left.front (entry ∷ [])))
            (HasOnlyWritten-then (length left.front) 1 old now new left.steps (HasOnlyWritten-one now entry.0 entry.1 new was));
        goes = IsUncut-then old now new left.goes (record { cuts = was.cuts; steady = λ on. was.steady ∙ on; live = λ on. was.live ∙ on });
      }

  emptied : (now new : Device) → finishing_latches group ≡ 1 → AreLeft [] now → HasLatched now (without_group old.regs) new → HasFinished old new
  emptied now new one left was =
      let all : left.front ≡ group = sym (append-nil left.front) ∙ sym left.both in
      record {
        lines = was.lines ∙ left.lines ∙ ap (λ front. redone_told front old.lines) all;
        regs = was.regs;
        writes = subst (RisesBy (length group) old.writes) (sym was.writes) (subst (λ front. RisesBy (length front) old.writes now.writes) all left.steps.writes);
        latches =
            subst (λ n. RisesBy n old.latches new.latches) (sym one)
            (subst (λ n. RisesBy 1 n new.latches) left.steps.latches (RisesBy-once was.latches));
        size = was.size ∙ left.steps.size;
        reads = was.reads ∙ left.steps.reads;
        cuts = was.cuts ∙ left.goes.cuts;
        steady = λ on. was.steady ∙ left.goes.steady on;
        live = λ on. was.live ∙ left.goes.live on;
      }

  finish_leaves : finishing_latches group ≡ 1 → Leaves (finish_plan old.regs) (λ t new. HasFinished old new) (λ cut new. IsInterrupted group old new) old
  unfolding Leaves
  finish_leaves one =
      leaves_bind (λ t new. HasFinished old new) (λ cut new. IsInterrupted group old new) (lines_plan group) (λ written. latch the_cut (without_group old.regs) (done tt)) old
      (leaves_more (λ t d. AreLeft [] d)
      (λ t d. Leaves (let plan : Plan Cut (Unit {0}) = latch the_cut (without_group old.regs) (done tt) in plan) (λ t new. HasFinished old new) (λ cut new. IsInterrupted group old new) d)
      (λ cut new. IsInterrupted group old new) (λ cut new. IsInterrupted group old new) (lines_plan group) old
      (λ t d left. (λ new was. at_cut [] d new left was, λ new was. emptied d new one left was)) (λ cut new it. it)
      (leaves_for_each (λ later t d. AreLeft later d) (λ cut new. IsInterrupted group old new) line_plan group tt old
      (λ entry later t d left. (λ new was. at_cut (entry ∷ later) d new left was, λ new was. one_more entry later d new left was))
      (record { front = []; both = refl; lines = sym (redone-nil old.lines); steps = HasOnlyWritten-none old; goes = IsUncut-none old })))

  -- if no group is armed, nothing was done
  idle_finished : group ≡ [] → HasFinished old old
  idle_finished none =
      record {
        lines = sym (redone-nil old.lines) ∙ ap (λ items. redone_told items old.lines) (sym none);
        regs = ap (λ (items : List (ℕ × Line)). record (old.regs) { group = record { items = items } }) none;
        writes = subst (λ items. RisesBy (length items) old.writes old.writes) (sym none) (record { never_falls = omega arith; exact = λ below. omega arith });
        latches = subst (λ items. RisesBy (finishing_latches items) old.latches old.latches) (sym none) (record { never_falls = omega arith; exact = λ below. omega arith });
        size = refl;
        reads = refl;
        cuts = refl;
        steady = λ on. on;
        live = λ on. on;
      }

  -- ---- the law

  pub redo_finished : (items : List (ℕ × Line)) (mid : Device) → group ≡ items → Follows (redo_of old.regs items) old mid (Ok tt)
      → HasFinished old mid × (group ≡ [] → mid ≡ old)
  unfolding redo_of Took
  redo_finished [] mid none it = let same = it.took.1 in (subst (HasFinished old) (sym same) (idle_finished none), λ e. same)
  redo_finished (entry ∷ others) mid armed it = (
    leaves (λ t new. HasFinished old new) (λ cut new. IsInterrupted group old new) (finish_leaves (ap finishing_latches armed)) it,
    λ none. let no = sym armed ∙ none in absurd (cc),
  )

  pub redo_interrupted : (items : List (ℕ × Line)) (new : Device) (cut : Cut) → group ≡ items → Follows (redo_of old.regs items) old new (Err cut)
      → IsInterrupted group old new × (group ≡ [] → ⊥)
  unfolding redo_of Took
  redo_interrupted [] new cut none it = let no = it.took.0 in absurd (cc)
  redo_interrupted (entry ∷ others) new cut armed it = (
    leaves (λ t new. HasFinished old new) (λ cut new. IsInterrupted group old new) (finish_leaves (ap finishing_latches armed)) it,
    λ none. let no = sym armed ∙ none in cc,
  )
