-- The ends of a group that is armed and finished, and of one that is redone, as their plans have them.
use Rattle.std.proofs.Common.{◌≡◌, Result, Ok, Err, sym, ap, subst, ◌∙◌, ℕ, List, [], ◌∷◌, refl, length, inl, inr}
use Rattle.std.specs.Prelude.{OnOk}
use Rattle.pmem_base.specs.declared.faults.Cut.{Cut}
use Rattle.pmem_base.specs.declared.registers.Regs.{Regs}
use Rattle.pmem_base.specs.Registers.{without_group}
use Rattle.pmem_base.specs.declared.lines.Line.{Line}
use Rattle.pmem_base.specs.Counts.{risen, risen_times}
use Rattle.board.specs.Device.{Device}
use Rattle.board.specs.Steps.{HasLatched, WasCut}
use Rattle.call_plan.specs.Plans.{Plan, mapped, the_cut, done, mapped_end}
use Rattle.call_plan.specs.Following.{Follows, Took}
use Rattle.call_plan.proofs.Steps.{latch_then, latch_cut, is_done}
use Rattle.call_plan.proofs.Bind.{mapped_follows, unmapped}
use Rattle.commit_regs.specs.Groups.{HasFinished, redone_told}
use Rattle.commit_regs.specs.Plans.{finish_plan, ended_with, group_plan, redo_of}
use Rattle.commit_regs.specs.Laws.{IsGroupDone, IsGroupLeftArmed, IsOneAct, GroupsAreOneAct}
use Rattle.commit_regs.proofs.GroupLaws.{cut_fronts, done_written, steps_counted}

module _ {S : Type 0} (armed : Regs) (before after : S) where
  abbrev finishing : Plan (S × Cut) (S × Regs)
  finishing = mapped (λ cut. (after, cut)) (λ finished. (after, without_group armed)) (finish_plan armed)

  -- power was cut before the group was armed
  pub group_cut : {old new : Device} → WasCut old new → Follows (group_plan armed before after) old new (Err (before, the_cut))
  unfolding group_plan
  group_cut was = latch_cut (before, the_cut) armed finishing was

  finished : {mid new : Device} (answer : Result (Unit {0}) Cut) → mid.regs ≡ armed → OnOk answer (HasFinished mid new)
      → Follows (finish_plan armed) mid new answer → Follows finishing mid new (ended_with answer after new.regs)
  finished {mid = mid} {new = new} (Ok value) latched ok it =
      subst (λ (regs : Regs). Follows finishing mid new (Ok (after, regs))) (sym (ok.regs ∙ ap without_group latched)) (mapped_follows _ _ it)
  finished (Err cut) latched ok it = mapped_follows _ _ it

  -- the group was armed, and finished or cut
  pub group_end : (now : Regs) (end : S) {old mid new : Device} (answer : Result (Unit {0}) Cut) → now ≡ armed → end ≡ after
      → HasLatched old now mid → OnOk answer (HasFinished mid new) → Follows (finish_plan now) mid new answer
      → Follows (group_plan armed before after) old new (ended_with answer end new.regs)
  unfolding group_plan
  group_end now end {old = old} {mid = mid} {new = new} answer is same was ok it =
      subst (λ (left : S). Follows (group_plan armed before after) old new (ended_with answer left new.regs)) (sym same)
      (latch_then (before, the_cut) (subst (λ (regs : Regs). HasLatched old regs mid) is was)
      (finished answer (was.regs ∙ is) ok (subst (λ (regs : Regs). Follows (finish_plan regs) mid new answer) is it)))

module _ (regs : Regs) {old new : Device} where
  pub redo_cut : (items : List (ℕ × Line)) → (items ≡ [] → ⊥) → ((items ≡ [] → ⊥) → Follows (finish_plan regs) old new (Err the_cut))
      → Follows (redo_of regs items) old new (Err the_cut)
  unfolding redo_of
  redo_cut [] armed it = absurd (armed refl)
  redo_cut (entry ∷ others) armed it = it armed

  pub redo_done : (items : List (ℕ × Line)) → (items ≡ [] → new ≡ old) → ((items ≡ [] → ⊥) → Follows (finish_plan regs) old new (Ok tt))
      → Follows (redo_of regs items) old new (Ok tt)
  unfolding redo_of
  redo_done [] idle it = subst (λ (d : Device). Follows (let plan : Plan Cut (Unit {0}) = done tt in plan) old d (Ok tt)) (sym (idle refl)) (is_done tt old)
  redo_done (entry ∷ others) idle it = it (λ e. absurd (cc))

-- ---- a group is one act

module _ {S : Type 0} (armed : Regs) (before after : S) (old mid new : Device) (was : HasLatched old armed mid) where
  its_lines : (group : List (ℕ × Line)) → redone_told group mid.lines ≡ redone_told group old.lines
  its_lines group = ap (redone_told group) was.lines

  act_done : (end : S × Regs) → end ≡ (after, without_group armed) → Follows (finish_plan armed) mid new (Ok tt)
      → IsGroupDone armed after old new end
  act_done end is it =
      let written = done_written armed mid new it in
      let counted = steps_counted armed mid new it in
      record {
        state = ap (λ (e : S × Regs). e.0) is;
        its_regs = ap (λ (e : S × Regs). e.1) is ∙ sym written.1;
        regs = written.1;
        lines = written.0 ∙ its_lines armed.group.items;
        reads = counted.0 ∙ was.reads;
        writes = counted.1 ∙ ap (risen_times (length armed.group.items)) was.writes;
        latches = counted.2 ∙ ap risen was.latches.is_risen;
      }

  act_left : (left : S × Cut) (cut : Cut) → left ≡ (after, cut) → Follows (finish_plan armed) mid new (Err cut)
      → IsGroupLeftArmed armed after old new left
  act_left left cut is it =
      let written = cut_fronts armed mid new cut it in
      record {
        state = ap (λ (e : S × Cut). e.0) is;
        regs = written.regs ∙ was.regs;
        front = written.front;
        its_front = written.its_front;
        lines = written.lines ∙ its_lines written.front;
      }

  armed_act : (end : Result (S × Regs) (S × Cut)) (finish : Result (Unit {0}) Cut)
      → end ≡ mapped_end (λ cut. (after, cut)) (λ finished. (after, without_group armed)) finish → Follows (finish_plan armed) mid new finish
      → IsOneAct armed before after old new end
  armed_act (Ok end) (Ok value) is it = act_done end (cc) it
  armed_act (Ok end) (Err cut) is it = absurd (cc)
  armed_act (Err left) (Ok value) is it = absurd (cc)
  armed_act (Err left) (Err cut) is it = inr (act_left left cut (cc) it)

pub one_act : (S : Type 0) → GroupsAreOneAct S
unfolding group_plan Took
one_act S armed before after old new end it = acted it.took
  where
    acted : Took (group_plan armed before after) old new end → IsOneAct armed before after old new end
    acted (inl s) =
        let rest = unmapped _ _ (finish_plan armed) (record { took = s.rest }) in
        armed_act armed before after old s.mid new s.step end rest.its_end rest.same rest.follows
    acted (inr cut) =
        subst (λ (e : Result (S × Regs) (S × Cut)). IsOneAct armed before after old new e) (sym cut.ends)
        (inl (record { state = refl; cut = cut.cut }))
