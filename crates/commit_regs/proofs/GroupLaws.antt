-- What a group's plan leaves at its end and at each cut.
use Rattle.std.proofs.Common.{ℕ, ◌≡◌, List, [], ◌∷◌, ◌++◌, Ok, Err, length, refl, sym, ap, ◌∙◌, arith}
use Rattle.std.proofs.lemmas.List.{append-nil, append_assoc}
use Rattle.pmem_base.specs.declared.faults.Cut.{Cut}
use Rattle.pmem_base.specs.declared.lines.Line.{Line}
use Rattle.pmem_base.specs.declared.registers.Regs.{Regs}
use Rattle.pmem_base.specs.Counts.{risen, risen_times}
use Rattle.pmem_base.specs.Registers.{without_group}
use Rattle.board.specs.Device.{Device}
use Rattle.board.specs.Steps.{HasWritten, WasCut, with_line}
use Rattle.call_plan.specs.Plans.{Plan, done, latch, the_cut}
use Rattle.call_plan.specs.Following.{Follows}
use Rattle.call_plan.specs.Bounds.{Leaves, Spends, all_spent}
use Rattle.call_plan.proofs.Leaves.{leaves, leaves_bind, leaves_more, leaves_for_each}
use Rattle.call_plan.proofs.Spending.{spends, spends_bind, spends_more, spends_for_each, spent_exactly}
use Rattle.commit_regs.specs.Groups.{redone_told}
use Rattle.commit_regs.specs.Plans.{line_plan, lines_plan, finish_plan}
use Rattle.commit_regs.specs.Laws.{IsWrittenTo}
use Rattle.commit_regs.proofs.GroupLemmas.{redone-nil, redone-more}

module _ (armed : Regs) (old : Device) where
  abbrev group : List (ℕ × Line)
  group = armed.group.items

  -- these lines are left, and those before them are written
  record AreLeft (later : List (ℕ × Line)) (now : Device) : Type 0 where
    front : List (ℕ × Line)
    both : group ≡ front ++ later
    lines : now.lines ≡ redone_told front old.lines
    regs : now.regs ≡ old.regs

  at_cut : (later : List (ℕ × Line)) (now new : Device) → AreLeft later now → WasCut now new → IsWrittenTo group old new
  at_cut later now new left was =
      record {
        front = left.front;
        its_front = record { later = later; all_of = left.both };
        lines = was.lines ∙ left.lines;
        regs = was.regs ∙ left.regs;
      }

  one_more : (entry : ℕ × Line) (later : List (ℕ × Line)) (now new : Device) → AreLeft (entry ∷ later) now → HasWritten now entry.0 entry.1 new
      → AreLeft later new
  one_more entry later now new left was =
      record {
        front = left.front ++ entry ∷ [];
        both = left.both ∙ sym (append_assoc left.front (entry ∷ []) later);
        lines = was.lines ∙ ap (λ told. with_line told entry.0 entry.1) left.lines ∙ sym (redone-more left.front entry old.lines);
        regs = was.regs ∙ left.regs;
      }

  abbrev IsFinished : Unit {0} → Device → Type 0
  IsFinished end new = (new.lines ≡ redone_told group old.lines) × (new.regs ≡ without_group armed)

  finish_leaves : Leaves (finish_plan armed) IsFinished (λ cut new. IsWrittenTo group old new) old
  unfolding Leaves
  finish_leaves =
      leaves_bind IsFinished (λ cut new. IsWrittenTo group old new) (lines_plan group) (λ written. latch the_cut (without_group armed) (done tt)) old
      (leaves_more (λ t d. AreLeft [] d) (λ t d. Leaves (let plan : Plan Cut (Unit {0}) = latch the_cut (without_group armed) (done tt) in plan) IsFinished (λ cut new. IsWrittenTo group old new) d)
      (λ cut new. IsWrittenTo group old new) (λ cut new. IsWrittenTo group old new) (lines_plan group) old
      (λ t d left. (
        λ new was. at_cut [] d new left was,
        λ new was. (was.lines ∙ left.lines ∙ ap (λ front. redone_told front old.lines) (sym (append-nil left.front) ∙ sym left.both), was.regs),
      ))
      (λ cut new it. it)
      (leaves_for_each (λ later t d. AreLeft later d) (λ cut new. IsWrittenTo group old new) line_plan group tt old
      (λ entry later t d left. (λ new was. at_cut (entry ∷ later) d new left was, λ new was. one_more entry later d new left was))
      (record { front = []; both = refl; lines = sym (redone-nil old.lines); regs = refl })))

pub cut_fronts : (armed : Regs) (old new : Device) (cut : Cut) → Follows (finish_plan armed) old new (Err cut)
    → IsWrittenTo armed.group.items old new
cut_fronts armed old new cut it =
    leaves (IsFinished armed old) (λ cut new. IsWrittenTo armed.group.items old new) (finish_leaves armed old) it

pub done_written : (armed : Regs) (old new : Device) → Follows (finish_plan armed) old new (Ok tt)
    → (new.lines ≡ redone_told armed.group.items old.lines) × (new.regs ≡ without_group armed)
done_written armed old new it =
    leaves (IsFinished armed old) (λ cut new. IsWrittenTo armed.group.items old new) (finish_leaves armed old) it

-- ---- its steps

finish_spends : (armed : Regs) → Spends all_spent (finish_plan armed) 0 (length armed.group.items) 1
unfolding Spends
finish_spends armed =
    spends_bind all_spent (lines_plan armed.group.items) (λ written. latch the_cut (without_group armed) (done tt)) 0 (length armed.group.items) 1
    (spends_more (λ t r w l. (r ≡ 0) × (w ≡ 0) × (l ≡ 1)) (λ t. Spends all_spent (let plan : Plan Cut (Unit {0}) = latch the_cut (without_group armed) (done tt) in plan)) (lines_plan armed.group.items)
    0 (length armed.group.items) 1 (λ t r w l left. (0, left.2, (left.0, left.1, refl)))
    (spends_for_each (λ later t r w l. (r ≡ 0) × (w ≡ length later) × (l ≡ 1)) line_plan armed.group.items tt 0 (length armed.group.items) 1
    (λ entry later t r w l left. (length later, (let all = left.1 in omega arith), (left.0, refl, left.2)))
    (refl, refl, refl)))

pub steps_counted : (armed : Regs) (old new : Device) → Follows (finish_plan armed) old new (Ok tt)
    → (new.reads ≡ old.reads) × (new.writes ≡ risen_times (length armed.group.items) old.writes) × (new.latches ≡ risen old.latches)
steps_counted armed old new it = spent_exactly (spends all_spent 0 (length armed.group.items) 1 (finish_spends armed) it)
