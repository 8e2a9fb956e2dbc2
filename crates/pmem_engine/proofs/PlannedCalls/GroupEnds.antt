-- What a group's end leaves of the registers and of the counts.
use Rattle.std.proofs.Common.{ℕ, ◌≡◌, ◌+◌, ◌∷◌, [], List, length, refl, sym, ap, subst, ◌∙◌, arith}
use Rattle.std.specs.Prelude.{⊤}
use Rattle.pmem_base.specs.declared.lines.Line.{Line}
use Rattle.pmem_base.specs.declared.registers.Regs.{Regs}
use Rattle.pmem_base.specs.Counts.{risen}
use Rattle.pmem_base.specs.Registers.{without_group}
use Rattle.board.specs.Counts.{RisesBy}
use Rattle.board.specs.Device.{Device}
use Rattle.board.proofs.CountLemmas.{RisesBy-then, RisesBy-once}
use Rattle.call_plan.specs.Plans.{Plan, done, stop, read, write, latch, bind, for_each, the_cut}
use Rattle.call_plan.specs.Bounds.{Leaves}
use Rattle.call_plan.proofs.Leaves.{leaves_bind, leaves_more}
use Rattle.commit_regs.specs.Plans.{lines_plan, finish_plan}

-- two things that a plan leaves are both left
pub leaves_both : {E T : Type 0} (ok more : T → Device → Type 0) (err worse : E → Device → Type 0) (plan : Plan E T) (d : Device)
    → Leaves plan ok err d → Leaves plan more worse d
    → Leaves plan (λ t new. ok t new × more t new) (λ left new. err left new × worse left new) d
unfolding Leaves
leaves_both ok more err worse (done t) d one two = (one, two)
leaves_both ok more err worse (stop left) d one two = (one, two)
leaves_both ok more err worse (read left at later) d one two = (
  λ new was off. (one.0 new was off, two.0 new was off),
  λ line new was whole. leaves_both ok more err worse (later line) new (one.1 line new was whole) (two.1 line new was whole),
)
leaves_both ok more err worse (write left at line later) d one two = (
  λ new was. (one.0 new was, two.0 new was),
  λ new was. leaves_both ok more err worse later new (one.1 new was) (two.1 new was),
)
leaves_both ok more err worse (latch left regs later) d one two = (
  λ new was. (one.0 new was, two.0 new was),
  λ new was. leaves_both ok more err worse later new (one.1 new was) (two.1 new was),
)

-- so many lines were written, and nothing was latched
record HasWrittenLines (n : ℕ) (base now : Device) : Type 0 where
  regs : now.regs ≡ base.regs
  latches : now.latches ≡ base.latches
  writes : RisesBy n base.writes now.writes

lines_end : (items : List (ℕ × Line)) (base now : Device) (n : ℕ) → HasWrittenLines n base now
    → Leaves (lines_plan items) (λ t d. HasWrittenLines (n + length items) base d) (λ left d. ⊤) now
unfolding Leaves bind for_each
lines_end [] base now n so = let none : n ≡ n + 0 = omega arith in subst (λ k. HasWrittenLines k base now) none so
lines_end (item ∷ items) base now n so = (
  λ new was. tt,
  λ new was.
      let more : n + 1 + length items ≡ n + length (item ∷ items) = omega arith in
      subst (λ k. Leaves (lines_plan items) (λ t d. HasWrittenLines k base d) (λ left d. ⊤) new) more
      (lines_end items base new (n + 1)
      (record {
        regs = was.regs ∙ so.regs;
        latches = was.latches ∙ so.latches;
        writes = RisesBy-then n 1 base.writes now.writes new.writes so.writes (RisesBy-once was.writes);
      })),
)

-- the armed group's lines were written, and one latch emptied it
pub record HasEnded (armed : Regs) (base now : Device) : Type 0 where
  pub regs : now.regs ≡ without_group armed
  pub latches : now.latches ≡ risen base.latches
  pub writes : RisesBy (length armed.group.items) base.writes now.writes

pub finish_end : (armed : Regs) (now : Device) → Leaves (finish_plan armed) (λ t d. HasEnded armed now d) (λ left d. ⊤) now
unfolding Leaves
finish_end armed now =
    leaves_bind (λ t d. HasEnded armed now d) (λ left d. ⊤) (lines_plan armed.group.items)
    (λ written. latch the_cut (without_group armed) (done (tt {0}))) now
    (leaves_more (λ t d. HasWrittenLines (length armed.group.items) now d) _ (λ left d. ⊤) (λ left d. ⊤) (lines_plan armed.group.items) now
    (λ t d so. (
      λ new was. tt,
      λ new was.
          record {
            regs = was.regs;
            latches = was.latches.is_risen ∙ ap risen so.latches;
            writes = subst (λ k. RisesBy (length armed.group.items) now.writes k) (sym was.writes) so.writes;
          },
    ))
    (λ left d it. tt)
    (let all : 0 + length armed.group.items ≡ length armed.group.items = omega arith in
    subst (λ n. Leaves (lines_plan armed.group.items) (λ t d. HasWrittenLines n now d) (λ left d. ⊤) now) all
    (lines_end armed.group.items now now 0
    (record { regs = refl; latches = refl; writes = record { never_falls = omega arith; exact = λ below. omega arith } }))))
