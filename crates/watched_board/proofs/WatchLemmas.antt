-- Each call of a watched board follows on from the start.
use Rattle.std.proofs.Common.{rules}
use Rattle.std.proofs.Common.{◌≡◌, ℕ, zero, suc, ◌+◌, ◌-◌, ◌<◌, ◌≤◌, true, Option, Some, None, arith, refl, sym, ◌∙◌, ap, inl, inr, subst}
use Rattle.std.specs.Prelude.{IfSome, option_map}
use Rattle.std.proofs.lemmas.Option.{same_Some, none-some}
use Rattle.std.proofs.lemmas.Bool.{true≢false, false≢true, cases_eq, cases_Bool}
use Rattle.pmem_base.specs.Counts.{risen}
use Rattle.pmem_base.specs.declared.lines.Line.{Line}
use Rattle.pmem_base.specs.declared.registers.Regs.{Regs}
use Rattle.board.specs.Memory.{BoardMemory, IsSpent, burnt_fuse, after_read, after_write, after_latch, after_cut}
use Rattle.watched_board.specs.Watching.{taken_of, step_limit, cuts_after, FollowsOn}

-- a read
follows-read : (start board : BoardMemory) (at writes latches cuts : ℕ) → board.reads ≤ (after_read board at).reads
    → FollowsOn start board (taken_of writes latches cuts) → FollowsOn start (after_read board at) (taken_of writes latches cuts)
follows-read start board at writes latches cuts rises f = search (rules, arith)

-- a step at a fuse that isn't spent leaves one less
one_less : (fuse start : Option ℕ) (steps : ℕ) → fuse ≡ option_map (λ n. n - steps) start → IfSome start (λ n. steps ≤ n) → (fuse ≡ Some 0 → ⊥)
    → (more : ℕ) → more ≡ steps + 1 → (burnt_fuse fuse ≡ option_map (λ n. n - more) start) × IfSome start (λ n. more ≤ n)
one_less fuse None steps is lasts unspent more next = (ap burnt_fuse is, tt)
one_less fuse (Some n) steps is lasts unspent more next =
    elim (cases_eq (n - steps) 0) [
      | inl none ↦ absurd (unspent (is ∙ ap (λ (k : ℕ). Some k) none))
      | inr some ↦ (
        ap burnt_fuse is ∙ ap (λ (k : ℕ). Some k) (omega (arith, next)),
        omega (arith, lasts, some, next),
      )
    ]

-- power lasts of a board that isn't spent
lit : (board : BoardMemory) → (IsSpent board → ⊥) → board.powered ≡ true
lit board lasts =
    elim (cases_Bool board.powered) [
      | inl on ↦ on
      | inr off ↦ absurd (lasts (inl off))
    ]

-- a line write
follows-written : (start board : BoardMemory) (at : ℕ) (line : Line) (writes latches cuts : ℕ) → (IsSpent board → ⊥) → writes + latches < step_limit
    → FollowsOn start board (taken_of writes latches cuts) → FollowsOn start (after_write board at line) (taken_of (writes + 1) latches cuts)
follows-written start board at line writes latches cuts lasts few f = search (rules, arith, lit, one_less)

-- a latch
follows-latched : (start board : BoardMemory) (regs : Regs) (writes latches cuts : ℕ) → (IsSpent board → ⊥) → writes + latches < step_limit
    → FollowsOn start board (taken_of writes latches cuts) → FollowsOn start (after_latch board regs) (taken_of writes (latches + 1) cuts)
follows-latched start board regs writes latches cuts lasts few f = search (rules, arith, lit, one_less)

-- where no step is left, the fuse stood at the steps taken
stood : (start : Option ℕ) (steps : ℕ) → Some 0 ≡ option_map (λ n. n - steps) start → IfSome start (λ n. steps ≤ n) → start ≡ Some steps
stood None steps is lasts = absurd (none-some 0 (sym is))
stood (Some n) steps is lasts =
    ap (λ (k : ℕ). Some k) (omega (arith, lasts, same_Some 0 (n - steps) is))

-- the cuts after one more
one_more_cut : (before cuts now : ℕ) → now ≡ risen cuts → risen (cuts_after before cuts) ≡ cuts_after before now
one_more_cut before zero zero it = absurd (omega (arith, it))
one_more_cut before zero (suc now) it = omega (arith, it)
one_more_cut before (suc cuts) zero it = absurd (omega (arith, it))
one_more_cut before (suc cuts) (suc now) it = omega (arith, it)

-- a cut
follows-cut : (start board : BoardMemory) (writes latches cuts now : ℕ) → IsSpent board → now ≡ risen cuts
    → FollowsOn start board (taken_of writes latches cuts) → FollowsOn start (after_cut board) (taken_of writes latches now)
follows-cut start board writes latches cuts now spent more f =
    record {
      snapshot = f.snapshot;
      writes = f.writes;
      latches = f.latches;
      reads = f.reads;
      few = f.few;
      lasting = λ on. absurd (false≢true on);
      burnt = λ on. absurd (false≢true on);
      cleared = λ off. refl;
      cuts = ap risen f.cuts ∙ one_more_cut start.cuts cuts now more;
      cut = λ off. omega (arith, more);
      uncut = λ on. absurd (false≢true on);
      spent =
          λ off.
          elim (cases_Bool board.powered) [
            | inl on ↦
                elim spent [
                  | inl dark ↦ absurd (true≢false (sym on ∙ dark))
                  | inr none ↦ λ few. stood start.fuse (writes + latches) (sym none ∙ f.burnt on) (f.lasting on)
                ]
            | inr dark ↦ f.spent dark
          ];
    }

-- the limit
pub follows-limit : (start board new : BoardMemory) (writes latches cuts now : ℕ) → step_limit ≤ writes + latches
    → new ≡ after_cut board → now ≡ risen cuts
    → FollowsOn start board (taken_of writes latches cuts) → FollowsOn start new (taken_of writes latches now)
follows-limit start board new writes latches cuts now many is more f =
    subst (λ m. FollowsOn start m (taken_of writes latches now)) (sym is)
    (record {
      snapshot = f.snapshot;
      writes = f.writes;
      latches = f.latches;
      reads = f.reads;
      few = f.few;
      lasting = λ on. absurd (false≢true on);
      burnt = λ on. absurd (false≢true on);
      cleared = λ off. refl;
      cuts = ap risen f.cuts ∙ one_more_cut start.cuts cuts now more;
      cut = λ off. omega (arith, more);
      uncut = λ on. absurd (false≢true on);
      spent = λ off few. absurd (omega (arith, many, few));
    })

-- ---- by what the board answered

pub read-ok : (start board new : BoardMemory) (at writes latches cuts : ℕ) → new ≡ after_read board at → board.reads ≤ new.reads
    → FollowsOn start board (taken_of writes latches cuts) → FollowsOn start new (taken_of writes latches cuts)
read-ok start board new at writes latches cuts is rises f =
    subst (λ m. FollowsOn start m (taken_of writes latches cuts)) (sym is)
    (follows-read start board at writes latches cuts (subst (λ (m : BoardMemory). board.reads ≤ m.reads) is rises) f)

pub cut-over : (start board new : BoardMemory) (writes latches cuts now : ℕ) → new ≡ after_cut board → IsSpent board → now ≡ risen cuts
    → FollowsOn start board (taken_of writes latches cuts) → FollowsOn start new (taken_of writes latches now)
cut-over start board new writes latches cuts now is spent more f =
    subst (λ m. FollowsOn start m (taken_of writes latches now)) (sym is) (follows-cut start board writes latches cuts now spent more f)

pub write-ok : (start board new : BoardMemory) (at : ℕ) (line : Line) (writes latches cuts : ℕ) → new ≡ after_write board at line → (IsSpent board → ⊥)
    → writes + latches < step_limit
    → FollowsOn start board (taken_of writes latches cuts) → FollowsOn start new (taken_of (writes + 1) latches cuts)
write-ok start board new at line writes latches cuts is lasts few f =
    subst (λ m. FollowsOn start m (taken_of (writes + 1) latches cuts)) (sym is) (follows-written start board at line writes latches cuts lasts few f)

pub latch-ok : (start board new : BoardMemory) (regs : Regs) (writes latches cuts : ℕ) → new ≡ after_latch board regs → (IsSpent board → ⊥)
    → writes + latches < step_limit
    → FollowsOn start board (taken_of writes latches cuts) → FollowsOn start new (taken_of writes (latches + 1) cuts)
latch-ok start board new regs writes latches cuts is lasts few f =
    subst (λ m. FollowsOn start m (taken_of writes (latches + 1) cuts)) (sym is) (follows-latched start board regs writes latches cuts lasts few f)
