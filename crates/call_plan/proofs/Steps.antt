-- One lemma a step: what is followed of the rest is followed of the step and the rest. And ends as functions answer them.
use Rattle.std.proofs.Common.{rules, ℕ, ◌≡◌, false, Result, Ok, Err, refl, subst, inl, inr}
use Rattle.std.specs.Prelude.{OnOk, OnErr, IsErrAnd}
use Rattle.std.proofs.lemmas.Result.{err_from_is_err_and}
use Rattle.pmem_base.specs.declared.faults.Cut.{Cut}
use Rattle.pmem_base.specs.declared.lines.Line.{Line}
use Rattle.pmem_base.specs.declared.registers.Regs.{Regs}
use Rattle.pmem_base.specs.Lines.{IsLine}
use Rattle.board.specs.Device.{Device}
use Rattle.board.specs.Steps.{HasRead, HasWritten, HasLatched, WasCut}
use Rattle.call_plan.specs.Plans.{Plan, done, stop, read, write, latch, ended, the_cut}
use Rattle.call_plan.specs.Following.{Took, Follows}

module _ {E T : Type 0} where
  pub is_done : (t : T) (d : Device) → Follows (let plan : Plan E T = done t in plan) d d (Ok t)
  unfolding Took
  is_done t d = record { took = (refl, refl) }

  pub is_stopped : (left : E) (d : Device) → Follows (let plan : Plan E T = stop left in plan) d d (Err left)
  unfolding Took
  is_stopped left d = record { took = (refl, refl) }

  pub read_then : (left : E) {at : ℕ} {line : Line} {later : Line → Plan E T} {old mid new : Device} {end : Result T E} → HasRead old at line mid → IsLine line
      → Follows (later line) mid new end → Follows (read left at later) old new end
  unfolding Took
  read_then left {line = line} {mid = mid} was whole rest = search rules

  pub write_then : (left : E) {at : ℕ} {line : Line} {later : Plan E T} {old mid new : Device} {end : Result T E} → HasWritten old at line mid
      → Follows later mid new end → Follows (write left at line later) old new end
  unfolding Took
  write_then left {mid = mid} was rest = record { took = inl (record { mid = mid; step = was; rest = rest.took }) }

  pub latch_then : (left : E) {regs : Regs} {later : Plan E T} {old mid new : Device} {end : Result T E} → HasLatched old regs mid
      → Follows later mid new end → Follows (latch left regs later) old new end
  unfolding Took
  latch_then left {mid = mid} was rest = record { took = inl (record { mid = mid; step = was; rest = rest.took }) }

  pub read_cut : (left : E) (at : ℕ) (later : Line → Plan E T) {old new : Device} → WasCut old new → old.live ≡ false
      → Follows (read left at later) old new (Err left)
  unfolding Took
  read_cut left at later was off = record { took = inr (record { ends = refl; cut = was }, off) }

  pub write_cut : (left : E) (at : ℕ) (line : Line) (later : Plan E T) {old new : Device} → WasCut old new
      → Follows (write left at line later) old new (Err left)
  unfolding Took
  write_cut left at line later was = record { took = inr (record { ends = refl; cut = was }) }

  pub latch_cut : (left : E) (regs : Regs) (later : Plan E T) {old new : Device} → WasCut old new
      → Follows (latch left regs later) old new (Err left)
  unfolding Took
  latch_cut left regs later was = record { took = inr (record { ends = refl; cut = was }) }

-- ---- ends

-- what a `?` answers
pub answered_err : {E T : Type 0} {plan : Plan E T} {old new : Device} {left : E} (answer : Result T E) → IsErrAnd answer (λ (x : E). x ≡ left)
    → Follows plan old new (Err left) → Follows plan old new answer
answered_err {E = E} {T = T} {plan = plan} {old = old} {new = new} answer is it = search (rules, err_from_is_err_and)

-- the same, with the state that it leaves
pub ended_err : {S A F : Type 0} {plan : Plan (S × F) (S × A)} {old new : Device} {state : S} {fault : F} (answer : Result A F)
    → IsErrAnd answer (λ (x : F). x ≡ fault) → Follows plan old new (Err (state, fault)) → Follows plan old new (ended answer state)
ended_err {S = S} {A = A} {F = F} {plan = plan} {old = old} {new = new} {state = state} answer is it = search (rules, err_from_is_err_and)

-- a write or a latch that ends a call
pub last_write : (at : ℕ) (line : Line) (old new : Device) (answer : Result (Unit {0}) Cut) → OnOk answer (HasWritten old at line new)
    → OnErr answer (WasCut old new) → Follows (write the_cut at line (done (tt {0}))) old new answer
last_write at line old new (Ok value) ok cut = write_then the_cut ok (is_done (tt {0}) new)
last_write at line old new (Err fault) ok cut = write_cut the_cut at line (done (tt {0})) cut

pub last_latch : (regs : Regs) (old new : Device) (answer : Result (Unit {0}) Cut) → OnOk answer (HasLatched old regs new)
    → OnErr answer (WasCut old new) → Follows (latch the_cut regs (done (tt {0}))) old new answer
last_latch regs old new (Ok value) ok cut = latch_then the_cut ok (is_done (tt {0}) new)
last_latch regs old new (Err fault) ok cut = latch_cut the_cut regs (done (tt {0})) cut

-- one line of a steady board more is written
pub written_so : (at place : ℕ) (line bytes : Line) (old new : Device) → at ≡ place → line ≡ bytes → HasWritten old at line new
    → Follows (write the_cut place bytes (let rest : Plan Cut (Unit {0}) = done tt in rest)) old new (Ok tt)
written_so at place line bytes old new here same was =
    write_then the_cut (subst (λ n. HasWritten old n bytes new) here (subst (λ l. HasWritten old at l new) same was)) (is_done tt new)
