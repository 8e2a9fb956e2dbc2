-- A state that each step takes up an order: it is above the first wherever a run ends, and where power is cut it is below what the
-- run would have come to. So the marks of a call that was cut are a front of the marks that it was asked for.
use Rattle.std.proofs.Common.{ℕ, zero, suc, ◌+◌, ◌∷◌, ◌≡◌, ◌++◌, Result, sym, ap, subst, ◌∙◌, inl, inr}
use Rattle.std.proofs.lemmas.List.{append-nil, append_assoc}
use Rattle.std.specs.Prelude.{true, false, List, [], Some, slice_set}
use Rattle.pmem_base.specs.declared.lines.Line.{Line}
use Rattle.board.specs.Device.{Device}
use Rattle.board.specs.Steps.{with_line}
use Rattle.call_plan.specs.Plans.{Plan, done, stop, read, write, latch, bind, mapped, repeated, for_each}
use Rattle.call_plan.specs.Following.{Took, Follows}
use Rattle.call_plan.specs.Bounds.{IsOrder, Ascends, state_at, IsFront}
use Rattle.call_plan.proofs.Keeping.{on_and_off, stays_on}
use Rattle.call_plan.proofs.Determined.{same_line, read_is_determined, write_is_determined, latch_is_determined}

-- ---- from the first state up

above_took : {S E T : Type 0} (order : S → S → Type 0) (err : E → S) (ok : T → S) (its : IsOrder order) (s : S) (plan : Plan E T)
    (old new : Device) (end : Result T E) → Ascends order err ok s plan → Took plan old new end → order s (state_at err ok end)
unfolding Took Ascends
above_took order err ok its s (done t) old new end up it = subst (λ e. order s (state_at err ok e)) (sym it.0) up
above_took order err ok its s (stop left) old new end up it = subst (λ e. order s (state_at err ok e)) (sym it.0) up
above_took order err ok its s (read left at later) old new end up (inl p) =
    its.then s (err left) (state_at err ok end) up.0
    (above_took order err ok its (err left) (later p.line) p.mid new end (up.1 p.line p.whole) p.rest)
above_took order err ok its s (read left at later) old new end up (inr p) = subst (λ e. order s (state_at err ok e)) (sym p.0.ends) up.0
above_took order err ok its s (write left at line later) old new end up (inl p) =
    its.then s (err left) (state_at err ok end) up.0 (above_took order err ok its (err left) later p.mid new end up.1 p.rest)
above_took order err ok its s (write left at line later) old new end up (inr p) = subst (λ e. order s (state_at err ok e)) (sym p.ends) up.0
above_took order err ok its s (latch left regs later) old new end up (inl p) =
    its.then s (err left) (state_at err ok end) up.0 (above_took order err ok its (err left) later p.mid new end up.1 p.rest)
above_took order err ok its s (latch left regs later) old new end up (inr p) = subst (λ e. order s (state_at err ok e)) (sym p.ends) up.0

-- wherever a run ends, its state is above the first
pub ends_above : {S E T : Type 0} (order : S → S → Type 0) (err : E → S) (ok : T → S) (s : S) {plan : Plan E T} {old new : Device}
    {end : Result T E} → IsOrder order → Ascends order err ok s plan → Follows plan old new end → order s (state_at err ok end)
ends_above order err ok s {plan = plan} {old = old} {new = new} {end = end} its up it = above_took order err ok its s plan old new end up it.took

-- ---- and what a cut leaves is below what the run would have come to

below_took : {S E T : Type 0} (order : S → S → Type 0) (err : E → S) (ok : T → S) (its : IsOrder order) (s : S) (plan : Plan E T)
    (lines : List Line) (old a b : Device) (first second : Result T E) → old.lines ≡ Some lines → old.live ≡ true → a.live ≡ false → b.live ≡ true → Ascends order err ok s plan
    → Took plan old a first → Took plan old b second → order (state_at err ok first) (state_at err ok second)
unfolding Took Ascends
below_took order err ok its s (done t) lines old a b first second told live off on up it other = stays_on old a it.1 live off
below_took order err ok its s (stop left) lines old a b first second told live off on up it other = stays_on old a it.1 live off
below_took order err ok its s (read left at later) lines old a b first second told live off on up (inl p) (inl q) =
    let line = same_line lines old p.mid q.mid at p.line q.line told p.step q.step in
    let mid = read_is_determined old p.mid q.mid at p.line q.line p.step q.step in
    below_took order err ok its (err left) (later p.line) lines p.mid a b first second (p.step.lines ∙ told) (p.step.live ∙ live) off on
    (up.1 p.line p.whole) p.rest
    (subst (λ (d : Device). Took (later p.line) d b second) (sym mid) (subst (λ l. Took (later l) q.mid b second) (sym line) q.rest))
below_took order err ok its s (read left at later) lines old a b first second told live off on up (inl p) (inr q) = on_and_off old.live live q.1
below_took order err ok its s (read left at later) lines old a b first second told live off on up (inr p) other = on_and_off old.live live p.1
below_took order err ok its s (write left at line later) lines old a b first second told live off on up (inl p) (inl q) =
    let mid = write_is_determined old p.mid q.mid at line p.step q.step in
    below_took order err ok its (err left) later (slice_set lines at line) p.mid a b first second
    (p.step.lines ∙ ap (λ told. with_line told at line) told) (p.step.live ∙ live) off on up.1 p.rest
    (subst (λ (d : Device). Took later d b second) (sym mid) q.rest)
below_took order err ok its s (write left at line later) lines old a b first second told live off on up (inr p) (inl q) =
    subst (λ e. order (state_at err ok e) (state_at err ok second)) (sym p.ends)
    (above_took order err ok its (err left) later q.mid b second up.1 q.rest)
below_took order err ok its s (write left at line later) lines old a b first second told live off on up it (inr q) = on_and_off b.live on q.cut.off
below_took order err ok its s (latch left regs later) lines old a b first second told live off on up (inl p) (inl q) =
    let mid = latch_is_determined old p.mid q.mid regs p.step q.step in
    below_took order err ok its (err left) later lines p.mid a b first second (p.step.lines ∙ told) (p.step.live ∙ live) off on up.1 p.rest
    (subst (λ (d : Device). Took later d b second) (sym mid) q.rest)
below_took order err ok its s (latch left regs later) lines old a b first second told live off on up (inr p) (inl q) =
    subst (λ e. order (state_at err ok e) (state_at err ok second)) (sym p.ends)
    (above_took order err ok its (err left) later q.mid b second up.1 q.rest)
below_took order err ok its s (latch left regs later) lines old a b first second told live off on up it (inr q) = on_and_off b.live on q.cut.off

-- where power was cut, the state is below that of the run that wasn't
pub cut_is_below : {S E T : Type 0} (order : S → S → Type 0) (err : E → S) (ok : T → S) (s : S) (lines : List Line) {plan : Plan E T}
    {old a b : Device} {first second : Result T E} → IsOrder order → Ascends order err ok s plan → old.lines ≡ Some lines → old.live ≡ true → a.live ≡ false → b.live ≡ true
    → Follows plan old a first → Follows plan old b second → order (state_at err ok first) (state_at err ok second)
cut_is_below order err ok s lines {plan = plan} {old = old} {a = a} {b = b} {first = first} {second = second} its up told live off on it other =
    below_took order err ok its s plan lines old a b first second told live off on up it.took other.took

-- ---- plans put together

pub ascends_from : {S E T : Type 0} (order : S → S → Type 0) (err : E → S) (ok : T → S) (its : IsOrder order) (low s : S) (plan : Plan E T) → order low s
    → Ascends order err ok s plan → Ascends order err ok low plan
unfolding Ascends
ascends_from order err ok its low s (done t) from up = its.then low s (ok t) from up
ascends_from order err ok its low s (stop left) from up = its.then low s (err left) from up
ascends_from order err ok its low s (read left at later) from up = (its.then low s (err left) from up.0, up.1)
ascends_from order err ok its low s (write left at line later) from up = (its.then low s (err left) from up.0, up.1)
ascends_from order err ok its low s (latch left regs later) from up = (its.then low s (err left) from up.0, up.1)

pub ascends_bind : {S E T U : Type 0} (order : S → S → Type 0) (err : E → S) (between : T → S) (ok : U → S) (its : IsOrder order) (s : S) (plan : Plan E T)
    (next : T → Plan E U) → Ascends order err between s plan → ((t : T) → Ascends order err ok (between t) (next t))
    → Ascends order err ok s (bind plan next)
unfolding Ascends bind
ascends_bind order err between ok its s (done t) next up rest = ascends_from order err ok its s (between t) (next t) up (rest t)
ascends_bind order err between ok its s (stop left) next up rest = up
ascends_bind order err between ok its s (read left at later) next up rest =
    (up.0, λ line whole. ascends_bind order err between ok its (err left) (later line) next (up.1 line whole) rest)
ascends_bind order err between ok its s (write left at line later) next up rest =
    (up.0, ascends_bind order err between ok its (err left) later next up.1 rest)
ascends_bind order err between ok its s (latch left regs later) next up rest =
    (up.0, ascends_bind order err between ok its (err left) later next up.1 rest)

pub ascends_mapped : {S E F T U : Type 0} (order : S → S → Type 0) (f : E → F) (h : T → U) (err : F → S) (ok : U → S) (s : S) (plan : Plan E T)
    → Ascends order (λ left. err (f left)) (λ t. ok (h t)) s plan → Ascends order err ok s (mapped f h plan)
unfolding Ascends mapped
ascends_mapped order f h err ok s (done t) up = up
ascends_mapped order f h err ok s (stop left) up = up
ascends_mapped order f h err ok s (read left at later) up =
    (up.0, λ line whole. ascends_mapped order f h err ok (err (f left)) (later line) (up.1 line whole))
ascends_mapped order f h err ok s (write left at line later) up = (up.0, ascends_mapped order f h err ok (err (f left)) later up.1)
ascends_mapped order f h err ok s (latch left regs later) up = (up.0, ascends_mapped order f h err ok (err (f left)) later up.1)

pub ascends_repeated : {S E T : Type 0} (order : S → S → Type 0) (err : E → S) (at : T → S) (its : IsOrder order) (turn : ℕ → T → Plan E T) (i n : ℕ) (t : T)
    → ((i : ℕ) (t : T) → Ascends order err at (at t) (turn i t)) → Ascends order err at (at t) (repeated turn i n t)
unfolding Ascends repeated
ascends_repeated order err at its turn i zero t each = its.itself (at t)
ascends_repeated order err at its turn i (suc n) t each =
    ascends_bind order err at at its (at t) (turn i t) (λ t. repeated turn (i + 1) n t) (each i t)
    (λ t. ascends_repeated order err at its turn (i + 1) n t each)

pub ascends_for_each : {X S E T : Type 0} (order : S → S → Type 0) (err : E → S) (at : T → S) (its : IsOrder order) (turn : X → T → Plan E T)
    (items : List X) (t : T) → ((x : X) (t : T) → Ascends order err at (at t) (turn x t)) → Ascends order err at (at t) (for_each turn items t)
unfolding Ascends for_each
ascends_for_each order err at its turn [] t each = its.itself (at t)
ascends_for_each order err at its turn (x ∷ later) t each =
    ascends_bind order err at at its (at t) (turn x t) (λ t. for_each turn later t) (each x t)
    (λ t. ascends_for_each order err at its turn later t each)

-- ---- fronts of lists

pub fronts : {S X : Type 0} (list_of : S → List X) → IsOrder (λ (s t : S). IsFront (list_of s) (list_of t))
fronts list_of =
    record {
      itself = λ s. record { later = []; all_of = sym (append-nil (list_of s)) };
      then = λ a b c first second.
          record {
            later = first.later ++ second.later;
            all_of = second.all_of ∙ ap (λ l. l ++ second.later) first.all_of ∙ append_assoc (list_of a) first.later second.later;
          };
    }
