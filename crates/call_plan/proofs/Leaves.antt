-- What a plan leaves, whatever its end: shown once for each step, and plans one after another need nothing more.
use Rattle.std.proofs.Common.{ℕ, zero, suc, ◌≡◌, ◌<◌, ◌+◌, List, [], ◌∷◌, Bool, true, false, Result, refl, sym, subst, inl, inr, arith}
use Rattle.std.specs.Prelude.{if◌then◌else◌}
use Rattle.board.specs.Device.{Device}
use Rattle.call_plan.specs.Plans.{Plan, done, stop, read, write, latch, bind, mapped, repeated, for_each}
use Rattle.call_plan.specs.Following.{Took, Follows}
use Rattle.call_plan.specs.Bounds.{Leaves, AtEnd}

leaves_took : {E T : Type 0} (ok : T → Device → Type 0) (err : E → Device → Type 0) (plan : Plan E T) (old new : Device) (end : Result T E)
    → Leaves plan ok err old → Took plan old new end → AtEnd ok err end new
unfolding Took Leaves
leaves_took ok err (done t) old new end its it =
    subst (λ e. AtEnd ok err e new) (sym it.0) (subst (ok t) (sym it.1) its)
leaves_took ok err (stop left) old new end its it =
    subst (λ e. AtEnd ok err e new) (sym it.0) (subst (err left) (sym it.1) its)
leaves_took ok err (read left at later) old new end its (inl s) =
    leaves_took ok err (later s.line) s.mid new end (its.1 s.line s.mid s.step s.whole) s.rest
leaves_took ok err (read left at later) old new end its (inr s) =
    subst (λ e. AtEnd ok err e new) (sym s.0.ends) (its.0 new s.0.cut s.1)
leaves_took ok err (write left at line later) old new end its (inl s) =
    leaves_took ok err later s.mid new end (its.1 s.mid s.step) s.rest
leaves_took ok err (write left at line later) old new end its (inr s) =
    subst (λ e. AtEnd ok err e new) (sym s.ends) (its.0 new s.cut)
leaves_took ok err (latch left regs later) old new end its (inl s) =
    leaves_took ok err later s.mid new end (its.1 s.mid s.step) s.rest
leaves_took ok err (latch left regs later) old new end its (inr s) =
    subst (λ e. AtEnd ok err e new) (sym s.ends) (its.0 new s.cut)

-- the law
pub leaves : {E T : Type 0} (ok : T → Device → Type 0) (err : E → Device → Type 0) {plan : Plan E T} {old new : Device} {end : Result T E}
    → Leaves plan ok err old → Follows plan old new end → AtEnd ok err end new
leaves ok err {plan = plan} {old = old} {new = new} {end = end} its it = leaves_took ok err plan old new end its it.took

-- ---- plans put together

-- one plan, and then another: the first leaves what the second begins with, and a stop of either is a stop
pub leaves_bind : {E T U : Type 0} (ok : U → Device → Type 0) (err : E → Device → Type 0) (plan : Plan E T) (next : T → Plan E U) (d : Device)
    → Leaves plan (λ t new. Leaves (next t) ok err new) err d → Leaves (bind plan next) ok err d
unfolding Leaves bind
leaves_bind ok err (done t) next d it = it
leaves_bind ok err (stop left) next d it = it
leaves_bind ok err (read left at later) next d it =
    (it.0, λ line new was whole. leaves_bind ok err (later line) next new (it.1 line new was whole))
leaves_bind ok err (write left at line later) next d it = (it.0, λ new was. leaves_bind ok err later next new (it.1 new was))
leaves_bind ok err (latch left regs later) next d it = (it.0, λ new was. leaves_bind ok err later next new (it.1 new was))

pub leaves_mapped : {E F T U : Type 0} (f : E → F) (h : T → U) (ok : U → Device → Type 0) (err : F → Device → Type 0) (plan : Plan E T) (d : Device)
    → Leaves plan (λ t. ok (h t)) (λ left. err (f left)) d → Leaves (mapped f h plan) ok err d
unfolding Leaves mapped
leaves_mapped f h ok err (done t) d it = it
leaves_mapped f h ok err (stop left) d it = it
leaves_mapped f h ok err (read left at later) d it =
    (it.0, λ line new was whole. leaves_mapped f h ok err (later line) new (it.1 line new was whole))
leaves_mapped f h ok err (write left at line later) d it = (it.0, λ new was. leaves_mapped f h ok err later new (it.1 new was))
leaves_mapped f h ok err (latch left regs later) d it = (it.0, λ new was. leaves_mapped f h ok err later new (it.1 new was))

-- what follows from what is left is left
pub leaves_more : {E T : Type 0} (ok more : T → Device → Type 0) (err worse : E → Device → Type 0) (plan : Plan E T) (d : Device)
    → ((t : T) (new : Device) → ok t new → more t new) → ((left : E) (new : Device) → err left new → worse left new)
    → Leaves plan ok err d → Leaves plan more worse d
unfolding Leaves
leaves_more ok more err worse (done t) d one two it = one t d it
leaves_more ok more err worse (stop left) d one two it = two left d it
leaves_more ok more err worse (read left at later) d one two it = (
  λ new was off. two left new (it.0 new was off),
  λ line new was whole. leaves_more ok more err worse (later line) new one two (it.1 line new was whole),
)
leaves_more ok more err worse (write left at line later) d one two it =
    (λ new was. two left new (it.0 new was), λ new was. leaves_more ok more err worse later new one two (it.1 new was))
leaves_more ok more err worse (latch left regs later) d one two it =
    (λ new was. two left new (it.0 new was), λ new was. leaves_more ok more err worse later new one two (it.1 new was))

pub leaves_if : {E T : Type 0} (ok : T → Device → Type 0) (err : E → Device → Type 0) (b : Bool) (first second : Plan E T) (d : Device)
    → (b ≡ true → Leaves first ok err d) → (b ≡ false → Leaves second ok err d) → Leaves (if b then first else second) ok err d
leaves_if ok err true first second d one two = one refl
leaves_if ok err false first second d one two = two refl

-- ---- loops: what holds before a turn and leaves itself for the next one

pub leaves_repeated :
    {E T : Type 0} (holds : ℕ → T → Device → Type 0) (err : E → Device → Type 0) (turn : ℕ → T → Plan E T) (end i n : ℕ) (t : T) (d : Device) → i + n ≡ end
    → ((i : ℕ) (t : T) (d : Device) → i < end → holds i t d → Leaves (turn i t) (holds (i + 1)) err d) → holds i t d
    → Leaves (repeated turn i n t) (holds end) err d
unfolding Leaves repeated
leaves_repeated holds err turn end i zero t d is each now = subst (λ i. holds i t d) (let all : i ≡ end = omega arith in all) now
leaves_repeated holds err turn end i (suc n) t d is each now =
    leaves_bind (holds end) err (turn i t) (λ t. repeated turn (i + 1) n t) d
    (leaves_more (holds (i + 1)) (λ t new. Leaves (repeated turn (i + 1) n t) (holds end) err new) err err (turn i t) d
    (λ t new later. leaves_repeated holds err turn end (i + 1) n t new (omega arith) each later) (λ left new it. it) (each i t d (omega arith) now))

pub leaves_for_each :
    {X E T : Type 0} (holds : List X → T → Device → Type 0) (err : E → Device → Type 0) (turn : X → T → Plan E T) (items : List X) (t : T) (d : Device)
    → ((x : X) (later : List X) (t : T) (d : Device) → holds (x ∷ later) t d → Leaves (turn x t) (holds later) err d) → holds items t d
    → Leaves (for_each turn items t) (holds []) err d
unfolding Leaves for_each
leaves_for_each holds err turn [] t d each now = now
leaves_for_each holds err turn (x ∷ later) t d each now =
    leaves_bind (holds []) err (turn x t) (λ t. for_each turn later t) d
    (leaves_more (holds later) (λ t new. Leaves (for_each turn later t) (holds []) err new) err err (turn x t) d
    (λ t new rest. leaves_for_each holds err turn later t new each rest) (λ left new it. it) (each x later t d now))
