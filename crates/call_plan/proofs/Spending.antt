-- How many steps a run of a plan takes.
use Rattle.std.proofs.Common.{ℕ, zero, suc, List, [], ◌∷◌, ◌≡◌, ◌<◌, ◌≤◌, ◌+◌, Result, Ok, Err, refl, sym, ap, subst, ◌∙◌, true, inl, inr, arith}
use Rattle.pmem_base.specs.Counts.{risen, risen_times, last_count}
use Rattle.board.specs.Counts.{RisesBy}
use Rattle.board.specs.Device.{Device}
use Rattle.board.specs.Steps.{WasCut}
use Rattle.call_plan.specs.Plans.{Plan, done, stop, read, write, latch, bind, mapped, repeated, for_each}
use Rattle.call_plan.specs.Following.{Took, Follows}
use Rattle.call_plan.specs.Bounds.{Spends, HasSpent, IfDone, all_spent}
use Rattle.call_plan.proofs.Keeping.{on_and_off, stays_on}

-- one rise and then n are one more
risen_times-risen : (n count : ℕ) → risen_times n (risen count) ≡ risen_times (suc n) count
risen_times-risen zero count = refl
risen_times-risen (suc n) count = ap risen (risen_times-risen n count)

-- a count that rose n times rose by n
pub RisesBy-times : (n before after : ℕ) → before ≤ after → after ≡ risen_times n before → RisesBy n before after
RisesBy-times zero before after kept is = record { never_falls = kept; exact = λ below. omega (arith, is) }
RisesBy-times (suc n) before after kept is = record { never_falls = kept; exact = λ below. exact n before after is below }
  where
    exact : (n before after : ℕ) → after ≡ risen_times (suc n) before → after < last_count → after ≡ before + suc n
    exact zero before after is below = omega (arith, is, below)
    exact (suc n) before after is below =
        let last : after ≡ risen (risen_times (suc n) before) = is in
        let one : risen_times (suc n) before < last_count = omega (arith, last, below) in
        let rest : risen_times (suc n) before ≡ before + suc n = exact n before (risen_times (suc n) before) refl one in
        omega (arith, last, below, rest)

-- nothing was done
at_end : {E T : Type 0} (ok : T → ℕ → ℕ → ℕ → Type 0) (r w l : ℕ) (old new : Device) (end : Result T E) → new ≡ old → IfDone (λ t. ok t r w l) end
    → HasSpent ok r w l old new end
at_end ok r w l old new end is its =
    record {
      reads = 0;
      writes = 0;
      latches = 0;
      reads_left = r;
      writes_left = w;
      latches_left = l;
      all_reads = omega arith;
      all_writes = omega arith;
      all_latches = omega arith;
      counted_reads = ap (λ (d : Device). d.reads) is;
      counted_writes = ap (λ (d : Device). d.writes) is;
      counted_latches = ap (λ (d : Device). d.latches) is;
      left_over = its;
      fewer = λ on off. stays_on old new is on off;
    }

-- a cut before the next step
at_cut : {E T : Type 0} (ok : T → ℕ → ℕ → ℕ → Type 0) (r w l : ℕ) (left : E) (old new : Device) (end : Result T E) → end ≡ Err left → WasCut old new
    → (old.live ≡ true → 0 < w + l) → HasSpent ok r w l old new end
at_cut {E = E} {T = T} ok r w l left old new end is was fewer =
    record {
      reads = 0;
      writes = 0;
      latches = 0;
      reads_left = r;
      writes_left = w;
      latches_left = l;
      all_reads = omega arith;
      all_writes = omega arith;
      all_latches = omega arith;
      counted_reads = was.reads;
      counted_writes = was.writes;
      counted_latches = was.latches;
      left_over = subst (λ (e : Result T E). IfDone (λ t. ok t r w l) e) (sym is) tt;
      fewer = λ on off. fewer on;
    }

-- one more read, line write or latch before
more_reads : {E T : Type 0} (ok : T → ℕ → ℕ → ℕ → Type 0) (r rest w l at : ℕ) (old mid new : Device) (end : Result T E) → r ≡ rest + 1
    → mid.reads ≡ risen old.reads → mid.writes ≡ old.writes → mid.latches ≡ old.latches → mid.live ≡ old.live
    → HasSpent ok rest w l mid new end → HasSpent ok r w l old new end
more_reads ok r rest w l at old mid new end is one writes latches live it =
    record {
      reads = suc it.reads;
      writes = it.writes;
      latches = it.latches;
      reads_left = it.reads_left;
      writes_left = it.writes_left;
      latches_left = it.latches_left;
      all_reads = let a = it.all_reads in omega arith;
      all_writes = it.all_writes;
      all_latches = it.all_latches;
      counted_reads = it.counted_reads ∙ ap (risen_times it.reads) one ∙ risen_times-risen it.reads old.reads;
      counted_writes = it.counted_writes ∙ ap (risen_times it.writes) writes;
      counted_latches = it.counted_latches ∙ ap (risen_times it.latches) latches;
      left_over = it.left_over;
      fewer = λ on off. it.fewer (live ∙ on) off;
    }

more_writes : {E T : Type 0} (ok : T → ℕ → ℕ → ℕ → Type 0) (r w rest l : ℕ) (old mid new : Device) (end : Result T E) → w ≡ rest + 1
    → mid.reads ≡ old.reads → mid.writes ≡ risen old.writes → mid.latches ≡ old.latches → mid.live ≡ old.live
    → HasSpent ok r rest l mid new end → HasSpent ok r w l old new end
more_writes ok r w rest l old mid new end is reads one latches live it =
    record {
      reads = it.reads;
      writes = suc it.writes;
      latches = it.latches;
      reads_left = it.reads_left;
      writes_left = it.writes_left;
      latches_left = it.latches_left;
      all_reads = it.all_reads;
      all_writes = let a = it.all_writes in omega arith;
      all_latches = it.all_latches;
      counted_reads = it.counted_reads ∙ ap (risen_times it.reads) reads;
      counted_writes = it.counted_writes ∙ ap (risen_times it.writes) one ∙ risen_times-risen it.writes old.writes;
      counted_latches = it.counted_latches ∙ ap (risen_times it.latches) latches;
      left_over = it.left_over;
      fewer = λ on off. it.fewer (live ∙ on) off;
    }

more_latches : {E T : Type 0} (ok : T → ℕ → ℕ → ℕ → Type 0) (r w l rest : ℕ) (old mid new : Device) (end : Result T E) → l ≡ rest + 1
    → mid.reads ≡ old.reads → mid.writes ≡ old.writes → mid.latches ≡ risen old.latches → mid.live ≡ old.live
    → HasSpent ok r w rest mid new end → HasSpent ok r w l old new end
more_latches ok r w l rest old mid new end is reads writes one live it =
    record {
      reads = it.reads;
      writes = it.writes;
      latches = suc it.latches;
      reads_left = it.reads_left;
      writes_left = it.writes_left;
      latches_left = it.latches_left;
      all_reads = it.all_reads;
      all_writes = it.all_writes;
      all_latches = let a = it.all_latches in omega arith;
      counted_reads = it.counted_reads ∙ ap (risen_times it.reads) reads;
      counted_writes = it.counted_writes ∙ ap (risen_times it.writes) writes;
      counted_latches = it.counted_latches ∙ ap (risen_times it.latches) one ∙ risen_times-risen it.latches old.latches;
      left_over = it.left_over;
      fewer = λ on off. it.fewer (live ∙ on) off;
    }

spent_took : {E T : Type 0} (ok : T → ℕ → ℕ → ℕ → Type 0) (plan : Plan E T) (r w l : ℕ) (old new : Device) (end : Result T E)
    → Spends ok plan r w l → Took plan old new end → HasSpent ok r w l old new end
unfolding Took Spends
spent_took {E = E} {T = T} ok (done t) r w l old new end its it =
    at_end ok r w l old new end it.1 (subst (λ (e : Result T E). IfDone (λ t. ok t r w l) e) (sym it.0) its)
spent_took {E = E} {T = T} ok (stop left) r w l old new end its it =
    at_end ok r w l old new end it.1 (subst (λ (e : Result T E). IfDone (λ t. ok t r w l) e) (sym it.0) tt)
spent_took ok (read left at later) r w l old new end its (inl s) =
    more_reads ok r its.0 w l at old s.mid new end its.1 s.step.reads.is_risen s.step.writes s.step.latches s.step.live
    (spent_took ok (later s.line) its.0 w l s.mid new end (its.2 s.line s.whole) s.rest)
spent_took ok (read left at later) r w l old new end its (inr s) =
    at_cut ok r w l left old new end s.0.ends s.0.cut (λ on. on_and_off old.live on s.1)
spent_took ok (write left at line later) r w l old new end its (inl s) =
    more_writes ok r w its.0 l old s.mid new end its.1 s.step.reads s.step.writes.is_risen s.step.latches s.step.live
    (spent_took ok later r its.0 l s.mid new end its.2 s.rest)
spent_took ok (write left at line later) r w l old new end its (inr s) =
    at_cut ok r w l left old new end s.ends s.cut (λ on. let a = its.1 in omega arith)
spent_took ok (latch left regs later) r w l old new end its (inl s) =
    more_latches ok r w l its.0 old s.mid new end its.1 s.step.reads s.step.writes s.step.latches.is_risen s.step.live
    (spent_took ok later r w its.0 s.mid new end its.2 s.rest)
spent_took ok (latch left regs later) r w l old new end its (inr s) =
    at_cut ok r w l left old new end s.ends s.cut (λ on. let a = its.1 in omega arith)

-- the law
pub spends : {E T : Type 0} (ok : T → ℕ → ℕ → ℕ → Type 0) (r w l : ℕ) {plan : Plan E T} {old new : Device} {end : Result T E} → Spends ok plan r w l
    → Follows plan old new end → HasSpent ok r w l old new end
spends ok r w l {plan = plan} {old = old} {new = new} {end = end} its it = spent_took ok plan r w l old new end its it.took

-- where nothing is left over, the counts are exact
pub spent_exactly : {E T : Type 0} {r w l : ℕ} {old new : Device} {t : T} → HasSpent {E = E} all_spent r w l old new (Ok t)
    → (new.reads ≡ risen_times r old.reads) × (new.writes ≡ risen_times w old.writes) × (new.latches ≡ risen_times l old.latches)
spent_exactly {r = r} {w = w} {l = l} {old = old} it =
    let none = it.left_over in
    let a : it.reads ≡ r = let all = it.all_reads in let left = none.0 in omega arith in
    let b : it.writes ≡ w = let all = it.all_writes in let left = none.1 in omega arith in
    let c : it.latches ≡ l = let all = it.all_latches in let left = none.2 in omega arith in (
      it.counted_reads ∙ ap (λ n. risen_times n old.reads) a,
      it.counted_writes ∙ ap (λ n. risen_times n old.writes) b,
      it.counted_latches ∙ ap (λ n. risen_times n old.latches) c,
    )

-- ---- plans put together

pub spends_bind : {E T U : Type 0} (ok : U → ℕ → ℕ → ℕ → Type 0) (plan : Plan E T) (next : T → Plan E U) (r w l : ℕ)
    → Spends (λ t. Spends ok (next t)) plan r w l → Spends ok (bind plan next) r w l
unfolding Spends bind
spends_bind ok (done t) next r w l it = it
spends_bind ok (stop left) next r w l it = it
spends_bind ok (read left at later) next r w l it =
    (it.0, it.1, λ line whole. spends_bind ok (later line) next it.0 w l (it.2 line whole))
spends_bind ok (write left at line later) next r w l it = (it.0, it.1, spends_bind ok later next r it.0 l it.2)
spends_bind ok (latch left regs later) next r w l it = (it.0, it.1, spends_bind ok later next r w it.0 it.2)

pub spends_mapped : {E F T U : Type 0} (f : E → F) (h : T → U) (ok : U → ℕ → ℕ → ℕ → Type 0) (plan : Plan E T) (r w l : ℕ)
    → Spends (λ t. ok (h t)) plan r w l → Spends ok (mapped f h plan) r w l
unfolding Spends mapped
spends_mapped f h ok (done t) r w l it = it
spends_mapped f h ok (stop left) r w l it = it
spends_mapped f h ok (read left at later) r w l it =
    (it.0, it.1, λ line whole. spends_mapped f h ok (later line) it.0 w l (it.2 line whole))
spends_mapped f h ok (write left at line later) r w l it = (it.0, it.1, spends_mapped f h ok later r it.0 l it.2)
spends_mapped f h ok (latch left regs later) r w l it = (it.0, it.1, spends_mapped f h ok later r w it.0 it.2)

pub spends_more : {E T : Type 0} (ok more : T → ℕ → ℕ → ℕ → Type 0) (plan : Plan E T) (r w l : ℕ)
    → ((t : T) (r w l : ℕ) → ok t r w l → more t r w l) → Spends ok plan r w l → Spends more plan r w l
unfolding Spends
spends_more ok more (done t) r w l one it = one t r w l it
spends_more ok more (stop left) r w l one it = it
spends_more ok more (read left at later) r w l one it =
    (it.0, it.1, λ line whole. spends_more ok more (later line) it.0 w l one (it.2 line whole))
spends_more ok more (write left at line later) r w l one it = (it.0, it.1, spends_more ok more later r it.0 l one it.2)
spends_more ok more (latch left regs later) r w l one it = (it.0, it.1, spends_more ok more later r w it.0 one it.2)

-- ---- loops: what is left over before a turn, and after it for the next one

pub spends_repeated :
    {E T : Type 0} (holds : ℕ → T → ℕ → ℕ → ℕ → Type 0) (turn : ℕ → T → Plan E T) (end i n : ℕ) (t : T) (r w l : ℕ) → i + n ≡ end
    → ((i : ℕ) (t : T) (r w l : ℕ) → i < end → holds i t r w l → Spends (holds (i + 1)) (turn i t) r w l) → holds i t r w l
    → Spends (holds end) (repeated turn i n t) r w l
unfolding Spends repeated
spends_repeated holds turn end i zero t r w l is each now = subst (λ i. holds i t r w l) (let all : i ≡ end = omega arith in all) now
spends_repeated holds turn end i (suc n) t r w l is each now =
    spends_bind (holds end) (turn i t) (λ t. repeated turn (i + 1) n t) r w l
    (spends_more (holds (i + 1)) (λ t. Spends (holds end) (repeated turn (i + 1) n t)) (turn i t) r w l
    (λ t r w l later. spends_repeated holds turn end (i + 1) n t r w l (omega arith) each later) (each i t r w l (omega arith) now))

pub spends_for_each :
    {X E T : Type 0} (holds : List X → T → ℕ → ℕ → ℕ → Type 0) (turn : X → T → Plan E T) (items : List X) (t : T) (r w l : ℕ)
    → ((x : X) (later : List X) (t : T) (r w l : ℕ) → holds (x ∷ later) t r w l → Spends (holds later) (turn x t) r w l) → holds items t r w l
    → Spends (holds []) (for_each turn items t) r w l
unfolding Spends for_each
spends_for_each holds turn [] t r w l each now = now
spends_for_each holds turn (x ∷ later) t r w l each now =
    spends_bind (holds []) (turn x t) (λ t. for_each turn later t) r w l
    (spends_more (holds later) (λ t. Spends (holds []) (for_each turn later t)) (turn x t) r w l
    (λ t r w l rest. spends_for_each holds turn later t r w l each rest) (each x later t r w l now))
