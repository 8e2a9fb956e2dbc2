-- Plans one after another, and plans in other words: put together, and taken apart again.
use Rattle.std.proofs.Common.{rules, ◌≡◌, ◌⊎◌, Result, Ok, Err, refl, ap, inl, inr}
use Rattle.board.specs.Device.{Device}
use Rattle.call_plan.specs.Plans.{Plan, done, stop, read, write, latch, bind, mapped, lifted, mapped_end}
use Rattle.call_plan.specs.Following.{Took, Follows}

pub same_err : {E T U : Type 0} (a b : E) → (let x : Result T E = Err a in x ≡ Err b) → (let x : Result U E = Err a in x ≡ Err b)
same_err {E = E} {U = U} a b e = search rules

-- ---- one after another

bind_took : {E T U : Type 0} (plan : Plan E T) (next : T → Plan E U) (old mid new : Device) (t : T) (end : Result U E)
    → Took plan old mid (Ok t) → Took (next t) mid new end → Took (bind plan next) old new end
unfolding Took bind
bind_took (done s) next old mid new t end first second = search rules
bind_took (stop s) next old mid new t end first second = absurd (cc)
bind_took (read left at later) next old mid new t end (inl s) second =
    inl (record {
      line = s.line;
      whole = s.whole;
      mid = s.mid;
      step = s.step;
      rest = bind_took (later s.line) next s.mid mid new t end s.rest second;
    })
bind_took (read left at later) next old mid new t end (inr s) second = let no = s.0.ends in absurd (cc)
bind_took (write left at line later) next old mid new t end (inl s) second =
    inl (record { mid = s.mid; step = s.step; rest = bind_took later next s.mid mid new t end s.rest second })
bind_took (write left at line later) next old mid new t end (inr s) second = let no = s.ends in absurd (cc)
bind_took (latch left regs later) next old mid new t end (inl s) second =
    inl (record { mid = s.mid; step = s.step; rest = bind_took later next s.mid mid new t end s.rest second })
bind_took (latch left regs later) next old mid new t end (inr s) second = let no = s.ends in absurd (cc)

bind_stopped : {E T U : Type 0} (plan : Plan E T) (next : T → Plan E U) (old new : Device) (left : E)
    → Took plan old new (Err left) → Took (bind plan next) old new (Err left)
unfolding Took bind
bind_stopped (done s) next old new left first = absurd (cc)
bind_stopped (stop s) next old new left first = (same_err left s first.0, first.1)
bind_stopped (read l at later) next old new left (inl s) =
    inl (record {
      line = s.line;
      whole = s.whole;
      mid = s.mid;
      step = s.step;
      rest = bind_stopped (later s.line) next s.mid new left s.rest;
    })
bind_stopped (read l at later) next old new left (inr s) = search (rules, same_err)
bind_stopped (write l at line later) next old new left (inl s) =
    inl (record { mid = s.mid; step = s.step; rest = bind_stopped later next s.mid new left s.rest })
bind_stopped (write l at line later) next old new left (inr s) = inr (record { ends = same_err left l s.ends; cut = s.cut })
bind_stopped (latch l regs later) next old new left (inl s) =
    inl (record { mid = s.mid; step = s.step; rest = bind_stopped later next s.mid new left s.rest })
bind_stopped (latch l regs later) next old new left (inr s) = inr (record { ends = same_err left l s.ends; cut = s.cut })

-- the first was done, and the second went on from there
pub bind_ok : {E T U : Type 0} {plan : Plan E T} (next : T → Plan E U) {old mid new : Device} {t : T} {end : Result U E}
    → Follows plan old mid (Ok t) → Follows (next t) mid new end → Follows (bind plan next) old new end
bind_ok {plan = plan} next {old = old} {mid = mid} {new = new} {t = t} {end = end} first second = search (rules, bind_took)

-- the first stopped, and so did the whole
pub bind_err : {E T U : Type 0} {plan : Plan E T} (next : T → Plan E U) {old new : Device} {left : E}
    → Follows plan old new (Err left) → Follows (bind plan next) old new (Err left)
bind_err {plan = plan} next {old = old} {new = new} {left = left} first = search (rules, bind_stopped)

-- where two plans were followed, the first was done and the second followed from there, or the first stopped
pub record WentOn {E T U : Type 0} (plan : Plan E T) (next : T → Plan E U) (old new : Device) (end : Result U E) : Type 0 where
  pub mid : Device
  pub value : T
  pub first : Follows plan old mid (Ok value)
  pub second : Follows (next value) mid new end

pub record HasStopped {E T U : Type 0} (plan : Plan E T) (old new : Device) (end : Result U E) : Type 0 where
  pub left : E
  pub first : Follows plan old new (Err left)
  pub same : end ≡ Err left

parts_took : {E T U : Type 0} (plan : Plan E T) (next : T → Plan E U) (old new : Device) (end : Result U E)
    → Took (bind plan next) old new end → WentOn plan next old new end ⊎ HasStopped plan old new end
unfolding Took bind
parts_took (done t) next old new end it = search rules
parts_took (stop left) next old new end it = search rules
parts_took (read left at later) next old new end (inl s) =
    elim (parts_took (later s.line) next s.mid new end s.rest) [
      | inl p ↦ search rules
      | inr p ↦ search rules
    ]
parts_took (read left at later) next old new end (inr s) = search rules
parts_took (write left at line later) next old new end (inl s) = search (rules, (parts_took later next s.mid new end s.rest))
parts_took (write left at line later) next old new end (inr s) = search rules
parts_took (latch left regs later) next old new end (inl s) = search (rules, (parts_took later next s.mid new end s.rest))
parts_took (latch left regs later) next old new end (inr s) = search rules

pub parts : {E T U : Type 0} (plan : Plan E T) (next : T → Plan E U) {old new : Device} {end : Result U E}
    → Follows (bind plan next) old new end → WentOn plan next old new end ⊎ HasStopped plan old new end
parts plan next {old = old} {new = new} {end = end} it = parts_took plan next old new end it.took

-- ---- in other words

mapped_took : {E F T U : Type 0} (f : E → F) (h : T → U) (plan : Plan E T) (old new : Device) (end : Result T E)
    → Took plan old new end → Took (mapped f h plan) old new (mapped_end f h end)
unfolding Took mapped
mapped_took f h (done t) old new end first = (ap (mapped_end f h) first.0, first.1)
mapped_took f h (stop left) old new end first = (ap (mapped_end f h) first.0, first.1)
mapped_took f h (read left at later) old new end (inl s) =
    inl (record {
      line = s.line;
      whole = s.whole;
      mid = s.mid;
      step = s.step;
      rest = mapped_took f h (later s.line) s.mid new end s.rest;
    })
mapped_took f h (read left at later) old new end (inr s) = search rules
mapped_took f h (write left at line later) old new end (inl s) =
    inl (record { mid = s.mid; step = s.step; rest = mapped_took f h later s.mid new end s.rest })
mapped_took f h (write left at line later) old new end (inr s) = search rules
mapped_took f h (latch left regs later) old new end (inl s) =
    inl (record { mid = s.mid; step = s.step; rest = mapped_took f h later s.mid new end s.rest })
mapped_took f h (latch left regs later) old new end (inr s) = search rules

-- the same steps lead to the same end, in other words
pub mapped_follows : {E F T U : Type 0} (f : E → F) (h : T → U) {plan : Plan E T} {old new : Device} {end : Result T E}
    → Follows plan old new end → Follows (mapped f h plan) old new (mapped_end f h end)
mapped_follows f h {plan = plan} {old = old} {new = new} {end = end} first = search (rules, mapped_took)

-- the end of a plan that was said in other words
pub record EndIn {E F T U : Type 0} (f : E → F) (h : T → U) (plan : Plan E T) (old new : Device) (end : Result U F) : Type 0 where
  pub its_end : Result T E
  pub same : end ≡ mapped_end f h its_end
  pub follows : Follows plan old new its_end

unmapped_took : {E F T U : Type 0} (f : E → F) (h : T → U) (plan : Plan E T) (old new : Device) (end : Result U F)
    → Took (mapped f h plan) old new end → EndIn f h plan old new end
unfolding Took mapped
unmapped_took f h (done t) old new end it =
    record { its_end = Ok t; same = it.0; follows = record { took = (refl, it.1) } }
unmapped_took f h (stop left) old new end it =
    record { its_end = Err left; same = it.0; follows = record { took = (refl, it.1) } }
unmapped_took f h (read left at later) old new end (inl s) =
    let rest = unmapped_took f h (later s.line) s.mid new end s.rest in
    record {
      its_end = rest.its_end;
      same = rest.same;
      follows = record { took = inl (record { line = s.line; whole = s.whole; mid = s.mid; step = s.step; rest = rest.follows.took }) };
    }
unmapped_took f h (read left at later) old new end (inr s) =
    record { its_end = Err left; same = s.0.ends; follows = record { took = inr (record { ends = refl; cut = s.0.cut }, s.1) } }
unmapped_took f h (write left at line later) old new end (inl s) =
    let rest = unmapped_took f h later s.mid new end s.rest in
    record {
      its_end = rest.its_end;
      same = rest.same;
      follows = record { took = inl (record { mid = s.mid; step = s.step; rest = rest.follows.took }) };
    }
unmapped_took f h (write left at line later) old new end (inr s) =
    record { its_end = Err left; same = s.ends; follows = record { took = inr (record { ends = refl; cut = s.cut }) } }
unmapped_took f h (latch left regs later) old new end (inl s) =
    let rest = unmapped_took f h later s.mid new end s.rest in
    record {
      its_end = rest.its_end;
      same = rest.same;
      follows = record { took = inl (record { mid = s.mid; step = s.step; rest = rest.follows.took }) };
    }
unmapped_took f h (latch left regs later) old new end (inr s) =
    record { its_end = Err left; same = s.ends; follows = record { took = inr (record { ends = refl; cut = s.cut }) } }

pub unmapped : {E F T U : Type 0} (f : E → F) (h : T → U) (plan : Plan E T) {old new : Device} {end : Result U F}
    → Follows (mapped f h plan) old new end → EndIn f h plan old new end
unmapped f h plan {old = old} {new = new} {end = end} it = unmapped_took f h plan old new end it.took

-- a plan over a part of the state, followed over the whole
pub lifted_follows : {S P A F G : Type 0} (whole : S → P) (fault : F → G) {plan : Plan (S × F) (S × A)} {old new : Device} {end : Result (S × A) (S × F)}
    → Follows plan old new end
    → Follows (lifted whole fault plan) old new (mapped_end (λ left. (whole left.0, fault left.1)) (λ t. (whole t.0, t.1)) end)
lifted_follows whole fault first = mapped_follows _ _ first
