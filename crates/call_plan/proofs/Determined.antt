-- Two runs of one plan from one board, which has power and tells its lines, end alike: where neither is cut, where both
-- take as many steps, and where both burn the same fuse.
use Rattle.std.proofs.Common.{rules, ℕ, ◌≡◌, ◌<◌, ◌≤◌, ◌+◌, ◌⊎◌, Result, refl, sym, ap, subst, ◌∙◌, inl, inr, arith}
use Rattle.std.specs.Prelude.{Bool, true, false, List, Option, Some, slice_set}
use Rattle.pmem_base.specs.declared.lines.Line.{Line}
use Rattle.pmem_base.specs.declared.registers.Regs.{Regs}
use Rattle.pmem_base.specs.Lines.{line_at}
use Rattle.board.specs.Device.{Device}
use Rattle.board.specs.Steps.{HasRead, HasWritten, HasLatched, WasCut, Tells, with_line}
use Rattle.board.proofs.CountLemmas.{RisesBy-once}
use Rattle.call_plan.specs.Plans.{Plan, done, stop, read, write, latch}
use Rattle.call_plan.specs.Following.{Took, Follows}
use Rattle.call_plan.specs.Runs.{AreBelowEnd, BurnsFuse}
use Rattle.call_plan.proofs.Keeping.{Grows, follows_grows, on_and_off, stays_on}

-- ---- each step is determined

-- a device is its fields
same_device : (a b : Device) → a.size ≡ b.size → a.lines ≡ b.lines → a.regs ≡ b.regs → a.steady ≡ b.steady → a.live ≡ b.live → a.reads ≡ b.reads
    → a.writes ≡ b.writes → a.latches ≡ b.latches → a.cuts ≡ b.cuts → a.accesses ≡ b.accesses → a ≡ b
same_device a b size lines regs steady live reads writes latches cuts accesses = search rules

told_line : (told : Option (List Line)) (lines : List Line) (at : ℕ) (line : Line) → told ≡ Some lines → Tells told at line → line ≡ line_at lines at
told_line told lines at line is tells = subst (λ t. Tells t at line) is tells

-- two reads of told lines give one line
pub same_line : (lines : List Line) (old a b : Device) (at : ℕ) (line other : Line) → old.lines ≡ Some lines → HasRead old at line a
    → HasRead old at other b → line ≡ other
same_line lines old a b at line other told first second = search (rules, told_line)

pub read_is_determined : (old a b : Device) (at : ℕ) (line other : Line) → HasRead old at line a → HasRead old at other b → a ≡ b
read_is_determined old a b at line other x y = search (rules, same_device)

pub write_is_determined : (old a b : Device) (at : ℕ) (line : Line) → HasWritten old at line a → HasWritten old at line b → a ≡ b
write_is_determined old a b at line x y = search (rules, same_device)

pub latch_is_determined : (old a b : Device) (regs : Regs) → HasLatched old regs a → HasLatched old regs b → a ≡ b
latch_is_determined old a b regs x y = search (rules, same_device)

pub cut_is_determined : (old a b : Device) → WasCut old a → WasCut old b → a ≡ b
cut_is_determined old a b x y = search (rules, same_device)

-- ---- a run that goes on past a step takes more steps than one that is cut before it

write_steps : (old mid new : Device) (at : ℕ) (line : Line) → HasWritten old at line mid → Grows mid new → AreBelowEnd new
    → old.writes + old.latches + 1 ≤ new.writes + new.latches
write_steps old mid new at line was grows below = search (rules, RisesBy-once)

latch_steps : (old mid new : Device) (regs : Regs) → HasLatched old regs mid → Grows mid new → AreBelowEnd new
    → old.writes + old.latches + 1 ≤ new.writes + new.latches
latch_steps old mid new regs was grows below = search (rules, RisesBy-once)

cut_steps : (old new : Device) → WasCut old new → new.writes + new.latches ≡ old.writes + old.latches
cut_steps old new was = let a = was.writes in let b = was.latches in omega arith

grows_from : {E T : Type 0} (plan : Plan E T) (old new : Device) (end : Result T E) → Took plan old new end → Grows old new
grows_from plan old new end it = follows_grows (let all : Follows plan old new end = record { took = it } in all)

-- neither was cut, or both took as many steps
abbrev pub DoNotPart : Device → Device → Type 0
DoNotPart a b = ((a.live ≡ true) × (b.live ≡ true)) ⊎ (a.writes + a.latches ≡ b.writes + b.latches)

parted : {X : Type 0} (old a b : Device) → WasCut old b → old.writes + old.latches + 1 ≤ a.writes + a.latches
    → (b.live ≡ true) ⊎ (a.writes + a.latches ≡ b.writes + b.latches) → X
parted old a b was more (inl on) = on_and_off b.live on was.off
parted old a b was more (inr same) = let here = cut_steps old b was in absurd (omega arith)

second_on : (a b : Device) → DoNotPart a b → (b.live ≡ true) ⊎ (a.writes + a.latches ≡ b.writes + b.latches)
second_on a b (inl on) = inl on.1
second_on a b (inr same) = inr same

first_on : (a b : Device) → DoNotPart a b → (a.live ≡ true) ⊎ (b.writes + b.latches ≡ a.writes + a.latches)
first_on a b (inl on) = inl on.0
first_on a b (inr same) = inr (sym same)

-- ---- the law, for runs that do not part

alike : {E T : Type 0} (plan : Plan E T) (lines : List Line) (old a b : Device) (first second : Result T E)
    → old.lines ≡ Some lines → old.live ≡ true → AreBelowEnd a → AreBelowEnd b → DoNotPart a b → Took plan old a first → Took plan old b second
    → (first ≡ second) × (a ≡ b)
unfolding Took
alike (done t) lines old a b first second told live below_a below_b together it its = (it.0 ∙ sym its.0, it.1 ∙ sym its.1)
alike (stop left) lines old a b first second told live below_a below_b together it its = (it.0 ∙ sym its.0, it.1 ∙ sym its.1)
alike (read left at later) lines old a b first second told live below_a below_b together (inl s) (inl t) =
    let line = same_line lines old s.mid t.mid at s.line t.line told s.step t.step in
    let mid = read_is_determined old s.mid t.mid at s.line t.line s.step t.step in
    alike (later s.line) lines s.mid a b first second (s.step.lines ∙ told) (s.step.live ∙ live) below_a below_b together s.rest
    (subst (λ (d : Device). Took (later s.line) d b second) (sym mid) (subst (λ l. Took (later l) t.mid b second) (sym line) t.rest))
alike (read left at later) lines old a b first second told live below_a below_b together (inl s) (inr t) = on_and_off old.live live t.1
alike (read left at later) lines old a b first second told live below_a below_b together (inr s) its = on_and_off old.live live s.1
alike (write left at line later) lines old a b first second told live below_a below_b together (inl s) (inl t) =
    let mid = write_is_determined old s.mid t.mid at line s.step t.step in
    alike later (slice_set lines at line) s.mid a b first second (s.step.lines ∙ ap (λ told. with_line told at line) told) (s.step.live ∙ live)
    below_a below_b together s.rest (subst (λ (d : Device). Took later d b second) (sym mid) t.rest)
alike (write left at line later) lines old a b first second told live below_a below_b together (inl s) (inr t) =
    parted old a b t.cut (write_steps old s.mid a at line s.step (grows_from later s.mid a first s.rest) below_a) (second_on a b together)
alike (write left at line later) lines old a b first second told live below_a below_b together (inr s) (inl t) =
    parted old b a s.cut (write_steps old t.mid b at line t.step (grows_from later t.mid b second t.rest) below_b) (first_on a b together)
alike (write left at line later) lines old a b first second told live below_a below_b together (inr s) (inr t) = search (rules, cut_is_determined)
alike (latch left regs later) lines old a b first second told live below_a below_b together (inl s) (inl t) =
    let mid = latch_is_determined old s.mid t.mid regs s.step t.step in
    alike later lines s.mid a b first second (s.step.lines ∙ told) (s.step.live ∙ live) below_a below_b together s.rest
    (subst (λ (d : Device). Took later d b second) (sym mid) t.rest)
alike (latch left regs later) lines old a b first second told live below_a below_b together (inl s) (inr t) =
    parted old a b t.cut (latch_steps old s.mid a regs s.step (grows_from later s.mid a first s.rest) below_a) (second_on a b together)
alike (latch left regs later) lines old a b first second told live below_a below_b together (inr s) (inl t) =
    parted old b a s.cut (latch_steps old t.mid b regs t.step (grows_from later t.mid b second t.rest) below_b) (first_on a b together)
alike (latch left regs later) lines old a b first second told live below_a below_b together (inr s) (inr t) = search (rules, cut_is_determined)

-- ---- a run that is cut takes fewer steps than one that isn't

fewer : {E T : Type 0} (plan : Plan E T) (lines : List Line) (old a b : Device) (first second : Result T E)
    → old.lines ≡ Some lines → old.live ≡ true → AreBelowEnd b → a.live ≡ false → b.live ≡ true → Took plan old a first → Took plan old b second
    → a.writes + a.latches < b.writes + b.latches
unfolding Took
fewer (done t) lines old a b first second told live below off on it its = stays_on old a it.1 live off
fewer (stop left) lines old a b first second told live below off on it its = stays_on old a it.1 live off
fewer (read left at later) lines old a b first second told live below off on (inl s) (inl t) =
    let line = same_line lines old s.mid t.mid at s.line t.line told s.step t.step in
    let mid = read_is_determined old s.mid t.mid at s.line t.line s.step t.step in
    fewer (later s.line) lines s.mid a b first second (s.step.lines ∙ told) (s.step.live ∙ live) below off on s.rest
    (subst (λ (d : Device). Took (later s.line) d b second) (sym mid) (subst (λ l. Took (later l) t.mid b second) (sym line) t.rest))
fewer (read left at later) lines old a b first second told live below off on (inl s) (inr t) = on_and_off old.live live t.1
fewer (read left at later) lines old a b first second told live below off on (inr s) its = on_and_off old.live live s.1
fewer (write left at line later) lines old a b first second told live below off on (inl s) (inl t) =
    let mid = write_is_determined old s.mid t.mid at line s.step t.step in
    fewer later (slice_set lines at line) s.mid a b first second (s.step.lines ∙ ap (λ told. with_line told at line) told) (s.step.live ∙ live)
    below off on s.rest (subst (λ (d : Device). Took later d b second) (sym mid) t.rest)
fewer (write left at line later) lines old a b first second told live below off on (inr s) (inl t) =
    search (rules, write_steps, grows_from, cut_steps)
fewer (write left at line later) lines old a b first second told live below off on it (inr t) = on_and_off b.live on t.cut.off
fewer (latch left regs later) lines old a b first second told live below off on (inl s) (inl t) =
    let mid = latch_is_determined old s.mid t.mid regs s.step t.step in
    fewer later lines s.mid a b first second (s.step.lines ∙ told) (s.step.live ∙ live) below off on s.rest
    (subst (λ (d : Device). Took later d b second) (sym mid) t.rest)
fewer (latch left regs later) lines old a b first second told live below off on (inr s) (inl t) = search (rules, latch_steps, grows_from, cut_steps)
fewer (latch left regs later) lines old a b first second told live below off on it (inr t) = on_and_off b.live on t.cut.off

-- ---- the law, for runs that burn one fuse

pub on_or_off : (b : Bool) → (b ≡ true) ⊎ (b ≡ false)
on_or_off true = inl refl
on_or_off false = inr refl

-- one is cut by the fuse that lasts for the other
cannot_part : {X : Type 0} (fuse : Option ℕ) (old a b : Device) → BurnsFuse fuse old a → BurnsFuse fuse old b → a.live ≡ false → b.live ≡ true
    → a.writes + a.latches < b.writes + b.latches → X
cannot_part fuse old a b burns_a burns_b off on less = search rules

same_spent : (fuse : Option ℕ) (old a b : Device) → BurnsFuse fuse old a → BurnsFuse fuse old b → a.live ≡ false → b.live ≡ false
    → a.writes + a.latches ≡ b.writes + b.latches
same_spent fuse old a b burns_a burns_b off_a off_b = search rules

-- two runs of a plan that burn one fuse end alike, and leave one board
pub determined_by_fuse : {E T : Type 0} (fuse : Option ℕ) (lines : List Line) {plan : Plan E T} {old a b : Device} {first second : Result T E}
    → old.lines ≡ Some lines → old.live ≡ true → AreBelowEnd a → AreBelowEnd b → BurnsFuse fuse old a → BurnsFuse fuse old b
    → Follows plan old a first → Follows plan old b second → (first ≡ second) × (a ≡ b)
determined_by_fuse fuse lines {plan = plan} {old = old} {a = a} {b = b} {first = first} {second = second} told live below_a below_b burns_a burns_b it its =
    search (rules, on_or_off, alike, cannot_part, fewer, same_spent)

-- ---- runs that aren't cut

took_alike : {E T : Type 0} (plan : Plan E T) (lines : List Line) (old a b : Device) (first second : Result T E) → old.lines ≡ Some lines
    → a.live ≡ true → b.live ≡ true → Took plan old a first → Took plan old b second → (first ≡ second) × (a ≡ b)
unfolding Took
took_alike (done t) lines old a b first second told on lit it its = (it.0 ∙ sym its.0, it.1 ∙ sym its.1)
took_alike (stop left) lines old a b first second told on lit it its = (it.0 ∙ sym its.0, it.1 ∙ sym its.1)
took_alike {E = E} {T = T} (read left at later) lines old a b first second told on lit (inl s) (inl t) =
    let mid : t.mid ≡ s.mid = sym (read_is_determined old s.mid t.mid at s.line t.line s.step t.step) in
    let line : t.line ≡ s.line = sym (same_line lines old s.mid t.mid at s.line t.line told s.step t.step) in
    took_alike (later s.line) lines s.mid a b first second (s.step.lines ∙ told) on lit s.rest
    (subst (λ (d : Device). Took (later s.line) d b second) mid (subst (λ (l : Line). Took (later l) t.mid b second) line t.rest))
took_alike (read left at later) lines old a b first second told on lit (inr s) its = on_and_off a.live on s.0.cut.off
took_alike (read left at later) lines old a b first second told on lit (inl s) (inr t) = on_and_off b.live lit t.0.cut.off
took_alike (write left at line later) lines old a b first second told on lit (inl s) (inl t) =
    let mid : t.mid ≡ s.mid = sym (write_is_determined old s.mid t.mid at line s.step t.step) in
    took_alike later _ s.mid a b first second (s.step.lines ∙ ap (λ o. with_line o at line) told) on lit s.rest
    (subst (λ (d : Device). Took later d b second) mid t.rest)
took_alike (write left at line later) lines old a b first second told on lit (inr s) its = on_and_off a.live on s.cut.off
took_alike (write left at line later) lines old a b first second told on lit (inl s) (inr t) = on_and_off b.live lit t.cut.off
took_alike (latch left regs later) lines old a b first second told on lit (inl s) (inl t) =
    let mid : t.mid ≡ s.mid = sym (latch_is_determined old s.mid t.mid regs s.step t.step) in
    took_alike later lines s.mid a b first second (s.step.lines ∙ told) on lit s.rest (subst (λ (d : Device). Took later d b second) mid t.rest)
took_alike (latch left regs later) lines old a b first second told on lit (inr s) its = on_and_off a.live on s.cut.off
took_alike (latch left regs later) lines old a b first second told on lit (inl s) (inr t) = on_and_off b.live lit t.cut.off

-- two of them, of one plan on a board that tells its lines, are the same, whatever their fuses
pub uncut_alike : {E T : Type 0} (lines : List Line) {plan : Plan E T} {old a b : Device} {first second : Result T E} → old.lines ≡ Some lines
    → a.live ≡ true → b.live ≡ true → Follows plan old a first → Follows plan old b second → (first ≡ second) × (a ≡ b)
uncut_alike lines {plan = plan} {old = old} {a = a} {b = b} {first = first} {second = second} told on lit it its = search (rules, took_alike)
