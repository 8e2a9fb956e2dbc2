-- What each step keeps is kept wherever a plan ends: the size, what no step of the plan touches, and counts that never fall.
use Rattle.std.proofs.Common.{ℕ, zero, suc, ◌+◌, [], ◌∷◌, ◌≡◌, ◌≤◌, List, Option, Some, None, Result, refl, sym, ap, subst, ◌∙◌, inl, inr, arith}
use Rattle.std.specs.Prelude.{Bool, true, false, option_map}
use Rattle.pmem_base.specs.declared.lines.Line.{Line}
use Rattle.pmem_base.specs.declared.registers.Regs.{Regs}
use Rattle.pmem_base.specs.Lines.{line_at}
use Rattle.pmem_base.proofs.LineSets.{line_at-set_other}
use Rattle.board.specs.Device.{Device}
use Rattle.board.specs.Steps.{HasRead, HasWritten, HasLatched, WasCut, with_line}
use Rattle.call_plan.specs.Plans.{Plan, done, stop, read, write, latch, bind, mapped, repeated, for_each}
use Rattle.call_plan.specs.Following.{Took, Follows}
use Rattle.call_plan.specs.Bounds.{Allowed, MakesOnly, all_steps, only_reads, writes_within}

-- power can't be on and off
pub on_and_off : {X : Type 0} (b : Bool) → b ≡ true → b ≡ false → X
on_and_off b on off = let no : true ≡ false = sym on ∙ off in absurd (cc)

pub stays_on : {X : Type 0} (old new : Device) → new ≡ old → old.live ≡ true → new.live ≡ false → X
stays_on old new is on off = on_and_off new.live (ap (λ (d : Device). d.live) is ∙ on) off

-- each allowed step keeps it, whatever keeps it from there on, and so does a cut
pub record IsKept (allowed : Allowed) (kept : Device → Device → Type 0) : Type 0 where
  pub itself : (d : Device) → kept d d
  pub reads : (at : ℕ) (line : Line) (old mid new : Device) → allowed.reads at → HasRead old at line mid → kept mid new → kept old new
  pub writes : (at : ℕ) (line : Line) (old mid new : Device) → allowed.writes at line → HasWritten old at line mid → kept mid new → kept old new
  pub latches : (regs : Regs) (old mid new : Device) → allowed.latches regs → HasLatched old regs mid → kept mid new → kept old new
  pub cut : (old new : Device) → WasCut old new → kept old new

kept_took : {E T : Type 0} (allowed : Allowed) (kept : Device → Device → Type 0) (its : IsKept allowed kept) (plan : Plan E T)
    (old new : Device) (end : Result T E) → MakesOnly allowed plan → Took plan old new end → kept old new
unfolding Took MakesOnly
kept_took allowed kept its (done t) old new end only it = subst (kept old) (sym it.1) (its.itself old)
kept_took allowed kept its (stop left) old new end only it = subst (kept old) (sym it.1) (its.itself old)
kept_took allowed kept its (read left at later) old new end only (inl s) =
    its.reads at s.line old s.mid new only.0 s.step (kept_took allowed kept its (later s.line) s.mid new end (only.1 s.line s.whole) s.rest)
kept_took allowed kept its (read left at later) old new end only (inr s) = its.cut old new s.0.cut
kept_took allowed kept its (write left at line later) old new end only (inl s) =
    its.writes at line old s.mid new only.0 s.step (kept_took allowed kept its later s.mid new end only.1 s.rest)
kept_took allowed kept its (write left at line later) old new end only (inr s) = its.cut old new s.cut
kept_took allowed kept its (latch left regs later) old new end only (inl s) =
    its.latches regs old s.mid new only.0 s.step (kept_took allowed kept its later s.mid new end only.1 s.rest)
kept_took allowed kept its (latch left regs later) old new end only (inr s) = its.cut old new s.cut

-- the law
pub follows_keeps : {E T : Type 0} (allowed : Allowed) (kept : Device → Device → Type 0) {plan : Plan E T} {old new : Device} {end : Result T E}
    → IsKept allowed kept → MakesOnly allowed plan → Follows plan old new end → kept old new
follows_keeps allowed kept {plan = plan} {old = old} {new = new} {end = end} its only it =
    kept_took allowed kept its plan old new end only it.took

pub any_steps : {E T : Type 0} (plan : Plan E T) → MakesOnly all_steps plan
unfolding MakesOnly
any_steps (done t) = tt
any_steps (stop left) = tt
any_steps (read left at later) = (tt, λ line whole. any_steps (later line))
any_steps (write left at line later) = (tt, any_steps later)
any_steps (latch left regs later) = (tt, any_steps later)

-- ---- the steps of plans put together

pub makes_bind : {E T U : Type 0} (allowed : Allowed) (plan : Plan E T) (next : T → Plan E U) → MakesOnly allowed plan → ((t : T) → MakesOnly allowed (next t))
    → MakesOnly allowed (bind plan next)
unfolding MakesOnly bind
makes_bind allowed (done t) next only rest = rest t
makes_bind allowed (stop left) next only rest = tt
makes_bind allowed (read left at later) next only rest =
    (only.0, λ line whole. makes_bind allowed (later line) next (only.1 line whole) rest)
makes_bind allowed (write left at line later) next only rest = (only.0, makes_bind allowed later next only.1 rest)
makes_bind allowed (latch left regs later) next only rest = (only.0, makes_bind allowed later next only.1 rest)

pub makes_mapped : {E F T U : Type 0} (allowed : Allowed) (f : E → F) (h : T → U) (plan : Plan E T) → MakesOnly allowed plan
    → MakesOnly allowed (mapped f h plan)
unfolding MakesOnly mapped
makes_mapped allowed f h (done t) only = tt
makes_mapped allowed f h (stop left) only = tt
makes_mapped allowed f h (read left at later) only = (only.0, λ line whole. makes_mapped allowed f h (later line) (only.1 line whole))
makes_mapped allowed f h (write left at line later) only = (only.0, makes_mapped allowed f h later only.1)
makes_mapped allowed f h (latch left regs later) only = (only.0, makes_mapped allowed f h later only.1)

pub makes_repeated : {E T : Type 0} (allowed : Allowed) (turn : ℕ → T → Plan E T) (i n : ℕ) (t : T) → ((i : ℕ) (t : T) → MakesOnly allowed (turn i t))
    → MakesOnly allowed (repeated turn i n t)
unfolding MakesOnly repeated
makes_repeated allowed turn i zero t each = tt
makes_repeated allowed turn i (suc n) t each =
    makes_bind allowed (turn i t) (λ t. repeated turn (i + 1) n t) (each i t) (λ t. makes_repeated allowed turn (i + 1) n t each)

pub makes_for_each : {X E T : Type 0} (allowed : Allowed) (turn : X → T → Plan E T) (items : List X) (t : T) → ((x : X) (t : T) → MakesOnly allowed (turn x t))
    → MakesOnly allowed (for_each turn items t)
unfolding MakesOnly for_each
makes_for_each allowed turn [] t each = tt
makes_for_each allowed turn (x ∷ later) t each =
    makes_bind allowed (turn x t) (λ t. for_each turn later t) (each x t) (λ t. makes_for_each allowed turn later t each)

-- ---- the size

-- the number of lines stays
pub follows_size : {E T : Type 0} {plan : Plan E T} {old new : Device} {end : Result T E} → Follows plan old new end → new.size ≡ old.size
follows_size {plan = plan} it =
    follows_keeps all_steps (λ old new. new.size ≡ old.size)
    (record {
      itself = λ d. refl;
      reads = λ at line old mid new may was rest. rest ∙ was.size;
      writes = λ at line old mid new may was rest. rest ∙ was.size;
      latches = λ regs old mid new may was rest. rest ∙ was.size;
      cut = λ old new was. was.size;
    })
    (any_steps plan) it

-- ---- counts never fall

pub record Grows (old new : Device) : Type 0 where
  pub reads : old.reads ≤ new.reads
  pub writes : old.writes ≤ new.writes
  pub latches : old.latches ≤ new.latches

read_grows : (at : ℕ) (line : Line) (old mid new : Device) → HasRead old at line mid → Grows mid new → Grows old new
read_grows at line old mid new was rest =
    let a = was.reads.never_falls in let b = was.writes in let c = was.latches in
    let d = rest.reads in let e = rest.writes in let f = rest.latches in
    record { reads = omega arith; writes = omega arith; latches = omega arith }

write_grows : (at : ℕ) (line : Line) (old mid new : Device) → HasWritten old at line mid → Grows mid new → Grows old new
write_grows at line old mid new was rest =
    let a = was.writes.never_falls in let b = was.reads in let c = was.latches in
    let d = rest.reads in let e = rest.writes in let f = rest.latches in
    record { reads = omega arith; writes = omega arith; latches = omega arith }

latch_grows : (regs : Regs) (old mid new : Device) → HasLatched old regs mid → Grows mid new → Grows old new
latch_grows regs old mid new was rest =
    let a = was.latches.never_falls in let b = was.reads in let c = was.writes in
    let d = rest.reads in let e = rest.writes in let f = rest.latches in
    record { reads = omega arith; writes = omega arith; latches = omega arith }

cut_grows : (old new : Device) → WasCut old new → Grows old new
cut_grows old new was =
    let a = was.reads in let b = was.writes in let c = was.latches in
    record { reads = omega arith; writes = omega arith; latches = omega arith }

pub follows_grows : {E T : Type 0} {plan : Plan E T} {old new : Device} {end : Result T E} → Follows plan old new end → Grows old new
follows_grows {plan = plan} it =
    follows_keeps all_steps Grows
    (record {
      itself = λ d. record { reads = omega arith; writes = omega arith; latches = omega arith };
      reads = λ at line old mid new may was rest. read_grows at line old mid new was rest;
      writes = λ at line old mid new may was rest. write_grows at line old mid new was rest;
      latches = λ regs old mid new may was rest. latch_grows regs old mid new was rest;
      cut = cut_grows;
    })
    (any_steps plan) it

-- ---- what only reads

-- all but the count of reads, the count of cuts and whether power is on stays
pub record KeepsDevice (old new : Device) : Type 0 where
  pub size : new.size ≡ old.size
  pub lines : new.lines ≡ old.lines
  pub regs : new.regs ≡ old.regs
  pub writes : new.writes ≡ old.writes
  pub latches : new.latches ≡ old.latches

pub only_reads_keep : {E T : Type 0} {plan : Plan E T} {old new : Device} {end : Result T E} → MakesOnly only_reads plan → Follows plan old new end
    → KeepsDevice old new
only_reads_keep only it =
    follows_keeps only_reads KeepsDevice
    (record {
      itself = λ d. record { size = refl; lines = refl; regs = refl; writes = refl; latches = refl };
      reads = λ at line old mid new may was rest.
          record {
            size = rest.size ∙ was.size;
            lines = rest.lines ∙ was.lines;
            regs = rest.regs ∙ was.regs;
            writes = rest.writes ∙ was.writes;
            latches = rest.latches ∙ was.latches;
          };
      writes = λ at line old mid new may was rest. absurd may;
      latches = λ regs old mid new may was rest. absurd may;
      cut = λ old new was. record { size = was.size; lines = was.lines; regs = was.regs; writes = was.writes; latches = was.latches };
    })
    only it

-- ---- which places are written

pub line_told-set : (told : Option (List Line)) (x at : ℕ) (line : Line) → (at ≡ x → ⊥)
    → option_map (λ lines. line_at lines at) (with_line told x line) ≡ option_map (λ lines. line_at lines at) told
line_told-set None x at line apart = refl
line_told-set (Some lines) x at line apart = ap Some (line_at-set_other lines x at line apart)

-- the lines at all other places stay, where told
pub writes_within_keep : {E T : Type 0} (place : ℕ → Type 0) {plan : Plan E T} {old new : Device} {end : Result T E} → MakesOnly (writes_within place) plan
    → Follows plan old new end → (at : ℕ) → (place at → ⊥)
    → option_map (λ lines. line_at lines at) new.lines ≡ option_map (λ lines. line_at lines at) old.lines
writes_within_keep place only it at apart =
    follows_keeps (writes_within place) (λ old new. option_map (λ lines. line_at lines at) new.lines ≡ option_map (λ lines. line_at lines at) old.lines)
    (record {
      itself = λ d. refl;
      reads = λ x line old mid new may was rest. rest ∙ ap (option_map (λ lines. line_at lines at)) was.lines;
      writes = λ x line old mid new may was rest.
          rest ∙ ap (option_map (λ lines. line_at lines at)) was.lines
          ∙ line_told-set old.lines x at line (λ same. apart (subst place (sym same) may));
      latches = λ regs old mid new may was rest. rest ∙ ap (option_map (λ lines. line_at lines at)) was.lines;
      cut = λ old new was. ap (option_map (λ lines. line_at lines at)) was.lines;
    })
    only it
