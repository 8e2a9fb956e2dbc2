-- What a plan that only reads leaves: shown once for each read, with the number of lines read, over a board that may
-- tell its lines.
use Rattle.std.proofs.Common.{ℕ, zero, suc, ◌≡◌, ◌≤◌, ◌<◌, ◌+◌, Bool, true, false, List, ◌∷◌, Option, Result, Ok, Err, refl, sym, ◌∙◌, subst, ◌⊎◌, inl, inr, arith}
use Rattle.std.specs.Prelude.{filter, cond}
use Rattle.std.specs.List.{range_with_len}
use Rattle.std.proofs.lemmas.Bool.{true≢false}
use Rattle.pmem_base.specs.declared.lines.Line.{Line}
use Rattle.pmem_base.specs.Lines.{IsLine}
use Rattle.board.specs.Counts.{RisesBy}
use Rattle.board.proofs.CountLemmas.{RisesBy-then, RisesBy-once}
use Rattle.board.specs.Device.{Device}
use Rattle.board.specs.Steps.{Tells, HasRead, WasCut}
use Rattle.call_plan.specs.Plans.{Plan, done, stop, read, write, latch, bind, mapped, repeated, for_each}
use Rattle.call_plan.specs.Following.{Took, Follows}
use Rattle.pmem_recovery.specs.Parts.{KeepsDevice, IsUncut, IsCutOff}
use Rattle.pmem_recovery.proofs.PartLaws.{KeepsDevice-none, KeepsDevice-then, KeepsDevice-read, IsUncut-none, IsUncut-then, IsUncut-read, IsCutOff-after, IsCutOff-cut}

-- From n reads on, on a board that exposes these lines, if any: the plan only reads, is done with `ok`, stops with `err`,
-- and is cut with `cut`, each with the number of reads up to there.
unfoldable pub Reading : {E T : Type 0} → Option (List Line) → (T → ℕ → Type 0) → (E → ℕ → Type 0) → (E → ℕ → Type 0) → Plan E T → ℕ → Type 0
Reading told ok err cut (done t) n = ok t n
Reading told ok err cut (stop left) n = err left n
Reading told ok err cut (read left at later) n =
    cut left n × ((line : Line) → IsLine line → Tells told at line → Reading told ok err cut (later line) (n + 1))
Reading told ok err cut (write left at line later) n = ⊥
Reading told ok err cut (latch left regs later) n = ⊥

-- ---- the law

-- what was read of a board since it stood at `first`
pub record IsReadFrom (first : Device) (n : ℕ) (now : Device) : Type 0 where
  pub kept : KeepsDevice first now
  pub goes : IsUncut first now
  pub reads : RisesBy n first.reads now.reads

-- how such a plan ends
abbrev pub EndsReading : {E T : Type 0} → (T → ℕ → Type 0) → (E → ℕ → Type 0) → (E → ℕ → Type 0) → Device → Device → ℕ → Result T E → Type 0
EndsReading ok err cut first new n (Ok t) = IsUncut first new × ok t n
EndsReading ok err cut first new n (Err left) =
    (IsUncut first new × err left n) ⊎ (IsCutOff first new × (first.live ≡ true → ⊥) × cut left n)

pub record HasOnlyRead {E T : Type 0} (ok : T → ℕ → Type 0) (err cut : E → ℕ → Type 0) (first new : Device) (end : Result T E) : Type 0 where
  pub count : ℕ
  pub kept : KeepsDevice first new
  pub reads : RisesBy count first.reads new.reads
  pub ends : EndsReading ok err cut first new count end

more_read : (first old mid : Device) (n at : ℕ) (line : Line) → IsReadFrom first n old → HasRead old at line mid → IsReadFrom first (n + 1) mid
more_read first old mid n at line so_far was =
    record {
      kept = KeepsDevice-then first old mid so_far.kept (KeepsDevice-read old at line mid was);
      goes = IsUncut-then first old mid so_far.goes (IsUncut-read old at line mid was);
      reads = RisesBy-then n 1 first.reads old.reads mid.reads so_far.reads (RisesBy-once was.reads);
    }

cut_read : (first old new : Device) (n : ℕ) → IsReadFrom first n old → WasCut old new → KeepsDevice first new × IsCutOff first new × RisesBy n first.reads new.reads
cut_read first old new n so_far was = (
  KeepsDevice-then first old new so_far.kept
      (record { size = was.size; lines = was.lines; regs = was.regs; writes = was.writes; latches = was.latches; reads = omega (arith, was.reads) }),
  IsCutOff-after first old new so_far.goes (IsCutOff-cut old new was),
  subst (λ r. RisesBy n first.reads r) (sym was.reads) so_far.reads,
)

module _ {E T : Type 0} (ok : T → ℕ → Type 0) (err cut : E → ℕ → Type 0) (first : Device) where
  at_end : (old new : Device) (n : ℕ) (end last : Result T E) → IsReadFrom first n old → end ≡ last → new ≡ old
      → EndsReading ok err cut first old n last → HasOnlyRead ok err cut first new end
  at_end old new n end last so_far is same it =
      subst (λ (d : Device). HasOnlyRead ok err cut first d end) (sym same)
      (subst (λ (e : Result T E). HasOnlyRead ok err cut first old e) (sym is) (record { count = n; kept = so_far.kept; reads = so_far.reads; ends = it }))

  reading_took : (plan : Plan E T) (old new : Device) (end : Result T E) (n : ℕ) → IsReadFrom first n old
      → Reading first.lines ok err cut plan n → Took plan old new end → HasOnlyRead ok err cut first new end
  unfolding Took Reading
  reading_took (done t) old new end n so_far its it = at_end old new n end (Ok t) so_far it.0 it.1 (so_far.goes, its)
  reading_took (stop left) old new end n so_far its it = at_end old new n end (Err left) so_far it.0 it.1 (inl (so_far.goes, its))
  reading_took (read left at later) old new end n so_far its (inl s) =
      reading_took (later s.line) s.mid new end (n + 1) (more_read first old s.mid n at s.line so_far s.step)
      (its.1 s.line s.whole (subst (λ told. Tells told at s.line) so_far.kept.lines s.step.tells)) s.rest
  reading_took (read left at later) old new end n so_far its (inr s) =
      let c = cut_read first old new n so_far s.0.cut in
      subst (λ (e : Result T E). HasOnlyRead ok err cut first new e) (sym s.0.ends)
      (record { count = n; kept = c.0; reads = c.2; ends = inr (c.1, λ lit. true≢false (sym (so_far.goes.live lit) ∙ s.1), its.0) })
  reading_took (write left at line later) old new end n so_far its it = absurd its
  reading_took (latch left regs later) old new end n so_far its it = absurd its

  pub only_reads : {plan : Plan E T} {new : Device} {end : Result T E} → Reading first.lines ok err cut plan 0 → Follows plan first new end
      → HasOnlyRead ok err cut first new end
  only_reads {plan = plan} {new = new} {end = end} its it =
      reading_took plan first new end 0
      (record { kept = KeepsDevice-none first; goes = IsUncut-none first; reads = record { never_falls = omega arith; exact = λ h. omega arith } })
      its it.took

-- ---- plans put together

module _ (told : Option (List Line)) where
  pub reading_bind : {E T U : Type 0} (ok : U → ℕ → Type 0) (err cut : E → ℕ → Type 0) (plan : Plan E T) (next : T → Plan E U) (n : ℕ)
      → Reading told (λ t n. Reading told ok err cut (next t) n) err cut plan n → Reading told ok err cut (bind plan next) n
  unfolding Reading bind
  reading_bind ok err cut (done t) next n it = it
  reading_bind ok err cut (stop left) next n it = it
  reading_bind ok err cut (read left at later) next n it =
      (it.0, λ line whole tells. reading_bind ok err cut (later line) next (n + 1) (it.1 line whole tells))
  reading_bind ok err cut (write left at line later) next n it = absurd it
  reading_bind ok err cut (latch left regs later) next n it = absurd it

  pub reading_mapped : {E F T U : Type 0} (f : E → F) (h : T → U) (ok : U → ℕ → Type 0) (err cut : F → ℕ → Type 0) (plan : Plan E T) (n : ℕ)
      → Reading told (λ t. ok (h t)) (λ left. err (f left)) (λ left. cut (f left)) plan n → Reading told ok err cut (mapped f h plan) n
  unfolding Reading mapped
  reading_mapped f h ok err cut (done t) n it = it
  reading_mapped f h ok err cut (stop left) n it = it
  reading_mapped f h ok err cut (read left at later) n it =
      (it.0, λ line whole tells. reading_mapped f h ok err cut (later line) (n + 1) (it.1 line whole tells))
  reading_mapped f h ok err cut (write left at line later) n it = absurd it
  reading_mapped f h ok err cut (latch left regs later) n it = absurd it

  pub reading_more : {E T : Type 0} (ok more : T → ℕ → Type 0) (err cut : E → ℕ → Type 0) (plan : Plan E T) (n : ℕ)
      → Reading told ok err cut plan n → ((t : T) (n : ℕ) → ok t n → more t n) → Reading told more err cut plan n
  unfolding Reading
  reading_more ok more err cut (done t) n it up = up t n it
  reading_more ok more err cut (stop left) n it up = it
  reading_more ok more err cut (read left at later) n it up =
      (it.0, λ line whole tells. reading_more ok more err cut (later line) (n + 1) (it.1 line whole tells) up)
  reading_more ok more err cut (write left at line later) n it up = it
  reading_more ok more err cut (latch left regs later) n it up = it

  -- what holds before a turn and leaves itself for the next one
  pub reading_repeated : {E T : Type 0} (holds : ℕ → T → ℕ → Type 0) (err cut : E → ℕ → Type 0) (turn : ℕ → T → Plan E T) (end i k : ℕ) (t : T) (n : ℕ)
      → i + k ≡ end → ((i : ℕ) (t : T) (n : ℕ) → i < end → holds i t n → Reading told (holds (i + 1)) err cut (turn i t) n) → holds i t n
      → Reading told (holds end) err cut (repeated turn i k t) n
  unfolding Reading repeated
  reading_repeated holds err cut turn end i zero t n is each now = subst (λ i. holds i t n) (let all : i ≡ end = omega arith in all) now
  reading_repeated holds err cut turn end i (suc k) t n is each now =
      reading_bind (holds end) err cut (turn i t) (λ t. repeated turn (i + 1) k t) n
      (reading_more (holds (i + 1)) (λ t n. Reading told (holds end) err cut (repeated turn (i + 1) k t) n) err cut (turn i t) n (each i t n (omega arith) now)
      (λ t n later. reading_repeated holds err cut turn end (i + 1) k t n (omega arith) each later))

  -- a turn for each position that passes a test, and none for another one
  module _ {E T : Type 0} (holds : ℕ → T → ℕ → Type 0) (err cut : E → ℕ → Type 0) (turn : ℕ → T → Plan E T) (test : ℕ → Bool) (low end : ℕ)
      (passes : (x : ℕ) (t : T) (n : ℕ) → low ≤ x → x < end → test x ≡ true → holds x t n → Reading told (holds (x + 1)) err cut (turn x t) n)
      (fails : (x : ℕ) (t : T) (n : ℕ) → low ≤ x → x < end → test x ≡ false → holds x t n → holds (x + 1) t n) where
    at_position : (b : Bool) (x : ℕ) (later : List ℕ) (t : T) (n : ℕ) → test x ≡ b → low ≤ x → x < end → holds x t n
        → ((t : T) (n : ℕ) → holds (x + 1) t n → Reading told (holds end) err cut (for_each turn later t) n)
        → Reading told (holds end) err cut (for_each turn (cond b (x ∷ later) later) t) n
    unfolding for_each
    at_position true x later t n is from inside now again =
        reading_bind (holds end) err cut (turn x t) (λ t. for_each turn later t) n
        (reading_more (holds (x + 1)) (λ t n. Reading told (holds end) err cut (for_each turn later t) n) err cut (turn x t) n (passes x t n from inside is now) again)
    at_position false x later t n is from inside now again = again t n (fails x t n from inside is now)

    pub reading_positions : (x k : ℕ) (t : T) (n : ℕ) → low ≤ x → x + k ≡ end → holds x t n
        → Reading told (holds end) err cut (for_each turn (filter test (range_with_len x k)) t) n
    unfolding Reading for_each
    reading_positions x zero t n from all now = subst (λ x. holds x t n) (let same : x ≡ end = omega arith in same) now
    reading_positions x (suc k) t n from all now =
        at_position (test x) x (filter test (range_with_len (x + 1) k)) t n refl from (omega arith) now
        (λ t n later. reading_positions (x + 1) k t n (omega arith) (omega arith) later)
