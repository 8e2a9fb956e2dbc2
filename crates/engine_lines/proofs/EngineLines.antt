-- What one call of an engine makes of the lines, each as it was last sealed, and leaves for the next call.
use Rattle.std.proofs.Common.{rules, ℕ, ◌≡◌, ◌<◌, ◌≤◌, ◌+◌, ◌^◌, ◌⊎◌, inl, inr, true, false, cond, List, [], length, Result, Ok, Err, refl, sym, ap, subst, ◌∙◌, arith}
use Rattle.std.specs.Prelude.{All, slice_set}
use Rattle.std.proofs.lemmas.Bool.{cases_Bool}
use Rattle.std.proofs.lemmas.List.{length-set, length-append, append-nil}
use Rattle.std.proofs.lemmas.Option.{same_Some}
use Rattle.std.proofs.Math.Nat.{one-le-pow}
use Rattle.pmem_base.specs.declared.lines.Line.{Line}
use Rattle.pmem_base.specs.declared.lines.Ctr.{Ctr}
use Rattle.pmem_base.specs.declared.commands.Posted.{Posted}
use Rattle.pmem_base.specs.Shape.{Shape}
use Rattle.pmem_base.specs.Layout.{data_lines}
use Rattle.pmem_base.specs.Lines.{IsLine, line_at}
use Rattle.pmem_base.proofs.LineLemmas.{IsLine-line_at, All-lines_set}
use Rattle.board.specs.Device.{Device}
use Rattle.suite.specs.Formulas.{Formulas}
use Rattle.suite.specs.Setup.{Setup}
use Rattle.seal_ledger.specs.Ledger.{LedgerState}
use Rattle.plain_model.specs.State.{memory_with}
use Rattle.plain_model.specs.View.{plain_line}
use Rattle.pmem_engine.specs.declared.fault.Fault.{Fault}
use Rattle.pmem_engine.specs.declared.fault.Fault.TheVariants as Fail
use Rattle.pmem_engine.specs.Engine.{EngineState}
use Rattle.pmem_engine.specs.Parts.{Parts, AreTrusted, AreSound}
use Rattle.pmem_engine.specs.Outcomes.{outcome_of, is_sealed_by, LeavesTrusted, LeavesSound}
use Rattle.pmem_engine.specs.Calls.{IsMemory, IsUnrefused, IsUsable, whole_write, HasReadLine, HasWrittenLine}
use Rattle.pmem_engine.proofs.PostedWrites.PlainMakings.{put_whole}
use Rattle.pmem_engine.proofs.PostedWrites.WriteEnds.{whole_posted}
use Rattle.engine_lines.specs.Lines.{HasLines, IsCutOrSpent}

-- ---- the same geometry and keys

abbrev pub setup_under : (List ℕ → Formulas) → Shape → List ℕ → Setup
setup_under formulas_of shape keys = record { shape = shape; formulas = formulas_of keys }

pub usable_as : (g g' : Shape) (engine : EngineState) (device : Device) (ledger : LedgerState) → g' ≡ g
    → IsUsable g engine device ledger → IsUsable g' engine device ledger
usable_as g g' engine device ledger e = subst (λ shape. IsUsable shape engine device ledger) (sym e)

-- a memory has at least 64 data lines
pub least_lines : (g : Shape) → 64 ≤ data_lines g
least_lines g = let some = one-le-pow g.levels 4 (omega arith) in omega (arith, some)

-- ---- a call that was answered

pub unrefused_fault : (T : Type 0) (fault : Fault) → IsUnrefused {T = T} (Err fault) → IsCutOrSpent fault
unrefused_fault T Fail.Cut is = tt
unrefused_fault T (Fail.Spent page) is = tt
unrefused_fault T fault is = absurd is

-- ---- a write

-- a whole line is put
pub put_whole_line : (lines : List Line) (at : ℕ) (line : Line) → All IsLine lines → at < 2 ^ 32 → IsLine line
    → memory_with lines (whole_write at line) ≡ slice_set lines at line
put_whole_line lines at line each low whole =
    let is = IsLine-line_at lines at each in
    ap (slice_set lines at)
    (sym (put_whole (line_at lines at) (whole_write at line) (let long = is.long in omega (arith, long)) (whole_posted at line low whole) refl))

module _ (setup : Setup) (write : Posted) (old new : Parts) (answer : Result Ctr Fault)
    (it : HasWrittenLine setup write old new answer) where
  pub trusted_after_write : AreTrusted setup old → LeavesTrusted setup (outcome_of answer) new
  trusted_after_write trusted = it.done.gone.trusted trusted

  pub sound_after_write : AreSound setup old → LeavesSound setup (outcome_of answer) new × IsUnrefused answer
  sound_after_write sound =
      (it.done.gone.sound sound, it.unrefused sound)

module _ (setup : Setup) (at : ℕ) (plain : Line) (old new : Parts) (answer : Result Ctr Fault)
    (it : HasWrittenLine setup (whole_write at plain) old new answer) (lines : List Line)
    (low : at < 2 ^ 32) (inside : at < data_lines setup.shape) (whole : IsLine plain)
    (had : HasLines setup lines old) (trusted : AreTrusted setup old) where
  put_line : memory_with lines (whole_write at plain) ≡ slice_set lines at plain
  put_line = put_whole_line lines at plain had.whole.each low whole

  its_memory : IsMemory setup (cond (is_sealed_by it.made at) (memory_with lines (whole_write at plain)) lines) new
  its_memory = it.memory trusted lines (omega (arith, inside, had.whole.count)) had.sealed

  pub sealed_lines : is_sealed_by it.made at ≡ true → HasLines setup (slice_set lines at plain) new
  sealed_lines sealed =
      record {
        whole =
            record {
              count = length-set lines at plain ∙ had.whole.count;
              each = All-lines_set lines at plain whole had.whole.each;
            };
        sealed =
            subst (λ now. IsMemory setup now new) put_line
            (subst (λ b. IsMemory setup (cond b (memory_with lines (whole_write at plain)) lines) new) sealed its_memory);
      }

  pub unsealed_lines : is_sealed_by it.made at ≡ false → HasLines setup lines new
  unsealed_lines unsealed =
      record {
        whole = had.whole;
        sealed = subst (λ b. IsMemory setup (cond b (memory_with lines (whole_write at plain)) lines) new) unsealed its_memory;
      }

  -- the line is there whole, or as it was
  pub either_lines : HasLines setup lines new ⊎ HasLines setup (slice_set lines at plain) new
  either_lines =
      elim (cases_Bool (is_sealed_by it.made at)) [
        | inl sealed ↦ inr (sealed_lines sealed)
        | inr unsealed ↦ inl (unsealed_lines unsealed)
      ]

pub written_lines : (setup : Setup) (at : ℕ) (plain : Line) (old new : Parts) (ctr : Ctr) (lines : List Line)
    → at < 2 ^ 32 → at < data_lines setup.shape → IsLine plain → HasLines setup lines old → AreTrusted setup old
    → HasWrittenLine setup (whole_write at plain) old new (Ok ctr) → HasLines setup (slice_set lines at plain) new
written_lines setup at plain old new ctr lines low inside whole had trusted it =
    sealed_lines setup at plain old new (Ok ctr) it lines low inside whole had trusted (it.own_sealed (search rules))

pub spent_lines : (setup : Setup) (at : ℕ) (plain : Line) (old new : Parts) (page : ℕ) (lines : List Line)
    → at < 2 ^ 32 → at < data_lines setup.shape → IsLine plain → HasLines setup lines old → AreTrusted setup old
    → HasWrittenLine setup (whole_write at plain) old new (Err (Fail.Spent page)) → HasLines setup lines new
spent_lines setup at plain old new page lines low inside whole had trusted it =
    let none = it.marks trusted lines had.sealed in
    unsealed_lines setup at plain old new (Err (Fail.Spent page)) it lines low inside whole had trusted
    (ap (λ made. is_sealed_by made at) none.1)

-- ---- marks

-- a write makes at most 66 marks
pub few_marks : (setup : Setup) (write : Posted) (old new : Parts) (ctr : Ctr) → HasWrittenLine setup write old new (Ok ctr)
    → length new.ledger.marks ≤ length old.ledger.marks + 66
few_marks setup write old new ctr it =
    let marks = it.done.gone.marks in
    omega (arith, ap length marks, length-append old.ledger.marks it.made, it.few_marks)

-- a read makes none
pub no_marks : (setup : Setup) (at : ℕ) (old new : Parts) (line : Line) → HasReadLine setup at old new (Ok line)
    → length new.ledger.marks ≡ length old.ledger.marks
no_marks setup at old new line it =
    let marks = it.done.gone.marks in
    omega (arith, ap length marks, length-append old.ledger.marks [])

-- ---- a read

module _ (setup : Setup) (at : ℕ) (old new : Parts) (answer : Result Line Fault) (it : HasReadLine setup at old new answer) where
  pub trusted_after_read : AreTrusted setup old → LeavesTrusted setup (outcome_of answer) new
  trusted_after_read trusted = it.done.gone.trusted trusted

  pub sound_after_read : AreSound setup old → LeavesSound setup (outcome_of answer) new × IsUnrefused answer
  sound_after_read sound =
      (it.done.gone.sound sound, it.unrefused sound)

  -- no line changes
  pub lines_after_read : (lines : List Line) → HasLines setup lines old → AreTrusted setup old → HasLines setup lines new
  lines_after_read lines had trusted =
      let same : new.ledger.marks ≡ old.ledger.marks = it.done.gone.marks ∙ append-nil old.ledger.marks in
      record {
        whole = had.whole;
        sealed = λ a inside. ap (λ marks. plain_line setup.formulas marks a) same ∙ had.sealed a inside;
      }

-- the line that is read is the one at the place
pub line_read : (setup : Setup) (at : ℕ) (old new : Parts) (line : Line) (lines : List Line) → at < data_lines setup.shape
    → HasLines setup lines old → AreTrusted setup old → HasReadLine setup at old new (Ok line) → line ≡ line_at lines at
line_read setup at old new line lines inside had trusted it =
    let answered = it.answered trusted in
    same_Some _ _ (sym answered.0 ∙ had.sealed at inside)
