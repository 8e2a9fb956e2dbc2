-- What changes of data lines leave, call by call.
use Rattle.std.proofs.Common.{ℕ, zero, suc, ◌≡◌, ◌<◌, ◌≤◌, ◌+◌, ◌^◌, ◌⊎◌, inl, List, [], ◌∷◌, ◌++◌, length, get_or, take, Result, Ok, Err, refl, sym, subst, arith}
use Rattle.std.specs.Prelude.{All, slice_set, ⊤}
use Rattle.std.proofs.lemmas.List.{take_more}
use Rattle.std.proofs.lemmas.List.Elements.{All-head, All-tail}
use Rattle.pmem_base.specs.declared.lines.Line.{Line}
use Rattle.pmem_base.specs.declared.lines.Ctr.{Ctr}
use Rattle.pmem_base.specs.declared.commands.Posted.{Posted}
use Rattle.pmem_base.specs.Layout.{data_lines}
use Rattle.pmem_base.specs.Lines.{IsLine, line_at}
use Rattle.pmem_base.proofs.LineLemmas.{IsLine-line_at}
use Rattle.pmem_base.specs.Shape.{Shape}
use Rattle.suite.specs.Formulas.{Formulas}
use Rattle.suite.specs.Setup.{Setup}
use Rattle.pmem_engine.specs.declared.fault.Fault.{Fault}
use Rattle.pmem_engine.specs.declared.fault.Fault.TheVariants as Fail
use Rattle.pmem_engine.specs.Parts.{Parts, AreTrusted, AreSound}
use Rattle.pmem_engine.specs.Outcomes.{outcome_of_fault, LeavesTrusted, LeavesSound}
use Rattle.pmem_engine.specs.Calls.{whole_write, HasReadLine, HasWrittenLine}
use Rattle.engine_lines.proofs.EngineLines.{setup_under, unrefused_fault, trusted_after_write, sound_after_write, trusted_after_read, sound_after_read, either_lines, written_lines, spent_lines, lines_after_read, line_read}
use Rattle.engine_lines.specs.Lines.{HasLines, IsCutOrSpent, done_as}
use Rattle.engine_lines.specs.declared.edits.Edit.{Edit}
use Rattle.engine_lines.specs.declared.edits.Edit.TheVariants as Make
use Rattle.engine_lines.specs.Edits.{HasLinePut, HasPutRead, HasEdited, GoesOn, AreEdited, IsEditOf, edited, all_edited}

-- ---- one change after others

abbrev IsDone : Result (Unit {0}) Fault → Type 0
IsDone (Ok done) = ⊤
IsDone (Err fault) = ⊥

done_not_fault : (fault : Fault) → (let done : Result (Unit {0}) Fault = Ok tt in done ≡ Err fault) → ⊥
done_not_fault fault e = subst IsDone e tt

-- what changes that were made, and then one more, come to
pub edits_append : (setup : Setup) (edits : List Edit) (more : List Edit) (old between new : Parts) (answer : Result (Unit {0}) Fault)
    → AreEdited setup edits old between (Ok tt) → AreEdited setup more between new answer
    → AreEdited setup (edits ++ more) old new answer
edits_append setup [] more old between new answer done then = subst (λ from. AreEdited setup more from new answer) done.1 then
edits_append setup (edit ∷ edits) more old between new answer done then =
    (done.0, done.1, done.2, go done.1 (λ rest. edits_append setup edits more done.0 between new answer rest then) done.3)
  where
    go : (first : Result (Unit {0}) Fault)
        → (AreEdited setup edits done.0 between (Ok tt) → AreEdited setup (edits ++ more) done.0 new answer)
        → GoesOn first (AreEdited setup edits done.0 between (Ok tt)) done.0 between (Ok tt)
        → GoesOn first (AreEdited setup (edits ++ more) done.0 new answer) done.0 new answer
    go (Ok it) next rest = next rest
    go (Err fault) next rest = absurd (done_not_fault fault rest.0)

pub edits_more : (setup : Setup) (edits : List Edit) (i : ℕ) (d : Edit) (old between new : Parts) → i < length edits
    → AreEdited setup (take i edits) old between (Ok tt) → HasEdited setup (get_or edits i d) between new (Ok tt)
    → AreEdited setup (take (i + 1) edits) old new (Ok tt)
edits_more setup edits i d old between new inside done it =
    subst (λ es. AreEdited setup es old new (Ok tt)) (sym (take_more edits i d inside))
    (edits_append setup (take i edits) (get_or edits i d ∷ []) old between new (Ok tt) done (new, Ok tt, it, (refl, refl)))

pub edits_stop : (setup : Setup) (edits : List Edit) (i : ℕ) (d : Edit) (old between new : Parts) (fault : Fault) → i < length edits
    → AreEdited setup (take i edits) old between (Ok tt) → HasEdited setup (get_or edits i d) between new (Err fault)
    → AreEdited setup edits old new (Err fault)
edits_stop setup [] i d old between new fault inside done it = absurd (omega (arith, inside))
edits_stop setup (edit ∷ edits) zero d old between new fault inside done it =
    (new, Err fault, subst (λ from. HasEdited setup edit from new (Err fault)) done.1 it, (refl, refl))
edits_stop setup (edit ∷ edits) (suc i) d old between new fault inside done it = (
  done.0,
  done.1,
  done.2,
  go done.1 (λ rest. edits_stop setup edits i d done.0 between new fault (omega (arith, inside)) rest it) done.3,
)
  where
    go : (first : Result (Unit {0}) Fault)
        → (AreEdited setup (take i edits) done.0 between (Ok tt) → AreEdited setup edits done.0 new (Err fault))
        → GoesOn first (AreEdited setup (take i edits) done.0 between (Ok tt)) done.0 between (Ok tt)
        → GoesOn first (AreEdited setup edits done.0 new (Err fault)) done.0 new (Err fault)
    go (Ok made) next rest = next rest
    go (Err other) next rest = absurd (done_not_fault other rest.0)

-- a write is one change
pub one_put : (setup : Setup) (at : ℕ) (line : Line) (old new : Parts) (made : Result Ctr Fault)
    → HasWrittenLine setup (whole_write at line) old new made → AreEdited setup (Make.Put at line ∷ []) old new (done_as made)
one_put setup at line old new made written = (new, done_as made, record { made = made; was_written = written; its_answer = refl }, rest made)
  where
    rest : (made : Result Ctr Fault) → GoesOn (done_as made) (AreEdited setup [] new new (done_as made)) new new (done_as made)
    rest (Ok ctr) = (refl, refl)
    rest (Err fault) = (refl, refl)

-- ---- a later call is of the same geometry and keys

module _ (formulas_of : List ℕ → Formulas) (g g' : Shape) (keys keys' : List ℕ) (same : g' ≡ g) (same_keys : keys' ≡ keys) where
  pub edit_under : (edit : Edit) (old new : Parts) (answer : Result (Unit {0}) Fault)
      → HasEdited (setup_under formulas_of g' keys') edit old new answer
      → HasEdited (setup_under formulas_of g keys) edit old new answer
  edit_under edit old new answer it =
      subst (λ k. HasEdited (setup_under formulas_of g k) edit old new answer) same_keys
      (subst (λ s. HasEdited (setup_under formulas_of s keys') edit old new answer) same it)

  pub edits_under : (edits : List Edit) (old new : Parts) (answer : Result (Unit {0}) Fault)
      → AreEdited (setup_under formulas_of g' keys') edits old new answer
      → AreEdited (setup_under formulas_of g keys) edits old new answer
  edits_under edits old new answer it =
      subst (λ k. AreEdited (setup_under formulas_of g k) edits old new answer) same_keys
      (subst (λ s. AreEdited (setup_under formulas_of s keys') edits old new answer) same it)

-- ---- what each call of the engine leaves, so do changes

-- what holds after changes: P, or what E says of the fault
abbrev pub AfterEdits : (Parts → Type 0) → (Fault → Parts → Type 0) → Result (Unit {0}) Fault → Parts → Type 0
AfterEdits P E (Ok done) to = P to
AfterEdits P E (Err fault) to = E fault to

module _ (setup : Setup) (P : Parts → Type 0) (E : Fault → Parts → Type 0)
    (by_read : (at : ℕ) (old new : Parts) (line : Line) → HasReadLine setup at old new (Ok line) → P old → P new)
    (no_read : (at : ℕ) (old new : Parts) (fault : Fault) → HasReadLine setup at old new (Err fault) → P old → E fault new)
    (by_write : (write : Posted) (old new : Parts) (ctr : Ctr) → HasWrittenLine setup write old new (Ok ctr) → P old → P new)
    (no_write : (write : Posted) (old new : Parts) (fault : Fault) → HasWrittenLine setup write old new (Err fault) → P old → E fault new) where
  put_ends : (at : ℕ) (line : Line) (old new : Parts) (answer : Result (Unit {0}) Fault) → P old → HasLinePut setup at line old new answer
      → AfterEdits P E answer new
  put_ends at line old new answer had it =
      subst (λ r. AfterEdits P E r new) (sym it.its_answer) (go it.made it.was_written)
    where
      go : (made : Result Ctr Fault) → HasWrittenLine setup (whole_write at line) old new made → AfterEdits P E (done_as made) new
      go (Ok ctr) done = by_write (whole_write at line) old new ctr done had
      go (Err fault) done = no_write (whole_write at line) old new fault done had

  pub edit_ends : (edit : Edit) (old new : Parts) (answer : Result (Unit {0}) Fault) → P old → HasEdited setup edit old new answer
      → AfterEdits P E answer new
  edit_ends (Make.Put at line) old new answer had it = put_ends at line old new answer had it
  edit_ends (Make.Copy from at) old new answer had it = go it.read it.was_read it.then
    where
      go : (read : Result Line Fault) → HasReadLine setup from old it.between read → HasPutRead read setup at it.between new answer
          → AfterEdits P E answer new
      go (Ok line) done then = put_ends at line it.between new answer (by_read from old it.between line done had) then
      go (Err fault) done then =
          subst (λ r. AfterEdits P E r new) (sym then.0)
          (subst (E fault) (sym then.1) (no_read from old it.between fault done had))

  pub edits_ends : (edits : List Edit) (old new : Parts) (answer : Result (Unit {0}) Fault) → P old → AreEdited setup edits old new answer
      → AfterEdits P E answer new
  edits_ends [] old new answer had it = subst (λ r. AfterEdits P E r new) (sym it.0) (subst P (sym it.1) had)
  edits_ends (edit ∷ edits) old new answer had it =
      go it.1 (λ kept then. edits_ends edits it.0 new answer kept then) it.2 it.3
    where
      go : (first : Result (Unit {0}) Fault) → (P it.0 → AreEdited setup edits it.0 new answer → AfterEdits P E answer new)
          → HasEdited setup edit old it.0 first
          → GoesOn first (AreEdited setup edits it.0 new answer) it.0 new answer → AfterEdits P E answer new
      go (Ok done) next made then = next (edit_ends edit old it.0 (Ok done) had made) then
      go (Err fault) next made then =
          subst (λ r. AfterEdits P E r new) (sym then.0)
          (subst (E fault) (sym then.1) (edit_ends edit old it.0 (Err fault) had made))

-- ---- trusted and sound

abbrev pub LeftTrusted : Setup → Fault → Parts → Type 0
LeftTrusted setup fault parts = LeavesTrusted setup (outcome_of_fault fault) parts

abbrev pub LeftSound : Setup → Fault → Parts → Type 0
LeftSound setup fault parts = LeavesSound setup (outcome_of_fault fault) parts × IsCutOrSpent fault

pub trusted_after_edits : (setup : Setup) (edits : List Edit) (old new : Parts) (answer : Result (Unit {0}) Fault)
    → AreEdited setup edits old new answer → AreTrusted setup old → AfterEdits (AreTrusted setup) (LeftTrusted setup) answer new
trusted_after_edits setup edits old new answer it trusted =
    edits_ends setup (AreTrusted setup) (LeftTrusted setup)
    (λ at here there line read. trusted_after_read setup at here there (Ok line) read)
    (λ at here there fault read. trusted_after_read setup at here there (Err fault) read)
    (λ write here there ctr done. trusted_after_write setup write here there (Ok ctr) done)
    (λ write here there fault done. trusted_after_write setup write here there (Err fault) done)
    edits old new answer trusted it

pub trusted_after_edit : (setup : Setup) (edit : Edit) (old new : Parts) (answer : Result (Unit {0}) Fault)
    → HasEdited setup edit old new answer → AreTrusted setup old → AfterEdits (AreTrusted setup) (LeftTrusted setup) answer new
trusted_after_edit setup edit old new answer it trusted =
    edit_ends setup (AreTrusted setup) (LeftTrusted setup)
    (λ at here there line read. trusted_after_read setup at here there (Ok line) read)
    (λ at here there fault read. trusted_after_read setup at here there (Err fault) read)
    (λ write here there ctr done. trusted_after_write setup write here there (Ok ctr) done)
    (λ write here there fault done. trusted_after_write setup write here there (Err fault) done)
    edit old new answer trusted it

pub sound_after_edits : (setup : Setup) (edits : List Edit) (old new : Parts) (answer : Result (Unit {0}) Fault)
    → AreEdited setup edits old new answer → AreSound setup old → AfterEdits (AreSound setup) (LeftSound setup) answer new
sound_after_edits setup edits old new answer it sound =
    edits_ends setup (AreSound setup) (LeftSound setup)
    (λ at here there line read had. (sound_after_read setup at here there (Ok line) read had).0)
    (λ at here there fault read had.
    let after = sound_after_read setup at here there (Err fault) read had in (after.0, unrefused_fault Line fault after.1))
    (λ write here there ctr done had. (sound_after_write setup write here there (Ok ctr) done had).0)
    (λ write here there fault done had.
    let after = sound_after_write setup write here there (Err fault) done had in (after.0, unrefused_fault Ctr fault after.1))
    edits old new answer sound it

-- ---- the lines

-- a change is made; or it isn't; or, if no line is spent, it is or not
abbrev pub LeavesLines : Setup → Result (Unit {0}) Fault → List Line → List Line → Parts → Type 0
LeavesLines setup (Ok done) before after new = HasLines setup after new
LeavesLines setup (Err (Fail.Spent page)) before after new = HasLines setup before new
LeavesLines setup (Err fault) before after new = HasLines setup before new ⊎ HasLines setup after new

same_lines : (setup : Setup) (fault : Fault) (before after : List Line) (new : Parts) → HasLines setup before new
    → LeavesLines setup (Err fault) before after new
same_lines setup (Fail.Spent page) before after new holds = holds
same_lines setup fault before after new holds = inl holds

module _ (setup : Setup) (few : data_lines setup.shape ≤ 2 ^ 32) where
  pub put_leaves : (at : ℕ) (line : Line) (lines : List Line) (old new : Parts) (answer : Result (Unit {0}) Fault)
      → at < data_lines setup.shape → IsLine line → HasLines setup lines old → AreTrusted setup old
      → HasLinePut setup at line old new answer → LeavesLines setup answer lines (slice_set lines at line) new
  put_leaves at line lines old new answer inside whole had trusted it =
      subst (λ r. LeavesLines setup r lines (slice_set lines at line) new) (sym it.its_answer) (go it.made it.was_written)
    where
      low : at < 2 ^ 32
      low = omega (arith, inside, few)

      go : (made : Result Ctr Fault) → HasWrittenLine setup (whole_write at line) old new made
          → LeavesLines setup (done_as made) lines (slice_set lines at line) new
      go (Ok ctr) done = written_lines setup at line old new ctr lines low inside whole had trusted done
      go (Err (Fail.Spent page)) done = spent_lines setup at line old new page lines low inside whole had trusted done
      go (Err fault) done = either_lines setup at line old new (Err fault) done lines low inside whole had trusted

  edit_leaves : (edit : Edit) (lines : List Line) (old new : Parts) (answer : Result (Unit {0}) Fault)
      → IsEditOf (data_lines setup.shape) edit → HasLines setup lines old → AreTrusted setup old
      → HasEdited setup edit old new answer → LeavesLines setup answer lines (edited edit lines) new
  edit_leaves (Make.Put at line) lines old new answer fits had trusted it =
      put_leaves at line lines old new answer fits.0 fits.1 had trusted it
  edit_leaves (Make.Copy from at) lines old new answer fits had trusted it = go it.read it.was_read it.then
    where
      go : (read : Result Line Fault) → HasReadLine setup from old it.between read → HasPutRead read setup at it.between new answer
          → LeavesLines setup answer lines (slice_set lines at (line_at lines from)) new
      go (Ok line) done then =
          let same : line ≡ line_at lines from = line_read setup from old it.between line lines fits.0 had trusted done in
          subst (λ l. LeavesLines setup answer lines (slice_set lines at l) new) same
          (put_leaves at line lines it.between new answer fits.1
          (subst IsLine (sym same) (IsLine-line_at lines from had.whole.each))
          (lines_after_read setup from old it.between (Ok line) done lines had trusted)
          (trusted_after_read setup from old it.between (Ok line) done trusted) then)
      go (Err fault) done then =
          subst (λ r. LeavesLines setup r lines (slice_set lines at (line_at lines from)) new) (sym then.0)
          (same_lines setup fault lines (slice_set lines at (line_at lines from)) new
          (subst (HasLines setup lines) (sym then.1) (lines_after_read setup from old it.between (Err fault) done lines had trusted)))

  -- all are made; or the first k, and the next one as its fault says
  pub record StopsAt (edits : List Edit) (lines : List Line) (new : Parts) (fault : Fault) : Type 0 where
    pub k : ℕ
    pub inside : k < length edits
    pub left : LeavesLines setup (Err fault) (all_edited (take k edits) lines) (all_edited (take (suc k) edits) lines) new

  abbrev pub LeavesAll : Result (Unit {0}) Fault → List Edit → List Line → Parts → Type 0
  LeavesAll (Ok done) edits lines new = HasLines setup (all_edited edits lines) new
  LeavesAll (Err fault) edits lines new = StopsAt edits lines new fault

  pub edits_leave : (edits : List Edit) (lines : List Line) (old new : Parts) (answer : Result (Unit {0}) Fault)
      → All (IsEditOf (data_lines setup.shape)) edits → HasLines setup lines old → AreTrusted setup old
      → AreEdited setup edits old new answer → LeavesAll answer edits lines new
  edits_leave [] lines old new answer fits had trusted it =
      subst (λ r. LeavesAll r [] lines new) (sym it.0) (subst (HasLines setup lines) (sym it.1) had)
  edits_leave (edit ∷ edits) lines old new answer fits had trusted it =
      go it.1 (λ there kept then. edits_leave edits (edited edit lines) it.0 new answer others there kept then) it.2 it.3
    where
      fit : IsEditOf (data_lines setup.shape) edit
      fit = All-head (IsEditOf (data_lines setup.shape)) edit edits fits

      others : All (IsEditOf (data_lines setup.shape)) edits
      others = All-tail (IsEditOf (data_lines setup.shape)) edit edits fits

      later : (answer : Result (Unit {0}) Fault) → LeavesAll answer edits (edited edit lines) new → LeavesAll answer (edit ∷ edits) lines new
      later (Ok done) holds = holds
      later (Err fault) stops =
          let inside = stops.inside in
          record { k = suc stops.k; inside = omega (arith, inside); left = stops.left }

      go : (first : Result (Unit {0}) Fault)
          → (HasLines setup (edited edit lines) it.0 → AreTrusted setup it.0 → AreEdited setup edits it.0 new answer
          → LeavesAll answer edits (edited edit lines) new)
          → HasEdited setup edit old it.0 first
          → GoesOn first (AreEdited setup edits it.0 new answer) it.0 new answer → LeavesAll answer (edit ∷ edits) lines new
      go (Ok done) next made then =
          later answer
          (next (edit_leaves edit lines old it.0 (Ok done) fit had trusted made)
          (trusted_after_edit setup edit old it.0 (Ok done) made trusted) then)
      go (Err fault) next made then =
          subst (λ r. LeavesAll r (edit ∷ edits) lines new) (sym then.0)
          (let stop : StopsAt (edit ∷ edits) lines new fault =
          record {
            k = zero;
            inside = omega arith;
            left =
                subst (LeavesLines setup (Err fault) lines (edited edit lines)) (sym then.1)
                (edit_leaves edit lines old it.0 (Err fault) fit had trusted made);
          } in stop)
