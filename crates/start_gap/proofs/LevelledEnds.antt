-- How the engine stands after a write with its move.
use Rattle.std.proofs.Common.{ℕ, ◌+◌, List, [], ◌∷◌, Result, Ok, Err, sym, subst}
use Rattle.start_gap.proofs.Common.{nat_lt, Line, Ctr, Setup, Fault, Parts, AreTrusted, AreSound, LeavesTrusted, LeavesSound, whole_write, HasWrittenLine, Edit, done_as, AreEdited, AfterEdits, LeftTrusted, LeftSound, one_put, trusted_after_edits, sound_after_edits, Gapped, Moved, WriteFault, place_of, move_edits, HasWriteGoneOn, HasLevelledWrite, HasCounted, HasTriedMove, write_answer_by, write_outcome_by, IsSoundWriteAnswer}
use Rattle.pmem_engine.specs.declared.fault.Fault.TheVariants as Fail
use Rattle.engine_lines.specs.declared.edits.Edit.TheVariants as Make
use Rattle.start_gap.specs.declared.gapped.Moved.TheVariants as Move
use Rattle.start_gap.proofs.LevelledWrites.{due_cases}

-- what holds after a write: P, or what E says of the fault
abbrev pub AfterWrite : (Parts → Type 0) → (Fault → Parts → Type 0) → Result Moved WriteFault → Parts → Type 0
AfterWrite P E (Ok Move.Not) to = P to
AfterWrite P E (Ok Move.Made) to = P to
AfterWrite P E (Ok (Move.Held page)) to = E (Fail.Spent page) to
AfterWrite P E (Err fault) to = E fault.fault to

-- if changes leave that, so does a write
module _ (setup : Setup) (P : Parts → Type 0) (E : Fault → Parts → Type 0)
    (by_edits : (edits : List Edit) (old new : Parts) (answer : Result (Unit {0}) Fault) → AreEdited setup edits old new answer → P old
    → AfterEdits P E answer new) where
  -- a move's answer is the write's
  tried_ends : (tried : Result (Unit {0}) Fault) (to : Parts) → AfterEdits P E tried to → AfterWrite P E (write_answer_by tried) to
  tried_ends (Ok done) to it = it
  tried_ends (Err (Fail.Spent page)) to it = it
  tried_ends (Err fault) to it = it

  pub write_ends : (a : ℕ) (plain : Line) (old new : Gapped) (from to : Parts) (answer : Result Moved WriteFault) → P from
      → HasLevelledWrite setup a plain old new from to answer → AfterWrite P E answer to
  write_ends a plain old new from to answer had it = go it.made it.was_written it.then
    where
      put : (made : Result Ctr Fault) → HasWrittenLine setup (whole_write (place_of old.lines old.wear a) plain) from it.between made
          → AfterEdits P E (done_as made) it.between
      put made done =
          by_edits (Make.Put (place_of old.lines old.wear a) plain ∷ []) from it.between (done_as made)
          (one_put setup (place_of old.lines old.wear a) plain from it.between made done) had

      go : (made : Result Ctr Fault)
          → HasWrittenLine setup (whole_write (place_of old.lines old.wear a) plain) from it.between made
          → HasWriteGoneOn made setup old new it.between to answer → AfterWrite P E answer to
      go (Ok ctr) done then =
          due_cases (nat_lt (old.count + 1) old.every) _ _ then
          (λ (counted : HasCounted old new it.between to answer).
          subst (λ r. AfterWrite P E r to) (sym counted.its_answer) (subst P (sym counted.nothing_else) (put (Ok ctr) done)))
          (λ (tried : HasTriedMove setup old new it.between to answer).
          subst (λ r. AfterWrite P E r to) (sym tried.its_answer)
          (tried_ends tried.tried to
          (by_edits (move_edits old.lines old.wear) it.between to tried.tried tried.was_tried (put (Ok ctr) done))))
      go (Err fault) done then =
          subst (λ r. AfterWrite P E r to) (sym then.its_answer) (subst (E fault) (sym then.nothing_else) (put (Err fault) done))

-- ---- what is trusted and sound afterwards

pub trusted_after : (setup : Setup) (a : ℕ) (plain : Line) (old new : Gapped) (from to : Parts) (answer : Result Moved WriteFault)
    → HasLevelledWrite setup a plain old new from to answer → AreTrusted setup from → LeavesTrusted setup (write_outcome_by answer) to
trusted_after setup a plain old new from to answer it trusted =
    go answer (write_ends setup (AreTrusted setup) (LeftTrusted setup) (trusted_after_edits setup) a plain old new from to answer trusted it)
  where
    go : (answer : Result Moved WriteFault) → AfterWrite (AreTrusted setup) (LeftTrusted setup) answer to → LeavesTrusted setup (write_outcome_by answer) to
    go (Ok Move.Not) is = is
    go (Ok Move.Made) is = is
    go (Ok (Move.Held page)) is = is
    go (Err fault) is = is

pub sound_after : (setup : Setup) (a : ℕ) (plain : Line) (old new : Gapped) (from to : Parts) (answer : Result Moved WriteFault)
    → HasLevelledWrite setup a plain old new from to answer → AreSound setup from
    → LeavesSound setup (write_outcome_by answer) to × IsSoundWriteAnswer answer
sound_after setup a plain old new from to answer it sound =
    go answer (write_ends setup (AreSound setup) (LeftSound setup) (sound_after_edits setup) a plain old new from to answer sound it)
  where
    go : (answer : Result Moved WriteFault) → AfterWrite (AreSound setup) (LeftSound setup) answer to
        → LeavesSound setup (write_outcome_by answer) to × IsSoundWriteAnswer answer
    go (Ok Move.Not) is = (is, tt)
    go (Ok Move.Made) is = (is, tt)
    go (Ok (Move.Held page)) is = (is.0, tt)
    go (Err fault) is = is
