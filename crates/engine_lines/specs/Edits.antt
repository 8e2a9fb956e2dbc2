-- Changes of data lines, made by an engine one after the other: which calls of the engine they are, in order, and what
-- they make of the lines.
use Rattle.std.specs.Prelude.{ℕ, ◌≡◌, ◌<◌, List, [], ◌∷◌, Result, Ok, Err, slice_set}
use Rattle.pmem_base.specs.declared.lines.Line.{Line}
use Rattle.pmem_base.specs.declared.lines.Ctr.{Ctr}
use Rattle.pmem_base.specs.Lines.{IsLine, line_at}
use Rattle.suite.specs.Setup.{Setup}
use Rattle.pmem_engine.specs.declared.fault.Fault.{Fault}
use Rattle.pmem_engine.specs.Parts.{Parts}
use Rattle.pmem_engine.specs.Calls.{whole_write, HasReadLine, HasWrittenLine}
use Rattle.engine_lines.specs.declared.edits.Edit.{Edit}
use Rattle.engine_lines.specs.declared.edits.Edit.TheVariants as Make
use Rattle.engine_lines.specs.Lines.{done_as}

-- ---- the calls

-- a line is written
pub record HasLinePut (setup : Setup) (at : ℕ) (line : Line) (old new : Parts) (answer : Result (Unit {0}) Fault) :
    Type 0 where
  pub made : Result Ctr Fault
  pub was_written : HasWrittenLine setup (whole_write at line) old new made
  pub its_answer : answer ≡ done_as made

-- what follows the reading of a line
abbrev pub HasPutRead : Result Line Fault → Setup → ℕ → Parts → Parts → Result (Unit {0}) Fault → Type 0
HasPutRead (Ok line) setup at old new answer = HasLinePut setup at line old new answer
HasPutRead (Err fault) setup at old new answer = (answer ≡ Err fault) × (new ≡ old)

-- a line is read, and then written to another place
pub record HasLineCopied (setup : Setup) (from at : ℕ) (old new : Parts) (answer : Result (Unit {0}) Fault) : Type 0 where
  pub read : Result Line Fault
  pub between : Parts
  pub was_read : HasReadLine setup from old between read
  pub then : HasPutRead read setup at between new answer

abbrev pub HasEdited : Setup → Edit → Parts → Parts → Result (Unit {0}) Fault → Type 0
HasEdited setup (Make.Put at line) old new answer = HasLinePut setup at line old new answer
HasEdited setup (Make.Copy from at) old new answer = HasLineCopied setup from at old new answer

-- after a change that was made the rest follows; else nothing
abbrev pub GoesOn : Result (Unit {0}) Fault → Type 0 → Parts → Parts → Result (Unit {0}) Fault → Type 0
GoesOn (Ok done) rest old new answer = rest
GoesOn (Err fault) rest old new answer = (answer ≡ Err fault) × (new ≡ old)

-- the changes are made in order, up to one that isn't
abbrev pub AreEdited : Setup → List Edit → Parts → Parts → Result (Unit {0}) Fault → Type 0
AreEdited setup [] old new answer = (answer ≡ Ok tt) × (new ≡ old)
AreEdited setup (edit ∷ edits) old new answer =
    (between : Parts) × (first : Result (Unit {0}) Fault) × HasEdited setup edit old between first
    × GoesOn first (AreEdited setup edits between new answer) between new answer

-- ---- the lines

-- of a memory of that many lines
abbrev pub IsEditOf : ℕ → Edit → Type 0
IsEditOf count (Make.Put at line) = (at < count) × IsLine line
IsEditOf count (Make.Copy from at) = (from < count) × (at < count)

abbrev pub edited : Edit → List Line → List Line
edited (Make.Put at line) lines = slice_set lines at line
edited (Make.Copy from at) lines = slice_set lines at (line_at lines from)

abbrev pub all_edited : List Edit → List Line → List Line
all_edited [] lines = lines
all_edited (edit ∷ edits) lines = all_edited edits (edited edit lines)
