-- Which answers a command has in which states, and the state after: if the state alone decides, the first condition that holds does; else
-- the engine's call does, by how it ended, and what the answer says is listed.
use Rattle.std.specs.Prelude.{ℕ, ◌≡◌, ◌≤◌, ◌<◌, ◌+◌, ◌*◌, nat_lt, Bool, true, false, List, length, Option, Some, None, Ok, IsTrue, if◌then◌else◌}
use Rattle.pmem_base.specs.declared.lines.Line.{Line}
use Rattle.pmem_base.specs.declared.commands.Posted.{Posted}
use Rattle.pmem_base.specs.declared.answers.Exhibit.{Exhibit}
use Rattle.pmem_base.specs.declared.answers.Exhibit.TheVariants.{Twin}
use Rattle.pmem_base.specs.Layout.{data_lines}
use Rattle.pmem_base.specs.Lines.{line_at}
use Rattle.suite.specs.Formulas.{Formulas}
use Rattle.suite.specs.Setup.{Setup}
use Rattle.collision_witness.specs.Exhibits.{IsExhibit}
use Rattle.plain_model.specs.Bounds.{path_length, recovery_bound}
use Rattle.plain_model.specs.Asked.{Moment}
use Rattle.plain_model.specs.Fits.{IsStopped, IsSpentNext}
use Rattle.engine_lines.specs.Writes.{read_steps, write_steps, Writing, AreAllWritesMade, IsCutAmong}
use Rattle.plain_model.specs.Shown.{IsTwinOfSeal}
use Rattle.wear_session.specs.declared.commands.WearCommand.{WearCommand}
use Rattle.wear_session.specs.declared.commands.WearCommand.TheVariants as Do
use Rattle.wear_session.specs.declared.answers.WearAnswer.{WearAnswer}
use Rattle.wear_session.specs.declared.answers.WearAnswer.TheVariants as Say
use Rattle.pmem_recovery.specs.declared.faults.RecFault.TheVariants as Rec
use Rattle.line_session.specs.State.{view_in, places_in, moment_in, with_fuse, with_power, with_marks}
use Rattle.line_session.specs.Started.{IsRefusedFrom}
use Rattle.trace_text.specs.declared.talk.Halt.{Halt}
use Rattle.trace_text.specs.declared.talk.Halt.TheVariants as Stop
use Rattle.wear_session.specs.Answers.{wear_text}
use Rattle.wear_session.specs.Commands.{reading_of_wear}
use Rattle.wear_session.specs.Planned.{IsWearCalled, open_call}
use Rattle.wear_session.specs.State.{WearState, wear_left, wear_lines_in, place_in, is_due, engine_writes, wear_without_power, with_writes}

-- ---- answers that the state decides

-- the answer, if power is on and there is such a line
abbrev pub wear_of_line : WearState → ℕ → Option WearAnswer → Option WearAnswer
wear_of_line state a answer =
    if state.session.board.powered then (if nat_lt a (wear_lines_in state) then answer else Some Say.Range) else Some Say.Off

-- the answer that the state alone decides; none if the engine decides
abbrev pub wear_decided : WearState → WearCommand → Option WearAnswer
wear_decided state (Do.Write a plain) = wear_of_line state a None
wear_decided state (Do.Read a) = wear_of_line state a None
wear_decided state (Do.Place a) = wear_of_line state a (Some (Say.At (place_in state a)))
wear_decided state (Do.Cut n) = Some Say.Ok
wear_decided state Do.Off = if state.session.board.powered then Some Say.Ok else Some Say.Off
wear_decided state Do.On = if state.session.board.powered then Some Say.Already else None

abbrev pub wear_after_decided : WearState → WearCommand → WearState
wear_after_decided state (Do.Cut n) = record state { session = with_fuse state.session n }
wear_after_decided state Do.Off = if state.session.board.powered then wear_without_power state else state
wear_after_decided state command = state

-- ---- what is left

-- a state that is another except for what the call's plan alone says
pub record IsWearButForSteps (expected new : WearState) : Type 0 where
  pub memory : new.memory ≡ expected.memory
  pub wear : new.wear ≡ expected.wear
  pub count : new.count ≡ expected.count
  pub power : new.session.board.powered ≡ expected.session.board.powered
  pub loss : new.session.board.regs.loss ≡ expected.session.board.regs.loss
  pub marks : new.session.ledger.marks ≡ expected.session.ledger.marks

-- after at most `most` steps
abbrev pub GoesToWearState : WearState → ℕ → ℕ → WearState → Type 0
GoesToWearState expected steps most new = IsWearButForSteps expected new × (steps ≤ most)

-- power was cut, after fewer than `most` steps
abbrev pub IsWearCutOff : WearState → ℕ → ℕ → WearState → Type 0
IsWearCutOff expected steps most new = IsWearButForSteps (wear_without_power expected) new × (steps < most)

-- those of a write, with its move if one is due, and of recovery with the opening
abbrev pub most_of_write : WearState → ℕ
most_of_write state =
    if is_due state then 3 * write_steps state.session.shape + read_steps state.session.shape else write_steps state.session.shape

abbrev pub wear_most_of_on : WearState → ℕ
wear_most_of_on state = recovery_bound state.session.shape + read_steps state.session.shape

-- ---- a write

-- How far a write came, by its answer: all of its engine writes; or up to one whose counter is used up, which is
-- the line's own or a later one; or up to a cut, with the seal of the line's own write or before it.
abbrev pub IsWriting : Formulas → Moment → List Posted → Writing → WearAnswer → Type 0
IsWriting f now writes writing (Say.Written steps) =
    (writing.done ≡ length writes) × AreAllWritesMade f now writes writing
IsWriting f now writes writing (Say.Held page steps) =
    (0 < writing.done) × IsSpentNext f now writes writing.done page writing.made
IsWriting f now writes writing (Say.Spent page steps) =
    (writing.done ≡ 0) × IsSpentNext f now writes writing.done page writing.made
IsWriting f now writes writing (Say.CutKept steps) =
    (0 < writing.done) × IsCutAmong f now writes writing
IsWriting f now writes writing (Say.CutLost steps) =
    (writing.done ≡ 0) × IsStopped f now writes writing.done writing.made
IsWriting f now writes writing answer = ⊥

-- the state that that many done writes leave, except for power, fuse and counts
abbrev pub after_writing : WearState → ℕ → Line → Writing → WearState
after_writing old a plain writing =
    record (with_writes old a plain writing.done) { session = with_marks old.session writing.made }

abbrev pub EndsWriting : WearState → WearAnswer → WearState → WearState → Type 0
EndsWriting expected (Say.CutKept steps) old new = IsWearCutOff expected steps (most_of_write old) new
EndsWriting expected (Say.CutLost steps) old new = IsWearCutOff expected steps (write_steps old.session.shape) new
EndsWriting expected (Say.Written steps) old new = GoesToWearState expected steps (most_of_write old) new
EndsWriting expected (Say.Held page steps) old new = GoesToWearState expected steps (most_of_write old) new
EndsWriting expected (Say.Spent page steps) old new = GoesToWearState expected steps (path_length old.session.shape) new
EndsWriting expected answer old new = ⊥

pub record HasWearWritten (setup : Setup) (old : WearState) (a : ℕ) (plain : Line) (answer : WearAnswer) (new : WearState) :
    Type 0 where
  pub writing : Writing
  pub came : IsWriting setup.formulas (moment_in setup old.session) (engine_writes setup old a plain) writing answer
  pub ends : EndsWriting (after_writing old a plain writing) answer old new

-- ---- a read, and recovery

abbrev pub HasWearRead : WearState → ℕ → WearAnswer → WearState → Type 0
HasWearRead old a (Say.Got line steps) new =
    (line ≡ line_at old.memory a) × GoesToWearState old steps (read_steps old.session.shape) new
HasWearRead old a (Say.Cut steps) new = IsWearCutOff old steps (read_steps old.session.shape) new
HasWearRead old a answer new = ⊥

abbrev pub HasWearOpened : WearState → WearAnswer → WearState → Type 0
HasWearOpened old (Say.Opened start gap steps) new =
    (start ≡ old.wear.start) × (gap ≡ old.wear.gap)
    × GoesToWearState (record old { count = 0; session = with_power old.session }) steps (wear_most_of_on old) new
HasWearOpened old (Say.Cut steps) new = IsWearCutOff old steps (wear_most_of_on old) new
HasWearOpened old answer new = ⊥

-- ---- the relation

-- what the engine answers, and what it leaves
abbrev pub IsWearServed : Setup → WearState → WearCommand → WearAnswer → WearState → Type 0
IsWearServed setup old (Do.Write a plain) answer new = HasWearWritten setup old a plain answer new
IsWearServed setup old (Do.Read a) answer new = HasWearRead old a answer new
IsWearServed setup old Do.On answer new = HasWearOpened old answer new
IsWearServed setup old command answer new = ⊥

-- A decided answer leaves the counts as they are. Any other is the one by which the command's call ended.
abbrev pub IsWearAnsweredAs :
    Option WearAnswer → Setup → WearState → WearCommand → WearAnswer → WearState → Type 0
IsWearAnsweredAs (Some fixed) setup old command answer new =
    (answer ≡ fixed) × (new ≡ wear_after_decided old command)
IsWearAnsweredAs None setup old command answer new =
    IsWearServed setup old command answer new × IsWearCalled setup old command answer new

-- the answer that the state decides, or else the one that the engine gives
abbrev pub IsWearAnswered : Setup → WearState → WearCommand → WearAnswer → WearState → Type 0
IsWearAnswered setup old command answer new =
    IsWearAnsweredAs (wear_decided old command) setup old command answer new

-- An exhibit comes of recovery alone: a twin that holds, of the last seal of one of the data lines, which recovery finds first.
-- It leaves the state that recovery left, without power.
abbrev pub IsWearShownBy : Setup → WearState → WearCommand → Exhibit → WearState → Type 0
IsWearShownBy setup old Do.On (Twin at major low high cipher tag) new =
    (old.session.board.powered ≡ false) × (at < data_lines setup.shape)
    × IsExhibit setup.formulas (Twin at major low high cipher tag)
    × IsTwinOfSeal setup (places_in setup old.session) old.session.board.regs.loss (view_in old.session) at major low high cipher tag
    × IsRefusedFrom setup (open_call setup) old.session (Rec.Twin at major low high cipher tag) new.session
    × (new ≡ wear_left setup old.every new.session 0)
IsWearShownBy setup old command exhibit new = ⊥

-- whether a command may run out of memory
abbrev pub wear_takes_memory : WearCommand → Bool
wear_takes_memory (Do.Write a plain) = true
wear_takes_memory Do.On = true
wear_takes_memory command = false

-- a command may run out of memory if the state doesn't decide its answer
abbrev pub IsWearMemoryWanted : WearState → WearCommand → Type 0
IsWearMemoryWanted old command = IsTrue (wear_takes_memory command) × (wear_decided old command ≡ None)

-- why a command has no answer: memory is needed, and nothing was done; or it is an exhibit
abbrev pub IsWearHalt : Setup → WearState → WearCommand → Halt → WearState → Type 0
IsWearHalt setup old command Stop.Memory new = IsWearMemoryWanted old command × (new ≡ old)
IsWearHalt setup old command (Stop.Shown exhibit) new = IsWearShownBy setup old command exhibit new
IsWearHalt setup old command (Stop.Line kind) new = ⊥

-- ---- a line and its answer

-- the line asks for a command, and the text is that of one of its answers
pub record IsWearTalkedOf (setup : Setup) (old : WearState) (line text : List ℕ) (new : WearState) : Type 0 where
  pub command : WearCommand
  pub its_reading : reading_of_wear line ≡ Ok (Some command)
  pub answer : WearAnswer
  pub its_text : text ≡ wear_text answer
  pub answered : IsWearAnswered setup old command answer new

-- the line asks for a command whose answer is the exhibit
pub record IsWearShownOf (setup : Setup) (old : WearState) (line : List ℕ) (exhibit : Exhibit) (new : WearState) : Type 0 where
  pub command : WearCommand
  pub its_reading : reading_of_wear line ≡ Ok (Some command)
  pub shown : IsWearShownBy setup old command exhibit new

-- the line asks for a command that may run out of memory
pub record IsWearStarvedOf (old : WearState) (line : List ℕ) : Type 0 where
  pub command : WearCommand
  pub its_reading : reading_of_wear line ≡ Ok (Some command)
  pub wanted : IsWearMemoryWanted old command
