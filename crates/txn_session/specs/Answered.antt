-- Which answers a command has in which states, and the state after: if the state alone decides, the first condition that holds does; else
-- the engine's call does, by how it ended, and what the answer says is listed.
use Rattle.std.specs.Prelude.{ℕ, ◌≡◌, ◌≤◌, ◌<◌, ◌+◌, ◌*◌, ◌==◌, nat_lt, Bool, true, false, List, [], ◌∷◌, length, Option, Some, None, option_map, is_some, unwrap_or, Ok, IsTrue, if◌then◌else◌}
use Rattle.pmem_base.specs.declared.lines.Line.{Line}
use Rattle.pmem_base.specs.declared.commands.Posted.{Posted}
use Rattle.pmem_base.specs.declared.answers.Exhibit.{Exhibit}
use Rattle.pmem_base.specs.declared.answers.Exhibit.TheVariants.{Twin}
use Rattle.pmem_base.specs.Shape.{Shape}
use Rattle.pmem_base.specs.Layout.{data_lines}
use Rattle.pmem_base.specs.Lines.{line_at}
use Rattle.suite.specs.Formulas.{Formulas}
use Rattle.suite.specs.Setup.{Setup}
use Rattle.collision_witness.specs.Exhibits.{IsExhibit}
use Rattle.plain_model.specs.Bounds.{recovery_bound}
use Rattle.plain_model.specs.Asked.{Moment}
use Rattle.plain_model.specs.Fits.{IsSpentNext}
use Rattle.plain_model.specs.Shown.{IsTwinOfSeal}
use Rattle.engine_lines.specs.Writes.{write_steps, read_steps, Writing, AreAllWritesMade, IsCutAmong}
use Rattle.pmem_recovery.specs.declared.faults.RecFault.TheVariants as Rec
use Rattle.line_session.specs.State.{view_in, places_in, moment_in, with_fuse, with_power, with_marks}
use Rattle.line_session.specs.Started.{IsRefusedFrom}
use Rattle.txn_session.specs.declared.commands.TxnCommand.{TxnCommand}
use Rattle.txn_session.specs.declared.commands.TxnCommand.TheVariants as Do
use Rattle.txn_session.specs.declared.answers.TxnAnswer.{TxnAnswer}
use Rattle.txn_session.specs.declared.answers.TxnAnswer.TheVariants as Say
use Rattle.trace_text.specs.declared.talk.Halt.{Halt}
use Rattle.trace_text.specs.declared.talk.Halt.TheVariants as Stop
use Rattle.txn_session.specs.Answers.{txn_text}
use Rattle.txn_session.specs.Commands.{reading_of_txn}
use Rattle.txn_session.specs.Planned.{IsTxnCalled, open_call}
use Rattle.txn_session.specs.State.{TxnState, txn_left, Entries, txn_lines_in, entry_in, with_put_line, commit_writes, redo_writes, txn_without_power, with_commit, with_redo}

-- ---- answers that the state decides

-- the answer, if power is on
abbrev pub of_power : TxnState → Option TxnAnswer → Option TxnAnswer
of_power state answer = if state.session.board.powered then answer else Some Say.Off

-- the answer, if there is such a line
abbrev pub txn_of_line : TxnState → ℕ → Option TxnAnswer → Option TxnAnswer
txn_of_line state a answer = if nat_lt a (txn_lines_in state) then answer else Some Say.Range

-- the answer, if a transaction is open
abbrev pub of_open : Option Entries → (Entries → Option TxnAnswer) → Option TxnAnswer
of_open None answer = Some Say.Closed
of_open (Some entries) answer = answer entries

-- whether no other line goes into a transaction
abbrev pub is_txn_full : Entries → ℕ → Bool
is_txn_full entries a = if is_some (entry_in entries a) then false else length entries == 15

-- a transaction is opened, if the store isn't stuck
abbrev pub begun_txn : Option ℕ → Option Entries → TxnAnswer
begun_txn (Some page) open_txn = Say.Blocked page
begun_txn None (Some entries) = Say.Busy
begun_txn None None = Say.Ok

-- a commit without lines is done with no step
abbrev pub committed : Entries → Option TxnAnswer
committed [] = Some (Say.Applied 0)
committed (entry ∷ entries) = None

-- a line of the open transaction is read with no step
abbrev pub held : Option Line → Option TxnAnswer
held None = None
held (Some line) = Some (Say.Got line 0)

-- what a state's transaction holds
abbrev pub line_held : TxnState → ℕ → Option Line
line_held state a = entry_in (unwrap_or state.txn []) a

-- the answer that the state alone decides; none if the engine decides
abbrev pub txn_decided : TxnState → TxnCommand → Option TxnAnswer
txn_decided state Do.Begin = of_power state (Some (begun_txn state.stuck state.txn))
txn_decided state (Do.Put a line) =
    of_power state
    (of_open state.txn
    (λ entries. txn_of_line state a (Some (if is_txn_full entries a then Say.Full else Say.Ok))))
txn_decided state Do.Commit = of_power state (of_open state.txn committed)
txn_decided state Do.Abort = of_power state (of_open state.txn (λ entries. Some Say.Ok))
txn_decided state (Do.Read a) = of_power state (txn_of_line state a (held (line_held state a)))
txn_decided state (Do.Cut n) = Some Say.Ok
txn_decided state Do.Off = of_power state (Some Say.Ok)
txn_decided state Do.On = if state.session.board.powered then Some Say.Already else None

-- the state after such an answer
abbrev pub txn_after_decided : TxnState → TxnCommand → TxnAnswer → TxnState
txn_after_decided state Do.Begin Say.Ok = record state { txn = Some [] }
txn_after_decided state (Do.Put a line) Say.Ok =
    record state { txn = option_map (λ entries. with_put_line entries a line) state.txn }
txn_after_decided state Do.Commit (Say.Applied steps) = record state { txn = None }
txn_after_decided state Do.Abort Say.Ok = record state { txn = None }
txn_after_decided state (Do.Cut n) answer = record state { session = with_fuse state.session n }
txn_after_decided state Do.Off Say.Ok = txn_without_power state
txn_after_decided state command answer = state

-- ---- what is left

-- a state that is another except for what the call's plan alone says
pub record IsTxnButForSteps (expected new : TxnState) : Type 0 where
  pub memory : new.memory ≡ expected.memory
  pub in_force : new.in_force ≡ expected.in_force
  pub stuck : new.stuck ≡ expected.stuck
  pub txn : new.txn ≡ expected.txn
  pub power : new.session.board.powered ≡ expected.session.board.powered
  pub loss : new.session.board.regs.loss ≡ expected.session.board.regs.loss
  pub marks : new.session.ledger.marks ≡ expected.session.ledger.marks

-- after at most `most` steps
abbrev pub GoesToTxnState : TxnState → ℕ → ℕ → TxnState → Type 0
GoesToTxnState expected steps most new = IsTxnButForSteps expected new × (steps ≤ most)

-- power was cut, after fewer than `most` steps
abbrev pub IsTxnCutOff : TxnState → ℕ → ℕ → TxnState → Type 0
IsTxnCutOff expected steps most new = IsTxnButForSteps (txn_without_power expected) new × (steps < most)

-- the most steps of a commit of that many lines
abbrev pub most_of_commit : Shape → ℕ → ℕ
most_of_commit g count = (2 * count + 2) * write_steps g

-- those of a redo of that many lines: each body is read, and then its target written
abbrev pub most_of_redo : Shape → ℕ → ℕ
most_of_redo g count =
    if count == 0 then 0 else count * (read_steps g + write_steps g) + write_steps g

-- those of recovery, the header's read and the redo
abbrev pub txn_most_of_on : TxnState → ℕ
txn_most_of_on state =
    recovery_bound state.session.shape + read_steps state.session.shape + most_of_redo state.session.shape (length state.in_force)

-- ---- writes in order

-- all of them are done
abbrev pub IsAllWritten : Formulas → Moment → List Posted → Writing → Type 0
IsAllWritten f now writes writing = (writing.done ≡ length writes) × AreAllWritesMade f now writes writing

-- ---- a commit

-- How far a commit of that many lines came, by its answer: through; or, with the header, up to a line that is spent; or up to one before it
-- is written; or up to a cut, with the seal of the header's write or before it.
abbrev pub IsCommitting : ℕ → Formulas → Moment → List Posted → Writing → TxnAnswer → Type 0
IsCommitting count f now writes writing (Say.Applied steps) = IsAllWritten f now writes writing
IsCommitting count f now writes writing (Say.Stuck page steps) =
    (count < writing.done) × IsSpentNext f now writes writing.done page writing.made
IsCommitting count f now writes writing (Say.Spent page steps) =
    (writing.done ≤ count) × IsSpentNext f now writes writing.done page writing.made
IsCommitting count f now writes writing (Say.CutKept steps) =
    (count < writing.done) × IsCutAmong f now writes writing
IsCommitting count f now writes writing (Say.CutLost steps) =
    (writing.done ≤ count) × IsCutAmong f now writes writing
IsCommitting count f now writes writing answer = ⊥

-- the state that that many done writes leave, except for power, fuse and counts
abbrev pub after_commit : TxnState → Entries → Writing → TxnState
after_commit old entries writing =
    record (with_commit old entries writing.done) { session = with_marks old.session writing.made }

abbrev pub EndsCommit : TxnState → ℕ → TxnAnswer → TxnState → Type 0
EndsCommit expected most (Say.Applied steps) new = GoesToTxnState expected steps most new
EndsCommit expected most (Say.Stuck page steps) new = GoesToTxnState (record expected { stuck = Some page }) steps most new
EndsCommit expected most (Say.Spent page steps) new = GoesToTxnState expected steps most new
EndsCommit expected most (Say.CutKept steps) new = IsTxnCutOff expected steps most new
EndsCommit expected most (Say.CutLost steps) new = IsTxnCutOff expected steps most new
EndsCommit expected most answer new = ⊥

pub record HasTxnCommitted (setup : Setup) (old : TxnState) (entries : Entries) (answer : TxnAnswer) (new : TxnState) :
    Type 0 where
  pub writing : Writing
  pub came :
      IsCommitting (length entries) setup.formulas (moment_in setup old.session) (commit_writes (txn_lines_in old) entries)
      writing answer
  pub ends : EndsCommit (after_commit old entries writing) (most_of_commit old.session.shape (length entries)) answer new

-- ---- a read, and recovery

abbrev pub HasTxnRead : TxnState → ℕ → TxnAnswer → TxnState → Type 0
HasTxnRead old a (Say.Got line steps) new =
    (line ≡ line_at old.memory a) × GoesToTxnState old steps (read_steps old.session.shape) new
HasTxnRead old a (Say.Cut steps) new = IsTxnCutOff old steps (read_steps old.session.shape) new
HasTxnRead old a answer new = ⊥

-- how far a redo came, by its answer: through; or up to a line that is spent; or up to a cut
abbrev pub IsRedoing : Formulas → Moment → List Posted → Writing → TxnAnswer → Type 0
IsRedoing f now writes writing (Say.Opened redone steps) = IsAllWritten f now writes writing
IsRedoing f now writes writing (Say.Stuck page steps) = IsSpentNext f now writes writing.done page writing.made
IsRedoing f now writes writing (Say.Cut steps) = IsCutAmong f now writes writing
IsRedoing f now writes writing answer = ⊥

-- the state that that many done writes of a redo leave, with power on
abbrev pub after_redo : TxnState → Writing → TxnState
after_redo old writing =
    record (with_redo old writing.done) { session = with_marks (with_power old.session) writing.made }

abbrev pub EndsRedo : TxnState → TxnAnswer → TxnState → TxnState → Type 0
EndsRedo expected (Say.Opened redone steps) old new =
    (redone ≡ length old.in_force) × GoesToTxnState expected steps (txn_most_of_on old) new
EndsRedo expected (Say.Stuck page steps) old new =
    GoesToTxnState (record expected { stuck = Some page }) steps (txn_most_of_on old) new
EndsRedo expected (Say.Cut steps) old new = IsTxnCutOff expected steps (txn_most_of_on old) new
EndsRedo expected answer old new = ⊥

pub record HasTxnOpened (setup : Setup) (old : TxnState) (answer : TxnAnswer) (new : TxnState) : Type 0 where
  pub writing : Writing
  pub came :
      IsRedoing setup.formulas (moment_in setup old.session)
      (redo_writes (txn_lines_in old) old.in_force (places_in setup old.session)) writing answer
  pub ends : EndsRedo (after_redo old writing) answer old new

-- ---- the relation

-- what the engine answers, and what it leaves
abbrev pub IsTxnServed : Setup → TxnState → TxnCommand → TxnAnswer → TxnState → Type 0
IsTxnServed setup old Do.Commit answer new = HasTxnCommitted setup old (unwrap_or old.txn []) answer new
IsTxnServed setup old (Do.Read a) answer new = HasTxnRead old a answer new
IsTxnServed setup old Do.On answer new = HasTxnOpened setup old answer new
IsTxnServed setup old command answer new = ⊥

-- A decided answer leaves the counts as they are. Any other is the one by which the command's call ended.
abbrev pub IsTxnAnsweredAs :
    Option TxnAnswer → Setup → TxnState → TxnCommand → TxnAnswer → TxnState → Type 0
IsTxnAnsweredAs (Some fixed) setup old command answer new =
    (answer ≡ fixed) × (new ≡ txn_after_decided old command fixed)
IsTxnAnsweredAs None setup old command answer new =
    IsTxnServed setup old command answer new × IsTxnCalled setup old command answer new

-- the answer that the state decides, or else the one that the engine gives
abbrev pub IsTxnAnswered : Setup → TxnState → TxnCommand → TxnAnswer → TxnState → Type 0
IsTxnAnswered setup old command answer new =
    IsTxnAnsweredAs (txn_decided old command) setup old command answer new

-- An exhibit comes of recovery alone: a twin that holds, of the last seal of one of the data lines, which recovery finds first.
-- It leaves the state that recovery left, without power.
abbrev pub IsTxnShownBy : Setup → TxnState → TxnCommand → Exhibit → TxnState → Type 0
IsTxnShownBy setup old Do.On (Twin at major low high cipher tag) new =
    (old.session.board.powered ≡ false) × (at < data_lines setup.shape)
    × IsExhibit setup.formulas (Twin at major low high cipher tag)
    × IsTwinOfSeal setup (places_in setup old.session) old.session.board.regs.loss (view_in old.session) at major low high cipher tag
    × IsRefusedFrom setup (open_call setup) old.session (Rec.Twin at major low high cipher tag) new.session
    × (new ≡ txn_left setup new.session None None)
IsTxnShownBy setup old command exhibit new = ⊥

-- whether a command may run out of memory
abbrev pub txn_takes_memory : TxnCommand → Bool
txn_takes_memory Do.Commit = true
txn_takes_memory Do.On = true
txn_takes_memory command = false

-- a command may run out of memory if the state doesn't decide its answer
abbrev pub IsTxnMemoryWanted : TxnState → TxnCommand → Type 0
IsTxnMemoryWanted old command = IsTrue (txn_takes_memory command) × (txn_decided old command ≡ None)

-- why a command has no answer: memory is needed, and nothing was done; or it is an exhibit
abbrev pub IsTxnHalt : Setup → TxnState → TxnCommand → Halt → TxnState → Type 0
IsTxnHalt setup old command Stop.Memory new = IsTxnMemoryWanted old command × (new ≡ old)
IsTxnHalt setup old command (Stop.Shown exhibit) new = IsTxnShownBy setup old command exhibit new
IsTxnHalt setup old command (Stop.Line kind) new = ⊥

-- ---- a line and its answer

-- the line asks for a command, and the text is that of one of its answers
pub record IsTxnTalkedOf (setup : Setup) (old : TxnState) (line text : List ℕ) (new : TxnState) : Type 0 where
  pub command : TxnCommand
  pub its_reading : reading_of_txn line ≡ Ok (Some command)
  pub answer : TxnAnswer
  pub its_text : text ≡ txn_text answer
  pub answered : IsTxnAnswered setup old command answer new

-- the line asks for a command whose answer is the exhibit
pub record IsTxnShownOf (setup : Setup) (old : TxnState) (line : List ℕ) (exhibit : Exhibit) (new : TxnState) : Type 0 where
  pub command : TxnCommand
  pub its_reading : reading_of_txn line ≡ Ok (Some command)
  pub shown : IsTxnShownBy setup old command exhibit new

-- the line asks for a command that may run out of memory
pub record IsTxnStarvedOf (old : TxnState) (line : List ℕ) : Type 0 where
  pub command : TxnCommand
  pub its_reading : reading_of_txn line ≡ Ok (Some command)
  pub wanted : IsTxnMemoryWanted old command
