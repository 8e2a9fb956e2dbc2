-- What the calls of levelled lines promise of what they are called with: an engine, a board, a suite and an audit, before
-- and after.
use Rattle.std.specs.Prelude.{ℕ, ◌≡◌, List, Result, Err, IfOk, false}
use Rattle.pmem_base.specs.declared.lines.Line.{Line}
use Rattle.pmem_base.specs.Lines.{line_at}
use Rattle.board.specs.declared.device.Board.{Ghosts as BoardOf}
use Rattle.call_plan.specs.Following.{Follows}
use Rattle.seal_ledger.specs.declared.Audit.{Ghosts as AuditOf}
use Rattle.suite.specs.Setup.{Setup}
use Rattle.suite.specs.declared.Suite.{Ghosts as SuiteOf}
use Rattle.pmem_engine.specs.declared.fault.Fault.{Fault}
use Rattle.pmem_engine.specs.declared.fault.Fault.TheVariants as Fail
use Rattle.pmem_engine.specs.Engine.{EngineState, up_engine}
use Rattle.pmem_engine.specs.Parts.{Parts, regs_of, parts_at, setup_at, AreTrusted, AreSound}
use Rattle.pmem_engine.specs.Outcomes.{LeavesTrusted, LeavesSound}
use Rattle.pmem_engine.specs.Calls.{HasReadLine, IsGuarded, IsEngineCall}
use Rattle.commit_regs.specs.Plans.{ended_with}
use Rattle.pmem_engine.specs.Plans.{chip_in}
use Rattle.engine_lines.specs.Lines.{HasLines}
use Rattle.engine_lines.specs.Edits.{AreEdited}
use Rattle.engine_lines.specs.Plans.{edits_plan}
use Rattle.engine_lines.specs.Promised.{IsGuardedOpening}
use Rattle.start_gap.specs.declared.wear.Wear.{Wear}
use Rattle.start_gap.specs.declared.gapped.Gapped.{Gapped}
use Rattle.start_gap.specs.declared.gapped.GapFault.{GapFault}
use Rattle.start_gap.specs.declared.gapped.GapFault.TheVariants.{Engine}
use Rattle.start_gap.specs.declared.gapped.Moved.{Moved}
use Rattle.start_gap.specs.declared.gapped.WriteFault.{WriteFault}
use Rattle.start_gap.specs.Wear.{place_of}
use Rattle.start_gap.specs.Logical.{IsLevelled, move_edits}
use Rattle.start_gap.specs.Gapped.{logical_lines, HasGappedOpened, HasWearOf, HasWear, HasLevelledWrite, IsLeftLevelled, IsSoundWriteAnswer, write_outcome_by}
use Rattle.start_gap.specs.Plans.{FollowsOpening, FollowsWrite, write_fault}

-- ---- what each call of an engine that is up makes

pub record HasOpenedLevelled (setup : Setup) (every : ℕ) (old : Parts) (now : EngineState → Parts) (answer : Result Gapped GapFault) :
    Type 0 where
  pub opened : HasGappedOpened setup every old now answer
  -- the board followed the opening's plan
  pub plan :
      FollowsOpening setup (regs_of old) (chip_in old) old.device (now (up_engine old.engine)).device (λ engine. chip_in (now engine)) answer
  -- over lines that hold a logical memory the wear is the one that they record
  pub levelled :
      AreTrusted setup old → (lines memory : List Line) (wear : Wear) → HasLines setup lines old
      → IsLevelled (logical_lines setup.shape) lines wear memory → HasWearOf wear answer

pub record HasReadLevelled (setup : Setup) (a : ℕ) (gapped : Gapped) (old new : Parts) (answer : Result Line Fault) : Type 0 where
  pub was_read : HasReadLine setup (place_of gapped.lines gapped.wear a) old new answer
  -- of lines that hold a logical memory it is this memory's
  pub levelled :
      AreTrusted setup old → (lines memory : List Line) → HasLines setup lines old
      → IsLevelled gapped.lines lines gapped.wear memory → IfOk answer (λ line. line ≡ line_at memory a)

pub record HasWrittenLevelled (setup : Setup) (a : ℕ) (plain : Line) (old new : Gapped) (from to : Parts) (answer : Result Moved WriteFault) :
    Type 0 where
  pub was_written : HasLevelledWrite setup a plain old new from to answer
  -- the board followed the write's plan
  pub plan : FollowsWrite setup a plain old new (regs_of from) (chip_in from) (chip_in to) from.device to.device answer
  pub levelled :
      AreTrusted setup from → (lines : List Line) → HasLines setup lines from → IsLeftLevelled setup a plain old lines to answer
  pub trusted : AreTrusted setup from → LeavesTrusted setup (write_outcome_by answer) to
  pub sound : AreSound setup from → LeavesSound setup (write_outcome_by answer) to × IsSoundWriteAnswer answer

-- ---- what each call makes, by whether the engine is down

abbrev pub IsLevelledOpening : Setup → ℕ → EngineState → Parts → (EngineState → Parts) → Result Gapped GapFault → Type 0
IsLevelledOpening setup every engine old now answer =
    IsGuardedOpening (λ (gapped : Gapped). gapped.engine) engine.down old now answer (HasOpenedLevelled setup every old now answer)
    (answer ≡ Err (Engine Fail.Down))

abbrev pub IsLevelledRead : Setup → ℕ → Gapped → Gapped → Parts → Parts → Result Line Fault → Type 0
IsLevelledRead setup a old new from to answer =
    IsEngineCall old.engine.down new.engine.down from to answer (HasReadLevelled setup a old from to answer)

abbrev pub IsLevelledWrite : Setup → ℕ → Line → Gapped → Gapped → Parts → Parts → Result Moved WriteFault → Type 0
IsLevelledWrite setup a plain old new from to answer =
    IsGuarded old.engine.down new.engine.down (write_outcome_by answer) from to (HasWrittenLevelled setup a plain old new from to answer)
    ((answer ≡ Err (write_fault false Fail.Down)) × HasWear old.wear old.count old new)

-- ---- of what a call is given, and leaves

module _ {B S A : Type 0} (board : BoardOf B) (suite : SuiteOf S) (audit : AuditOf A) (engine : EngineState) (b : B) (s : S) (a : A)
    (later_b : B) (later_s : S) (later_a : A) where
  abbrev before : Parts
  before = parts_at board suite audit engine b s a

  abbrev now : EngineState → Parts
  now later = parts_at board suite audit later later_b later_s later_a

  abbrev pub OpensLevelled : ℕ → Result Gapped GapFault → Type 0
  OpensLevelled every answer = IsLevelledOpening (setup_at suite engine s) every engine before now answer

  -- of an engine that is up
  abbrev pub ReadsRecord : ℕ → Result Gapped GapFault → Type 0
  ReadsRecord every answer = HasGappedOpened (setup_at suite engine s) every before now answer

  abbrev pub FollowsRecord : Result Gapped GapFault → Type 0
  FollowsRecord answer =
      FollowsOpening (setup_at suite engine s) (board.device b).regs (chip_in before) (board.device b) (board.device later_b)
      (λ later. chip_in (now later)) answer

module _ {B S A : Type 0} (board : BoardOf B) (suite : SuiteOf S) (audit : AuditOf A) (old : Gapped) (b : B) (s : S) (a : A)
    (new : Gapped) (later_b : B) (later_s : S) (later_a : A) where
  abbrev setup : Setup
  setup = setup_at suite old.engine s

  abbrev from : Parts
  from = parts_at board suite audit old.engine b s a

  abbrev to : Parts
  to = parts_at board suite audit new.engine later_b later_s later_a

  abbrev pub ReadsLevelled : ℕ → Result Line Fault → Type 0
  ReadsLevelled line answer = IsLevelledRead setup line old new from to answer

  abbrev pub WritesLevelled : ℕ → Line → Result Moved WriteFault → Type 0
  WritesLevelled line plain answer = IsLevelledWrite setup line plain old new from to answer

  -- of an engine that is up

  abbrev pub WritesAndMoves : ℕ → Line → Result Moved WriteFault → Type 0
  WritesAndMoves line plain answer = HasLevelledWrite setup line plain old new from to answer

  abbrev pub FollowsWriting : ℕ → Line → Result Moved WriteFault → Type 0
  FollowsWriting line plain answer =
      FollowsWrite setup line plain old new (board.device b).regs (chip_in from) (chip_in to) (board.device b)
      (board.device later_b) answer

  abbrev pub MovesGap : Result (Unit {0}) Fault → Type 0
  MovesGap answer = AreEdited setup (move_edits old.lines old.wear) from to answer

  abbrev pub FollowsMove : Result (Unit {0}) Fault → Type 0
  FollowsMove answer =
      Follows (edits_plan setup (move_edits old.lines old.wear) (chip_in from, (board.device b).regs)) (board.device b)
      (board.device later_b) (ended_with answer (chip_in to) (board.device later_b).regs)
