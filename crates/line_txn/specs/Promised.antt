-- What the calls of a store promise of what they are called with: an engine, a board, a suite and an audit, before and
-- after.
use Rattle.std.specs.Prelude.{ℕ, ◌≡◌, false, List, [], ◌∷◌, Result, Ok, Err, IfOk}
use Rattle.pmem_base.specs.declared.lines.Line.{Line}
use Rattle.pmem_base.specs.Lines.{line_at}
use Rattle.board.specs.declared.device.Board.{Ghosts as BoardOf}
use Rattle.seal_ledger.specs.declared.Audit.{Ghosts as AuditOf}
use Rattle.suite.specs.Setup.{Setup}
use Rattle.suite.specs.declared.Suite.{Ghosts as SuiteOf}
use Rattle.pmem_engine.specs.declared.fault.Fault.{Fault}
use Rattle.pmem_engine.specs.declared.fault.Fault.TheVariants as Fail
use Rattle.pmem_engine.specs.Engine.{EngineState, up_engine}
use Rattle.pmem_engine.specs.Parts.{Parts, regs_of, parts_at, setup_at, AreTrusted, AreSound}
use Rattle.pmem_engine.specs.Outcomes.{LeavesTrusted, LeavesSound}
use Rattle.pmem_engine.specs.Calls.{HasReadLine, IsGuarded, IsEngineCall}
use Rattle.pmem_engine.specs.Plans.{chip_in}
use Rattle.engine_lines.specs.Lines.{HasLines}
use Rattle.engine_lines.specs.Promised.{IsGuardedOpening}
use Rattle.line_txn.specs.declared.store.Store.{Store}
use Rattle.line_txn.specs.declared.store.Opened.{Opened}
use Rattle.line_txn.specs.declared.store.Committed.{Committed}
use Rattle.line_txn.specs.declared.store.Committed.TheVariants as Do
use Rattle.line_txn.specs.declared.store.CommitFault.{CommitFault}
use Rattle.line_txn.specs.declared.store.TxnFault.{TxnFault}
use Rattle.line_txn.specs.declared.store.TxnFault.TheVariants as Txn
use Rattle.line_txn.specs.Logged.{IsLogged}
use Rattle.line_txn.specs.Serving.{served_from}
use Rattle.line_txn.specs.Store.{HasStoreOpened, HasOpenedLogged, LeavesOpenedTrusted, LeavesOpenedSound, IsServedAs, HasStoreCommitted, IsLeftLogged, IsSoundCommitAnswer, commit_outcome_by}
use Rattle.line_txn.specs.Plans.{FollowsOpeningTo, FollowsCommit, commit_fault}

-- ---- what each call of an engine that is up makes

pub record HasOpenedStore (setup : Setup) (old : Parts) (now : EngineState → Parts) (answer : Result (Store × Opened) TxnFault) : Type 0 where
  pub opened : HasStoreOpened setup old now answer
  -- the board followed the opening's plan
  pub plan :
      FollowsOpeningTo setup (regs_of old) (chip_in old) old.device (now (up_engine old.engine)).device
      (λ engine. chip_in (now engine)) answer
  pub logged : AreTrusted setup old → (lines : List Line) → HasLines setup lines old → HasOpenedLogged setup lines now answer
  pub trusted : AreTrusted setup old → LeavesOpenedTrusted setup now answer
  pub sound : AreSound setup old → LeavesOpenedSound setup now answer

pub record HasReadServed (setup : Setup) (a : ℕ) (store : Store) (old new : Parts) (answer : Result Line Fault) : Type 0 where
  pub was_read : HasReadLine setup (served_from store.lines store.logged.items a) old new answer
  -- of lines that hold a memory it is this memory's
  pub logged :
      AreTrusted setup old → (lines memory : List Line) → HasLines setup lines old
      → IsLogged store.lines lines store.logged.items memory → IfOk answer (λ line. line ≡ line_at memory a)

pub record HasCommittedTxn (setup : Setup) (txn : List (ℕ × Line)) (old new : Store) (from to : Parts)
    (answer : Result Committed CommitFault) : Type 0 where
  pub committed : HasStoreCommitted setup txn old new from to answer
  -- the board followed the commit's plan
  pub plan : FollowsCommit setup txn old new (regs_of from) (chip_in from) (chip_in to) from.device to.device answer
  pub logged :
      AreTrusted setup from → (lines : List Line) → HasLines setup lines from → IsLeftLogged setup txn old.lines lines to answer
  pub trusted : AreTrusted setup from → LeavesTrusted setup (commit_outcome_by answer) to
  pub sound : AreSound setup from → LeavesSound setup (commit_outcome_by answer) to × IsSoundCommitAnswer answer

-- ---- what each call makes, by whether the engine is down

abbrev pub IsStoreOpening : Setup → EngineState → Parts → (EngineState → Parts) → Result (Store × Opened) TxnFault → Type 0
IsStoreOpening setup engine old now answer =
    IsGuardedOpening (λ (both : Store × Opened). both.0.engine) engine.down old now answer (HasOpenedStore setup old now answer)
    (answer ≡ Err (Txn.Engine Fail.Down))

abbrev pub IsStoreRead : Setup → ℕ → Store → Store → Parts → Parts → Result Line Fault → Type 0
IsStoreRead setup a old new from to answer =
    IsEngineCall old.engine.down new.engine.down from to answer (HasReadServed setup a old from to answer)

-- if the engine is down, a commit without lines is done still
abbrev pub IsCommitRefused : List (ℕ × Line) → Result Committed CommitFault → Type 0
IsCommitRefused [] answer = answer ≡ Ok Do.Applied
IsCommitRefused (entry ∷ txn) answer = answer ≡ Err (commit_fault false Fail.Down)

abbrev pub IsStoreCommit : Setup → List (ℕ × Line) → Store → Store → Parts → Parts → Result Committed CommitFault → Type 0
IsStoreCommit setup txn old new from to answer =
    IsGuarded old.engine.down new.engine.down (commit_outcome_by answer) from to (HasCommittedTxn setup txn old new from to answer)
    (IsCommitRefused txn answer × IsServedAs old.logged.items old.stuck old new)

-- ---- of what a call is given, and leaves

module _ {B S A : Type 0} (board : BoardOf B) (suite : SuiteOf S) (audit : AuditOf A) (engine : EngineState) (b : B) (s : S) (a : A)
    (later_b : B) (later_s : S) (later_a : A) where
  abbrev before : Parts
  before = parts_at board suite audit engine b s a

  abbrev now : EngineState → Parts
  now later = parts_at board suite audit later later_b later_s later_a

  abbrev pub OpensStore : Result (Store × Opened) TxnFault → Type 0
  OpensStore answer = IsStoreOpening (setup_at suite engine s) engine before now answer

  -- of an engine that is up

  abbrev pub OpensLines : Result (Store × Opened) TxnFault → Type 0
  OpensLines answer = HasStoreOpened (setup_at suite engine s) before now answer

  abbrev pub FollowsOpeningLines : Result (Store × Opened) TxnFault → Type 0
  FollowsOpeningLines answer =
      FollowsOpeningTo (setup_at suite engine s) (board.device b).regs (chip_in before) (board.device b) (board.device later_b)
      (λ later. chip_in (now later)) answer

module _ {B S A : Type 0} (board : BoardOf B) (suite : SuiteOf S) (audit : AuditOf A) (old : Store) (b : B) (s : S) (a : A)
    (new : Store) (later_b : B) (later_s : S) (later_a : A) where
  abbrev setup : Setup
  setup = setup_at suite old.engine s

  abbrev from : Parts
  from = parts_at board suite audit old.engine b s a

  abbrev to : Parts
  to = parts_at board suite audit new.engine later_b later_s later_a

  abbrev pub ReadsServed : ℕ → Result Line Fault → Type 0
  ReadsServed at answer = IsStoreRead setup at old new from to answer

  abbrev pub CommitsTxn : List (ℕ × Line) → Result Committed CommitFault → Type 0
  CommitsTxn txn answer = IsStoreCommit setup txn old new from to answer

  -- of an engine that is up

  abbrev pub CommitsLines : List (ℕ × Line) → Result Committed CommitFault → Type 0
  CommitsLines txn answer = HasStoreCommitted setup txn old new from to answer

  abbrev pub FollowsCommitting : List (ℕ × Line) → Result Committed CommitFault → Type 0
  FollowsCommitting txn answer =
      FollowsCommit setup txn old new (board.device b).regs (chip_in from) (chip_in to) (board.device b)
      (board.device later_b) answer
