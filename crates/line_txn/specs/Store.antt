-- What a call of a store makes of the engine, device and ledger: which calls of the engine it is made of, in
-- order, and what becomes of logical memory.
use Rattle.std.specs.Prelude.{ℕ, ◌≡◌, ◌≤◌, ◌-◌, ◌⊎◌, true, false, List, [], ◌∷◌, length, Result, Ok, Err, Option, Some, None, ⊤}
use Rattle.pmem_base.specs.declared.lines.Line.{Line}
use Rattle.pmem_base.specs.Shape.{Shape}
use Rattle.pmem_base.specs.Layout.{data_lines}
use Rattle.pmem_base.specs.Lines.{line_at}
use Rattle.suite.specs.Setup.{Setup}
use Rattle.pmem_engine.specs.declared.fault.Fault.{Fault}
use Rattle.pmem_engine.specs.declared.fault.Fault.TheVariants as Fail
use Rattle.pmem_engine.specs.Engine.{EngineState}
use Rattle.pmem_engine.specs.Parts.{Parts, AreTrusted, AreSound}
use Rattle.call_effects.specs.Outcomes.{Outcome, going}
use Rattle.pmem_engine.specs.Outcomes.{outcome_of_fault, LeavesTrusted, LeavesSound}
use Rattle.pmem_engine.specs.Calls.{HasReadLine}
use Rattle.engine_lines.specs.Lines.{HasLines, IsUnspent, IsCutOrSpent}
use Rattle.engine_lines.specs.Edits.{AreEdited}
use Rattle.line_txn.specs.declared.store.Store.{Store}
use Rattle.line_txn.specs.declared.store.Opened.{Opened}
use Rattle.line_txn.specs.declared.store.Committed.{Committed}
use Rattle.line_txn.specs.declared.store.Committed.TheVariants as Do
use Rattle.line_txn.specs.declared.store.CommitFault.{CommitFault}
use Rattle.line_txn.specs.declared.store.TxnFault.{TxnFault}
use Rattle.line_txn.specs.declared.store.TxnFault.TheVariants as Txn
use Rattle.line_txn.specs.Header.{IsHeader}
use Rattle.line_txn.specs.Logged.{IsLogged, CommitStage, logged, decided, cleared, commit_lines_at, targets_at, commit_memory_at, targets_of, Opening, lines_opened, targets_opened}
use Rattle.line_txn.specs.Edits.{deciding_edits, applying_edits, redoing_edits}

-- the data lines of a memory: its last 16 lines are the log
abbrev pub logged_lines : Shape → ℕ
logged_lines g = data_lines g - 16

-- the targets that are read from the log, and the page that the store is stuck at
pub record IsServedAs (targets : List ℕ) (stuck : Option ℕ) (old new : Store) : Type 0 where
  pub its_lines : new.lines ≡ old.lines
  pub its_targets : new.logged.items ≡ targets
  pub its_page : new.stuck ≡ stuck

-- ---- opening

-- how a store is opened by the answer of its redo; stuck if a line of it is spent
abbrev pub IsOpenedBy : Result (Unit {0}) Fault → ℕ → List ℕ → Store → Opened → Type 0
IsOpenedBy (Ok done) n targets store opened =
    (store.logged.items ≡ []) × (store.stuck ≡ None) × (opened.stuck ≡ None)
IsOpenedBy (Err (Fail.Spent page)) n targets store opened =
    (store.logged.items ≡ targets) × (store.stuck ≡ Some page) × (opened.stuck ≡ Some page)
IsOpenedBy (Err fault) n targets store opened = ⊥

-- the header is read, and its transaction redone
pub record HasTargetsRedone (setup : Setup) (targets : List ℕ) (old new : Parts) (redone : Result (Unit {0}) Fault) :
    Type 0 where
  pub line : Line
  pub between : Parts
  pub was_read : HasReadLine setup (logged_lines setup.shape) old between (Ok line)
  pub header : IsHeader (logged_lines setup.shape) line targets
  pub was_redone : AreEdited setup (redoing_edits (logged_lines setup.shape) targets) between new redone

pub record HasStoreStarted (setup : Setup) (old new : Parts) (store : Store) (opened : Opened) : Type 0 where
  pub targets : List ℕ
  pub redone : Result (Unit {0}) Fault
  pub was_redone : HasTargetsRedone setup targets old new redone
  pub its_lines : store.lines ≡ logged_lines setup.shape
  pub its_count : opened.redone ≡ length targets
  pub its_end : IsOpenedBy redone store.lines targets store opened

-- the redo ended at a fault that isn't that a line is spent
pub record HasFailedRedo (setup : Setup) (old new : Parts) (fault : Fault) : Type 0 where
  pub targets : List ℕ
  pub was_redone : HasTargetsRedone setup targets old new (Err fault)
  pub unspent : IsUnspent fault

-- the line that was read isn't a header
pub record HasFoundNone (setup : Setup) (old new : Parts) (line : Line) : Type 0 where
  pub was_read : HasReadLine setup (logged_lines setup.shape) old new (Ok line)
  pub none : (targets : List ℕ) → IsHeader (logged_lines setup.shape) line targets → ⊥

-- The parts are then those of an engine: of the one that is kept, or of the one that is dropped.
abbrev pub HasStoreOpened : Setup → Parts → (EngineState → Parts) → Result (Store × Opened) TxnFault → Type 0
HasStoreOpened setup old now (Ok both) = HasStoreStarted setup old (now both.0.engine) both.0 both.1
HasStoreOpened setup old now (Err (Txn.Engine fault)) =
    (dropped : EngineState)
    × (HasReadLine setup (logged_lines setup.shape) old (now dropped) (Err fault)
    ⊎ HasFailedRedo setup old (now dropped) fault)
HasStoreOpened setup old now (Err (Txn.Header line)) =
    (dropped : EngineState) × HasFoundNone setup old (now dropped) line

-- If the lines hold a memory, they hold it still, under this header. They are at a stage of the opening.
pub record IsOpenedTo (setup : Setup) (lines : List Line) (now : Parts) (served : List ℕ) (opening : Opening)
    (found : List ℕ) : Type 0 where
  pub header : IsHeader (logged_lines setup.shape) (line_at lines (logged_lines setup.shape)) found
  pub its_lines : HasLines setup (lines_opened opening (logged_lines setup.shape) found lines) now
  pub its_targets : served ≡ targets_opened opening found
  pub logged :
      (targets : List ℕ) (memory : List Line) → IsLogged (logged_lines setup.shape) lines targets memory
      → IsLogged (logged_lines setup.shape) (lines_opened opening (logged_lines setup.shape) found lines) served memory

-- what is left of lines that were these: after a header that isn't one, the lines themselves, which hold no memory
abbrev pub HasOpenedLogged : Setup → List Line → (EngineState → Parts) → Result (Store × Opened) TxnFault → Type 0
HasOpenedLogged setup lines now (Ok both) =
    (opening : Opening) × (found : List ℕ)
    × IsOpenedTo setup lines (now both.0.engine) both.0.logged.items opening found
    × (both.1.redone ≡ length found)
HasOpenedLogged setup lines now (Err (Txn.Engine fault)) =
    (dropped : EngineState)
    × (HasLines setup lines (now dropped)
    ⊎ ((opening : Opening) × (found : List ℕ)
    × IsOpenedTo setup lines (now dropped) (targets_opened opening found) opening found))
HasOpenedLogged setup lines now (Err (Txn.Header line)) =
    (dropped : EngineState) × HasLines setup lines (now dropped)
    × ((targets : List ℕ) (memory : List Line)
    → IsLogged (logged_lines setup.shape) lines targets memory → ⊥)

-- what is trusted after an opening
abbrev pub LeavesOpenedTrusted : Setup → (EngineState → Parts) → Result (Store × Opened) TxnFault → Type 0
LeavesOpenedTrusted setup now (Ok both) = AreTrusted setup (now both.0.engine)
LeavesOpenedTrusted setup now (Err (Txn.Engine fault)) =
    (dropped : EngineState) × LeavesTrusted setup (outcome_of_fault fault) (now dropped)
LeavesOpenedTrusted setup now (Err (Txn.Header line)) =
    (dropped : EngineState) × AreTrusted setup (now dropped)

-- what is sound then; a call of the engine that isn't done is cut
abbrev pub LeavesOpenedSound : Setup → (EngineState → Parts) → Result (Store × Opened) TxnFault → Type 0
LeavesOpenedSound setup now (Ok both) = AreSound setup (now both.0.engine)
LeavesOpenedSound setup now (Err (Txn.Engine fault)) =
    (fault ≡ Fail.Cut)
    × ((dropped : EngineState) × LeavesSound setup (outcome_of_fault fault) (now dropped))
LeavesOpenedSound setup now (Err (Txn.Header line)) = (dropped : EngineState) × AreSound setup (now dropped)

-- ---- the calls of a commit

-- the answer of a commit that was decided, by that of what follows
abbrev pub commit_answer_by : Result (Unit {0}) Fault → Result Committed CommitFault
commit_answer_by (Ok done) = Ok Do.Applied
commit_answer_by (Err (Fail.Spent page)) = Ok (Do.Stuck page)
commit_answer_by (Err fault) = Err (record { fault = fault; committed = true })

-- what the store serves then: if it is stuck, the targets from the log
abbrev pub IsServedBy : Result (Unit {0}) Fault → List (ℕ × Line) → Store → Store → Type 0
IsServedBy (Err (Fail.Spent page)) txn old new = IsServedAs (targets_of txn) (Some page) old new
IsServedBy answer txn old new = IsServedAs old.logged.items old.stuck old new

-- the targets and the zero header are written
pub record HasApplied (setup : Setup) (txn : List (ℕ × Line)) (old new : Store) (from to : Parts)
    (answer : Result Committed CommitFault) : Type 0 where
  pub applied : Result (Unit {0}) Fault
  pub was_applied : AreEdited setup (applying_edits old.lines txn) from to applied
  pub its_answer : answer ≡ commit_answer_by applied
  pub served : IsServedBy applied txn old new

-- the header wasn't written, and nothing else was done
pub record HasCommitRefused (fault : Fault) (old new : Store) (from to : Parts) (answer : Result Committed CommitFault) :
    Type 0 where
  pub its_answer : answer ≡ Err (record { fault = fault; committed = false })
  pub served : IsServedAs old.logged.items old.stuck old new
  pub nothing_else : to ≡ from

-- what follows the bodies and the header
abbrev pub HasCommitGoneOn :
    Result (Unit {0}) Fault → Setup → List (ℕ × Line) → Store → Store → Parts → Parts → Result Committed CommitFault
    → Type 0
HasCommitGoneOn (Ok done) setup txn old new from to answer = HasApplied setup txn old new from to answer
HasCommitGoneOn (Err fault) setup txn old new from to answer = HasCommitRefused fault old new from to answer

pub record HasDecided (setup : Setup) (txn : List (ℕ × Line)) (old new : Store) (from to : Parts)
    (answer : Result Committed CommitFault) : Type 0 where
  pub made : Result (Unit {0}) Fault
  pub between : Parts
  pub was_made : AreEdited setup (deciding_edits old.lines txn) from between made
  pub then : HasCommitGoneOn made setup txn old new between to answer

-- without lines nothing is done
pub record HasNothingToDo (old new : Store) (from to : Parts) (answer : Result Committed CommitFault) : Type 0 where
  pub its_answer : answer ≡ Ok Do.Applied
  pub served : IsServedAs old.logged.items old.stuck old new
  pub nothing_done : to ≡ from

abbrev pub HasStoreCommitted :
    Setup → List (ℕ × Line) → Store → Store → Parts → Parts → Result Committed CommitFault → Type 0
HasStoreCommitted setup [] old new from to answer = HasNothingToDo old new from to answer
HasStoreCommitted setup (entry ∷ txn) old new from to answer =
    HasDecided setup (entry ∷ txn) old new from to answer

-- ---- what becomes of memory in a commit

-- the stages at which a commit may end, by its answer; a spent line isn't written
abbrev pub IsCommitEnd : Result Committed CommitFault → List (ℕ × Line) → CommitStage → Type 0
IsCommitEnd (Ok Do.Applied) txn (logged k) = txn ≡ []
IsCommitEnd (Ok Do.Applied) txn cleared = ⊤
IsCommitEnd (Ok (Do.Stuck page)) txn (decided k) = k ≤ length txn
IsCommitEnd (Err fault) txn (logged k) = (fault.committed ≡ false) × (k ≤ length txn)
IsCommitEnd (Err fault) txn (decided k) =
    ((fault.committed ≡ true) ⊎ ((k ≡ 0) × IsUnspent fault.fault)) × (k ≤ length txn)
IsCommitEnd (Err fault) txn cleared = fault.committed ≡ true
IsCommitEnd answer txn stage = ⊥

-- If the lines were these, they are at a stage of the commit now. And if they held a memory with no transaction in force, they hold it
-- without this one or with the whole of it.
pub record IsLeftLogged (setup : Setup) (txn : List (ℕ × Line)) (n : ℕ) (lines : List Line) (to : Parts)
    (answer : Result Committed CommitFault) : Type 0 where
  pub stage : CommitStage
  pub ended : IsCommitEnd answer txn stage
  pub its_lines : HasLines setup (commit_lines_at stage n txn lines) to
  pub logged :
      (memory : List Line) → IsLogged n lines [] memory
      → IsLogged n (commit_lines_at stage n txn lines) (targets_at stage txn) (commit_memory_at stage txn memory)

-- how the engine stands after a commit
abbrev pub commit_outcome_by : Result Committed CommitFault → Outcome
commit_outcome_by (Ok what) = going
commit_outcome_by (Err fault) = outcome_of_fault fault.fault

-- over a sound device a commit is done, or cut, or a line is spent before its header is written
abbrev pub IsSoundCommitAnswer : Result Committed CommitFault → Type 0
IsSoundCommitAnswer (Ok what) = ⊤
IsSoundCommitAnswer (Err fault) = IsCutOrSpent fault.fault

-- once its header is written, a commit isn't spent: the store is stuck
abbrev pub IsSpentUndecided : Result Committed CommitFault → Type 0
IsSpentUndecided (Ok what) = ⊤
IsSpentUndecided (Err fault) = fault.committed ≡ true → IsUnspent fault.fault
