-- What the calls of a store do of the board, as plans: the engine's calls that they are made of, in order. What a call
-- answers, and how the store serves its lines then, are functions of how its plan ends.
use Rattle.std.specs.Prelude.{ℕ, ◌≡◌, Bool, true, false, List, [], ◌∷◌, length, Option, Some, None, Result, Ok, Err}
use Rattle.pmem_base.specs.declared.lines.Line.{Line}
use Rattle.pmem_base.specs.declared.registers.Regs.{Regs}
use Rattle.board.specs.Device.{Device}
use Rattle.call_plan.specs.Plans.{Plan, done, stop, bind, lifted, mapped, ended}
use Rattle.call_plan.specs.Following.{Follows}
use Rattle.suite.specs.Setup.{Setup}
use Rattle.pmem_engine.specs.declared.fault.Fault.{Fault}
use Rattle.pmem_engine.specs.declared.fault.Fault.TheVariants as Fail
use Rattle.pmem_engine.specs.Engine.{EngineState}
use Rattle.pmem_engine.specs.Plans.{Chip, read_plan}
use Rattle.engine_lines.specs.Plans.{with_regs, edits_plan}
use Rattle.line_txn.specs.declared.store.Store.{Store}
use Rattle.line_txn.specs.declared.store.Opened.{Opened}
use Rattle.line_txn.specs.declared.store.Committed.{Committed}
use Rattle.line_txn.specs.declared.store.Committed.TheVariants as Do
use Rattle.line_txn.specs.declared.store.CommitFault.{CommitFault}
use Rattle.line_txn.specs.declared.store.TxnFault.{TxnFault}
use Rattle.line_txn.specs.declared.store.TxnFault.TheVariants as Txn
use Rattle.line_txn.specs.Header.{header_in}
use Rattle.line_txn.specs.Logged.{targets_of}
use Rattle.line_txn.specs.Edits.{deciding_edits, applying_edits, redoing_edits}
use Rattle.line_txn.specs.Store.{logged_lines, IsServedAs}

-- ---- opening

-- Where an opening ends: before its header's targets are known, or in the redo of these targets.
pub data OpeningStop : Type 0 where
  unread : TxnFault → OpeningStop
  unredone : List ℕ → Fault → OpeningStop

-- the transaction of a header that was read is redone; or the line isn't a header
abbrev pub redo_end : Setup → Line → Chip → Regs → Option (List ℕ) → Plan (Chip × OpeningStop) (Chip × (List ℕ × Regs))
redo_end setup line chip regs None = stop (chip, unread (Txn.Header line))
redo_end setup line chip regs (Some targets) =
    mapped (λ left. (left.0, unredone targets left.1)) (λ end. (end.0, (targets, end.1)))
    (edits_plan setup (redoing_edits (logged_lines setup.shape) targets) (chip, regs))

-- the header is read, and its transaction redone; the end has its targets
unfoldable pub open_plan : Setup → Regs → Chip → Plan (Chip × OpeningStop) (Chip × (List ℕ × Regs))
open_plan setup regs chip =
    bind (mapped (λ left. (left.0, unread (Txn.Engine left.1))) (λ end. end) (with_regs regs (read_plan setup regs (logged_lines setup.shape) chip)))
    (λ found. redo_end setup found.0.1 found.0.0 found.1 (header_in (logged_lines setup.shape) found.0.1))

-- how a store is opened: the targets that it reads from the log, the page that it is stuck at, and how many were redone
pub record Serving : Type 0 where
  pub targets : List ℕ
  pub stuck : Option ℕ
  pub redone : ℕ

abbrev pub serving : List ℕ → Option ℕ → ℕ → Serving
serving targets stuck redone = record { targets = targets; stuck = stuck; redone = redone }

-- a spent line of the redo leaves the store stuck
abbrev pub opened_of : Result (List ℕ × Regs) OpeningStop → Result Serving TxnFault
opened_of (Ok redone) = Ok (serving [] None (length redone.0))
opened_of (Err (unread fault)) = Err fault
opened_of (Err (unredone targets (Fail.Spent page))) = Ok (serving targets (Some page) (length targets))
opened_of (Err (unredone targets fault)) = Err (Txn.Engine fault)

-- what a store shows of it
abbrev pub serving_in : Store → Opened → Serving
serving_in store opened = serving store.logged.items store.stuck opened.redone

-- The board went along an opening's plan. The chip is then that of an engine: of the one that is kept, or of the one that is dropped.
pub record FollowsOpening (setup : Setup) (regs : Regs) (chip : Chip) (before after : Device) (left : Chip) (answer : Result Serving TxnFault) : Type 0 where
  pub end : Result (List ℕ × Regs) OpeningStop
  pub follows : Follows (open_plan setup regs chip) before after (ended end left)
  pub its_answer : answer ≡ opened_of end

pub record IsOpenedAs (setup : Setup) (regs : Regs) (chip : Chip) (before after : Device) (left : Chip) (store : Store) (opened : Opened) : Type 0 where
  pub opening : FollowsOpening setup regs chip before after left (Ok (serving_in store opened))
  pub its_lines : store.lines ≡ logged_lines setup.shape
  pub its_page : opened.stuck ≡ store.stuck

abbrev pub FollowsOpeningTo : Setup → Regs → Chip → Device → Device → (EngineState → Chip) → Result (Store × Opened) TxnFault → Type 0
FollowsOpeningTo setup regs chip before after now (Ok both) =
    IsOpenedAs setup regs chip before after (now both.0.engine) both.0 both.1
FollowsOpeningTo setup regs chip before after now (Err fault) =
    (dropped : EngineState) × FollowsOpening setup regs chip before after (now dropped) (Err fault)

-- ---- a commit

abbrev pub commit_fault : Bool → Fault → CommitFault
commit_fault committed fault = record { fault = fault; committed = committed }

-- Bodies and header, which decide; and then the targets and the zero header. Each fault has whether the transaction is
-- committed by then. Without lines nothing is done.
unfoldable pub commit_plan : Setup → ℕ → List (ℕ × Line) → Chip → Regs → Plan (Chip × CommitFault) (Chip × Regs)
commit_plan setup n [] chip regs = done (chip, regs)
commit_plan setup n (entry ∷ txn) chip regs =
    bind (lifted (λ now. now) (commit_fault false) (edits_plan setup (deciding_edits n (entry ∷ txn)) (chip, regs)))
    (λ decided. lifted (λ now. now) (commit_fault true) (edits_plan setup (applying_edits n (entry ∷ txn)) decided))

-- once it is committed, a spent line leaves the store stuck
abbrev pub stuck_as : Bool → Fault → Result Committed CommitFault
stuck_as true (Fail.Spent page) = Ok (Do.Stuck page)
stuck_as committed fault = Err (commit_fault committed fault)

abbrev pub commit_answer_of : Result Regs CommitFault → Result Committed CommitFault
commit_answer_of (Ok regs) = Ok Do.Applied
commit_answer_of (Err fault) = stuck_as fault.committed fault.fault

-- what the store serves by that answer
abbrev pub IsServedAfter : Result Committed CommitFault → List (ℕ × Line) → Store → Store → Type 0
IsServedAfter (Ok (Do.Stuck page)) txn old new = IsServedAs (targets_of txn) (Some page) old new
IsServedAfter answer txn old new = IsServedAs old.logged.items old.stuck old new

-- the board went along a commit's plan, and the rest is by its end
pub record FollowsCommit (setup : Setup) (txn : List (ℕ × Line)) (old new : Store) (regs : Regs) (from to : Chip) (before after : Device)
    (answer : Result Committed CommitFault) : Type 0 where
  pub end : Result Regs CommitFault
  pub follows : Follows (commit_plan setup old.lines txn from regs) before after (ended end to)
  pub its_answer : answer ≡ commit_answer_of end
  pub served : IsServedAfter answer txn old new
