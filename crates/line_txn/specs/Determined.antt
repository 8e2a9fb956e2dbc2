-- That the contracts of a store's calls leave nothing open: two outcomes of one call, from one board with power on, are the
-- same.
use Rattle.std.specs.Prelude.{ℕ, ◌≡◌, true, List, Result}
use Rattle.pmem_base.specs.declared.lines.Line.{Line}
use Rattle.board.specs.Memory.{BoardMemory}
use Rattle.watched_board.specs.declared.taken.Taken.{Taken}
use Rattle.watched_board.specs.Watching.{device_during, none_taken}
use Rattle.call_plan.specs.Runs.{IsRunOn}
use Rattle.suite.specs.Setup.{Setup}
use Rattle.pmem_engine.specs.Plans.{Chip}
use Rattle.line_txn.specs.declared.store.Store.{Store}
use Rattle.line_txn.specs.declared.store.Committed.{Committed}
use Rattle.line_txn.specs.declared.store.CommitFault.{CommitFault}
use Rattle.line_txn.specs.declared.store.TxnFault.{TxnFault}
use Rattle.line_txn.specs.Plans.{Serving, FollowsOpening, FollowsCommit}

-- what is the same: the answers, what the call left next to the board, the boards, and what was taken of them
abbrev pub AreSameEnds : {A : Type 0} → A → A → Chip → Chip → BoardMemory → BoardMemory → Taken → Taken → Type 0
AreSameEnds first second to there a b x y = (first ≡ second) × (to ≡ there) × (a ≡ b) × (x ≡ y)

-- an opening on a watched board
pub record IsOpeningOn (setup : Setup) (from to : Chip) (old new : BoardMemory) (taken : Taken) (answer : Result Serving TxnFault) : Type 0 where
  pub run : IsRunOn old new taken
  pub follows : FollowsOpening setup old.regs from (device_during old none_taken) (device_during new taken) to answer

abbrev pub OpeningIsDetermined : Type 0
OpeningIsDetermined =
    (setup : Setup) (from to there : Chip) (old a b : BoardMemory) (x y : Taken) (first second : Result Serving TxnFault)
    → old.powered ≡ true → IsOpeningOn setup from to old a x first → IsOpeningOn setup from there old b y second
    → AreSameEnds first second to there a b x y

-- a commit on a watched board
pub record IsCommitOn (setup : Setup) (txn : List (ℕ × Line)) (store after : Store) (from to : Chip) (old new : BoardMemory) (taken : Taken)
    (answer : Result Committed CommitFault) : Type 0 where
  pub run : IsRunOn old new taken
  pub follows :
      FollowsCommit setup txn store after old.regs from to (device_during old none_taken) (device_during new taken) answer

abbrev pub CommitIsDetermined : Type 0
CommitIsDetermined =
    (setup : Setup) (txn : List (ℕ × Line)) (store one other : Store) (from to there : Chip) (old a b : BoardMemory) (x y : Taken)
    (first second : Result Committed CommitFault) → old.powered ≡ true
    → IsCommitOn setup txn store one from to old a x first → IsCommitOn setup txn store other from there old b y second
    → AreSameEnds first second to there a b x y
