-- What a store of transactions keeps and does in a session.
use Rattle.std.specs.Prelude.{ℕ, Bool, false, List, Result, Err}
use Rattle.pmem_base.specs.declared.answers.Mark.{Mark}
use Rattle.pmem_base.specs.declared.lines.Line.{Line}
use Rattle.suite.specs.Setup.{Setup}
use Rattle.plain_model.specs.View.{plain_memory}
use Rattle.pmem_engine.specs.declared.fault.Fault.{Fault}
use Rattle.pmem_engine.specs.Parts.{Parts}
use Rattle.line_txn.specs.declared.store.Store.{Store}
use Rattle.line_txn.specs.declared.store.Committed.{Committed}
use Rattle.line_txn.specs.declared.store.CommitFault.{CommitFault}
use Rattle.line_txn.specs.Edits.{IsWholeTxn}
use Rattle.line_txn.specs.Logged.{IsLogged}
use Rattle.line_txn.specs.Store.{IsServedAs, logged_lines}
use Rattle.line_txn.specs.Promised.{IsStoreRead, IsStoreCommit}
use Rattle.line_session.specs.Kept.{is_fault_cut}
use Rattle.txn_session.specs.State.{targets_in_force, redone_memory}
use Rattle.txn_session.specs.declared.calls.TxnStore.{TxnStore}

abbrev pub txn_store : Store → TxnStore
txn_store store = record { inner = store }

-- the marks say a memory with the transaction in force
abbrev pub HoldsLogged : Setup → List Mark → Type 0
HoldsLogged setup marks =
    let memory = plain_memory setup marks in
    IsLogged (logged_lines setup.shape) memory (targets_in_force setup memory) (redone_memory setup memory)

-- a data line is read from where it is served, and the store serves as before
pub record HasReadAt (setup : Setup) (at : ℕ) (old new : Store) (from to : Parts) (answer : Result Line Fault) : Type 0 where
  pub read : IsStoreRead setup at old new from to answer
  pub served : IsServedAs old.logged.items old.stuck old new

-- a transaction is committed
pub record HasCommitted (setup : Setup) (txn : List (ℕ × Line)) (old new : Store) (from to : Parts) (answer : Result Committed CommitFault) :
    Type 0 where
  pub done : IsStoreCommit setup txn old new from to answer
  pub whole : IsWholeTxn txn

-- whether power was cut in a commit
abbrev pub is_commit_cut : Result Committed CommitFault → Bool
is_commit_cut (Err fault) = is_fault_cut fault.fault
is_commit_cut answer = false
