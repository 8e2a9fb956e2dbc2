-- The state of a session of transactions, and what always holds of it.
use Rattle.std.specs.Prelude.{ℕ, ◌≡◌, List, Option, Some, None, IfSome}
use Rattle.suite.specs.Setup.{Setup}
use Rattle.plain_model.specs.View.{plain_memory}
use Rattle.line_txn.specs.Header.{AreTargets}
use Rattle.line_txn.specs.Logged.{targets_of}
use Rattle.line_txn.specs.Store.{logged_lines}
use Rattle.line_session.specs.World.{StoreSession}
use Rattle.txn_session.specs.State.{TxnState, txn_left, Entries, targets_in_force}
use Rattle.txn_session.specs.StoreCalls.{HoldsLogged}
use Rattle.txn_session.specs.declared.calls.TxnStore.{TxnStore}

-- the page that a store is stuck at
abbrev pub stuck_in : Option TxnStore → Option ℕ
stuck_in None = None
stuck_in (Some store) = store.inner.stuck

abbrev pub txn_of : Setup → StoreSession TxnStore → Option Entries → TxnState
txn_of setup session txn = txn_left setup session.state (stuck_in session.store) txn

-- The store's log has the targets that are in force. A transaction is open only if none is; it has distinct data lines.
abbrev pub IsOpenBy : Setup → List ℕ → Option TxnStore → Option Entries → Type 0
IsOpenBy setup targets None txn = txn ≡ None
IsOpenBy setup targets (Some store) txn =
    (store.inner.logged.items ≡ targets)
    × IfSome txn (λ entries. (store.inner.stuck ≡ None) × AreTargets (logged_lines setup.shape) (targets_of entries))

pub record IsTxnWorld (setup : Setup) (session : StoreSession TxnStore) (txn : Option Entries) : Type 0 where
  pub logged : HoldsLogged setup session.state.ledger.marks
  pub its_txn : IsOpenBy setup (targets_in_force setup (plain_memory setup session.state.ledger.marks)) session.store txn
