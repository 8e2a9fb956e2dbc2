-- The state of a session of transactions, which is plain data, and what it says of the memory.
use Rattle.std.specs.Prelude.{ℕ, ◌≡◌, ◌+◌, ◌*◌, ◌==◌, nat_lt, List, [], ◌∷◌, ◌++◌, length, map, replicate, Option, Some, None, slice_index, if◌then◌else◌}
use Rattle.pmem_base.specs.declared.lines.Line.{Line}
use Rattle.pmem_base.specs.declared.commands.Posted.{Posted}
use Rattle.pmem_base.specs.Lines.{line_at, put_lines, zero_line}
use Rattle.suite.specs.Formulas.{Formulas}
use Rattle.suite.specs.Setup.{Setup}
use Rattle.plain_model.specs.State.{Memory}
use Rattle.pmem_engine.specs.Calls.{whole_write}
use Rattle.line_session.specs.State.{LineSession, IsNewSession, setup_in, places_in, without_power}
use Rattle.line_txn.specs.Header.{header_of, targets_in}
use Rattle.line_txn.specs.Logged.{targets_of, bodies_of, entries_in, memory_in}
use Rattle.line_txn.specs.Store.{logged_lines}

-- data lines and what is to be written to them, in order
abbrev pub Entries : Type 0
Entries = List (ℕ × Line)

pub record TxnState : Type 0 where
  -- geometry, keys, device, engine and marks
  pub session : LineSession
  -- the data lines with the transaction in force, and the targets of that
  pub memory : Memory
  pub in_force : List ℕ
  -- the page of the spent line that the store is stuck at; none without power
  pub stuck : Option ℕ
  -- the open transaction; none without power
  pub txn : Option Entries

-- ---- what it says

-- the geometry, and a suite's formulas under the session's keys
abbrev pub txn_setup_in : (List ℕ → Formulas) → TxnState → Setup
txn_setup_in formulas_of state = setup_in formulas_of state.session

-- how many data lines there are
abbrev pub txn_lines_in : TxnState → ℕ
txn_lines_in state = logged_lines state.session.shape

-- the targets of the header
abbrev pub targets_in_force : Setup → Memory → List ℕ
targets_in_force setup places =
    let header = line_at places (logged_lines setup.shape) in targets_in header (slice_index header.0 0)

-- the data lines with the bodies put into those
abbrev pub redone_memory : Setup → Memory → Memory
redone_memory setup places =
    memory_in (logged_lines setup.shape) (targets_in_force setup places) places

-- the state of a session, stuck at a page or not, with this transaction open: memory and targets are what its marks say
abbrev pub txn_left : Setup → LineSession → Option ℕ → Option Entries → TxnState
txn_left setup session stuck txn =
    let places = places_in setup session in
    record {
      session = session;
      memory = redone_memory setup places;
      in_force = targets_in_force setup places;
      stuck = stuck;
      txn = txn;
    }

-- ---- a transaction

-- what a transaction holds for a data line
abbrev pub entry_in : Entries → ℕ → Option Line
entry_in [] a = None
entry_in (entry ∷ entries) a = if entry.0 == a then Some entry.1 else entry_in entries a

-- a line is put in the place of an earlier one, or at the end
abbrev pub with_put_line : Entries → ℕ → Line → Entries
with_put_line [] a line = (a, line) ∷ []
with_put_line (entry ∷ entries) a line =
    if entry.0 == a then (a, line) ∷ entries else entry ∷ with_put_line entries a line

-- ---- the writes of the engine, in order

-- bodies go from line k on
abbrev pub body_writes : ℕ → List Line → List Posted
body_writes k [] = []
body_writes k (body ∷ bodies) = whole_write k body ∷ body_writes (k + 1) bodies

abbrev pub target_writes : Entries → List Posted
target_writes entries = map (λ entry. whole_write entry.0 entry.1) entries

-- a commit's: the bodies, the header, the targets, and the zero header; without lines none
abbrev pub commit_writes : ℕ → Entries → List Posted
commit_writes n [] = []
commit_writes n (entry ∷ entries) =
    body_writes (n + 1) (bodies_of (entry ∷ entries))
    ++ (whole_write n (header_of (targets_of (entry ∷ entries))) ∷ target_writes (entry ∷ entries))
    ++ (whole_write n zero_line ∷ [])

-- a redo's: the targets from their bodies, and the zero header; without targets none
abbrev pub redo_writes : ℕ → List ℕ → Memory → List Posted
redo_writes n [] places = []
redo_writes n (target ∷ targets) places =
    target_writes (entries_in n (target ∷ targets) places) ++ (whole_write n zero_line ∷ [])

-- ---- the state after

abbrev pub txn_without_power : TxnState → TxnState
txn_without_power state =
    record state { stuck = None; txn = None; session = without_power state.session }

-- So many of a commit's writes were done. With the header, which comes after the bodies, the transaction is in
-- memory and in force; with the last one it is in force no more.
abbrev pub with_commit : TxnState → Entries → ℕ → TxnState
with_commit state entries done =
    let closed = record state { txn = None } in
    if nat_lt (length entries) done then
    record closed {
      memory = put_lines entries state.memory;
      in_force = if done == 2 * length entries + 2 then [] else targets_of entries;
    }
    else closed

-- that many of a redo's writes were done: memory stays, and with the last one the transaction is in force no more
abbrev pub with_redo : TxnState → ℕ → TxnState
with_redo state done =
    record state { in_force = if nat_lt (length state.in_force) done then [] else state.in_force }

-- ---- the beginning

-- A new session's device, whose lines are all zeros, with no transaction in force or open.
pub record IsNewTxn (setup : Setup) (state : TxnState) : Type 0 where
  pub session : IsNewSession setup state.session
  pub memory : state.memory ≡ replicate (logged_lines setup.shape) zero_line
  pub in_force : state.in_force ≡ []
  pub stuck : state.stuck ≡ None
  pub txn : state.txn ≡ None
