-- What a session holds of its store, before and after a call.
use Rattle.std.proofs.Common.{ℕ, ◌≡◌, ◌<◌, ◌^◌, List, Option, Some, None, sym, ap, subst, subst₂, ◌∙◌, arith, rules}
use Rattle.txn_session.proofs.Common.{IfSome, line_at, Formulas, IsShape, Shape, Setup, Mark, Memory, plain_memory, EngineState, Store, AreTargets, IsLogged, memory_in, targets_of, logged_lines, targets_of_header, logged_size, few_data, Entries, targets_in_force, redone_memory, IsTxnWorld, HoldsLogged, StoreSession, IsLineWorld, line_on_in, setup_in, same_setup, TxnStore, txn_store}

abbrev pub engine_of : TxnStore → EngineState
engine_of store = store.inner.engine

-- ---- the log

pub few_lines : (g : Shape) → IsShape g → logged_lines g < 2 ^ 30
few_lines g shape = let few = few_data g shape in let size = logged_size g in omega (arith, few, size)

-- lines that hold a memory determine the targets in force, and the memory
module _ (setup : Setup) (shape : IsShape setup.shape) (lines memory : Memory) (targets : List ℕ)
    (it : IsLogged (logged_lines setup.shape) lines targets memory) where
  pub targets_held : targets_in_force setup lines ≡ targets
  targets_held = search (rules, targets_of_header, line_at, few_lines)

  pub memory_held : redone_memory setup lines ≡ memory
  memory_held = ap (λ ts. memory_in (logged_lines setup.shape) ts lines) targets_held ∙ it.its_memory

  pub logged_is : IsLogged (logged_lines setup.shape) lines (targets_in_force setup lines) (redone_memory setup lines)
  logged_is = subst₂ (λ ts m. IsLogged (logged_lines setup.shape) lines ts m) (sym targets_held) (sym memory_held) it

-- ---- what is held

-- what is known of the open transaction, if the store is stuck so
abbrev pub IsOpenTxn : Setup → Option ℕ → Option Entries → Type 0
IsOpenTxn setup stuck txn =
    IfSome txn (λ entries. (stuck ≡ None) × AreTargets (logged_lines setup.shape) (targets_of entries))

module _ (setup : Setup) (session : StoreSession TxnStore) (store : Store) (there : session.store ≡ Some (txn_store store)) where
  -- with power on, what is held of the store
  pub open_as : (txn : Option Entries) → IsTxnWorld setup session txn
      → (store.logged.items ≡ targets_in_force setup (plain_memory setup session.state.ledger.marks)) × IsOpenTxn setup store.stuck txn
  open_as txn held = search (rules, plain_memory)

  -- there are as many lines as the geometry says
  pub lines_are : IsLineWorld engine_of setup session → store.lines ≡ logged_lines setup.shape
  lines_are world = search (rules, logged_size, line_on_in)

  -- another transaction is open
  pub put_world : (txn later : Option Entries) → IsTxnWorld setup session txn → IsOpenTxn setup store.stuck later → IsTxnWorld setup session later
  put_world txn later held its_txn = search (rules, plain_memory, open_as)

-- without power none is open
pub none_open : (setup : Setup) (session : StoreSession TxnStore) (txn : Option Entries) → session.store ≡ None → IsTxnWorld setup session txn → txn ≡ None
none_open setup session txn none held = search (rules, plain_memory)

module _ (setup : Setup) (marks made : List Mark) (same : made ≡ marks) where
  -- if no mark is made
  pub logged_still : HoldsLogged setup marks → HoldsLogged setup made
  logged_still it = subst (HoldsLogged setup) (sym same) it

  pub same_memory : redone_memory setup (plain_memory setup made) ≡ redone_memory setup (plain_memory setup marks)
  same_memory = ap (λ (m : List Mark). redone_memory setup (plain_memory setup m)) same

  pub same_targets : targets_in_force setup (plain_memory setup made) ≡ targets_in_force setup (plain_memory setup marks)
  same_targets = ap (λ (m : List Mark). targets_in_force setup (plain_memory setup m)) same

module _ (formulas_of : List ℕ → Formulas) (old new : StoreSession TxnStore) (shape : new.state.shape ≡ old.state.shape)
    (keys : new.state.keys ≡ old.state.keys) (logged : HoldsLogged (setup_in formulas_of old.state) new.state.ledger.marks) where
  abbrev its_setup : Setup
  its_setup = setup_in formulas_of old.state

  abbrev targets_now : List ℕ
  targets_now = targets_in_force its_setup (plain_memory its_setup new.state.ledger.marks)

  -- after a call with power on
  pub on_after : (after : Store) (txn : Option Entries) → new.store ≡ Some (txn_store after) → after.logged.items ≡ targets_now → IsOpenTxn its_setup after.stuck txn
      → IsTxnWorld (setup_in formulas_of new.state) new txn
  on_after after txn is log its_txn = search (rules, same_setup)

  -- with power off
  pub off_after : new.store ≡ None → IsTxnWorld (setup_in formulas_of new.state) new None
  off_after is = search (rules, same_setup)
