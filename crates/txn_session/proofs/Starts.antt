-- Recovery, and then the opening of the store: the steps of both, and what is known of them.
use Rattle.std.proofs.Common.{ℕ, ◌≡◌, ◌≤◌, ◌+◌, ◌*◌, Bool, true, false, List, Option, None, mul-le-mul, arith}
use Rattle.txn_session.proofs.Common.{Shape, IsShape, Formulas, recovery_bound, step_limit, read_steps, write_steps, if◌then◌else◌, ◌==◌, Entries, IsTxnWorld, most_of_redo, few_of_start, StoreSession, IsLineWorld, setup_in, TxnStore}
use Rattle.pmem_engine.proofs.Laws.PolicyBounds.{begun_most}
use Rattle.txn_session.proofs.Worlds.{engine_of}

pub few_of_on : (g : Shape) → IsShape g → (count : ℕ) → count ≤ 15 → recovery_bound g + read_steps g + most_of_redo g count ≤ step_limit
few_of_on g shape count few =
    let start = few_of_start g shape in
    let each : read_steps g + write_steps g ≤ 512 = omega (arith, shape.at_most_six_levels, begun_most g shape.persists_path) in
    let all : count * (read_steps g + write_steps g) ≤ 15 * 512 = mul-le-mul few each in
    let redo : most_of_redo g count ≤ 16 * 512 = by_count (count == 0) each all in
    omega (arith, start, redo)
  where
    by_count : (none : Bool) → read_steps g + write_steps g ≤ 512 → count * (read_steps g + write_steps g) ≤ 15 * 512
        → (if none then 0 else count * (read_steps g + write_steps g) + write_steps g) ≤ 16 * 512
    by_count true each all = omega arith
    by_count false each all = omega (arith, each, all)

-- the session before power comes on, and after it
pub record OnTxnCall : Type 0 where
  pub formulas_of : List ℕ → Formulas
  pub old : StoreSession TxnStore
  pub new : StoreSession TxnStore
  pub txn : Option Entries
  pub world : IsLineWorld engine_of (setup_in formulas_of old.state) old
  pub held : IsTxnWorld (setup_in formulas_of old.state) old txn
  pub there : old.store ≡ None
  pub left : IsLineWorld engine_of (setup_in formulas_of old.state) new
  pub steps : ℕ
  pub shape : new.state.shape ≡ old.state.shape
  pub keys : new.state.keys ≡ old.state.keys
