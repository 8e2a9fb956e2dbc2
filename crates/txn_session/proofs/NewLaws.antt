-- A new session: formatting, and the opening of zero lines.
use Rattle.std.proofs.lemmas.Grind.{common_steps}
use Rattle.std.proofs.Common.{ℕ, ◌≡◌, ◌<◌, ◌+◌, inl, inr, List, [], replicate, Some, None, Result, Ok, Err, refl, sym, ap, subst, subst₂, ◌∙◌, arith, rules}
use Rattle.txn_session.proofs.Common.{true≢false, get_or-replicate, Line, LineSession, Mark, line_at, zero_line, Shape, device_of, Setup, plain_memory, Fault, EngineState, IsSound, Parts, parts_of, HasReadLine, Store, Opened, TxnFault, IsHeader, IsLogged, AreEdited, HasStoreOpened, HasStoreStarted, HasTargetsRedone, IsOpenedBy, IsStoreOpening, Follows, ended, chip_of, chip_in, open_call, logged_lines, one_header, zero_logged, logged_size, IsNewTxn, targets_in_force, txn_left, IsTxnWorld, IsOpenBy, HoldsLogged, StoreSession, Formulas, setup_in, txn_of, stuck_in, on_chip, TxnStore, txn_store}
use Rattle.pmem_base.specs.Layout as layout
use Rattle.pmem_recovery.specs.Formatting.{HasFormatted}
use Rattle.line_session.proofs.NewSessions.{zero_places, marks_stay, new_session}
use Rattle.line_session.specs.State.{IsNewSession}
use Rattle.line_session.specs.New.{HoldsZeros, HasOpenedNew, IsNewByPlan, blank_device, tags_formatted, digests_formatted}
use Rattle.pmem_engine.specs.declared.fault.Fault.TheVariants as Fail
use Rattle.line_txn.specs.declared.store.TxnFault.TheVariants as Txn
use Rattle.txn_session.proofs.Worlds.{few_lines, targets_held, memory_held, logged_is}

-- what formatting and the opening leave
pub record NewTxnCall : Type 0 where
  pub setup : Setup
  pub tags : ℕ
  pub digests : ℕ
  pub answer : Result (Store × Opened) TxnFault
  pub left : LineSession
  pub it : HasOpenedNew setup (λ engine old now. IsStoreOpening setup engine old now) tags digests answer left

-- zero lines are those of a store
zeros_logged : (setup : Setup) (lines : List Line) → lines ≡ replicate (layout.data_lines setup.shape) zero_line
    → IsLogged (logged_lines setup.shape) lines [] (replicate (logged_lines setup.shape) zero_line)
zeros_logged setup lines zeros = grind (arith, common_steps, logged_size, zero_logged)

pub holds_zeros : (setup : Setup) → HoldsZeros HoldsLogged setup
holds_zeros setup shape marks zeros = search (rules, logged_is, plain_memory, zeros_logged)

module _ (c : NewTxnCall) where
  abbrev g : Shape
  g = c.setup.shape

  abbrev n : ℕ
  n = logged_lines g

  abbrev from : Parts
  from = parts_of c.it.engine (device_of c.it.middle) c.it.ledger (tags_formatted g c.tags) (digests_formatted g c.digests)

  abbrev to : EngineState → Parts
  to now = parts_of now (device_of c.left.board) c.left.ledger c.left.tags c.left.digests

  sound : IsSound c.setup (on_chip c.it.engine) c.it.middle.lines c.it.middle.regs c.it.ledger
  sound = c.it.formatted.sound c.it.middle.lines refl

  places : plain_memory c.setup c.it.ledger.marks ≡ replicate (layout.data_lines g) zero_line
  places = zero_places c.setup (blank_device g) c.it.middle c.it.ledger c.it.engine c.it.formatted

  size : n + 16 ≡ layout.data_lines g
  size = logged_size g

  begun : IsLogged n (plain_memory c.setup c.it.ledger.marks) [] (replicate n zero_line)
  begun = zeros_logged c.setup (plain_memory c.setup c.it.ledger.marks) places

  header_inside : n < layout.data_lines g
  header_inside = let its = size in omega (arith, its)

  -- the header that is read has no targets
  header_read : (new : Parts) (line : Line) → HasReadLine c.setup n from new (Ok line) → IsHeader n line []
  header_read new line it =
      let plain = (it.answered sound.trusted).0 in
      let zero = c.it.formatted.plain n header_inside in
      let same : line ≡ zero_line = let both : Some line ≡ Some zero_line = sym plain ∙ zero in search (rules, both) in
      let here : line_at _ n ≡ zero_line = ap (λ l. line_at l n) places ∙ get_or-replicate _ n zero_line zero_line header_inside in
      subst (λ l. IsHeader n l []) (here ∙ sym same) begun.header

  no_targets : (new : Parts) (line : Line) (found : List ℕ) → HasReadLine c.setup n from new (Ok line) → IsHeader n line found → found ≡ []
  no_targets new line found read header =
      one_header n line found [] (let few = few_lines g c.it.whole in omega (arith, few)) header (header_read new line read)

  -- so the redo does nothing: the header is read
  record IsReadAlone (found : List ℕ) (new : Parts) (redone : Result (Unit {0}) Fault) : Type 0 where
    line : Line
    was_read : HasReadLine c.setup n from new (Ok line)
    none : found ≡ []
    done : redone ≡ Ok tt

  read_alone : (found : List ℕ) (new : Parts) (redone : Result (Unit {0}) Fault) → HasTargetsRedone c.setup found from new redone
      → IsReadAlone found new redone
  read_alone found new redone it =
      let none = no_targets it.between it.line found it.was_read it.header in
      let nothing : AreEdited c.setup [] it.between new redone = search (rules, AreEdited) in
      record {
        line = it.line;
        was_read = subst (λ q. HasReadLine c.setup n from q (Ok it.line)) (sym nothing.1) it.was_read;
        none = none;
        done = nothing.0;
      }

  -- ---- the answers

  module _ (store : Store) (line : Line) (was : HasReadLine c.setup n from (to store.engine) (Ok line)) (log : store.logged.items ≡ [])
      (unstuck : store.stuck ≡ None) where
    marks : c.left.ledger.marks ≡ c.it.ledger.marks
    marks =
        marks_stay c.setup (blank_device g) c.it.middle c.it.ledger c.it.engine c.it.formatted c.left store.engine (tags_formatted g c.tags)
        (digests_formatted g c.digests) n line was

    new : c.left.shape ≡ c.setup.shape → IsNewSession c.setup c.left
    new shape =
        new_session c.setup (blank_device g) c.it.middle c.it.ledger c.it.engine c.it.formatted c.left store.engine (tags_formatted g c.tags)
        (digests_formatted g c.digests) n line was refl refl refl shape

    logged : IsLogged n (plain_memory c.setup c.left.ledger.marks) [] (replicate n zero_line)
    logged = subst (λ (m : List Mark). IsLogged n (plain_memory c.setup m) [] (replicate n zero_line)) (sym marks) begun

    none_in_force : targets_in_force c.setup (plain_memory c.setup c.left.ledger.marks) ≡ []
    none_in_force = targets_held c.setup c.it.whole (plain_memory c.setup c.left.ledger.marks) (replicate n zero_line) [] logged

    new_world : (session : StoreSession TxnStore) → session.state ≡ c.left → session.store ≡ Some (txn_store store) → IsTxnWorld c.setup session None
    new_world session is there =
        record {
          logged =
              subst (λ (s : LineSession). HoldsLogged c.setup s.ledger.marks) (sym is)
              (logged_is c.setup c.it.whole (plain_memory c.setup c.left.ledger.marks) (replicate n zero_line) [] logged);
          its_txn =
              subst₂ (λ (s : LineSession) k. IsOpenBy c.setup (targets_in_force c.setup (plain_memory c.setup s.ledger.marks)) k None) (sym is) (sym there)
              (log ∙ sym none_in_force, tt);
        }

    new_state : c.left.shape ≡ c.setup.shape → IsNewTxn c.setup (txn_left c.setup c.left store.stuck None)
    new_state shape =
        record {
          session = new shape;
          memory = memory_held c.setup c.it.whole (plain_memory c.setup c.left.ledger.marks) (replicate n zero_line) [] logged;
          in_force = none_in_force;
          stuck = unstuck;
          txn = refl;
        }

  -- the store is opened
  abbrev pub IsStored : Result (Store × Opened) TxnFault → Type 0
  IsStored (Ok both) =
      ((session : StoreSession TxnStore) → session.state ≡ c.left → session.store ≡ Some (txn_store both.0) → IsTxnWorld c.setup session None)
      × (c.left.shape ≡ c.setup.shape → IsNewTxn c.setup (txn_left c.setup c.left both.0.stuck None))
  IsStored (Err fault) = ⊥

  stored : (store : Store) (opened : Opened) → HasStoreStarted c.setup from (to store.engine) store opened → IsStored (Ok (store, opened))
  stored store opened it =
      let read = read_alone it.targets (to store.engine) it.redone it.was_redone in
      let by : IsOpenedBy (Ok tt) store.lines it.targets store opened =
      subst (λ r. IsOpenedBy r store.lines it.targets store opened) read.done it.its_end in (
        new_world store read.line read.was_read by.0 by.1,
        new_state store read.line read.was_read by.0 by.1,
      )

  fault_none : (fault : Fault) → (let done : Result (Unit {0}) Fault = Ok tt in Err fault ≡ done) → ⊥
  fault_none fault e = search rules

  pub new_outcome : IsStored c.answer
  new_outcome = go c.answer (c.it.opened.did (ap (λ (e : EngineState). e.down) c.it.formatted.engine_new)).opened
    where
      unread : (fault : Fault) (new : Parts) → HasReadLine c.setup n from new (Err fault) → ⊥
      unread Fail.Cut _ it = true≢false (sym c.it.formatted.steady ∙ it.done.gone.power.0)
      unread (Fail.Spent page) _ it = it.possible
      unread fault _ it = it.unrefused sound

      go : (answer : Result (Store × Opened) TxnFault) → HasStoreOpened c.setup from to answer → IsStored answer
      go (Ok both) it = stored both.0 both.1 it
      go (Err (Txn.Engine fault)) it =
          elim it.1 [
            | inl read ↦ absurd (unread fault (to it.0) read)
            | inr redo ↦ absurd (fault_none fault (read_alone redo.targets (to it.0) (Err fault) redo.was_redone).done)
          ]
      go (Err (Txn.Header line)) it = absurd (it.1.none [] (header_read (to it.0) line it.1.was_read))

-- the session that is new
pub new_session_held : (formulas_of : List ℕ → Formulas) (setup : Setup) (tags digests : ℕ) (session : StoreSession TxnStore) (store : Store) (opened : Opened)
    → session.store ≡ Some (txn_store store) → setup_in formulas_of session.state ≡ setup → session.state.shape ≡ setup.shape
    → HasOpenedNew setup (λ engine old now. IsStoreOpening setup engine old now) tags digests (Ok (store, opened)) session.state
    → IsTxnWorld (setup_in formulas_of session.state) session None × IsNewTxn setup (txn_of (setup_in formulas_of session.state) session None)
new_session_held formulas_of setup tags digests session store opened there same shape it =
    let its = new_outcome (record { setup = setup; tags = tags; digests = digests; answer = Ok (store, opened); left = session.state; it = it }) in
    subst (λ s. IsTxnWorld s session None × IsNewTxn setup (txn_of s session None)) (sym same) (
      its.0 session refl there,
      subst (λ k. IsNewTxn setup (txn_left setup session.state (stuck_in k) None)) (sym there) (its.1 shape),
    )

-- the store was opened along the opening's plan
pub new_opened : (setup : Setup) (tags digests : ℕ) (left : LineSession) (store : Store) (opened : Opened) → left.engine ≡ Some (on_chip store.engine)
    → HasOpenedNew setup (λ engine old now. IsStoreOpening setup engine old now) tags digests (Ok (store, opened)) left
    → IsNewByPlan setup (open_call setup) tags digests left
new_opened setup tags digests left store opened engine it =
    let up = ap (λ (e : EngineState). e.down) it.formatted.engine_new in
    let opening = (it.opened.did up).plan.opening in
    record {
      middle = it.middle;
      ledger = it.ledger;
      formatted =
          subst (λ (e : EngineState). HasFormatted setup it.ledger (blank_device setup.shape) (device_of it.middle) e) it.formatted.engine_new
          it.formatted;
      after = on_chip store.engine;
      end = opening.end;
      follows =
          subst (λ (e : EngineState).
          Follows
          (open_call setup it.middle.regs (chip_of e it.ledger (tags_formatted setup.shape tags) (digests_formatted setup.shape digests)))
          (device_of it.middle) (device_of left.board) (ended opening.end (chip_in left (on_chip store.engine)))) it.formatted.engine_new opening.follows;
      engine = engine;
      unsnapped = it.unsnapped;
    }
