-- The calls of a store leave sound lines sound, or power is cut.
use Rattle.std.proofs.Common.{ℕ, ◌≡◌, ◌+◌, ◌*◌, Bool, true, false, List, [], ◌∷◌, inl, inr, length, take, Result, Ok, Err, sym, subst, refl, rules}
use Rattle.std.specs.Prelude.{◌||◌, not, IfOk}
use Rattle.txn_session.proofs.Common.{Mark, Posted, IsShape, Setup, data_lines, Fault, EngineState, Parts, AreSound, Store, Opened, Committed, CommitFault, TxnFault, AreDistinctBelow, targets_of, IsWholeTxn, HasStoreCommitted, HasStoreStarted, IsOpenedBy, IsStoreOpening, HasOpenedStore, logged_lines, redoing_edits, AreDone, none_done, read_cut, read_steps, Entries, commit_writes, most_of_commit, most_of_redo, EndsAt, HoldsLogged}
use Rattle.pmem_engine.specs.declared.fault.Fault.TheVariants as Fail
use Rattle.line_txn.specs.declared.store.Committed.TheVariants as Do
use Rattle.line_txn.specs.declared.store.TxnFault.TheVariants as Txn
use Rattle.call_effects.specs.Outcomes.{Outcome, is_going, going}
use Rattle.pmem_engine.specs.Outcomes.{outcome_of_fault}
use Rattle.line_txn.specs.Store.{commit_outcome_by}
use Rattle.line_session.specs.Kept.{IsLeft, IsLeftOn, IsOpenedOn, OpensLines, is_fault_cut}
use Rattle.line_session.proofs.KeptLines.{done_left, cut_left, still_up}
use Rattle.txn_session.specs.StoreCalls.{is_commit_cut}
use Rattle.txn_session.proofs.CommitEnds.{CommitEndsAt, FailsTxnAt, commit_ends_at}
use Rattle.txn_session.proofs.RedoEnds as redo

-- ---- a commit

module _ (setup : Setup) (old new : Store) (from to : Parts) (sound : AreSound setup from) (live : from.device.live ≡ true)
    (size : old.lines + 16 ≡ data_lines setup.shape) (up : old.engine.down ≡ false) where
  left : (writes : List Posted) (made : List Mark) (most : ℕ) → AreDone setup from writes made most to → (outcome : Outcome) → is_going outcome ≡ true
      → new.engine.down ≡ (old.engine.down || not (is_going outcome)) → IsLeft setup false new.engine from to
  left writes made most done outcome goes after = search (rules, done_left, still_up)

  module _ (queue : List Posted) (count most : ℕ) where
    failed : (fault : Fault) (committed : Bool) → new.engine.down ≡ (old.engine.down || not (is_going (outcome_of_fault fault)))
        → FailsTxnAt setup from queue count most fault committed to → IsLeft setup (is_fault_cut fault) new.engine from to
    failed (Fail.Spent page) committed after end = left (take end.count queue) end.made most end.done going refl after
    failed Fail.Cut true after end = cut_left setup from to (take end.writing.done queue) end.writing.made most new.engine end.cut
    failed Fail.Cut false after end = cut_left setup from to (take end.writing.done queue) end.writing.made most new.engine end.cut
    failed fault committed after end = absurd end

    ended_left : (answer : Result Committed CommitFault) → new.engine.down ≡ (old.engine.down || not (is_going (commit_outcome_by answer)))
        → CommitEndsAt setup from queue count most answer to → IsLeft setup (is_commit_cut answer) new.engine from to
    ended_left (Ok Do.Applied) after end = left (take (2 * count + 2) queue) end.made most end.done going refl after
    ended_left (Ok (Do.Stuck page)) after end = left (take end.count queue) end.made most end.done going refl after
    ended_left (Err fault) after end = failed fault.fault fault.committed after end

  pub commit_keeps : (txn : Entries) (answer : Result Committed CommitFault) → AreDistinctBelow old.lines (targets_of txn) → IsWholeTxn txn
      → HasStoreCommitted setup txn old new from to answer
      → new.engine.down ≡ (old.engine.down || not (is_going (commit_outcome_by answer))) → IsLeft setup (is_commit_cut answer) new.engine from to
  commit_keeps [] answer below whole it after =
      subst (λ a. new.engine.down ≡ (old.engine.down || not (is_going (commit_outcome_by a))) → IsLeft setup (is_commit_cut a) new.engine from to)
      (sym it.its_answer) (left [] [] 0 (subst (AreDone setup from [] [] 0) (sym it.nothing_done) (none_done setup from sound live)) going refl) after
  commit_keeps (entry ∷ txn) answer below whole it after =
      ended_left (commit_writes old.lines (entry ∷ txn)) (length (entry ∷ txn)) (most_of_commit setup.shape (length (entry ∷ txn))) answer after
      (commit_ends_at setup old.lines (entry ∷ txn) (search rules) from sound live size below whole old new to answer refl it)

-- ---- an opening

abbrev store_engine : Store × Opened → EngineState
store_engine opened = opened.0.engine

module _ (setup : Setup) (shape : IsShape setup.shape) (old : Parts) (now : EngineState → Parts) (sound : AreSound setup old)
    (live : old.device.live ≡ true) (holds : HoldsLogged setup old.ledger.marks) where
  abbrev n : ℕ
  n = logged_lines setup.shape

  begun : AreDone setup old [] [] 0 old
  begun = none_done setup old sound live

  opened_on : (store : Store) (opened : Opened) → HasStoreStarted setup old (now store.engine) store opened → store.engine.down ≡ false
      → IsLeftOn setup store.engine (now store.engine)
  opened_on store opened its up =
      go its.redone its.its_end (redo.redo_ends setup shape old old 0 holds begun its.targets (now store.engine) its.redone its.was_redone)
    where
      go : (redone : Result (Unit {0}) Fault) → IsOpenedBy redone store.lines its.targets store opened
          → EndsAt setup old (redo.queue setup shape old old 0 holds begun) 0 (length (redoing_edits n (redo.in_force setup shape old old 0 holds begun)))
          (0 + read_steps setup.shape + most_of_redo setup.shape (length (redo.in_force setup shape old old 0 holds begun))) redone (now store.engine)
          → IsLeftOn setup store.engine (now store.engine)
      go (Ok done) by gone = record { sound = gone.done.sound; live = gone.done.live; running = up }
      go (Err (Fail.Spent page)) by spent = record { sound = spent.done.sound; live = spent.done.live; running = up }
      go (Err fault) by ends = absurd by

  opening_on : (answer : Result (Store × Opened) TxnFault) → HasOpenedStore setup old now answer
      → IfOk answer (λ (opened : Store × Opened). opened.0.engine.down ≡ false) → IsOpenedOn store_engine setup now answer
  opening_on (Ok opened) its up = opened_on opened.0 opened.1 its.opened up
  opening_on (Err (Txn.Engine Fail.Cut)) its up =
      elim its.opened.1 [
        | inl read ↦ search (rules, read_cut)
        | inr redone ↦
            (let end = redo.redo_ends setup shape old old 0 holds begun redone.targets (now its.opened.0) (Err Fail.Cut) redone.was_redone in
            (its.opened.0, record { durable = end.cut.durable; dark = end.cut.dark; small_group = end.cut.small_group }))
      ]
  opening_on (Err (Txn.Engine (Fail.Spent page))) its up = search rules
  opening_on (Err (Txn.Engine fault)) its up = search rules
  opening_on (Err (Txn.Header line)) its up =
      absurd (its.opened.1.none (redo.in_force setup shape old old 0 holds begun)
      (redo.header_read setup shape old old 0 holds begun (now its.opened.0) line its.opened.1.was_read))

pub opening_keeps : (setup : Setup) (engine : EngineState) (old : Parts) (now : EngineState → Parts) (answer : Result (Store × Opened) TxnFault)
    → IsStoreOpening setup engine old now answer → OpensLines store_engine HoldsLogged setup engine old now answer
opening_keeps setup engine old now answer it shape up live sound holds = opening_on setup shape old now sound live holds answer (it.did up) it.up
