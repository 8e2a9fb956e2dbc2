-- Power comes on in the session: what is held after recovery, the opening and its redo, and what is answered.
use Rattle.std.proofs.Common.{ℕ, ◌≡◌, ◌<◌, ◌≤◌, ◌+◌, ◌⊎◌, inl, inr, true, false, cond, List, [], length, take, Option, Some, None, Result, Ok, Err, refl, sym, ap, ap₂, subst, ◌∙◌, arith, rules}
use Rattle.txn_session.proofs.Common.{option_map, open_call, MatchOption, le-ltb, true≢false, append-nil, Line, Twin, Posted, Device, LedgerState, Setup, recovery_bound, Fault, EngineState, Parts, parts_of, AreSound, HasReadLine, TakesAtMost, TakesFewer, Store, Opened, TxnFault, redoing_edits, HasStoreStarted, HasFailedRedo, HasTargetsRedone, IsOpenedBy, Writing, read_steps, sound_recovered, fewer_within, at_most, fewer, memory_done, read_cut, TxnAnswer, Regs, Chip, chip_of, OpeningStop, opened_of, FollowsOpening, IsOpenedAs, LineSession, started_as, HasOpenedStore, IsStoreOpening, IsTxnCalled, Said, open_said, opened_said, serving_said, TxnState, txn_left, IsTxnWorld, stuck_in, IsTxnAnswered, IsTxnShownBy, GoesToTxnState, HasTxnOpened, after_redo, IsCutAt, EndsAt, refused_from, turned_off, HasTurned, IsCutInRecovery, HasShownTwin, setup_in, chip_in, on_chip, TxnStore, txn_store}
use Rattle.pmem_engine.specs.declared.fault.Fault.TheVariants as Fail
use Rattle.pmem_recovery.specs.declared.faults.RecFault.TheVariants as Rec
use Rattle.line_txn.specs.declared.store.TxnFault.TheVariants as Txn
use Rattle.line_session.specs.declared.starts.StartFault.TheVariants as Start
use Rattle.txn_session.specs.declared.commands.TxnCommand.TheVariants as Do
use Rattle.txn_session.specs.declared.answers.TxnAnswer.TheVariants as Say
use Rattle.txn_session.proofs.AnswerClauses.{on_undecided, served}
use Rattle.txn_session.proofs.RedoLists.{none_redone, few_redone}
use Rattle.txn_session.proofs.Starts.{OnTxnCall}
use Rattle.txn_session.proofs.RedoEnds as redo
use Rattle.txn_session.proofs.RedoStates as state

-- a start that comes to the opening says what the store serves
open_is : (left : LineSession) (steps : ℕ) (end : Result (List ℕ × Regs) OpeningStop)
    → open_said left steps (started_as end) ≡ serving_said left steps (opened_of end)
open_is left steps (Ok redone) = refl
open_is left steps (Err stopped) = refl

abbrev nothing_done : Writing
nothing_done = record { done = 0; made = [] }

module _ (c : OnTxnCall) where
  abbrev setup : Setup
  setup = state.setup c

  abbrev old : TxnState
  old = state.old c

  abbrev new : TxnState
  new = state.new c

  abbrev n : ℕ
  n = state.n c

  abbrev targets : List ℕ
  targets = state.targets c

  abbrev queue : List Posted
  queue = state.queue c

  abbrev most : ℕ
  most = state.most c

  -- ---- the answers

  abbrev pub OpenExit : TxnAnswer → Type 0
  OpenExit answer = IsTxnWorld (setup_in c.formulas_of c.new.state) c.new None × IsTxnAnswered setup old Do.On answer new

  exit_of : (answer : TxnAnswer) → IsTxnWorld (setup_in c.formulas_of c.new.state) c.new None → HasTxnOpened setup old answer new
      → IsTxnCalled setup old Do.On answer new → OpenExit answer
  exit_of answer held it called = (held, served setup old new Do.On answer (on_undecided old (state.off c).unpowered) it called)

  -- no engine is there
  no_engine : (dropped : EngineState) → c.new.store ≡ None → c.new.state.board.powered ≡ false
      → c.new.state.engine ≡ cond c.new.state.board.powered (Some (on_chip dropped)) None
  no_engine dropped gone dark = search (rules, option_map)

  -- ---- the header was read, and its transaction redone, or power was cut

  module _ (opened : Result (Store × Opened) TxnFault)
      (it : HasTurned setup (λ engine start now. IsStoreOpening setup engine start now) c.steps opened c.old.state c.new.state) where
    abbrev bound : ℕ
    bound = recovery_bound setup.shape

    abbrev to : Device
    to = state.to c opened it

    abbrev parts_to : EngineState → Parts
    parts_to kept = parts_of kept to c.new.state.ledger c.new.state.tags c.new.state.digests

    abbrev first : Parts
    first = state.parts_from c opened it

    abbrev middle : Parts
    middle = state.parts_between c opened it

    abbrev chip_between : Chip
    chip_between = chip_of it.engine c.old.state.ledger it.suite_between.tags it.suite_between.digests

    abbrev Along : Store → Opened → Type 0
    Along store opened = IsOpenedAs setup it.between.regs chip_between it.between to (chip_in c.new.state (on_chip store.engine)) store opened

    abbrev CutAlong : Type 0
    CutAlong =
        (now : EngineState) × FollowsOpening setup it.between.regs chip_between it.between to (chip_in c.new.state (on_chip now)) (Err (Txn.Engine Fail.Cut))

    redo_ends : (found : List ℕ) (new : Parts) (answer : Result (Unit {0}) Fault) → HasTargetsRedone setup found middle new answer
        → EndsAt setup first queue 0 (length (redoing_edits n targets)) most answer new
    redo_ends found new answer it_redone =
        redo.redo_ends setup c.world.whole_shape first middle bound c.held.logged (state.recovered_to c opened it) found new answer it_redone

    at_most_taken : TakesAtMost most (state.from c) to → c.steps ≤ most
    at_most_taken takes = subst (λ s. s ≤ most) (sym it.its_steps) (at_most it.taken most it.watched.follows.few takes.sum)

    fewer_taken : TakesFewer most (state.from c) to → c.steps < most
    fewer_taken takes = subst (λ s. s < most) (sym it.its_steps) (fewer it.taken most it.watched.follows.few takes.sum)

    lit_call : (store : Store) (opened : Opened) (said : TxnAnswer) → Along store opened → c.new.store ≡ Some (txn_store store) → c.new.state.board.powered ≡ true
        → said ≡ opened_said opened.redone c.steps store.stuck → IsTxnCalled setup old Do.On said new
    lit_call store opened_so said along there lit is =
        state.called c said (started_as along.opening.end) (state.opened_along c opened it along.opening.end store.engine
        (c.left.its_engine ∙ ap (option_map (λ (s : TxnStore). on_chip s.inner.engine)) there ∙ sym (ap (λ b. cond b (Some (on_chip store.engine)) None) lit))
        (λ dark. absurd (true≢false (sym lit ∙ dark))) along.opening.follows)
        (ap₂ (λ (a : TxnAnswer) (s : Option ℕ). (let last : Said = (a, (s, None)) in last)) is
        (ap stuck_in there ∙ sym (ap (λ b. cond b store.stuck None) lit))
        ∙ ap (serving_said c.new.state c.steps) along.opening.its_answer ∙ sym (open_is c.new.state c.steps along.opening.end))

    cut_call : CutAlong → c.new.store ≡ None → c.new.state.board.powered ≡ false → c.steps < most → IsTxnCalled setup old Do.On (Say.Cut c.steps) new
    cut_call along gone dark below =
        state.called c (Say.Cut c.steps) (started_as along.1.end)
        (state.opened_along c opened it along.1.end along.0 (no_engine along.0 gone dark) (λ off. state.few_steps c below) along.1.follows)
        (ap (λ (s : Option ℕ). (let last : Said = (Say.Cut c.steps, (s, None)) in last)) (ap stuck_in gone)
        ∙ ap (serving_said c.new.state c.steps) along.1.its_answer ∙ sym (open_is c.new.state c.steps along.1.end))

    -- by whether the store is stuck
    abbrev pub Opens : Opened → Type 0
    Opens opened = MatchOption opened.stuck (OpenExit (Say.Opened opened.redone c.steps)) (λ page. OpenExit (Say.Stuck page c.steps))

    opened_exit : (store : Store) (opened : Opened) → c.new.store ≡ Some (txn_store store) → HasStoreStarted setup middle (parts_to store.engine) store opened
        → Along store opened → Opens opened
    opened_exit store opened_so there its along = go its.redone its.its_end (redo_ends its.targets (parts_to store.engine) its.redone its.was_redone)
      where
        same : its.targets ≡ targets
        same = redo.found_targets setup c.world.whole_shape first middle bound c.held.logged (state.recovered_to c opened it) its.was_redone.between its.was_redone.line its.targets its.was_redone.was_read its.was_redone.header

        go : (redone : Result (Unit {0}) Fault) → IsOpenedBy redone store.lines its.targets store opened_so
            → EndsAt setup first queue 0 (length (redoing_edits n targets)) most redone (parts_to store.engine) → Opens opened_so
        go (Ok done) by gone =
            let writing : Writing = record { done = length (redoing_edits n targets); made = gone.made } in
            let come : state.HasTxnCome c writing =
            state.come_to c writing gone.done.marks (memory_done setup first (parts_to store.engine) (take writing.done queue) gone.made most gone.done) in
            let stuck : store.stuck ≡ old.stuck = by.1 ∙ sym (ap stuck_in c.there) in
            subst (λ o. MatchOption o (OpenExit (Say.Opened opened_so.redone c.steps)) (λ page. OpenExit (Say.Stuck page c.steps))) (sym by.2)
            (exit_of (Say.Opened opened_so.redone c.steps) (state.lit_world c writing come store there (by.0 ∙ sym (none_redone n targets)))
            (let said : HasTxnOpened setup old (Say.Opened opened_so.redone c.steps) new =
            record {
              writing = writing;
              came = (sym (state.count_is c), (omega (arith, (state.count_is c)), gone.done.asked));
              ends = (
                its.its_count ∙ ap length same,
                subst (λ s. GoesToTxnState (record (after_redo old writing) { stuck = s }) c.steps most new) stuck
                    (state.goes c writing come store there gone.done.live gone.done.loss (at_most_taken gone.done.takes)),
              );
            } in said)
            (lit_call store opened_so (Say.Opened opened_so.redone c.steps) along there gone.done.live
            (sym (ap (opened_said opened_so.redone c.steps) by.1))))
        go (Err (Fail.Spent page)) by spent =
            let writing : Writing = record { done = spent.count; made = spent.made } in
            let come : state.HasTxnCome c writing =
            state.come_to c writing spent.done.marks (memory_done setup first (parts_to store.engine) (take spent.count queue) spent.made most spent.done) in
            let high = spent.high in
            let before : spent.count ≤ length targets = let all = few_redone n targets in omega (arith, high, all) in
            subst (λ o. MatchOption o (OpenExit (Say.Opened opened_so.redone c.steps)) (λ page. OpenExit (Say.Stuck page c.steps))) (sym by.2)
            (exit_of (Say.Stuck page c.steps) (state.lit_world c writing come store there
            (by.0 ∙ same ∙ sym (ap (λ b. cond b [] targets) (le-ltb (length targets) spent.count before))))
            (let said : HasTxnOpened setup old (Say.Stuck page c.steps) new =
            record {
              writing = writing;
              came = spent.next;
              ends =
                  subst (λ s. GoesToTxnState (record (after_redo old writing) { stuck = s }) c.steps most new) by.1
                  (state.goes c writing come store there spent.done.live spent.done.loss (at_most_taken spent.done.takes));
            } in said)
            (lit_call store opened_so (Say.Stuck page c.steps) along there spent.done.live (sym (ap (opened_said opened_so.redone c.steps) by.1))))
        go (Err fault) by ends = absurd by

    -- power was cut in the redo
    redo_cut_exit : (dropped : EngineState) → c.new.store ≡ None → HasFailedRedo setup middle (parts_to dropped) Fail.Cut → CutAlong → OpenExit (Say.Cut c.steps)
    redo_cut_exit dropped gone redone along =
        let end : IsCutAt setup first queue 0 (length (redoing_edits n targets)) most (parts_to dropped) = search (rules, redo_ends) in
        let come : state.HasTxnCome c end.writing = state.come_to c end.writing end.cut.marks end.cut.memory in
        let few = fewer_taken end.cut.takes in
        exit_of (Say.Cut c.steps) (state.dark_world c end.writing come gone)
        (state.cut_seen c end.writing come end.came gone end.cut.dark end.cut.loss few) (cut_call along gone end.cut.dark few)

    -- or in the reading of the header
    read_cut_exit : (dropped : EngineState) → c.new.store ≡ None → HasReadLine setup n middle (parts_to dropped) (Err Fail.Cut) → CutAlong
        → OpenExit (Say.Cut c.steps)
    read_cut_exit dropped gone was along =
        let cut = read_cut setup first middle [] [] bound (state.recovered_to c opened it) n (parts_to dropped) was in
        let come : state.HasTxnCome c nothing_done = state.still_come c (cut.marks ∙ append-nil c.old.state.ledger.marks) in
        let few = fewer_taken (fewer_within (state.from c) to (bound + read_steps setup.shape) most (omega arith) cut.takes) in
        exit_of (Say.Cut c.steps) (state.dark_world c nothing_done come gone)
        (state.cut_seen c nothing_done come (inl (omega arith, refl)) gone cut.dark cut.loss few) (cut_call along gone cut.dark few)

    did : HasOpenedStore setup middle parts_to opened
    did = it.opened.did (ap (λ (e : EngineState). e.down) it.recovered.engine)

    sound : AreSound setup middle
    sound = sound_recovered setup c.old.state.ledger (state.lit c) it.between _ it.suite_between it.engine it.work it.recovered (state.off c).durable

  pub on_exit : (store : Store) (opened : Opened) → c.new.store ≡ Some (txn_store store)
      → (it : HasTurned setup (λ engine start now. IsStoreOpening setup engine start now) c.steps (Ok (store, opened)) c.old.state c.new.state)
      → Opens (Ok (store, opened)) it opened
  on_exit store opened there it = let its = did (Ok (store, opened)) it in opened_exit (Ok (store, opened)) it store opened there its.opened its.plan

  -- the opening was cut
  unopened : (fault : TxnFault) → c.new.store ≡ None
      → HasTurned setup (λ engine start now. IsStoreOpening setup engine start now) c.steps (Err fault) c.old.state c.new.state → OpenExit (Say.Cut c.steps)
  unopened (Txn.Engine Fail.Cut) gone it =
      let its = did (Err (Txn.Engine Fail.Cut)) it in
      elim its.opened.1 [
        | inl read ↦ read_cut_exit (Err (Txn.Engine Fail.Cut)) it its.opened.0 gone read its.plan
        | inr redo ↦ redo_cut_exit (Err (Txn.Engine Fail.Cut)) it its.opened.0 gone redo its.plan
      ]
  unopened (Txn.Engine (Fail.Spent page)) gone it = elim (did _ it).opened.1 [ inl read ↦ absurd read.possible | inr redo ↦ absurd redo.unspent ]
  unopened (Txn.Engine fault) gone it =
      let its = did (Err (Txn.Engine fault)) it in
      elim its.opened.1 [
        | inl read ↦ absurd (read.unrefused (sound (Err (Txn.Engine fault)) it))
        | inr redone ↦
            absurd (redo_ends (Err (Txn.Engine fault)) it redone.targets (parts_to (Err (Txn.Engine fault)) it its.opened.0) (Err fault) redone.was_redone)
      ]
  unopened (Txn.Header line) gone it = search (rules, did, recovery_bound)

  pub cut_exit : c.new.store ≡ None
      → IsCutInRecovery setup c.steps c.old.state c.new.state
      ⊎ ((fault : TxnFault) × HasTurned setup (λ engine start now. IsStoreOpening setup engine start now) c.steps (Err fault) c.old.state c.new.state)
      → OpenExit (Say.Cut c.steps)
  cut_exit gone (inl it) =
      let come = state.still_come c (ap (λ (l : LedgerState). l.marks) it.ledger) in
      let low = it.few in
      let few : c.steps < most = omega (arith, low) in
      exit_of (Say.Cut c.steps) (state.dark_world c nothing_done come gone)
      (state.cut_seen c nothing_done come (inl (omega arith, refl)) gone it.dark it.loss few)
      (state.called c (Say.Cut c.steps) (Err (Start.Recovery Rec.Cut))
      (turned_off setup (open_call setup) c.steps c.old.state c.new.state c.world.whole_shape (state.was_off c)
      (c.left.its_engine ∙ ap (option_map (λ (s : TxnStore). on_chip s.inner.engine)) gone) it)
      (ap (λ (s : Option ℕ). (let last : Said = (Say.Cut c.steps, (s, None)) in last)) (ap stuck_in gone)))
  cut_exit gone (inr it) = unopened it.0 gone it.1

  -- a twin is shown
  pub twin_shown : (at major low high : ℕ) (cipher : Line) (tag : List ℕ) (left : LineSession)
      → HasShownTwin setup c.old.state at major low high cipher tag left
      → IsTxnShownBy setup old Do.On (Twin at major low high cipher tag) (txn_left setup left None None)
  twin_shown at major low high cipher tag left it = (
    (state.off c).unpowered,
    it.within,
    it.exhibit,
    it.twin,
    refused_from setup (open_call setup) c.old.state (Rec.Twin at major low high cipher tag) left (state.was_off c) it.refused,
    refl,
  )
