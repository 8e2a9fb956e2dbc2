-- Power comes on in the session: the state once the first k writes of the redo are done.
use Rattle.std.proofs.Common.{ℕ, ◌≡◌, ◌<◌, ◌≤◌, ◌+◌, ◌^◌, ◌++◌, true, false, cond, List, [], length, take, Some, None, Result, refl, sym, ap, subst, ◌∙◌, arith, rules}
use Rattle.txn_session.proofs.Common.{Mark, option_map, nat_lt, le-ltb, append-nil, Posted, Device, BoardMemory, Setup, Memory, plain_memory, Moment, moment_after_writes, recovery_bound, EngineState, Parts, parts_of, Store, Opened, TxnFault, AreTargets, IsLogged, lines_opened, targets_opened, redoing_edits, logged_lines, kept_by_opening, logged_size, redoing_fit, step_limit, device_during, none_taken, Writing, IsCutAmong, recovered, whole_places, AreDone, Regs, ended, Follows, chip_of, OpeningStop, open_plan, StartFault, TxnAnswer, IsTxnCalled, Said, open_call, open_said, started_as, IsStoreOpening, TxnState, moment_in, redo_writes, targets_in_force, redone_memory, IsTxnWorld, stuck_in, txn_of, GoesToTxnState, HasTxnOpened, after_redo, txn_most_of_on, few_data, edits_memory, IsLineOff, IsLineBy, setup_in, chip_in, on_chip, HasStarted, HasTurned, turned_on, TxnStore, txn_store}
use Rattle.pmem_base.specs.Layout as layout
use Rattle.txn_session.specs.declared.commands.TxnCommand.TheVariants as Do
use Rattle.txn_session.specs.declared.answers.TxnAnswer.TheVariants as Say
use Rattle.txn_session.proofs.Worlds.{engine_of, few_lines, targets_held, memory_held, logged_is, none_open, on_after, off_after}
use Rattle.txn_session.proofs.WriteLists.{posted_redo}
use Rattle.txn_session.proofs.Stages.{IsRedoneTo, redone_at}
use Rattle.txn_session.proofs.RedoLists.{length-redo}
use Rattle.txn_session.proofs.RedoEnds as redo
use Rattle.txn_session.proofs.Starts.{OnTxnCall, few_of_on}

module _ (c : OnTxnCall) where
  abbrev pub setup : Setup
  setup = setup_in c.formulas_of c.old.state

  abbrev pub lit : BoardMemory
  lit = record (c.old.state.board) { powered = true }

  abbrev pub old : TxnState
  old = txn_of setup c.old c.txn

  abbrev pub new : TxnState
  new = txn_of setup c.new None

  abbrev pub places : Memory
  places = plain_memory setup c.old.state.ledger.marks

  abbrev places_now : Memory
  places_now = plain_memory setup c.new.state.ledger.marks

  abbrev pub n : ℕ
  n = logged_lines setup.shape

  abbrev pub targets : List ℕ
  targets = targets_in_force setup places

  abbrev pub queue : List Posted
  queue = redo_writes n targets places

  abbrev start : Moment
  start = moment_in setup old.session

  abbrev pub from : Device
  from = device_during lit none_taken

  abbrev pub most : ℕ
  most = txn_most_of_on old

  pub off : IsLineOff setup c.old.state
  off = subst (IsLineBy engine_of setup c.old.state) c.there c.world.chip

  pub no_txn : c.txn ≡ None
  no_txn = none_open setup c.old c.txn c.there c.held

  pub was_off : c.old.state.engine ≡ None
  was_off = c.world.its_engine ∙ ap (option_map (λ (s : TxnStore). on_chip s.inner.engine)) c.there

  -- ---- the call of the session

  -- power was turned on along this plan
  abbrev pub IsStartedBy : Result (List ℕ × Regs) (StartFault OpeningStop) → Type 0
  IsStartedBy end = HasStarted setup (open_call setup) c.steps end c.old.state c.new.state

  pub called : (said : TxnAnswer) (end : Result (List ℕ × Regs) (StartFault OpeningStop)) → IsStartedBy end
      → (let last : Said = (said, (stuck_in c.new.store, None)) in last ≡ open_said c.new.state c.steps end)
      → IsTxnCalled setup old Do.On said new
  called said end along is = (record { steps = c.steps; end = end; called = along; is_said = is }, refl)

  pub few_steps : c.steps < most → c.steps < step_limit
  few_steps below = search (rules, few_of_on)

  abbrev its_targets : AreTargets n targets
  its_targets = c.held.logged.header.its_targets

  abbrev long : n + 1 + length targets ≤ length places
  long = redo.long setup c.world.whole_shape c.old.state.ledger.marks c.held.logged

  size : n + 16 ≡ layout.data_lines setup.shape
  size = logged_size setup.shape

  small : n < 2 ^ 32
  small = let few = few_lines setup.shape c.world.whole_shape in omega (arith, few)

  pub count_is : length queue ≡ length (redoing_edits n targets)
  count_is = length-redo n targets places its_targets.below.each long

  -- ---- once the first k of the redo's writes are done

  -- the marks, memory and the targets in force then
  pub record HasTxnCome (writing : Writing) : Type 0 where
    pub marks : c.new.state.ledger.marks ≡ c.old.state.ledger.marks ++ writing.made
    pub logged : IsLogged n places_now (targets_in_force setup places_now) (redone_memory setup places_now)
    pub its_memory : redone_memory setup places_now ≡ old.memory
    pub in_force : targets_in_force setup places_now ≡ cond (nat_lt (length targets) writing.done) [] targets

  -- if no mark is made
  pub still_come : c.new.state.ledger.marks ≡ c.old.state.ledger.marks → HasTxnCome (record { done = 0; made = [] })
  still_come marks =
      record {
        marks = marks ∙ sym (append-nil c.old.state.ledger.marks);
        logged = search (rules, plain_memory);
        its_memory = ap (λ (m : List Mark). redone_memory setup (plain_memory setup m)) marks;
        in_force = search (rules, plain_memory, le-ltb);
      }

  -- if these are done
  module _ (writing : Writing) (marks : c.new.state.ledger.marks ≡ c.old.state.ledger.marks ++ writing.made)
      (is : places_now ≡ (moment_after_writes setup.formulas start (take writing.done queue)).memory) where
    stage : IsRedoneTo n targets places writing.done
    stage = redone_at n targets places writing.done its_targets long

    lines_there : places_now ≡ lines_opened stage.opening n targets places
    lines_there =
        is
        ∙ ap (λ q. (moment_after_writes setup.formulas start (take writing.done q)).memory)
        (sym (posted_redo n targets places its_targets.below.each long))
        ∙ edits_memory (layout.data_lines setup.shape) (let few = few_data setup.shape c.world.whole_shape in omega (arith, few)) setup.formulas
        (redoing_edits n targets) writing.done places start
        (whole_places setup c.old.state.board.regs c.old.state.ledger places c.world.whole_formulas off.durable.mendable.anchored c.world.places).each
        (redoing_fit n (layout.data_lines setup.shape) size targets its_targets.few its_targets.below) refl
        ∙ stage.its_lines

    held_lines : IsLogged n places_now (targets_opened stage.opening targets) (redone_memory setup places)
    held_lines =
        subst (λ l. IsLogged n l (targets_opened stage.opening targets) (redone_memory setup places)) (sym lines_there)
        (kept_by_opening n small places (redone_memory setup places) targets targets stage.opening c.held.logged c.held.logged.header)

    pub come_to : HasTxnCome writing
    come_to =
        record {
          marks = marks;
          logged = logged_is setup c.world.whole_shape places_now (redone_memory setup places) (targets_opened stage.opening targets) held_lines;
          its_memory = memory_held setup c.world.whole_shape places_now (redone_memory setup places) (targets_opened stage.opening targets) held_lines;
          in_force =
              targets_held setup c.world.whole_shape places_now (redone_memory setup places) (targets_opened stage.opening targets) held_lines
              ∙ stage.its_targets;
        }

  -- ---- what is held, and what the state is

  module _ (writing : Writing) (come : HasTxnCome writing) where
    pub dark_world : c.new.store ≡ None → IsTxnWorld (setup_in c.formulas_of c.new.state) c.new None
    dark_world gone = off_after c.formulas_of c.old c.new c.shape c.keys come.logged gone

    -- power was cut
    pub cut_seen : IsCutAmong setup.formulas start queue writing → c.new.store ≡ None → c.new.state.board.powered ≡ false
        → c.new.state.board.regs.loss ≡ c.old.state.board.regs.loss → c.steps < most → HasTxnOpened setup old (Say.Cut c.steps) new
    cut_seen came gone dark loss few = search rules

    -- power is on, and the store is stuck at this page, or isn't
    pub goes : (store : Store) → c.new.store ≡ Some (txn_store store) → c.new.state.board.powered ≡ true
        → c.new.state.board.regs.loss ≡ c.old.state.board.regs.loss → c.steps ≤ most
        → GoesToTxnState (record (after_redo old writing) { stuck = store.stuck }) c.steps most new
    goes store there powered loss few = search rules

    pub lit_world : (store : Store) → c.new.store ≡ Some (txn_store store) → store.logged.items ≡ cond (nat_lt (length targets) writing.done) [] targets
        → IsTxnWorld (setup_in c.formulas_of c.new.state) c.new None
    lit_world store there log = on_after c.formulas_of c.old c.new c.shape c.keys come.logged store None there (log ∙ sym come.in_force) tt

  -- ---- recovery is done

  module _ (opened : Result (Store × Opened) TxnFault)
      (it : HasTurned setup (λ engine start now. IsStoreOpening setup engine start now) c.steps opened c.old.state c.new.state) where
    abbrev pub to : Device
    to = device_during c.new.state.board it.taken

    abbrev pub parts_from : Parts
    parts_from = parts_of it.engine from c.old.state.ledger it.suite_between.tags it.suite_between.digests

    abbrev pub parts_between : Parts
    parts_between = parts_of it.engine it.between c.old.state.ledger it.suite_between.tags it.suite_between.digests

    -- the store was opened along its plan
    pub opened_along : (answer : Result (List ℕ × Regs) OpeningStop) (now : EngineState)
        → c.new.state.engine ≡ cond c.new.state.board.powered (Some (on_chip now)) None → (c.new.state.board.powered ≡ false → c.steps < step_limit)
        → Follows (open_plan setup it.between.regs (chip_of it.engine c.old.state.ledger it.suite_between.tags it.suite_between.digests)) it.between to
        (ended answer (chip_in c.new.state (on_chip now)))
        → IsStartedBy (started_as answer)
    opened_along answer now kept within opens =
        turned_on setup (λ engine start now. IsStoreOpening setup engine start now) _ c.steps opened answer _ _ _ was_off kept it within opens

    pub recovered_to : AreDone setup parts_from [] [] (recovery_bound setup.shape) parts_between
    recovered_to =
        recovered setup c.old.state.ledger lit it.between _ it.suite_between it.engine it.work it.recovered off.durable refl c.world.few_armed
