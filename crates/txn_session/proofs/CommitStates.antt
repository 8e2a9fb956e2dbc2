-- A commit in the session: the state once the first k of its engine writes are done.
use Rattle.std.proofs.Common.{ℕ, ◌≡◌, ◌<◌, ◌≤◌, ◌+◌, ◌*◌, Bool, true, false, cond, List, [], ◌∷◌, length, take, Option, Some, None, Result, refl, sym, ap, ap₂, subst, ◌∙◌, arith, rules}
use Rattle.txn_session.proofs.Common.{nat_lt, ◌==◌, unwrap_or, if◌then◌else◌, Posted, Mark, put_lines, ended, Follows, Formulas, Setup, Memory, plain_memory, moment_after_writes, Parts, Store, Committed, CommitFault, AreTargets, IsLogged, commit_lines_at, targets_at, commit_memory_at, targets_of, IsEditOf, IsWholeTxn, deciding_edits, applying_edits, logged_lines, whole_at_each_stage, deciding_fit, applying_fit, All-append, step_limit, device_during, none_taken, Writing, at_most, fewer, whole_places, moment_now, AreDone, AreCut, edits_memory, Chip, commit_plan, TxnAnswer, IsTxnCalled, Said, commit_call, done_said, stuck_said, TxnState, Entries, commit_writes, with_commit, targets_in_force, redone_memory, IsTxnWorld, stuck_in, txn_of, IsTxnButForSteps, GoesToTxnState, IsTxnCutOff, after_commit, most_of_commit, few_data, with_marks, StoreSession, IsLineWorld, IsLineOn, line_on_in, setup_in, HasMade, parts_during, called_store, chip_in, on_chip, is_sealed_since, HasCommitted, HasCommittedTxn, TxnStore, txn_store}
use Rattle.pmem_base.specs.Layout as layout
use Rattle.txn_session.specs.declared.commands.TxnCommand.TheVariants as Do
use Rattle.txn_session.proofs.Worlds.{engine_of, targets_held, memory_held, logged_is, IsOpenTxn, open_as, lines_are, on_after, off_after}
use Rattle.txn_session.proofs.WriteLists.{posted_commit, length-commit_writes}
use Rattle.txn_session.proofs.Stages.{commit_edits, IsAtStage, at_stage}
use Rattle.txn_session.proofs.CommitEnds.{commit_queue, CommitEndsAt, CommitServes, commit_serves, commit_ends_at}

-- the state that the first k leave, field by field
by_done : (b last : Bool) (state : TxnState) (memory : Memory) (targets : List ℕ)
    → (let closed : TxnState = record state { txn = None } in
    let after : TxnState = if b then record closed { memory = memory; in_force = if last then [] else targets } else closed in after)
    ≡ record state {
      txn = None;
      memory = cond b memory state.memory;
      in_force = cond b (cond last [] targets) state.in_force;
    }
by_done true last state memory targets = refl
by_done false last state memory targets = refl

with_commit_is : (state : TxnState) (entries : Entries) (k : ℕ)
    → with_commit state entries k
    ≡ record state {
      txn = None;
      memory = cond (nat_lt (length entries) k) (put_lines entries state.memory) state.memory;
      in_force = cond (nat_lt (length entries) k) (cond (k == 2 * length entries + 2) [] (targets_of entries)) state.in_force;
    }
with_commit_is state entries k = search (rules, by_done, nat_lt, put_lines)

long_queue : (n : ℕ) (entries : Entries) → (entries ≡ [] → ⊥) → length (commit_writes n entries) ≡ 2 * length entries + 2
long_queue n [] some = absurd (some refl)
long_queue n (entry ∷ entries) some = length-commit_writes n entry entries

-- the session before and after the commit
pub record CommitCall : Type 0 where
  pub formulas_of : List ℕ → Formulas
  pub old : StoreSession TxnStore
  pub new : StoreSession TxnStore
  pub txn : Option Entries
  pub world : IsLineWorld engine_of (setup_in formulas_of old.state) old
  pub held : IsTxnWorld (setup_in formulas_of old.state) old txn
  pub store : Store
  pub there : old.store ≡ Some (txn_store store)
  pub entries : Entries
  pub opened : txn ≡ Some entries
  pub some : entries ≡ [] → ⊥
  pub steps : ℕ
  pub answer : Result Committed CommitFault
  pub made :
      HasMade engine_of (λ setup old new from to answer. HasCommitted setup entries old.inner new.inner from to answer) (setup_in formulas_of old.state) (txn_store store) steps
      answer old new

module _ (c : CommitCall) where
  abbrev pub setup : Setup
  setup = setup_in c.formulas_of c.old.state

  abbrev pub old : TxnState
  old = txn_of setup c.old c.txn

  abbrev pub new : TxnState
  new = txn_of setup c.new None

  abbrev pub after : Store
  after = c.made.after.inner

  abbrev pub places : Memory
  places = plain_memory setup c.old.state.ledger.marks

  abbrev pub n : ℕ
  n = c.store.lines

  abbrev pub count : ℕ
  count = length c.entries

  abbrev pub queue : List Posted
  queue = commit_writes n c.entries

  abbrev pub most : ℕ
  most = most_of_commit setup.shape count

  abbrev pub from : Parts
  from = parts_during c.store.engine c.old.state none_taken

  abbrev pub to : Parts
  to = parts_during after.engine c.new.state c.made.taken

  abbrev places_now : Memory
  places_now = plain_memory setup c.new.state.ledger.marks

  pub on : IsLineOn setup c.old.state c.store.engine
  on = line_on_in engine_of setup c.old (txn_store c.store) c.world c.there

  its_open : (c.store.logged.items ≡ targets_in_force setup places) × IsOpenTxn setup c.store.stuck c.txn
  its_open = open_as setup c.old c.store c.there c.txn c.held

  pub n_is : n ≡ logged_lines setup.shape
  n_is = lines_are setup c.old c.store c.there c.world

  size : n + 16 ≡ layout.data_lines setup.shape
  size = search rules

  -- a transaction is open, so none is in force
  free : (c.store.stuck ≡ None) × AreTargets (logged_lines setup.shape) (targets_of c.entries)
  free = subst (IsOpenTxn setup c.store.stuck) c.opened its_open.1

  targets : AreTargets n (targets_of c.entries)
  targets = subst (λ m. AreTargets m (targets_of c.entries)) (sym n_is) free.1

  pub no_log : c.store.logged.items ≡ []
  no_log = c.store.only_stuck free.0

  none_in_force : targets_in_force setup places ≡ []
  none_in_force = sym its_open.0 ∙ no_log

  had : IsLogged n places [] (redone_memory setup places)
  had =
      subst (λ m. IsLogged m places [] (redone_memory setup places)) (sym n_is)
      (subst (λ ts. IsLogged (logged_lines setup.shape) places ts (redone_memory setup places)) none_in_force c.held.logged)

  -- ---- how it ended

  pub committed : HasCommittedTxn setup c.entries c.store after from to c.answer
  committed = c.made.made.done.did on.running

  pub whole : IsWholeTxn c.entries
  whole = c.made.made.whole

  pub ends : (answer : Result Committed CommitFault) → c.answer ≡ answer → CommitEndsAt setup from queue count most answer to
  ends answer is =
      subst (λ r. CommitEndsAt setup from queue count most r to) is
      (commit_ends_at setup n c.entries c.some from on.sound on.powered size targets.below whole c.store after to c.answer refl committed.committed)

  pub serves : (answer : Result Committed CommitFault) → c.answer ≡ answer → CommitServes c.entries c.store after answer
  serves answer is = search (rules, CommitServes, commit_serves)

  pub long : length queue ≡ 2 * count + 2
  long = long_queue n c.entries c.some

  -- ---- once the first k of its engine writes are done

  lines_there : (k : ℕ) → places_now ≡ (moment_after_writes setup.formulas (moment_now setup from) (take k queue)).memory
      → (stage : IsAtStage n c.entries places k) → places_now ≡ commit_lines_at stage.stage n c.entries places
  lines_there k is stage =
      is
      ∙ ap (λ q. (moment_after_writes setup.formulas (moment_now setup from) (take k q)).memory)
      (commit_queue n c.entries c.some ∙ sym (posted_commit n c.entries places))
      ∙ edits_memory (layout.data_lines setup.shape) (let few = few_data setup.shape c.world.whole_shape in omega (arith, few)) setup.formulas
      (commit_edits n c.entries) k places (moment_now setup from)
      (whole_places setup c.old.state.board.regs c.old.state.ledger places c.world.whole_formulas on.sound.trusted.anchored c.world.places).each
      (All-append (IsEditOf (layout.data_lines setup.shape)) (deciding_edits n c.entries) (applying_edits n c.entries)
      (deciding_fit n (layout.data_lines setup.shape) size c.entries whole.few whole.whole whole.header)
      (applying_fit n (layout.data_lines setup.shape) size c.entries targets.below whole.whole)) refl
      ∙ stage.its_lines

  module _ (k : ℕ) (made : List Mark) (few : k ≤ 2 * count + 2)
      (is : places_now ≡ (moment_after_writes setup.formulas (moment_now setup from) (take k queue)).memory) where
    stage : IsAtStage n c.entries places k
    stage = at_stage n c.entries places k few

    held_lines : IsLogged (logged_lines setup.shape) places_now (targets_at stage.stage c.entries) (commit_memory_at stage.stage c.entries (redone_memory setup places))
    held_lines =
        subst (λ m. IsLogged m places_now (targets_at stage.stage c.entries) (commit_memory_at stage.stage c.entries (redone_memory setup places))) n_is
        (subst (λ l. IsLogged n l (targets_at stage.stage c.entries) (commit_memory_at stage.stage c.entries (redone_memory setup places)))
        (sym (lines_there k is stage)) (whole_at_each_stage n places (redone_memory setup places) c.entries stage.stage targets had))

    logged : IsLogged (logged_lines setup.shape) places_now (targets_in_force setup places_now) (redone_memory setup places_now)
    logged = logged_is setup c.world.whole_shape places_now (commit_memory_at stage.stage c.entries (redone_memory setup places)) (targets_at stage.stage c.entries) held_lines

    targets_now : targets_in_force setup places_now ≡ cond (nat_lt count k) (cond (k == 2 * count + 2) [] (targets_of c.entries)) []
    targets_now =
        targets_held setup c.world.whole_shape places_now (commit_memory_at stage.stage c.entries (redone_memory setup places)) (targets_at stage.stage c.entries) held_lines
        ∙ stage.targets

    memory_now_is : redone_memory setup places_now ≡ cond (nat_lt count k) (put_lines c.entries old.memory) old.memory
    memory_now_is =
        memory_held setup c.world.whole_shape places_now (commit_memory_at stage.stage c.entries (redone_memory setup places)) (targets_at stage.stage c.entries) held_lines
        ∙ stage.its_memory old.memory

    in_force_now : targets_in_force setup places_now ≡ cond (nat_lt count k) (cond (k == 2 * count + 2) [] (targets_of c.entries)) old.in_force
    in_force_now = targets_now ∙ ap (cond (nat_lt count k) (cond (k == 2 * count + 2) [] (targets_of c.entries))) (sym none_in_force)

    abbrev writing : Writing
    writing = record { done = k; made = made }

    -- power is on
    module _ (limit : ℕ) (writes : List Posted) (done : AreDone setup from writes made limit to) where
      stays : c.new.store ≡ Some (txn_store after)
      stays = c.made.its_store ∙ ap (λ b. cond b (Some (txn_store after)) None) done.live

      pub going_world : after.logged.items ≡ cond (nat_lt count k) (cond (k == 2 * count + 2) [] (targets_of c.entries)) []
          → IsTxnWorld (setup_in c.formulas_of c.new.state) c.new None
      going_world its_log = on_after c.formulas_of c.old c.new c.made.shape c.made.keys logged after None stays (its_log ∙ sym targets_now) tt

      few_taken : c.steps ≤ limit
      few_taken = subst (λ s. s ≤ limit) (sym c.made.its_steps) (at_most c.made.taken limit c.made.watched.follows.few done.takes.sum)

      -- the store is stuck at this page, or isn't
      at_page : (page : Option ℕ) → after.stuck ≡ page
          → IsTxnButForSteps
          (record old {
            txn = None;
            memory = cond (nat_lt count k) (put_lines c.entries old.memory) old.memory;
            in_force = cond (nat_lt count k) (cond (k == 2 * count + 2) [] (targets_of c.entries)) old.in_force;
            stuck = page;
            session = with_marks old.session made;
          })
          new
      at_page page its_page = search (rules, memory_now_is, in_force_now)

      pub goes_stuck : (page : ℕ) → after.stuck ≡ Some page
          → GoesToTxnState (record (after_commit old c.entries writing) { stuck = Some page }) c.steps limit new
      goes_stuck page its_page = (
        subst (λ e. IsTxnButForSteps (record e { stuck = Some page; session = with_marks old.session made }) new) (sym (with_commit_is old c.entries k)) (at_page (Some page) its_page),
        few_taken,
      )

      -- if it isn't stuck
      pub goes : after.stuck ≡ old.stuck → GoesToTxnState (after_commit old c.entries writing) c.steps limit new
      goes its_page = (
        subst (λ e. IsTxnButForSteps (record e { session = with_marks old.session made }) new) (sym (with_commit_is old c.entries k)) (at_page old.stuck its_page),
        few_taken,
      )

    -- power was cut
    module _ (limit : ℕ) (writes : List Posted) (cut : AreCut setup from writes made limit to) where
      gone : c.new.store ≡ None
      gone = c.made.its_store ∙ ap (λ b. cond b (Some (txn_store after)) None) cut.dark

      pub cut_world : IsTxnWorld (setup_in c.formulas_of c.new.state) c.new None
      cut_world = off_after c.formulas_of c.old c.new c.made.shape c.made.keys logged gone

      pub cuts : IsTxnCutOff (after_commit old c.entries writing) c.steps limit new
      cuts = search (rules, with_marks, with_commit_is, memory_now_is, in_force_now, fewer)

  -- ---- the call of the session

  abbrev chip : Chip
  chip = chip_in c.old.state (on_chip c.store.engine)

  plan_is : commit_plan setup n c.entries chip c.old.state.board.regs ≡ commit_call setup old c.old.state.board.regs chip
  plan_is =
      ap (λ m. commit_plan setup m c.entries chip c.old.state.board.regs) n_is
      ∙ ap (λ (txn : Option Entries). commit_plan setup (logged_lines setup.shape) (unwrap_or txn []) chip c.old.state.board.regs) (sym c.opened)

  abbrev pub own : Bool
  own = is_sealed_since (logged_lines setup.shape) c.old.state.ledger.marks c.new.state

  pub called : (c.new.state.board.powered ≡ false → c.steps < step_limit)
      → stuck_in c.new.store ≡ cond c.new.state.board.powered (stuck_said old.stuck c.answer) None
      → IsTxnCalled setup old Do.Commit (done_said own c.steps c.answer) new
  called within stuck = (
    record {
      steps = c.steps;
      end = committed.plan.end;
      called =
          called_store engine_of (λ setup old new from to answer. HasCommitted setup c.entries old.inner new.inner from to answer) setup (commit_call setup old) (txn_store c.store)
          c.steps c.answer committed.plan.end c.old c.new c.world c.there c.made within
          (subst (λ q. Follows q (device_during c.old.state.board none_taken) (device_during c.new.state.board c.made.taken)
          (ended committed.plan.end (chip_in c.new.state (on_chip after.engine)))) plan_is committed.plan.follows);
      is_said =
          ap₂ (λ (a : TxnAnswer) (s : Option ℕ). (let end : Said = (a, (s, None)) in end)) (ap (λ r. done_said own c.steps r) committed.plan.its_answer)
          (stuck ∙ ap (λ r. cond c.new.state.board.powered (stuck_said old.stuck r) None) committed.plan.its_answer);
    },
    refl,
  )
