-- What each command over the session is answered, whatever its call comes to.
use Rattle.std.proofs.Common.{ℕ, ◌≡◌, ◌<◌, ◌≤◌, inl, inr, Bool, true, false, List, [], ◌∷◌, Option, Some, None, Result, Ok, Err, refl, sym, ap, ap₂, subst, subst₂, ◌∙◌, arith, rules}
use Rattle.std.specs.Prelude.{IsOk, IfErr, OnErr, not}
use Rattle.pmem_base.specs.declared.faults.MemFault.{MemFault}
use Rattle.board.specs.declared.access.Access.{Access}
use Rattle.trace_text.specs.declared.talk.Halt.{Halt}
use Rattle.trace_text.specs.declared.talk.Halt.TheVariants as Stop
use Rattle.trace_text.specs.Logged.{IsLoggedBy}
use Rattle.line_session.specs.declared.making.Done.{Done}
use Rattle.line_session.specs.declared.making.Done.TheVariants as Make
use Rattle.line_session.specs.declared.powering.Turned.{Turned}
use Rattle.line_session.specs.declared.powering.Turned.TheVariants as Turn
use Rattle.line_session.specs.Made.{HasAsked, HasMade, IsDone, IsRoomWanted, undone}
use Rattle.line_session.specs.Turned.{IsTurned, IsTurnHalt}
use Rattle.txn_session.proofs.Common.{if◌then◌else◌, All, All-head, All-tail, IfOk, MatchOption, option_map, is_some, unwrap_or, none-some, true≢false, eqb-true, lt-ltb, le-ltb, ◌==◌, Twin, targets_of, Line, Formulas, Setup, Fault, Store, Opened, Committed, CommitFault, TxnAnswer, TxnCommand, LineSession, TxnState, txn_left, stuck_in, Entries, entry_in, txn_lines_in, IsTxnWorld, txn_of, txn_of_line, line_held, held, txn_decided, txn_after_decided, IsTxnAnswered, IsTxnAnsweredAs, IsTxnShownBy, txn_setup_in, same_setup, StoreSession, IsLineWorld, IsLineBy, setup_in, line_on_in, HasReadAt, HasCommitted, IsStoreOpening, TxnStore, txn_store}
use Rattle.txn_session.specs.declared.commands.TxnCommand.TheVariants as Do
use Rattle.txn_session.specs.declared.answers.TxnAnswer.TheVariants as Say
use Rattle.txn_session.specs.Answered.{IsTxnHalt}
use Rattle.txn_session.specs.Planned.{read_done_said, is_read_stopped, commit_done_said, turned_said, opened_said}
use Rattle.txn_session.proofs.Worlds.{engine_of, IsOpenTxn, open_as, lines_are, none_open, logged_still, off_after}
use Rattle.txn_session.proofs.AnswerClauses.{on_undecided}
use Rattle.txn_session.proofs.ReadLaws as reading
use Rattle.txn_session.proofs.CommitStates as state
use Rattle.txn_session.proofs.CommitExits as committing
use Rattle.txn_session.proofs.Starts.{OnTxnCall}
use Rattle.txn_session.proofs.OpeningExits as opening

abbrev lines_of : TxnStore → ℕ
lines_of store = store.inner.lines

-- a line that a transaction holds is one of its targets
entry_low : (n a : ℕ) (entries : Entries) (line : Line) → All (λ t. t < n) (targets_of entries) → entry_in entries a ≡ Some line → a < n
entry_low n a [] line below is = absurd (none-some line is)
entry_low n a (entry ∷ entries) line below is =
    go (entry.0 == a) refl is (entry_low n a entries line (All-tail (λ t. t < n) entry.0 (targets_of entries) below))
  where
    go : (b : Bool) → (entry.0 == a) ≡ b → (if b then Some entry.1 else entry_in entries a) ≡ Some line → (entry_in entries a ≡ Some line → a < n) → a < n
    go true same its later = subst (λ t. t < n) (eqb-true entry.0 a same) (All-head (λ t. t < n) entry.0 (targets_of entries) below)
    go false other its later = later its

module _ (formulas_of : List ℕ → Formulas) (old new : StoreSession TxnStore) (txn : Option Entries) (now : TxnState)
    (view_is : txn_of (setup_in formulas_of old.state) old txn ≡ now) (world : IsLineWorld engine_of (setup_in formulas_of old.state) old)
    (kept : IsTxnWorld (setup_in formulas_of old.state) old txn) where
  abbrev setup : Setup
  setup = setup_in formulas_of old.state

  abbrev before : TxnState
  before = txn_of setup old txn

  abbrev after : Option Entries → TxnState
  after later = txn_of (setup_in formulas_of new.state) new later

  -- what is held and answered with this transaction open afterwards, and what the log is by what was done
  pub record IsServed (command : TxnCommand) (said : TxnAnswer) (later : Option Entries) (undone : Option (Unit {0})) : Type 0 where
    pub held : IsTxnWorld (setup_in formulas_of new.state) new later
    pub answered : IsTxnAnswered (txn_setup_in formulas_of now) now command said (after later)
    pub logged :
        (log ended : Option (List Access)) → IsLoggedBy undone log old.state.board ended new.state.board
        → IsLoggedBy (txn_decided now command) log now.session.board ended new.state.board

  off : old.store ≡ None → old.state.board.powered ≡ false
  off none = (subst (IsLineBy engine_of setup old.state) none world.chip).unpowered

  seen : (command : TxnCommand) (said : TxnAnswer) (later : Option Entries) → new.state.shape ≡ old.state.shape → new.state.keys ≡ old.state.keys
      → IsTxnAnswered setup before command said (txn_of setup new later) → IsTxnAnswered (txn_setup_in formulas_of now) now command said (after later)
  seen command said later shape keys it = search (rules, same_setup)

  logs : (command : TxnCommand) (decided : Option TxnAnswer) → txn_decided before command ≡ decided → (log ended : Option (List Access))
      → IsLoggedBy decided log old.state.board ended new.state.board
      → IsLoggedBy (txn_decided now command) log now.session.board ended new.state.board
  logs command decided same log ended it = search rules

  -- the state decides
  decided_exit : (command : TxnCommand) (said : TxnAnswer) → txn_decided before command ≡ Some said → txn_after_decided before command said ≡ before
      → new ≡ old → IsServed command said txn (Some tt)
  decided_exit command said is still same = search (rules, seen, logs)

  -- a call was made for it
  called_exit : (command : TxnCommand) (said : TxnAnswer) (later : Option Entries) → txn_decided before command ≡ None
      → new.state.shape ≡ old.state.shape → new.state.keys ≡ old.state.keys
      → IsTxnWorld (setup_in formulas_of new.state) new later × IsTxnAnswered setup before command said (txn_of setup new later)
      → IsServed command said later None
  called_exit command said later none shape keys its = search (rules, seen, logs)

  -- ---- a read of a line that the open transaction holds

  held_low : (open_txn : Option Entries) (stuck : Option ℕ) (at : ℕ) (line : Line) → IsOpenTxn setup stuck open_txn
      → entry_in (unwrap_or open_txn []) at ≡ Some line → at < txn_lines_in before
  held_low None stuck at line its is = absurd (none-some line is)
  held_low (Some entries) stuck at line its is = entry_low (txn_lines_in before) at entries line its.1.below.each is

  pub held_seen : (at : ℕ) (line : Line) → (old.store ≡ None → ⊥) → entry_in (unwrap_or txn []) at ≡ Some line
      → IsTxnAnswered (txn_setup_in formulas_of now) now (Do.Read at) (Say.Got line 0) now
  held_seen at line lit is =
      subst (λ (w : TxnState). IsTxnAnswered (txn_setup_in formulas_of w) w (Do.Read at) (Say.Got line 0) w) view_is
      (subst (λ d. IsTxnAnsweredAs d setup before (Do.Read at) (Say.Got line 0) before) (sym (by_store old.store refl)) (refl, refl))
    where
      by_store : (found : Option TxnStore) → old.store ≡ found → txn_decided before (Do.Read at) ≡ Some (Say.Got line 0)
      by_store None none = absurd (lit none)
      by_store (Some store) there =
          ap (λ b. if b then txn_of_line before at (held (line_held before at)) else Some Say.Off) (line_on_in engine_of setup old store world there).powered
          ∙ ap (λ b. if b then held (line_held before at) else Some Say.Range)
          (lt-ltb at (txn_lines_in before) (held_low txn store.inner.stuck at line (open_as setup old store.inner there txn kept).1 is)) ∙ ap held is

  -- ---- a read of a line that no transaction holds

  abbrev kept_txn : Result (Done Line Fault) MemFault → Option Entries
  kept_txn done = if is_read_stopped done then None else txn

  abbrev read_call : (at : ℕ) → entry_in (unwrap_or txn []) at ≡ None → (steps : ℕ) (answer : Result Line Fault) (store : TxnStore)
      → HasAsked lines_of (Some at) old store
      → HasMade engine_of (λ setup one other from to answer. HasReadAt setup at one.inner other.inner from to answer) setup store steps answer old new
      → reading.ReadTxnCall
  read_call at unheld steps answer store there made =
      record {
        formulas_of = formulas_of;
        old = old;
        new = new;
        txn = txn;
        world = world;
        held = kept;
        at = at;
        store = store.inner;
        there = there.0;
        within = there.1;
        unheld = unheld;
        steps = steps;
        answer = answer;
        made = made;
      }

  pub read_served : (at : ℕ) → entry_in (unwrap_or txn []) at ≡ None → (done : Done Line Fault)
      → IsDone engine_of lines_of (λ setup one other from to answer. HasReadAt setup at one.inner other.inner from to answer) setup (Some at)
      (λ (s : TxnStore). at) old done new
      → (let r : Result (Done Line Fault) MemFault = Ok done in IsServed (Do.Read at) (read_done_said done) (kept_txn r) (undone r))
  read_served at unheld Make.Off it = search (rules, decided_exit, off)
  read_served at unheld Make.Range it =
      let same : lines_of it.0 ≡ txn_lines_in before = lines_are setup old it.0.inner it.1 world in
      let past : lines_of it.0 ≤ at = it.2 in
      decided_exit (Do.Read at) Say.Range
      (ap (λ b. if b then txn_of_line before at (held (line_held before at)) else Some Say.Off) (line_on_in engine_of setup old it.0 world it.1).powered
      ∙ ap (λ b. if b then held (line_held before at) else Some Say.Range) (le-ltb at (txn_lines_in before) (omega (arith, same, past)))) refl it.3
  read_served at unheld (Make.Ended steps sealed (Ok line)) it =
      let call = read_call at unheld steps (Ok line) it.0 it.1 it.2 in
      called_exit (Do.Read at) (Say.Got line steps) txn (reading.undecided call) it.2.shape it.2.keys
      (reading.got_held call line refl, reading.got_seen call line refl)
  read_served at unheld (Make.Ended steps sealed (Err fault)) it =
      let call = read_call at unheld steps (Err fault) it.0 it.1 it.2 in
      called_exit (Do.Read at) (Say.Cut steps) None (reading.undecided call) it.2.shape it.2.keys (reading.not_read call fault refl)

  -- a read wants no memory
  pub read_all : (at : ℕ) → entry_in (unwrap_or txn []) at ≡ None → (done : Result (Done Line Fault) MemFault)
      → IfOk done (λ d. IsDone engine_of lines_of (λ setup one other from to answer. HasReadAt setup at one.inner other.inner from to answer) setup
      (Some at) (λ (s : TxnStore). at) old d new)
      → OnErr done (IsRoomWanted lines_of (Some at) 0 old) → (said : TxnAnswer) → IfOk done (λ d. said ≡ read_done_said d)
      → (later : Option Entries) → later ≡ kept_txn done → IsServed (Do.Read at) said later (undone done)
  read_all at unheld (Ok done) it wanted said is later open_so =
      subst₂ (λ a l. (let r : Result (Done Line Fault) MemFault = Ok done in IsServed (Do.Read at) a l (undone r))) (sym is) (sym open_so)
      (read_served at unheld done it)
  read_all at unheld (Err fault) it wanted said is later open_so = let none = wanted.2 in absurd (omega (arith, none))

  -- ---- a commit of some lines

  pub commit_served : (entries : Entries) → txn ≡ Some entries → (entries ≡ [] → ⊥) → (old.store ≡ None → ⊥) → (done : Done Committed CommitFault)
      → IsDone engine_of lines_of (λ setup one other from to answer. HasCommitted setup entries one.inner other.inner from to answer) setup None lines_of old
      done new
      → (said : TxnAnswer) → said ≡ commit_done_said done
      → (let r : Result (Done Committed CommitFault) MemFault = Ok done in IsServed Do.Commit said None (undone r))
  commit_served entries opened some lit Make.Off it said is = absurd (lit it.0)
  commit_served entries opened some lit Make.Range it said is = absurd it.2
  commit_served entries opened some lit (Make.Ended steps sealed answer) it said is =
      let call : state.CommitCall =
      record {
        formulas_of = formulas_of;
        old = old;
        new = new;
        txn = txn;
        world = world;
        held = kept;
        store = it.0.inner;
        there = it.1.0;
        entries = entries;
        opened = opened;
        some = some;
        steps = steps;
        answer = answer;
        made = it.2;
      } in
      called_exit Do.Commit said None (committing.undecided call) it.2.shape it.2.keys
      (subst (committing.CommitExit call) (sym (is ∙ committing.sealed_said call sealed it.3)) (committing.exit call))

  -- ---- power comes on

  -- what is held, and what is answered, or why it isn't
  pub record IsTurnedOn (result : Result TxnAnswer Halt) : Type 0 where
    pub held : IsTxnWorld (setup_in formulas_of new.state) new txn
    pub answered : IfOk result (λ said. IsTxnAnswered (txn_setup_in formulas_of now) now Do.On said (after txn))
    pub halted : IfErr result (λ halt. IsTxnHalt (txn_setup_in formulas_of now) now Do.On halt (after txn))

  module _ (none : old.store ≡ None) where
    closed : txn ≡ None
    closed = none_open setup old txn none kept

    -- a start was made
    abbrev on_call : (later : StoreSession TxnStore) → IsLineWorld engine_of setup later → ℕ → later.state.shape ≡ old.state.shape
        → later.state.keys ≡ old.state.keys → OnTxnCall
    on_call later left steps shape keys =
        record {
          formulas_of = formulas_of;
          old = old;
          new = later;
          txn = txn;
          world = world;
          held = kept;
          there = none;
          left = left;
          steps = steps;
          shape = shape;
          keys = keys;
        }

    told : (said : TxnAnswer) → new.state.shape ≡ old.state.shape → new.state.keys ≡ old.state.keys
        → IsTxnWorld (setup_in formulas_of new.state) new None × IsTxnAnswered setup before Do.On said (txn_of setup new None) → IsTurnedOn (Ok said)
    told said shape keys its = search (rules, seen)

  by_stuck : (call : OnTxnCall) (redone : ℕ) (stuck : Option ℕ)
      → MatchOption stuck (opening.OpenExit call (Say.Opened redone call.steps)) (λ page. opening.OpenExit call (Say.Stuck page call.steps))
      → opening.OpenExit call (opened_said redone call.steps stuck)
  by_stuck call redone None it = it
  by_stuck call redone (Some page) it = it

  -- without a store, under the same geometry and keys
  dark_left : old.store ≡ None → new.state.shape ≡ old.state.shape → new.state.keys ≡ old.state.keys → new.store ≡ None
      → txn_left setup new.state None None ≡ after txn
  dark_left was_none shape keys none =
      ap (λ (u : Setup). txn_left u new.state None None) (sym (same_setup formulas_of old.state new.state shape keys))
      ∙ ap₂ (λ (s : Option ℕ) (t : Option Entries). txn_left (setup_in formulas_of new.state) new.state s t) (sym (ap stuck_in none)) (sym (closed was_none))

  abbrev IsTurnedTo : Turned Opened → Type 0
  IsTurnedTo turned =
      IsTurned (λ (o : Store × Opened). txn_store o.0) (λ (o : Store × Opened). o.1) (λ engine start now. IsStoreOpening setup engine start now) engine_of
      setup old turned new

  turned_to : (turned : Result (Turned Opened) Halt) → IfOk turned IsTurnedTo → IfErr turned (λ halt. IsTurnHalt setup old halt new)
      → IsTurnedOn (turned_said turned)
  turned_to (Ok Turn.Already) it halt = search (rules, decided_exit, line_on_in)
  turned_to (Ok (Turn.On steps opened)) it halt =
      let call = on_call it.3 new it.5 steps it.4.shape it.4.keys in
      told it.3 (opened_said opened.redone steps opened.stuck) it.4.shape it.4.keys
      (subst (opening.OpenExit call) (ap (λ (o : Opened). opened_said o.redone steps o.stuck) (sym it.1))
      (by_stuck call it.0.1.redone it.0.1.stuck (opening.on_exit call it.0.0 it.0.1 it.2 it.4)))
  turned_to (Ok (Turn.Cut steps)) it halt =
      let shape : new.state.shape ≡ old.state.shape = elim it.2 [ inl cut ↦ cut.shape | inr opened ↦ opened.1.shape ] in
      let keys : new.state.keys ≡ old.state.keys = elim it.2 [ inl cut ↦ cut.keys | inr opened ↦ opened.1.keys ] in
      told it.1 (Say.Cut steps) shape keys (opening.cut_exit (on_call it.1 new it.3 steps shape keys) it.0 it.2)
  turned_to (Err Stop.Memory) it halt = search (rules, on_undecided, off)
  turned_to (Err (Stop.Shown (Twin at major low high cipher tag))) it halt =
      let none : new.store ≡ None = halt.2 in
      let rests = halt.1.refused.rests in
      let shape : new.state.shape ≡ old.state.shape = ap (λ (s : LineSession). s.shape) rests in
      let keys : new.state.keys ≡ old.state.keys = ap (λ (s : LineSession). s.keys) rests in
      let ledger : new.state.ledger ≡ old.state.ledger = ap (λ (s : LineSession). s.ledger) rests in
      record {
        held = search (rules, closed, off_after, logged_still);
        answered = tt;
        halted =
            subst (λ (w : TxnState). IsTxnShownBy (txn_setup_in formulas_of w) w Do.On (Twin at major low high cipher tag) (after txn)) view_is
            (subst (λ (w : TxnState). IsTxnShownBy setup before Do.On (Twin at major low high cipher tag) w) (dark_left halt.0 shape keys none)
            (opening.twin_shown (on_call halt.0 old world 0 refl refl) at major low high cipher tag new.state halt.1));
      }
  turned_to (Err halted) it halt = absurd halt

  pub turned_served : (turned : Result (Turned Opened) Halt) → IfOk turned IsTurnedTo → IfErr turned (λ halt. IsTurnHalt setup old halt new)
      → (result : Result TxnAnswer Halt) → result ≡ turned_said turned → IsTurnedOn result
  turned_served turned it halt result is = subst IsTurnedOn (sym is) (turned_to turned it halt)

-- a store that isn't none
pub some_store : {X Y : Type 0} (of : X → Y) (found : Option X) (store : Option Y) (none : Bool) → option_map of found ≡ store
    → is_some found ≡ not none → none ≡ false → store ≡ None → ⊥
some_store of None store none same is other gone = true≢false (sym (is ∙ ap not other))
some_store of (Some x) store none same is other gone = none-some (of x) (sym gone ∙ sym same)

-- a call that makes no mark is made
pub always_done : {V F : Type 0} (asked : Option ℕ) (old : StoreSession TxnStore) (done : Result (Done V F) MemFault)
    → OnErr done (IsRoomWanted lines_of asked 0 old) → IsOk done
always_done asked old (Ok done) it = refl
always_done asked old (Err fault) it = let none = it.2 in absurd (omega (arith, none))
