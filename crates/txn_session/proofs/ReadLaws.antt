-- A read of a data line: it shows memory's line, or power is cut.
use Rattle.std.proofs.Common.{ℕ, ◌≡◌, ◌<◌, ◌≤◌, true, false, cond, List, [], Option, Some, None, Result, Ok, Err, refl, sym, ap, ap₂, subst, ◌∙◌, arith, rules}
use Rattle.txn_session.proofs.Common.{unwrap_or, IfOk, true≢false, append-nil, Line, line_at, ended, Follows, Formulas, Setup, Memory, plain_memory, path_length, Fault, Parts, read_plan, going, cut_short, OneLossEffect, HasReadLine, HasLines, Store, IsLogged, logged_lines, step_limit, device_during, none_taken, at_most, fewer, whole_places, TxnAnswer, Said, read_call, read_said, TxnState, Entries, entry_in, targets_in_force, IsTxnWorld, stuck_in, txn_of, txn_decided, IsTxnAnswered, HasTxnRead, StoreSession, IsLineWorld, IsLineOn, line_on_in, setup_in, HasMade, parts_during, called_store, chip_in, on_chip, HasReadAt, HasReadServed, TxnStore, txn_store}
use Rattle.pmem_engine.specs.declared.fault.Fault.TheVariants as Fail
use Rattle.line_txn.specs.Serving.{served_from}
use Rattle.txn_session.specs.declared.commands.TxnCommand.TheVariants as Do
use Rattle.txn_session.specs.declared.answers.TxnAnswer.TheVariants as Say
use Rattle.txn_session.proofs.Worlds.{engine_of, IsOpenTxn, open_as, lines_are, logged_still, same_memory, same_targets, on_after, off_after}
use Rattle.txn_session.proofs.AnswerClauses.{read_undecided, served}

-- the session before and after the read
pub record ReadTxnCall : Type 0 where
  pub formulas_of : List ℕ → Formulas
  pub old : StoreSession TxnStore
  pub new : StoreSession TxnStore
  pub txn : Option Entries
  pub world : IsLineWorld engine_of (setup_in formulas_of old.state) old
  pub held : IsTxnWorld (setup_in formulas_of old.state) old txn
  pub at : ℕ
  pub store : Store
  pub there : old.store ≡ Some (txn_store store)
  pub within : at < store.lines
  -- the open transaction hasn't this line
  pub unheld : entry_in (unwrap_or txn []) at ≡ None
  pub steps : ℕ
  pub answer : Result Line Fault
  pub made : HasMade engine_of (λ setup old new from to answer. HasReadAt setup at old.inner new.inner from to answer) (setup_in formulas_of old.state) (txn_store store) steps answer old new

module _ (c : ReadTxnCall) where
  abbrev setup : Setup
  setup = setup_in c.formulas_of c.old.state

  abbrev old : TxnState
  old = txn_of setup c.old c.txn

  abbrev left : Option Entries → TxnState
  left txn = txn_of setup c.new txn

  abbrev places : Memory
  places = plain_memory setup c.old.state.ledger.marks

  abbrev place : ℕ
  place = served_from c.store.lines c.store.logged.items c.at

  abbrev after : Store
  after = c.made.after.inner

  abbrev from : Parts
  from = parts_during c.store.engine c.old.state none_taken

  abbrev to : Parts
  to = parts_during after.engine c.new.state c.made.taken

  on : IsLineOn setup c.old.state c.store.engine
  on = line_on_in engine_of setup c.old (txn_store c.store) c.world c.there

  its_log : c.store.logged.items ≡ targets_in_force setup places
  its_log = (open_as setup c.old c.store c.there c.txn c.held).0

  n_is : c.store.lines ≡ logged_lines setup.shape
  n_is = lines_are setup c.old c.store c.there c.world

  read : HasReadServed setup c.at c.store from to c.answer
  read = c.made.made.read.did on.running

  read_as : (answer : Result Line Fault) → c.answer ≡ answer → HasReadLine setup place from to answer
  read_as answer is = subst (λ r. HasReadLine setup place from to r) is read.was_read

  -- the line is that of memory
  shown : (line : Line) → c.answer ≡ Ok line → line ≡ line_at old.memory c.at
  shown line is =
      subst (λ r. IfOk r (λ read. read ≡ line_at old.memory c.at)) is (read.logged on.sound.trusted places old.memory lines_there logged_there)
    where
      lines_there : HasLines setup places from
      lines_there =
          record {
            whole =
                whole_places setup c.old.state.board.regs c.old.state.ledger places c.world.whole_formulas on.sound.trusted.anchored c.world.places;
            sealed = c.world.places.each;
          }

      logged_there : IsLogged c.store.lines places c.store.logged.items old.memory
      logged_there =
          subst (λ n. IsLogged n places c.store.logged.items old.memory) (sym n_is)
          (subst (λ ts. IsLogged (logged_lines setup.shape) places ts old.memory) (sym its_log) c.held.logged)

  pub undecided : txn_decided old (Do.Read c.at) ≡ None
  undecided = let n = n_is in let low = c.within in read_undecided old c.at on.powered (omega (arith, n, low)) c.unheld

  follows : Follows (read_call setup old c.at c.old.state.board.regs (chip_in c.old.state (on_chip c.store.engine))) (device_during c.old.state.board none_taken)
      (device_during c.new.state.board c.made.taken) (ended c.answer (chip_in c.new.state (on_chip after.engine)))
  follows = search (rules, Follows, read_plan, device_during, ended)

  -- what is answered, by what the call did
  seen_as : (txn : Option Entries) (said : TxnAnswer) → HasTxnRead old c.at said (left txn) → (c.new.state.board.powered ≡ false → c.steps < step_limit)
      → (let end : Said = (said, (stuck_in c.new.store, txn)) in end ≡ read_said old c.new.state c.steps c.answer)
      → IsTxnAnswered setup old (Do.Read c.at) said (left txn)
  seen_as txn said read within is =
      served setup old (left txn) (Do.Read c.at) said undecided read (
        record {
          steps = c.steps;
          end = c.answer;
          called =
              called_store engine_of (λ setup old new from to answer. HasReadAt setup c.at old.inner new.inner from to answer) setup (read_call setup old c.at) (txn_store c.store)
              c.steps c.answer c.answer c.old c.new c.world c.there c.made within follows;
          is_said = is;
        },
        refl,
      )

  -- ---- answered

  module _ (line : Line) (is : c.answer ≡ Ok line) where
    it : HasReadLine setup place from to (Ok line)
    it = read_as (Ok line) is

    done : OneLossEffect setup going [] from to
    done = it.done

    marks_on : c.new.state.ledger.marks ≡ c.old.state.ledger.marks
    marks_on = done.gone.marks ∙ append-nil c.old.state.ledger.marks

    powered : c.new.state.board.powered ≡ true
    powered = done.gone.power.1 on.powered

    stays : c.new.store ≡ Some (txn_store after)
    stays = c.made.its_store ∙ ap (λ b. cond b (Some (txn_store after)) None) powered

    stuck_still : stuck_in c.new.store ≡ old.stuck
    stuck_still = ap stuck_in stays ∙ c.made.made.served.its_page ∙ sym (ap stuck_in c.there)

    pub got_held : IsTxnWorld (setup_in c.formulas_of c.new.state) c.new c.txn
    got_held =
        on_after c.formulas_of c.old c.new c.made.shape c.made.keys
        (logged_still setup c.old.state.ledger.marks c.new.state.ledger.marks marks_on c.held.logged) after c.txn stays
        (c.made.made.served.its_targets ∙ its_log ∙ sym (same_targets setup c.old.state.ledger.marks c.new.state.ledger.marks marks_on))
        (subst (λ s. IsOpenTxn setup s c.txn) (sym c.made.made.served.its_page) (open_as setup c.old c.store c.there c.txn c.held).1)

    pub got_seen : IsTxnAnswered setup old (Do.Read c.at) (Say.Got line c.steps) (left c.txn)
    got_seen =
        seen_as c.txn (Say.Got line c.steps) (
          shown line is,
          (
            record {
              memory = same_memory setup c.old.state.ledger.marks c.new.state.ledger.marks marks_on;
              in_force = same_targets setup c.old.state.ledger.marks c.new.state.ledger.marks marks_on;
              stuck = stuck_still;
              txn = refl;
              power = powered ∙ sym on.powered;
              loss = done.loss;
              marks = marks_on;
            },
            subst (λ k. k ≤ path_length setup.shape) (sym c.made.its_steps)
                (at_most c.made.taken (path_length setup.shape) c.made.watched.follows.few it.steps_of_path.0.sum),
          ),
        ) (λ dark. absurd (true≢false (sym powered ∙ dark)))
        (ap₂ (λ (s : Option ℕ) (t : Option Entries). (let end : Said = (Say.Got line c.steps, (s, t)) in end))
        (stuck_still ∙ sym (ap (λ b. cond b old.stuck None) powered)) (sym (ap (λ b. cond b old.txn None) powered))
        ∙ sym (ap (read_said old c.new.state c.steps) is))

  -- ---- cut

  module _ (is : c.answer ≡ Err Fail.Cut) where
    cut : HasReadLine setup place from to (Err Fail.Cut)
    cut = read_as (Err Fail.Cut) is

    cut_done : OneLossEffect setup cut_short [] from to
    cut_done = cut.done

    marks_off : c.new.state.ledger.marks ≡ c.old.state.ledger.marks
    marks_off = cut_done.gone.marks ∙ append-nil c.old.state.ledger.marks

    off : c.new.state.board.powered ≡ false
    off = cut_done.gone.power.1

    gone : c.new.store ≡ None
    gone = c.made.its_store ∙ ap (λ b. cond b (Some (txn_store after)) None) off

    cut_held : IsTxnWorld (setup_in c.formulas_of c.new.state) c.new None
    cut_held =
        off_after c.formulas_of c.old c.new c.made.shape c.made.keys
        (logged_still setup c.old.state.ledger.marks c.new.state.ledger.marks marks_off c.held.logged) gone

    cut_seen : IsTxnAnswered setup old (Do.Read c.at) (Say.Cut c.steps) (left None)
    cut_seen =
        let levels = c.world.whole_shape.at_most_six_levels in
        let below : c.steps < path_length setup.shape = search (rules, fewer, path_length) in
        seen_as None (Say.Cut c.steps) (
          record {
            memory = same_memory setup c.old.state.ledger.marks c.new.state.ledger.marks marks_off;
            in_force = same_targets setup c.old.state.ledger.marks c.new.state.ledger.marks marks_off;
            stuck = ap stuck_in gone;
            txn = refl;
            power = off;
            loss = cut_done.loss;
            marks = marks_off;
          },
          below,
        ) (λ dark. omega (arith, levels, below))
        (ap₂ (λ (s : Option ℕ) (t : Option Entries). (let end : Said = (Say.Cut c.steps, (s, t)) in end))
        (ap stuck_in gone ∙ sym (ap (λ b. cond b old.stuck None) off)) (sym (ap (λ b. cond b old.txn None) off))
        ∙ sym (ap (read_said old c.new.state c.steps) is))

  -- over a sound device no other fault comes
  pub not_read : (fault : Fault) → c.answer ≡ Err fault
      → IsTxnWorld (setup_in c.formulas_of c.new.state) c.new None × IsTxnAnswered setup old (Do.Read c.at) (Say.Cut c.steps) (left None)
  not_read Fail.Cut is = (cut_held is, cut_seen is)
  not_read (Fail.Spent page) is = absurd ((read_as (Err (Fail.Spent page)) is).possible)
  not_read fault is = absurd ((read_as (Err fault) is).unrefused on.sound)
