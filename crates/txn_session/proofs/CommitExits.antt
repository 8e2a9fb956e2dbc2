-- A commit in the session: what is held after each of its answers, and what these say.
use Rattle.std.proofs.Common.{ℕ, ◌≡◌, ◌<◌, ◌≤◌, ◌+◌, ◌*◌, inl, inr, Bool, true, false, cond, List, [], length, take, drop, Some, None, Result, Ok, Err, refl, sym, ap, subst, ◌∙◌, mul-le-mul_right, arith, rules}
use Rattle.std.specs.Prelude.{◌&&◌}
use Rattle.txn_session.proofs.Common.{Committed, not, nat_lt, unwrap_or, ◌||◌, ◌==◌, list_any, true≢false, cases_lt, le-ltb, lt-ltb, eq-eqb, ne_eqb, drop_at, Posted, Setup, Fault, Parts, Store, CommitFault, targets_of, step_limit, Writing, is_own_seal, write_steps, moment_now, memory_done, TxnAnswer, IsTxnCalled, fault_said, done_said, stuck_said, TxnState, moment_in, commit_writes, IsTxnWorld, stuck_in, txn_decided, IsTxnAnswered, IsCommitting, EndsCommit, HasTxnCommitted, after_commit, IsCutAt, or_true, setup_in, is_sealed_since, txn_store}
use Rattle.pmem_engine.specs.declared.fault.Fault.TheVariants as Fail
use Rattle.line_txn.specs.declared.store.Committed.TheVariants as Make
use Rattle.txn_session.specs.declared.commands.TxnCommand.TheVariants as Do
use Rattle.txn_session.specs.declared.answers.TxnAnswer.TheVariants as Say
use Rattle.pmem_engine.proofs.Laws.PolicyBounds.{begun_most}
use Rattle.txn_session.proofs.AnswerClauses.{commit_undecided, served}
use Rattle.txn_session.proofs.CommitEnds.{FailsTxnAt, own_absent, own_present}
use Rattle.txn_session.proofs.CommitStates.{CommitCall}
use Rattle.txn_session.proofs.CommitStates as state

module _ (c : CommitCall) where
  abbrev setup : Setup
  setup = state.setup c

  abbrev old : TxnState
  old = state.old c

  abbrev new : TxnState
  new = state.new c

  abbrev after : Store
  after = state.after c

  abbrev n : ℕ
  n = state.n c

  abbrev count : ℕ
  count = state.count c

  abbrev queue : List Posted
  queue = state.queue c

  abbrev most : ℕ
  most = state.most c

  abbrev from : Parts
  from = state.from c

  abbrev to : Parts
  to = state.to c

  pub undecided : txn_decided old Do.Commit ≡ None
  undecided = commit_undecided old c.entries (state.on c).powered c.opened c.some

  -- ---- the exits: what is held, and what is answered

  abbrev pub CommitExit : TxnAnswer → Type 0
  CommitExit said = IsTxnWorld (setup_in c.formulas_of c.new.state) c.new None × IsTxnAnswered setup old Do.Commit said new

  exit_of : (said : TxnAnswer) (writing : Writing) → IsTxnWorld (setup_in c.formulas_of c.new.state) c.new None
      → IsCommitting count setup.formulas (moment_now setup from) queue writing said → EndsCommit (after_commit old c.entries writing) most said new
      → (c.new.state.board.powered ≡ false → c.steps < step_limit) → said ≡ done_said (state.own c) c.steps c.answer
      → stuck_in c.new.store ≡ cond c.new.state.board.powered (stuck_said old.stuck c.answer) None → CommitExit said
  exit_of said writing held came ended within is stuck = (
    held,
    served setup old new Do.Commit said undecided
        (subst (λ es. HasTxnCommitted setup old es said new) (sym (ap (λ txn. unwrap_or txn []) c.opened))
        (let it : HasTxnCommitted setup old c.entries said new =
        record {
          writing = writing;
          came = subst (λ m. IsCommitting count setup.formulas (moment_in setup old.session) (commit_writes m c.entries) writing said) (state.n_is c) came;
          ends = ended;
        } in it))
        (subst (λ a. IsTxnCalled setup old Do.Commit a new) (sym is) (state.called c within stuck)),
  )

  -- with power on
  lit_exit : (said : TxnAnswer) (writing : Writing) → IsTxnWorld (setup_in c.formulas_of c.new.state) c.new None
      → IsCommitting count setup.formulas (moment_now setup from) queue writing said → EndsCommit (after_commit old c.entries writing) most said new
      → c.new.state.board.powered ≡ true → said ≡ done_said (state.own c) c.steps c.answer → after.stuck ≡ stuck_said old.stuck c.answer → CommitExit said
  lit_exit said writing held came ended lit is stuck =
      exit_of said writing held came ended (λ dark. absurd (true≢false (sym lit ∙ dark))) is
      (ap stuck_in (c.made.its_store ∙ ap (λ b. cond b (Some (txn_store after)) None) lit) ∙ stuck
      ∙ sym (ap (λ b. cond b (stuck_said old.stuck c.answer) None) lit))

  -- the store serves as before
  stuck_still : after.stuck ≡ c.store.stuck → after.stuck ≡ old.stuck
  stuck_still same = same ∙ sym (ap stuck_in c.there)

  applied_exit : c.answer ≡ Ok Make.Applied → CommitExit (Say.Applied c.steps)
  applied_exit is =
      let gone = state.ends c (Ok Make.Applied) is in
      let its = state.serves c (Ok Make.Applied) is in
      let k = 2 * count + 2 in
      let lines = memory_done setup from to (take k queue) gone.made most gone.done in
      let few : k ≤ 2 * count + 2 = omega arith in
      let log : after.logged.items ≡ cond (nat_lt count k) (cond (k == 2 * count + 2) [] (targets_of c.entries)) [] =
      its.its_targets ∙ (state.no_log c) ∙ sym targets_all in
      lit_exit (Say.Applied c.steps) (record { done = k; made = gone.made })
      (state.going_world c k gone.made few lines most (take k queue) gone.done log)
      (sym (state.long c), (omega (arith, ap (λ (m : ℕ). m) (state.long c)), gone.done.asked))
      (state.goes c k gone.made few lines most (take k queue) gone.done (stuck_still its.its_page)) gone.done.live
      (sym (ap (λ r. done_said (state.own c) c.steps r) is)) (stuck_still its.its_page ∙ sym (ap (stuck_said old.stuck) is))
    where
      by_last : (b last : Bool) → last ≡ true → cond b (cond last [] (targets_of c.entries)) [] ≡ []
      by_last true true is = refl
      by_last false last is = refl
      by_last true false is = absurd (true≢false (sym is))

      targets_all : cond (nat_lt count (2 * count + 2)) (cond (2 * count + 2 == 2 * count + 2) [] (targets_of c.entries)) [] ≡ []
      targets_all = by_last (nat_lt count (2 * count + 2)) (2 * count + 2 == 2 * count + 2) (eq-eqb (2 * count + 2) (2 * count + 2) refl)

  stuck_exit : (page : ℕ) → c.answer ≡ Ok (Make.Stuck page) → CommitExit (Say.Stuck page c.steps)
  stuck_exit page is =
      let spent = state.ends c (Ok (Make.Stuck page)) is in
      let its = state.serves c (Ok (Make.Stuck page)) is in
      let k = spent.count in
      let lines = memory_done setup from to (take k queue) spent.made most spent.done in
      let low = spent.low in
      let high = spent.high in
      let few : k ≤ 2 * count + 2 = omega (arith, high) in
      let past : count < k = omega (arith, low) in
      let log : after.logged.items ≡ cond (nat_lt count k) (cond (k == 2 * count + 2) [] (targets_of c.entries)) [] = search (rules, lt-ltb, ne_eqb) in
      lit_exit (Say.Stuck page c.steps) (record { done = k; made = spent.made })
      (state.going_world c k spent.made few lines most (take k queue) spent.done log) (past, spent.next)
      (state.goes_stuck c k spent.made few lines most (take k queue) spent.done page its.its_page) spent.done.live
      (sym (ap (λ r. done_said (state.own c) c.steps r) is)) (its.its_page ∙ sym (ap (stuck_said old.stuck) is))

  spent_exit : (page : ℕ) (committed : Bool) → c.answer ≡ Err (record { fault = Fail.Spent page; committed = committed })
      → CommitExit (Say.Spent page c.steps)
  spent_exit page committed is =
      let spent = state.ends c (Err (record { fault = Fail.Spent page; committed = committed })) is in
      let its = state.serves c (Err (record { fault = Fail.Spent page; committed = committed })) is in
      let k = spent.count in
      let lines = memory_done setup from to (take k queue) spent.made most spent.done in
      let high = spent.high in
      let few : k ≤ 2 * count + 2 = omega (arith, high) in
      let before : k ≤ count = omega (arith, high) in
      let log : after.logged.items ≡ cond (nat_lt count k) (cond (k == 2 * count + 2) [] (targets_of c.entries)) [] = search (rules, le-ltb) in
      lit_exit (Say.Spent page c.steps) (record { done = k; made = spent.made })
      (state.going_world c k spent.made few lines most (take k queue) spent.done log) (before, spent.next)
      (state.goes c k spent.made few lines most (take k queue) spent.done (stuck_still its.its_page)) spent.done.live
      (sym (ap (λ r. done_said (state.own c) c.steps r) is)) (stuck_still its.its_page ∙ sym (ap (stuck_said old.stuck) is))

  -- power was cut
  few_steps : most ≤ step_limit
  few_steps =
      let levels = c.world.whole_shape.at_most_six_levels in
      let lines = (state.whole c).few in
      let count_most : 2 * count + 2 ≤ 32 = omega (arith, lines) in
      let write_most : write_steps setup.shape ≤ 300 = omega (arith, levels, begun_most setup.shape c.world.whole_shape.persists_path) in
      let both : (2 * count + 2) * write_steps setup.shape ≤ 32 * write_steps setup.shape = mul-le-mul_right (write_steps setup.shape) count_most in
      omega (arith, both, write_most)

  abbrev CutAt : Type 0
  CutAt = IsCutAt setup from queue 0 (2 * count + 2) most to

  abbrev cut_answer : Bool → Result Committed CommitFault
  cut_answer committed = Err (record { fault = Fail.Cut; committed = committed })

  at_cut : (committed : Bool) → c.answer ≡ cut_answer committed → CutAt
  at_cut true is =
      let cut = state.ends c (cut_answer true) is in
      record { writing = cut.writing; low = omega arith; high = cut.high; came = cut.came; cut = cut.cut }
  at_cut false is = state.ends c (cut_answer false) is

  -- whether the header's own seal is among the new marks
  own_is : (it : CutAt) → state.own c ≡ list_any (is_own_seal n) it.writing.made
  own_is it =
      ap (λ m. is_sealed_since m c.old.state.ledger.marks c.new.state) (sym (state.n_is c))
      ∙ ap (list_any (is_own_seal n)) (ap (drop (length c.old.state.ledger.marks)) it.cut.marks
      ∙ drop_at c.old.state.ledger.marks it.writing.made (length c.old.state.ledger.marks) refl)

  gone_dark : (it : CutAt) → stuck_in c.new.store ≡ cond c.new.state.board.powered (stuck_said old.stuck c.answer) None
  gone_dark it = search rules

  kept_exit : (committed : Bool) → c.answer ≡ cut_answer committed → (it : CutAt) → count < it.writing.done
      → CommitExit (done_said (state.own c) c.steps c.answer)
  kept_exit committed is it past =
      let k = it.writing.done in
      let own : state.own c ≡ true = own_is it ∙ own_present setup.formulas (moment_now setup from) n c.entries c.some it.writing past it.came in
      let small = few_steps in
      let cut = state.cuts c k it.writing.made it.high it.cut.memory most (take k queue) it.cut in
      let below = cut.1 in
      let said : done_said (state.own c) c.steps c.answer ≡ Say.CutKept c.steps = search (rules, or_true) in
      subst CommitExit (sym said)
      (exit_of (Say.CutKept c.steps) it.writing (state.cut_world c k it.writing.made it.high it.cut.memory most (take k queue) it.cut) (past, it.came) cut
      (λ dark. omega (arith, below, small)) (sym said) (gone_dark it))

  lost_exit : c.answer ≡ cut_answer false → (it : CutAt) → it.writing.done ≤ count → CommitExit (done_said (state.own c) c.steps c.answer)
  lost_exit is it before =
      let k = it.writing.done in
      let own : state.own c ≡ false = own_is it ∙ own_absent setup.formulas (moment_now setup from) n c.entries c.some it.writing before it.came in
      let small = few_steps in
      let cut = state.cuts c k it.writing.made it.high it.cut.memory most (take k queue) it.cut in
      let below = cut.1 in
      let said : done_said (state.own c) c.steps c.answer ≡ Say.CutLost c.steps = search rules in
      subst CommitExit (sym said)
      (exit_of (Say.CutLost c.steps) it.writing (state.cut_world c k it.writing.made it.high it.cut.memory most (take k queue) it.cut) (before, it.came) cut
      (λ dark. omega (arith, below, small)) (sym said) (gone_dark it))

  -- with the header's own seal among the new marks, or before it
  cut_exit : (committed : Bool) → c.answer ≡ cut_answer committed → CommitExit (done_said (state.own c) c.steps c.answer)
  unfolding at_cut
  cut_exit true is =
      let cut = state.ends c (cut_answer true) is in
      let low = cut.low in
      let past : count < cut.writing.done = omega (arith, low) in kept_exit true is (at_cut true is) past
  cut_exit false is =
      let it = at_cut false is in
      elim (cases_lt count it.writing.done) [ inl past ↦ kept_exit false is it past | inr before ↦ lost_exit is it before ]

  -- whatever it answers
  pub exit : CommitExit (done_said (state.own c) c.steps c.answer)
  exit = go c.answer refl
    where
      said_as : (answer : Result Committed CommitFault) → c.answer ≡ answer → CommitExit (done_said (state.own c) c.steps answer)
          → CommitExit (done_said (state.own c) c.steps c.answer)
      said_as answer is it = subst (λ r. CommitExit (done_said (state.own c) c.steps r)) (sym is) it

      failed : (fault : Fault) (committed : Bool) → c.answer ≡ Err (record { fault = fault; committed = committed })
          → FailsTxnAt setup from queue count most fault committed to → CommitExit (done_said (state.own c) c.steps c.answer)
      failed (Fail.Spent page) committed is end =
          said_as (Err (record { fault = Fail.Spent page; committed = committed })) is (spent_exit page committed is)
      failed Fail.Cut committed is end = cut_exit committed is
      failed fault committed is end = absurd end

      go : (answer : Result Committed CommitFault) → c.answer ≡ answer → CommitExit (done_said (state.own c) c.steps c.answer)
      go (Ok Make.Applied) is = said_as (Ok Make.Applied) is (applied_exit is)
      go (Ok (Make.Stuck page)) is = said_as (Ok (Make.Stuck page)) is (stuck_exit page is)
      go (Err fault) is = failed fault.fault fault.committed is (state.ends c (Err fault) is)

  -- the header's own seal is asked for in a cut alone
  pub sealed_said : (sealed : Bool) → sealed ≡ (not c.new.state.board.powered && is_sealed_since n c.old.state.ledger.marks c.new.state)
      → done_said sealed c.steps c.answer ≡ done_said (state.own c) c.steps c.answer
  sealed_said sealed is = go c.answer refl
    where
      own_here : Bool
      own_here = is_sealed_since n c.old.state.ledger.marks c.new.state

      in_cut : (committed : Bool) → c.answer ≡ cut_answer committed
          → fault_said (committed || sealed) c.steps Fail.Cut ≡ fault_said (committed || state.own c) c.steps Fail.Cut
      in_cut committed same =
          ap (λ b. fault_said (committed || b) c.steps Fail.Cut) (is ∙ ap (λ b. not b && own_here) (at_cut committed same).cut.dark
          ∙ ap (λ m. is_sealed_since m c.old.state.ledger.marks c.new.state) (state.n_is c))

      failed : (fault : Fault) (committed : Bool) → c.answer ≡ Err (record { fault = fault; committed = committed })
          → FailsTxnAt setup from queue count most fault committed to
          → fault_said (committed || sealed) c.steps fault ≡ fault_said (committed || state.own c) c.steps fault
      failed (Fail.Spent page) committed same end = refl
      failed Fail.Cut committed same end = in_cut committed same
      failed fault committed same end = absurd end

      go : (answer : Result Committed CommitFault) → c.answer ≡ answer → done_said sealed c.steps answer ≡ done_said (state.own c) c.steps answer
      go (Ok Make.Applied) same = refl
      go (Ok (Make.Stuck page)) same = refl
      go (Err fault) same = failed fault.fault fault.committed same (state.ends c (Err fault) same)
