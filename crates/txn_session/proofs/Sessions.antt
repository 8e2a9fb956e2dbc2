-- What the answers of a session promise: of one answer, and of each chain of them.
use Rattle.std.proofs.Common.{ℕ, ◌≡◌, ◌<◌, ◌≤◌, Bool, true, false, List, [], ◌∷◌, length, Option, Some, None, refl, sym, ap, subst, ◌∙◌, arith, rules}
use Rattle.txn_session.proofs.Common.{All, nat_lt, replicate, unwrap_or, MatchOption, if◌then◌else◌, lt-ltb, le-ltb, All-nil, All-cons, Line, put_lines, Setup, Memory, TxnCommand, TxnAnswer, TxnState, Entries, txn_lines_in, moment_in, commit_writes, with_commit, begun_txn, of_open, txn_of_line, is_txn_full, committed, held, line_held, txn_after_decided, HasTxnCommitted, HasTxnRead, HasTxnOpened, IsCommitting, EndsCommit, IsTxnAnswered, IsTxnAnsweredAs, after_commit, most_of_commit}
use Rattle.txn_session.specs.declared.commands.TxnCommand.TheVariants as Do
use Rattle.txn_session.specs.declared.answers.TxnAnswer.TheVariants as Say
use Rattle.txn_session.proofs.WriteLists.{length-commit_writes}
use Rattle.txn_session.specs.Guarantees.{TxnReply, AreTxnAnswered, Seen, seen_after, IsTxnReadOf, AreReadAsCommitted, IsTxnMendedAnswer, stuck_after, IsStuckAnswer, AreStuckAnswers, IsTxnSpentAnswer, AreTxnSpentAsUsedUp, AreTxnsKept, AreTxnsSpent}

-- ---- one answer

-- what a state shows of the data lines and the open transaction
abbrev seen_in : TxnState → Seen
seen_in state = record { memory = state.memory; txn = state.txn }

record TxnStep (old : TxnState) (command : TxnCommand) (answer : TxnAnswer) (new : TxnState) : Type 0 where
  seen : seen_in new ≡ seen_after (seen_in old) command answer
  its_stuck : new.stuck ≡ stuck_after old.stuck command answer
  read : IsTxnReadOf (seen_in old) command answer
  mended : IsTxnMendedAnswer command answer
  refused : IsStuckAnswer old.stuck command answer

seen_is : (new : TxnState) (memory : Memory) (txn : Option Entries) → new.memory ≡ memory → new.txn ≡ txn
    → seen_in new ≡ (let seen : Seen = record { memory = memory; txn = txn } in seen)
seen_is new memory txn e f = search rules

-- ---- answers that the state decides

module _ (old : TxnState) where
  fixed_step : (command : TxnCommand) (fixed answer : TxnAnswer) (new : TxnState) → answer ≡ fixed → new ≡ txn_after_decided old command fixed
      → TxnStep old command fixed (txn_after_decided old command fixed) → TxnStep old command answer new
  fixed_step command fixed answer new e f it =
      subst (λ a. TxnStep old command a new) (sym e) (subst (TxnStep old command fixed) (sym f) it)

  begun_step : (stuck : Option ℕ) (txn : Option Entries) → old.stuck ≡ stuck
      → TxnStep old Do.Begin (begun_txn stuck txn) (txn_after_decided old Do.Begin (begun_txn stuck txn))
  begun_step (Some page) txn e = record { seen = refl; its_stuck = refl; read = tt; mended = tt; refused = e }
  begun_step None (Some entries) e = record { seen = refl; its_stuck = refl; read = tt; mended = tt; refused = e }
  begun_step None None e = record { seen = refl; its_stuck = refl; read = tt; mended = tt; refused = e }

  begin_step : (setup : Setup) (answer : TxnAnswer) (new : TxnState) (power : Bool)
      → IsTxnAnsweredAs (if power then Some (begun_txn old.stuck old.txn) else Some Say.Off) setup old Do.Begin answer new
      → TxnStep old Do.Begin answer new
  begin_step setup answer new true it =
      fixed_step Do.Begin (begun_txn old.stuck old.txn) answer new it.0 it.1 (begun_step old.stuck old.txn refl)
  begin_step setup answer new false it =
      fixed_step Do.Begin Say.Off answer new it.0 it.1 (record { seen = refl; its_stuck = refl; read = tt; mended = tt; refused = tt })

  put_open : (setup : Setup) (a : ℕ) (line : Line) (answer : TxnAnswer) (new : TxnState) (inside full : Bool)
      → IsTxnAnsweredAs (if inside then Some (if full then Say.Full else Say.Ok) else Some Say.Range) setup old (Do.Put a line) answer new
      → TxnStep old (Do.Put a line) answer new
  put_open setup a line answer new true true it =
      fixed_step (Do.Put a line) Say.Full answer new it.0 it.1 (record { seen = refl; its_stuck = refl; read = tt; mended = tt; refused = tt })
  put_open setup a line answer new true false it =
      fixed_step (Do.Put a line) Say.Ok answer new it.0 it.1 (record { seen = refl; its_stuck = refl; read = tt; mended = tt; refused = tt })
  put_open setup a line answer new false full it =
      fixed_step (Do.Put a line) Say.Range answer new it.0 it.1 (record { seen = refl; its_stuck = refl; read = tt; mended = tt; refused = tt })

  put_step : (setup : Setup) (a : ℕ) (line : Line) (answer : TxnAnswer) (new : TxnState) (power : Bool) (txn : Option Entries)
      → IsTxnAnsweredAs
      (if power then of_open txn (λ entries. txn_of_line old a (Some (if is_txn_full entries a then Say.Full else Say.Ok))) else Some Say.Off)
      setup old (Do.Put a line) answer new
      → TxnStep old (Do.Put a line) answer new
  put_step setup a line answer new true (Some entries) it =
      put_open setup a line answer new (nat_lt a (txn_lines_in old)) (is_txn_full entries a) it
  put_step setup a line answer new true None it =
      fixed_step (Do.Put a line) Say.Closed answer new it.0 it.1 (record { seen = refl; its_stuck = refl; read = tt; mended = tt; refused = tt })
  put_step setup a line answer new false txn it =
      fixed_step (Do.Put a line) Say.Off answer new it.0 it.1 (record { seen = refl; its_stuck = refl; read = tt; mended = tt; refused = tt })

  abort_step : (setup : Setup) (answer : TxnAnswer) (new : TxnState) (power : Bool) (txn : Option Entries)
      → IsTxnAnsweredAs (if power then of_open txn (λ entries. Some Say.Ok) else Some Say.Off) setup old Do.Abort answer new
      → TxnStep old Do.Abort answer new
  abort_step setup answer new true (Some entries) it =
      fixed_step Do.Abort Say.Ok answer new it.0 it.1 (record { seen = refl; its_stuck = refl; read = tt; mended = tt; refused = tt })
  abort_step setup answer new true None it =
      fixed_step Do.Abort Say.Closed answer new it.0 it.1 (record { seen = refl; its_stuck = refl; read = tt; mended = tt; refused = tt })
  abort_step setup answer new false txn it =
      fixed_step Do.Abort Say.Off answer new it.0 it.1 (record { seen = refl; its_stuck = refl; read = tt; mended = tt; refused = tt })

  off_step : (setup : Setup) (answer : TxnAnswer) (new : TxnState) (power : Bool)
      → IsTxnAnsweredAs (if power then Some Say.Ok else Some Say.Off) setup old Do.Off answer new → TxnStep old Do.Off answer new
  off_step setup answer new true it =
      fixed_step Do.Off Say.Ok answer new it.0 it.1 (record { seen = refl; its_stuck = refl; read = tt; mended = tt; refused = tt })
  off_step setup answer new false it =
      fixed_step Do.Off Say.Off answer new it.0 it.1 (record { seen = refl; its_stuck = refl; read = tt; mended = tt; refused = tt })

  -- ---- reads

  read_done : (setup : Setup) (a : ℕ) (answer : TxnAnswer) (new : TxnState) → line_held old a ≡ None → HasTxnRead old a answer new
      → TxnStep old (Do.Read a) answer new
  read_done setup a (Say.Got line steps) new none it = search (rules, seen_is, MatchOption)
  read_done setup a (Say.Cut steps) new none it = search seen_is
  read_done setup a answer new none it = absurd it

  read_line : (setup : Setup) (a : ℕ) (answer : TxnAnswer) (new : TxnState) (inside : Bool) (line : Option Line) → line_held old a ≡ line
      → IsTxnAnsweredAs (if inside then held line else Some Say.Range) setup old (Do.Read a) answer new
      → TxnStep old (Do.Read a) answer new
  read_line setup a answer new true (Some line) e it = search (rules, fixed_step, MatchOption)
  read_line setup a answer new true None e it = read_done setup a answer new e it.0
  read_line setup a answer new false line e it =
      fixed_step (Do.Read a) Say.Range answer new it.0 it.1 (record { seen = refl; its_stuck = refl; read = tt; mended = tt; refused = tt })

  read_step : (setup : Setup) (a : ℕ) (answer : TxnAnswer) (new : TxnState) (power : Bool)
      → IsTxnAnsweredAs (if power then txn_of_line old a (held (line_held old a)) else Some Say.Off) setup old (Do.Read a) answer new
      → TxnStep old (Do.Read a) answer new
  read_step setup a answer new true it = read_line setup a answer new (nat_lt a (txn_lines_in old)) (line_held old a) refl it
  read_step setup a answer new false it =
      fixed_step (Do.Read a) Say.Off answer new it.0 it.1 (record { seen = refl; its_stuck = refl; read = tt; mended = tt; refused = tt })

  -- ---- recovery

  opened_step : (setup : Setup) (answer : TxnAnswer) (new : TxnState) → HasTxnOpened setup old answer new → TxnStep old Do.On answer new
  opened_step setup (Say.Opened redone steps) new it = search seen_is
  opened_step setup (Say.Stuck page steps) new it = search seen_is
  opened_step setup (Say.Cut steps) new it = search seen_is
  opened_step setup answer new it = absurd it.ends

  on_step : (setup : Setup) (answer : TxnAnswer) (new : TxnState) (power : Bool)
      → IsTxnAnsweredAs (if power then Some Say.Already else None) setup old Do.On answer new → TxnStep old Do.On answer new
  on_step setup answer new true it =
      fixed_step Do.On Say.Already answer new it.0 it.1 (record { seen = refl; its_stuck = refl; read = tt; mended = tt; refused = tt })
  on_step setup answer new false it = opened_step setup answer new it.0

  -- ---- commits

  -- with the header the transaction is in memory, and without it nothing is
  done_memory : (entries : Entries) (done : ℕ) → length entries < done → (with_commit old entries done).memory ≡ put_lines entries old.memory
  done_memory entries done past = search lt-ltb

  undone_memory : (entries : Entries) (done : ℕ) → done ≤ length entries → (with_commit old entries done).memory ≡ old.memory
  undone_memory entries done before = search le-ltb

  by_done : (b : Bool) (memory : Memory) (in_force : List ℕ)
      → (let state : TxnState = if b then record old { txn = None; memory = memory; in_force = in_force } else record old { txn = None } in
      (state.txn ≡ None) × (state.stuck ≡ old.stuck))
  by_done true memory in_force = (refl, refl)
  by_done false memory in_force = (refl, refl)

  closed_after : (entries : Entries) (done : ℕ) → ((with_commit old entries done).txn ≡ None) × ((with_commit old entries done).stuck ≡ old.stuck)
  closed_after entries done = search by_done

committed_step : (setup : Setup) (old : TxnState) (entry : ℕ × Line) (rest : Entries) (answer : TxnAnswer) (new : TxnState)
    → old.txn ≡ Some (entry ∷ rest) → HasTxnCommitted setup old (entry ∷ rest) answer new → TxnStep old Do.Commit answer new
committed_step setup old entry rest answer new opened it = go answer it.came it.ends
  where
    its : unwrap_or old.txn [] ≡ entry ∷ rest
    its = ap (λ txn. unwrap_or txn []) opened

    is_written : new.memory ≡ (with_commit old (entry ∷ rest) it.writing.done).memory → new.txn ≡ (with_commit old (entry ∷ rest) it.writing.done).txn
        → length (entry ∷ rest) < it.writing.done
        → seen_in new ≡ (let seen : Seen = record { memory = put_lines (unwrap_or old.txn []) old.memory; txn = None } in seen)
    is_written e f past =
        seen_is new (put_lines (unwrap_or old.txn []) old.memory) None
        (e ∙ done_memory old (entry ∷ rest) it.writing.done past ∙ ap (λ es. put_lines es old.memory) (sym its))
        (f ∙ (closed_after old (entry ∷ rest) it.writing.done).0)

    is_cut : new.memory ≡ (with_commit old (entry ∷ rest) it.writing.done).memory → new.txn ≡ None → length (entry ∷ rest) < it.writing.done
        → seen_in new ≡ (let seen : Seen = record { memory = put_lines (unwrap_or old.txn []) old.memory; txn = None } in seen)
    is_cut e f past =
        seen_is new (put_lines (unwrap_or old.txn []) old.memory) None
        (e ∙ done_memory old (entry ∷ rest) it.writing.done past ∙ ap (λ es. put_lines es old.memory) (sym its)) f

    isnt_written : new.memory ≡ (with_commit old (entry ∷ rest) it.writing.done).memory → new.txn ≡ None → it.writing.done ≤ length (entry ∷ rest)
        → seen_in new ≡ (let seen : Seen = record { memory = old.memory; txn = None } in seen)
    isnt_written e f before = seen_is new old.memory None (e ∙ undone_memory old (entry ∷ rest) it.writing.done before) f

    closing : ((with_commit old (entry ∷ rest) it.writing.done).txn ≡ None) × ((with_commit old (entry ∷ rest) it.writing.done).stuck ≡ old.stuck)
    closing = closed_after old (entry ∷ rest) it.writing.done

    go : (answer : TxnAnswer)
        → IsCommitting (length (entry ∷ rest)) setup.formulas (moment_in setup old.session) (commit_writes (txn_lines_in old) (entry ∷ rest)) it.writing answer
        → EndsCommit (after_commit old (entry ∷ rest) it.writing) (most_of_commit old.session.shape (length (entry ∷ rest))) answer new
        → TxnStep old Do.Commit answer new
    go (Say.Applied steps) came ends =
        let through = came.0 in
        let long = length-commit_writes (txn_lines_in old) entry rest in
        record {
          seen = is_written ends.0.memory ends.0.txn (omega (arith, through, long));
          its_stuck = ends.0.stuck ∙ closing.1;
          read = tt;
          mended = tt;
          refused = tt;
        }
    go (Say.Stuck page steps) came ends =
        record {
          seen = is_written ends.0.memory ends.0.txn came.0;
          its_stuck = ends.0.stuck;
          read = tt;
          mended = tt;
          refused = tt;
        }
    go (Say.Spent page steps) came ends =
        record {
          seen = isnt_written ends.0.memory (ends.0.txn ∙ closing.0) came.0;
          its_stuck = ends.0.stuck ∙ closing.1;
          read = tt;
          mended = tt;
          refused = tt;
        }
    go (Say.CutKept steps) came ends =
        record {
          seen = is_cut ends.0.memory ends.0.txn came.0;
          its_stuck = ends.0.stuck;
          read = tt;
          mended = tt;
          refused = tt;
        }
    go (Say.CutLost steps) came ends =
        record {
          seen = isnt_written ends.0.memory ends.0.txn came.0;
          its_stuck = ends.0.stuck;
          read = tt;
          mended = tt;
          refused = tt;
        }
    go answer came ends = absurd ends

commit_step : (setup : Setup) (old : TxnState) (answer : TxnAnswer) (new : TxnState) (power : Bool) (txn : Option Entries) → old.txn ≡ txn
    → IsTxnAnsweredAs (if power then of_open txn committed else Some Say.Off) setup old Do.Commit answer new → TxnStep old Do.Commit answer new
commit_step setup old answer new true (Some []) e it = search rules
commit_step setup old answer new true (Some (entry ∷ rest)) e it =
    committed_step setup old entry rest answer new e
    (subst (λ es. HasTxnCommitted setup old es answer new) (ap (λ t. unwrap_or t []) e) it.0)
commit_step setup old answer new true None e it =
    fixed_step old Do.Commit Say.Closed answer new it.0 it.1 (record { seen = refl; its_stuck = refl; read = tt; mended = tt; refused = tt })
commit_step setup old answer new false txn e it =
    fixed_step old Do.Commit Say.Off answer new it.0 it.1 (record { seen = refl; its_stuck = refl; read = tt; mended = tt; refused = tt })

step : (setup : Setup) (old : TxnState) (command : TxnCommand) (answer : TxnAnswer) (new : TxnState) → IsTxnAnswered setup old command answer new
    → TxnStep old command answer new
step setup old Do.Begin answer new it = begin_step old setup answer new old.session.board.powered it
step setup old (Do.Put a line) answer new it = put_step old setup a line answer new old.session.board.powered old.txn it
step setup old Do.Commit answer new it = commit_step setup old answer new old.session.board.powered old.txn refl it
step setup old Do.Abort answer new it = abort_step old setup answer new old.session.board.powered old.txn it
step setup old (Do.Read a) answer new it = read_step old setup a answer new old.session.board.powered it
step setup old (Do.Cut n) answer new it =
    fixed_step old (Do.Cut n) Say.Ok answer new it.0 it.1 (record { seen = refl; its_stuck = refl; read = tt; mended = tt; refused = tt })
step setup old Do.Off answer new it = off_step old setup answer new old.session.board.powered it
step setup old Do.On answer new it = on_step old setup answer new old.session.board.powered it

-- ---- a chain of answers

reads_of : (setup : Setup) (first last : TxnState) (replies : List TxnReply) → AreTxnAnswered setup first replies last
    → AreReadAsCommitted (seen_in first) replies
reads_of setup first last [] chain = tt
reads_of setup first last (reply ∷ replies) chain = search (rules, step, (reads_of setup chain.0 last replies chain.2))

mended_of : (setup : Setup) (first last : TxnState) (replies : List TxnReply) → AreTxnAnswered setup first replies last
    → All (λ reply. IsTxnMendedAnswer reply.command reply.answer) replies
mended_of setup first last [] chain = All-nil (λ reply. IsTxnMendedAnswer reply.command reply.answer)
mended_of setup first last (reply ∷ replies) chain = search (rules, All-cons, step, (mended_of setup chain.0 last replies chain.2))

stuck_of : (setup : Setup) (first last : TxnState) (replies : List TxnReply) → AreTxnAnswered setup first replies last
    → AreStuckAnswers first.stuck replies
stuck_of setup first last [] chain = tt
stuck_of setup first last (reply ∷ replies) chain = search (rules, step, (stuck_of setup chain.0 last replies chain.2))

pub txns_kept_always : (setup : Setup) → AreTxnsKept setup
txns_kept_always setup replies last session = search (rules, seen_is, replicate, reads_of, mended_of, stuck_of)

-- ---- used up

module _ (setup : Setup) (first next : TxnState) where
  commit_spent : (answer : TxnAnswer) → HasTxnCommitted setup first (unwrap_or first.txn []) answer next
      → IsTxnSpentAnswer setup first Do.Commit answer next
  commit_spent (Say.Spent page steps) it = search (rules, undone_memory, unwrap_or)
  commit_spent (Say.Stuck page steps) it =
      (it.writing.done, it.came.0, record { used_up = it.came.1.spent; its_page = it.came.1.its_page })
  commit_spent answer it = tt

  by_txn : (answer : TxnAnswer) (power : Bool) (txn : Option Entries)
      → IsTxnAnsweredAs (if power then of_open txn committed else Some Say.Off) setup first Do.Commit answer next
      → IsTxnSpentAnswer setup first Do.Commit answer next
  by_txn answer true (Some []) it = subst (λ a. IsTxnSpentAnswer setup first Do.Commit a next) (sym it.0) tt
  by_txn answer true (Some (entry ∷ rest)) it = commit_spent answer it.0
  by_txn answer true None it = subst (λ a. IsTxnSpentAnswer setup first Do.Commit a next) (sym it.0) tt
  by_txn answer false txn it = subst (λ a. IsTxnSpentAnswer setup first Do.Commit a next) (sym it.0) tt

  opened_spent : (answer : TxnAnswer) → HasTxnOpened setup first answer next → IsTxnSpentAnswer setup first Do.On answer next
  opened_spent (Say.Stuck page steps) it = (it.writing.done, record { used_up = it.came.spent; its_page = it.came.its_page })
  opened_spent answer it = tt

  by_power : (answer : TxnAnswer) (power : Bool) → IsTxnAnsweredAs (if power then Some Say.Already else None) setup first Do.On answer next
      → IsTxnSpentAnswer setup first Do.On answer next
  by_power answer true it = subst (λ a. IsTxnSpentAnswer setup first Do.On a next) (sym it.0) tt
  by_power answer false it = opened_spent answer it.0

  spent_answer : (command : TxnCommand) (answer : TxnAnswer) → IsTxnAnswered setup first command answer next
      → IsTxnSpentAnswer setup first command answer next
  spent_answer Do.Commit answer it = by_txn answer first.session.board.powered first.txn it
  spent_answer Do.On answer it = by_power answer first.session.board.powered it
  spent_answer command answer it = tt

all_spent : (setup : Setup) (first last : TxnState) (replies : List TxnReply) → AreTxnAnswered setup first replies last
    → AreTxnSpentAsUsedUp setup first replies
all_spent setup first last [] chain = tt
all_spent setup first last (reply ∷ replies) chain =
    (chain.0, chain.1, spent_answer setup first chain.0 reply.command reply.answer chain.1, all_spent setup chain.0 last replies chain.2)

pub txns_spent_always : (setup : Setup) → AreTxnsSpent setup
txns_spent_always setup first last replies new chain = all_spent setup first last replies chain
