-- Two replies to one command from one state are the same, and leave the same state and the same log; and two new states are
-- the same.
use Rattle.std.proofs.Common.{ℕ, ◌≡◌, arith, true, false, List, [], Option, Some, None, Result, Ok, Err, sym, ap, subst, ◌∙◌, rules}
use Rattle.txn_session.proofs.Common.{true≢false, Setup, LineSession, TxnCommand, TxnAnswer, TxnState, txn_left, IsTxnCalled, Said, read_call, read_said, commit_call, commit_said, open_call, open_said, HasTxnOpened, IsTxnAnswered, IsTxnAnsweredAs, IsTxnShownBy, txn_decided}
use Rattle.txn_session.proofs.AnswerClauses.{on_undecided}
use Rattle.line_session.proofs.NewDetermined.{new_determined}
use Rattle.line_session.proofs.Outcomes.{called_answer, started_answer, refusal_determined, refusal_alone, twin_in}
use Rattle.txn_session.specs.declared.commands.TxnCommand.TheVariants as Do
use Rattle.txn_session.specs.declared.answers.TxnAnswer.TheVariants as Say
use Rattle.pmem_base.specs.declared.commands.Kind.{Kind}
use Rattle.txn_session.specs.Logged.{IsTxnLogged, IsTxnLogOf}
use Rattle.txn_session.specs.Determined.{TxnRepliesAreDetermined, NewTxnIsDetermined, TxnLogsAreDetermined}
use Rattle.std.proofs.lemmas.Option.{same_Some}
use Rattle.board.specs.declared.access.Access.{Access}
use Rattle.trace_text.proofs.LogLemmas.{same_logged}
use Rattle.pmem_base.specs.declared.answers.Exhibit.{Exhibit}
use Rattle.pmem_base.specs.declared.answers.Exhibit.TheVariants.{Twin}
use Rattle.pmem_recovery.specs.declared.faults.RecFault.TheVariants as Rec

module _ (setup : Setup) (old one other : TxnState) (first second : TxnAnswer) where
  abbrev AreSame : Type 0
  AreSame = (first ≡ second) × (one ≡ other)

  abbrev said : Said
  said = (first, (one.stuck, one.txn))

  abbrev more : Said
  more = (second, (other.stuck, other.txn))

  -- sessions that are the same, whose memory and targets the marks say
  same_said : (said ≡ more) × (one.session ≡ other.session) → one ≡ txn_left setup one.session one.stuck one.txn
      → other ≡ txn_left setup other.session other.stuck other.txn → AreSame
  same_said same it its = search rules

  called_by : (command : TxnCommand) → IsTxnCalled setup old command first one → IsTxnCalled setup old command second other → AreSame
  called_by (Do.Read a) it its =
      same_said
      (called_answer (read_call setup old a) (read_said old) said more old.session one.session other.session it.0 its.0)
      it.1 its.1
  called_by Do.Commit it its =
      same_said
      (called_answer (commit_call setup old) (commit_said old) said more old.session one.session other.session it.0 its.0)
      it.1 its.1
  called_by Do.On it its =
      same_said
      (started_answer setup (open_call setup) open_said said more old.session one.session other.session it.0 its.0) it.1 its.1
  called_by command it its = absurd it.0

  -- the state decides, or else the call does
  answered_by : (decided : Option TxnAnswer) (command : TxnCommand) → IsTxnAnsweredAs decided setup old command first one
      → IsTxnAnsweredAs decided setup old command second other → AreSame
  answered_by (Some fixed) command it its = (it.0 ∙ sym its.0, it.1 ∙ sym its.1)
  answered_by None command it its = called_by command it.1 its.1

module _ (setup : Setup) (old one other : TxnState) where
  -- two exhibits are the same
  shown_twice : (command : TxnCommand) (first second : Exhibit) → IsTxnShownBy setup old command first one → IsTxnShownBy setup old command second other
      → (first ≡ second) × (one ≡ other)
  shown_twice Do.On (Twin at major low high cipher tag) (Twin line number least most stored its_tag) it its =
      let same =
      refusal_determined setup (open_call setup) old.session (Rec.Twin at major low high cipher tag) (Rec.Twin line number least most stored its_tag)
      one.session other.session it.4 its.4 in
      (ap twin_in same.0, it.5 ∙ ap (λ (s : LineSession). txn_left setup s None None) same.1 ∙ sym its.5)
  shown_twice Do.On (Twin at major low high cipher tag) second it its = absurd its
  shown_twice command first second it its = absurd it

  -- an answer isn't an exhibit: recovery ended with power on
  not_both : (command : TxnCommand) (answer : TxnAnswer) (exhibit : Exhibit) → IsTxnAnswered setup old command answer one
      → IsTxnShownBy setup old command exhibit other → ⊥
  not_both Do.On answer (Twin at major low high cipher tag) it its =
      let by_call : IsTxnAnsweredAs None setup old Do.On answer one = subst (λ d. IsTxnAnsweredAs d setup old Do.On answer one) (on_undecided old its.0) it in
      let start = by_call.1.0 in
      let alone =
      refusal_alone setup (open_call setup) start.steps start.end old.session one.session other.session (Rec.Twin at major low high cipher tag)
      start.called its.4 in
      let cut : answer ≡ Say.Cut start.steps =
      ap (λ (s : Said). s.0) start.is_said ∙ ap (λ end. (open_said one.session start.steps end).0) alone.0 in
      let gone : HasTxnOpened setup old (Say.Cut start.steps) one = subst (λ a. HasTxnOpened setup old a one) cut by_call.0 in
      true≢false (sym alone.1 ∙ gone.ends.0.power)
  not_both command answer exhibit it its = absurd its

pub replies_are_determined : (setup : Setup) → TxnRepliesAreDetermined setup
replies_are_determined setup old one other command (Ok first) (Ok second) it its =
    let same = answered_by setup old one other first second (txn_decided old command) command it its in (ap Ok same.0, same.1)
replies_are_determined setup old one other command (Ok first) (Err second) it its = absurd (not_both setup old one other command first second it its)
replies_are_determined setup old one other command (Err first) (Ok second) it its = absurd (not_both setup old other one command second first its it)
replies_are_determined setup old one other command (Err first) (Err second) it its =
    let same = shown_twice setup old one other command first second it its in (ap Err same.0, same.1)

-- ---- new states

-- a state is its fields
same_state : (a b : TxnState) → a.session ≡ b.session → a.memory ≡ b.memory → a.in_force ≡ b.in_force → a.stuck ≡ b.stuck → a.txn ≡ b.txn → a ≡ b
same_state a b session memory in_force stuck txn = grind arith

pub begins_are_determined : (setup : Setup) → NewTxnIsDetermined setup
begins_are_determined setup tags digests a b new other it its keys =
    same_state a b (new_determined setup (open_call setup) tags digests a.session b.session new.session other.session it its keys)
    (new.memory ∙ sym other.memory) (new.in_force ∙ sym other.in_force) (new.stuck ∙ sym other.stuck) (new.txn ∙ sym other.txn)

-- ---- logs

same_accesses : (command : TxnCommand) (old new : TxnState) (accesses others : List Access) → IsTxnLogged command (Some []) old (Some accesses) new
    → IsTxnLogged command (Some []) old (Some others) new → accesses ≡ others
same_accesses Do.Commit old new accesses others it its =
    same_logged (txn_decided old Do.Commit) old.session.board new.session.board accesses others it its
same_accesses (Do.Read a) old new accesses others it its =
    same_logged (txn_decided old (Do.Read a)) old.session.board new.session.board accesses others it its
same_accesses Do.On old new accesses others it its = same_logged (txn_decided old Do.On) old.session.board new.session.board accesses others it its
same_accesses command old new accesses others it its = same_Some accesses others (it ∙ sym its)

-- the same of what a line asks for
pub same_logs : (reading : Result (Option TxnCommand) Kind) (old new : TxnState) (accesses others : List Access)
    → IsTxnLogOf reading (Some []) old (Some accesses) new → IsTxnLogOf reading (Some []) old (Some others) new → accesses ≡ others
same_logs (Ok (Some command)) old new accesses others it its = same_accesses command old new accesses others it its
same_logs (Ok None) old new accesses others it its = same_Some accesses others (it ∙ sym its)
same_logs (Err kind) old new accesses others it its = same_Some accesses others (it ∙ sym its)

pub logs_are_determined : (setup : Setup) → TxnLogsAreDetermined setup
logs_are_determined setup old one other command first second accesses others it its log its_log = search (rules, replies_are_determined, same_accesses)
