-- Two replies to one command from one state are the same, and leave the same state and the same log; and two new states are
-- the same.
use Rattle.std.proofs.Common.{ℕ, ◌≡◌, arith, List, [], Option, Some, None, Result, Ok, Err, sym, ap, subst, ◌∙◌, rules}
use Rattle.wear_session.proofs.Common.{if◌then◌else◌, true≢false, Setup, LineSession, WearCommand, WearAnswer, WearState, wear_left, IsWearCalled, read_call, read_said, write_call, write_said, open_call, open_said, IsWearAnswered, IsWearAnsweredAs, IsWearShownBy, HasWearOpened, wear_decided}
use Rattle.line_session.proofs.NewDetermined.{new_determined}
use Rattle.line_session.proofs.Outcomes.{called_answer, started_answer, refusal_determined, refusal_alone, twin_in}
use Rattle.wear_session.specs.declared.commands.WearCommand.TheVariants as Do
use Rattle.wear_session.specs.declared.answers.WearAnswer.TheVariants as Say
use Rattle.pmem_base.specs.declared.commands.Kind.{Kind}
use Rattle.wear_session.specs.Logged.{IsWearLogged, IsWearLogOf}
use Rattle.wear_session.specs.Determined.{WearRepliesAreDetermined, NewWearIsDetermined, WearLogsAreDetermined}
use Rattle.std.proofs.lemmas.Option.{same_Some}
use Rattle.board.specs.declared.access.Access.{Access}
use Rattle.trace_text.proofs.LogLemmas.{same_logged}
use Rattle.pmem_base.specs.declared.answers.Exhibit.{Exhibit}
use Rattle.pmem_base.specs.declared.answers.Exhibit.TheVariants.{Twin}
use Rattle.pmem_recovery.specs.declared.faults.RecFault.TheVariants as Rec

module _ (setup : Setup) (old one other : WearState) (first second : WearAnswer) where
  abbrev AreSame : Type 0
  AreSame = (first ≡ second) × (one ≡ other)

  abbrev said : WearAnswer × ℕ
  said = (first, one.count)

  abbrev more : WearAnswer × ℕ
  more = (second, other.count)

  -- sessions that are the same, whose memory and wear the marks say
  same_said : (said ≡ more) × (one.session ≡ other.session) → one ≡ wear_left setup old.every one.session one.count
      → other ≡ wear_left setup old.every other.session other.count → AreSame
  same_said same it its = search rules

  called_by : (command : WearCommand) → IsWearCalled setup old command first one → IsWearCalled setup old command second other → AreSame
  called_by (Do.Read a) it its =
      same_said
      (called_answer (read_call setup old a) (read_said old.count) said more old.session one.session other.session it.0 its.0)
      it.1 its.1
  called_by (Do.Write a plain) it its =
      same_said
      (called_answer (write_call setup old a plain) (write_said old a) said more old.session one.session other.session it.0 its.0)
      it.1 its.1
  called_by Do.On it its =
      same_said
      (started_answer setup (open_call setup) open_said said more old.session one.session other.session it.0 its.0) it.1 its.1
  called_by command it its = absurd it.0

  -- the state decides, or else the call does
  answered_by : (decided : Option WearAnswer) (command : WearCommand) → IsWearAnsweredAs decided setup old command first one
      → IsWearAnsweredAs decided setup old command second other → AreSame
  answered_by (Some fixed) command it its = (it.0 ∙ sym its.0, it.1 ∙ sym its.1)
  answered_by None command it its = called_by command it.1 its.1

module _ (setup : Setup) (old one other : WearState) where
  -- two exhibits are the same
  shown_twice : (command : WearCommand) (first second : Exhibit) → IsWearShownBy setup old command first one → IsWearShownBy setup old command second other
      → (first ≡ second) × (one ≡ other)
  shown_twice Do.On (Twin at major low high cipher tag) (Twin line number least most stored its_tag) it its =
      let same =
      refusal_determined setup (open_call setup) old.session (Rec.Twin at major low high cipher tag) (Rec.Twin line number least most stored its_tag)
      one.session other.session it.4 its.4 in
      (ap twin_in same.0, it.5 ∙ ap (λ (s : LineSession). wear_left setup old.every s 0) same.1 ∙ sym its.5)
  shown_twice Do.On (Twin at major low high cipher tag) second it its = absurd its
  shown_twice command first second it its = absurd it

  -- an answer isn't an exhibit: recovery ended with power on
  not_both : (command : WearCommand) (answer : WearAnswer) (exhibit : Exhibit) → IsWearAnswered setup old command answer one
      → IsWearShownBy setup old command exhibit other → ⊥
  not_both Do.On answer (Twin at major low high cipher tag) it its =
      let none : wear_decided old Do.On ≡ None = ap (λ b. if b then Some Say.Already else None) its.0 in
      let by_call : IsWearAnsweredAs None setup old Do.On answer one = subst (λ d. IsWearAnsweredAs d setup old Do.On answer one) none it in
      let start = by_call.1.0 in
      let alone =
      refusal_alone setup (open_call setup) start.steps start.end old.session one.session other.session (Rec.Twin at major low high cipher tag)
      start.called its.4 in
      let cut : answer ≡ Say.Cut start.steps =
      ap (λ (s : WearAnswer × ℕ). s.0) start.is_said ∙ ap (λ end. (open_said one.session start.steps end).0) alone.0 in
      let gone : HasWearOpened old (Say.Cut start.steps) one = subst (λ a. HasWearOpened old a one) cut by_call.0 in
      true≢false (sym alone.1 ∙ gone.0.power)
  not_both command answer exhibit it its = absurd its

pub replies_are_determined : (setup : Setup) → WearRepliesAreDetermined setup
replies_are_determined setup old one other command (Ok first) (Ok second) it its =
    let same = answered_by setup old one other first second (wear_decided old command) command it its in (ap Ok same.0, same.1)
replies_are_determined setup old one other command (Ok first) (Err second) it its = absurd (not_both setup old one other command first second it its)
replies_are_determined setup old one other command (Err first) (Ok second) it its = absurd (not_both setup old other one command second first its it)
replies_are_determined setup old one other command (Err first) (Err second) it its =
    let same = shown_twice setup old one other command first second it its in (ap Err same.0, same.1)

-- ---- new states

-- a state is its fields
same_state : (a b : WearState) → a.session ≡ b.session → a.every ≡ b.every → a.memory ≡ b.memory → a.wear ≡ b.wear → a.count ≡ b.count → a ≡ b
same_state a b session every memory wear count = grind arith

pub begins_are_determined : (setup : Setup) → NewWearIsDetermined setup
begins_are_determined setup every tags digests a b new other it its keys =
    same_state a b (new_determined setup (open_call setup) tags digests a.session b.session new.session other.session it its keys)
    (new.its_every ∙ sym other.its_every) (new.memory ∙ sym other.memory) (new.wear ∙ sym other.wear) (new.count ∙ sym other.count)

-- ---- logs

same_accesses : (command : WearCommand) (old new : WearState) (accesses others : List Access) → IsWearLogged command (Some []) old (Some accesses) new
    → IsWearLogged command (Some []) old (Some others) new → accesses ≡ others
same_accesses (Do.Write a plain) old new accesses others it its =
    same_logged (wear_decided old (Do.Write a plain)) old.session.board new.session.board accesses others it its
same_accesses (Do.Read a) old new accesses others it its =
    same_logged (wear_decided old (Do.Read a)) old.session.board new.session.board accesses others it its
same_accesses Do.On old new accesses others it its = same_logged (wear_decided old Do.On) old.session.board new.session.board accesses others it its
same_accesses command old new accesses others it its = same_Some accesses others (it ∙ sym its)

-- the same of what a line asks for
pub same_logs : (reading : Result (Option WearCommand) Kind) (old new : WearState) (accesses others : List Access)
    → IsWearLogOf reading (Some []) old (Some accesses) new → IsWearLogOf reading (Some []) old (Some others) new → accesses ≡ others
same_logs (Ok (Some command)) old new accesses others it its = same_accesses command old new accesses others it its
same_logs (Ok None) old new accesses others it its = same_Some accesses others (it ∙ sym its)
same_logs (Err kind) old new accesses others it its = same_Some accesses others (it ∙ sym its)

pub logs_are_determined : (setup : Setup) → WearLogsAreDetermined setup
logs_are_determined setup old one other command first second accesses others it its log its_log = search (rules, replies_are_determined, same_accesses)
