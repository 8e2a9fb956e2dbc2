-- A memory that is written by transactions, from its lines and texts to its commands and answers.
use Rattle.std.proofs.Common.{◌≡◌, ℕ, List, [], ◌∷◌, refl, sym, ap, subst, subst₂, inl, inr}
use Rattle.pmem_base.specs.Shape.{Shape}
use Rattle.suite.specs.Formulas.{Formulas}
use Rattle.suite.specs.Setup.{Setup}
use Rattle.txn_session.specs.declared.commands.TxnCommand.{TxnCommand}
use Rattle.txn_session.specs.declared.answers.TxnAnswer.{TxnAnswer}
use Rattle.txn_session.specs.Answered.{IsTxnAnswered, IsTxnTalkedOf, IsTxnShownOf, IsTxnStarvedOf}
use Rattle.txn_session.specs.Commands.{sort_of_txn}
use Rattle.txn_session.proofs.AnswerClauses.{kept_always}
use Rattle.txn_session.specs.Guarantees.{TxnReply, AreTxnAnswered, AreTxnsKept, AreTxnsSpent}
use Rattle.txn_session.specs.State.{TxnState, IsNewTxn, txn_setup_in}
use Rattle.plain_model.specs.Texts.{as_line}
use Rattle.trace_text.specs.Conversations.{Protocol, talk_protocol, AreRepliesGiven}
use Rattle.pmem_cli.specs.Sessions.{Said, reply, exhibit, session_protocol, replies_among}
use Rattle.line_session.specs.New.{IsNewByPlan}
use Rattle.txn_session.specs.Planned.{open_call}
use Rattle.pmem_cli.specs.Txn.{IsFirstTxn, transactions_session}
use Rattle.pmem_cli.proofs.FollowedTalks.{Follows}
use Rattle.pmem_cli.proofs.SessionLemmas.{KeepsPromise}

-- the setup of a state stays
setup_stays : (f : List ℕ → Formulas) (setup : Setup) (old : TxnState) (command : TxnCommand) (answer : TxnAnswer) (new : TxnState)
    → txn_setup_in f old ≡ setup → IsTxnAnswered setup old command answer new → txn_setup_in f new ≡ setup
setup_stays f setup old command answer new is answered =
    let same = kept_always setup old new command answer answered in rw (same.shape, same.keys) is

-- ---- lines and texts

-- a memory that is written by transactions as it talks
abbrev pub txn_protocol : (List ℕ → Formulas) → Protocol TxnState (List ℕ)
txn_protocol f =
    talk_protocol sort_of_txn (λ old line text new. IsTxnTalkedOf (txn_setup_in f old) old line text new)
    (λ old line its new. IsTxnShownOf (txn_setup_in f old) old line its new) IsTxnStarvedOf

-- what a session of this setup says is said by its commands and answers
pub follows_txn : (f : List ℕ → Formulas) (setup : Setup) (keys : List ℕ)
    → Follows (txn_protocol f) (session_protocol (transactions_session setup keys)) (λ state. txn_setup_in f state ≡ setup)
follows_txn f setup keys =
    record {
      sorts = λ line. refl;
      wants = λ old line is wants. wants;
      answered = λ old new line text is talked.
          let answered = subst (λ (u : Setup). IsTxnAnswered u old talked.command talked.answer new) is talked.answered in (
            reply (record { command = talked.command; answer = talked.answer }),
            (talked.its_reading, answered),
            ap as_line (sym talked.its_text),
            setup_stays f setup old talked.command talked.answer new is answered,
          );
      shown = λ old new line text is shown.
          (exhibit shown.0, subst (λ (u : Setup). IsTxnShownOf u old line shown.0 new) is shown.2, ap as_line (sym shown.1));
    }

-- ---- what its replies promise

answered_of_given : (setup : Setup) (keys : List ℕ) (first : TxnState) (said : List (Said TxnReply))
    → AreRepliesGiven (session_protocol (transactions_session setup keys)) first said → (last : TxnState) × AreTxnAnswered setup first (replies_among said) last
answered_of_given setup keys first [] given = (first, refl)
answered_of_given setup keys first (reply its ∷ said) (line, its_sort, inl (next, answered, more)) =
    let rest = answered_of_given setup keys next said more in (rest.0, (next, answered.1, rest.1))
answered_of_given setup keys first (reply its ∷ said) (line, its_sort, inr (next, shown, none)) = absurd shown
answered_of_given setup keys first (exhibit its ∷ said) (line, its_sort, inl (next, answered, more)) = absurd answered
answered_of_given setup keys first (exhibit its ∷ said) (line, its_sort, inr (next, shown, none)) =
    (first, subst (λ (zs : List (Said TxnReply)). AreTxnAnswered setup first (replies_among zs) first) (sym none) refl)

pub keeps_txn : (setup : Setup) (keys : List ℕ) → AreTxnsKept setup → AreTxnsSpent setup → KeepsPromise (transactions_session setup keys)
keeps_txn setup keys kept spent first said begins given =
    let chain = answered_of_given setup keys first said given in (
      kept (replies_among said) chain.0 (record { first = first; is_new = begins.new; answered = chain.1 }),
      spent first chain.0 (replies_among said) begins.new chain.1,
    )

-- a new one of a suite that had made nothing
pub first_txn : (setup : Setup) (keys : List ℕ) (tags digests : ℕ) (state : TxnState) → tags ≡ 0 → digests ≡ 0 → IsNewTxn setup state
    → IsNewByPlan setup (open_call setup) tags digests state.session → state.session.keys ≡ keys → IsFirstTxn setup keys state
first_txn setup keys tags digests state no_tags no_digests new opened same =
    record {
      new = new;
      opened = subst₂ (λ t d. IsNewByPlan setup (open_call setup) t d state.session) no_tags no_digests opened;
      its_keys = same;
    }

-- the setup of a new one
pub setup_begins : (f : List ℕ → Formulas) (shape : Shape) (keys : List ℕ) (state : TxnState)
    → IsNewTxn (record { shape = shape; formulas = f keys }) state → state.session.keys ≡ keys
    → ◌≡◌ {A = Setup} (txn_setup_in f state) (record { shape = shape; formulas = f keys })
setup_begins f shape keys state is same = rw (is.session.shape, same) refl
