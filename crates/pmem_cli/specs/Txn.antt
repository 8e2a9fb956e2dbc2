-- A memory that is written by transactions, as the session of a command.
use Rattle.std.specs.Prelude.{◌≡◌, ℕ, List, Some, Ok}
use Rattle.pmem_base.specs.declared.geometry.Geo.{Geo}
use Rattle.suite.specs.Formulas.{Formulas}
use Rattle.suite.specs.Setup.{Setup}
use Rattle.line_session.specs.New.{IsNewByPlan}
use Rattle.line_txn.specs.Store.{logged_lines}
use Rattle.txn_session.specs.Answered.{IsTxnAnswered, IsTxnShownOf, IsTxnStarvedOf}
use Rattle.txn_session.specs.Answers.{txn_text}
use Rattle.txn_session.specs.Commands.{reading_of_txn, sort_of_txn}
use Rattle.txn_session.specs.Guarantees.{TxnReply, AreTxnReplies, AreTxnSpentAsUsedUp}
use Rattle.txn_session.specs.Logged.{IsTxnLogOf}
use Rattle.txn_session.specs.Planned.{open_call}
use Rattle.txn_session.specs.State.{TxnState, IsNewTxn}
use Rattle.pmem_cli.specs.declared.options.Choices.{Choices}
use Rattle.pmem_cli.specs.Keys.{setup_made, setup_chosen, suite_keys_chosen}
use Rattle.pmem_cli.specs.Sessions.{Language, Session, replies_among}

-- what it says to its user, of this setup
abbrev pub transactions_language : Setup → Language TxnReply
transactions_language setup =
    record {
      sort_of = sort_of_txn;
      replies = λ line reply. reading_of_txn line ≡ Ok (Some reply.command);
      text_of = λ reply. txn_text reply.answer;
      promises = λ said. AreTxnReplies (logged_lines setup.shape) (replies_among said);
    }

-- The state that a session begins with: a new one under these keys, whose device was formatted and its store opened along
-- their plans, by a suite that had made nothing before.
pub record IsFirstTxn (setup : Setup) (keys : List ℕ) (state : TxnState) : Type 0 where
  pub new : IsNewTxn setup state
  pub opened : IsNewByPlan setup (open_call setup) 0 0 state.session
  pub its_keys : state.session.keys ≡ keys

abbrev pub transactions_session : Setup → List ℕ → Session TxnState TxnReply
transactions_session setup keys =
    record {
      language = transactions_language setup;
      begins = IsFirstTxn setup keys;
      answers = λ old reply new. IsTxnAnswered setup old reply.command reply.answer new;
      shows = IsTxnShownOf setup;
      wants_memory = IsTxnStarvedOf;
      logs = λ old line log_old log_new new. IsTxnLogOf (reading_of_txn line) log_old old log_new new;
      work = λ state. (state.session.tags, state.session.digests);
      keeps = λ first said. AreTxnSpentAsUsedUp setup first (replies_among said);
    }

-- of a geometry and a suite
abbrev pub txn_made : {U : Type 0} → Geo → (List ℕ → Formulas) → (U → List ℕ) → U → Session TxnState TxnReply
txn_made geo formulas_of keys suite = transactions_session (setup_made geo formulas_of keys suite) (keys suite)

-- as it is chosen
abbrev pub txn_language : Choices → Language TxnReply
txn_language c = transactions_language (setup_chosen c)

abbrev pub txn_chosen : Choices → Session TxnState TxnReply
txn_chosen c = transactions_session (setup_chosen c) (suite_keys_chosen c)
