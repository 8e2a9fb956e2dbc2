-- That the relation of commands and replies leaves nothing open: of two replies to one command, both are the same, and so
-- are two logs.
use Rattle.std.specs.Prelude.{ℕ, ◌≡◌, List, [], Some, Result, Ok, Err}
use Rattle.pmem_base.specs.declared.answers.Exhibit.{Exhibit}
use Rattle.board.specs.declared.access.Access.{Access}
use Rattle.suite.specs.Setup.{Setup}
use Rattle.txn_session.specs.declared.commands.TxnCommand.{TxnCommand}
use Rattle.txn_session.specs.declared.answers.TxnAnswer.{TxnAnswer}
use Rattle.line_session.specs.New.{IsNewByPlan}
use Rattle.txn_session.specs.Planned.{open_call}
use Rattle.txn_session.specs.State.{TxnState, IsNewTxn}
use Rattle.txn_session.specs.Logged.{IsTxnLogged}
use Rattle.txn_session.specs.Answered.{IsTxnAnswered, IsTxnShownBy}

-- the reply to a command: an answer, or an exhibit in its place
abbrev pub IsTxnReplied : Setup → TxnState → TxnCommand → Result TxnAnswer Exhibit → TxnState → Type 0
IsTxnReplied setup old command (Ok answer) new = IsTxnAnswered setup old command answer new
IsTxnReplied setup old command (Err exhibit) new = IsTxnShownBy setup old command exhibit new

-- two replies to one command from one state are the same, and leave the same state
abbrev pub TxnRepliesAreDetermined : Setup → Type 0
TxnRepliesAreDetermined setup =
    (old one other : TxnState) (command : TxnCommand) (first second : Result TxnAnswer Exhibit) → IsTxnReplied setup old command first one
    → IsTxnReplied setup old command second other → (first ≡ second) × (one ≡ other)

-- two new states of one setup, whose suites had made as many tags and digests before, are the same
abbrev pub NewTxnIsDetermined : Setup → Type 0
NewTxnIsDetermined setup =
    (tags digests : ℕ) (a b : TxnState) → IsNewTxn setup a → IsNewTxn setup b → IsNewByPlan setup (open_call setup) tags digests a.session
    → IsNewByPlan setup (open_call setup) tags digests b.session → a.session.keys ≡ b.session.keys → a ≡ b

-- two logs of one command from one state are the same, if none was lost because memory ran out
abbrev pub TxnLogsAreDetermined : Setup → Type 0
TxnLogsAreDetermined setup =
    (old one other : TxnState) (command : TxnCommand) (first second : Result TxnAnswer Exhibit) (accesses others : List Access)
    → IsTxnReplied setup old command first one → IsTxnReplied setup old command second other
    → IsTxnLogged command (Some []) old (Some accesses) one → IsTxnLogged command (Some []) old (Some others) other
    → accesses ≡ others
