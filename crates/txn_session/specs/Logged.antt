-- What a command leaves in a log of accesses of the board.
use Rattle.std.specs.Prelude.{◌≡◌, List, Option, Some, Result, Ok}
use Rattle.pmem_base.specs.declared.commands.Kind.{Kind}
use Rattle.board.specs.declared.access.Access.{Access}
use Rattle.trace_text.specs.Logged.{IsLoggedBy}
use Rattle.txn_session.specs.declared.commands.TxnCommand.{TxnCommand}
use Rattle.txn_session.specs.declared.commands.TxnCommand.TheVariants as Do
use Rattle.txn_session.specs.State.{TxnState}
use Rattle.txn_session.specs.Answered.{txn_decided}

-- The log goes on from the board before the command to the board after it: through all calls of the engine, in
-- their order. A command that makes none leaves it as it was, and so does one whose answer the state decides.
abbrev pub IsTxnLogged : TxnCommand → Option (List Access) → TxnState → Option (List Access) → TxnState → Type 0
IsTxnLogged Do.Commit log_old old log_new new =
    IsLoggedBy (txn_decided old Do.Commit) log_old old.session.board log_new new.session.board
IsTxnLogged (Do.Read a) log_old old log_new new =
    IsLoggedBy (txn_decided old (Do.Read a)) log_old old.session.board log_new new.session.board
IsTxnLogged Do.On log_old old log_new new =
    IsLoggedBy (txn_decided old Do.On) log_old old.session.board log_new new.session.board
IsTxnLogged command log_old old log_new new = log_new ≡ log_old

-- so it is of the command that a line is read as; one without a command leaves the log as it was
abbrev pub IsTxnLogOf :
    Result (Option TxnCommand) Kind → Option (List Access) → TxnState → Option (List Access) → TxnState → Type 0
IsTxnLogOf (Ok (Some command)) log_old old log_new new = IsTxnLogged command log_old old log_new new
IsTxnLogOf reading log_old old log_new new = log_new ≡ log_old
