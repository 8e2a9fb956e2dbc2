-- What a command leaves in a log of accesses of the board.
use Rattle.std.specs.Prelude.{◌≡◌, List, Option, Some, Result, Ok}
use Rattle.pmem_base.specs.declared.commands.Kind.{Kind}
use Rattle.board.specs.declared.access.Access.{Access}
use Rattle.trace_text.specs.Logged.{IsLoggedBy}
use Rattle.tree_session.specs.declared.commands.TreeCommand.{TreeCommand}
use Rattle.tree_session.specs.declared.commands.TreeCommand.TheVariants as Do
use Rattle.tree_session.specs.State.{SessionState}
use Rattle.tree_session.specs.Answered.{tree_decided}

-- The log goes on from the board before the command to the board after it. Only what the engine or recovery serves accesses the board; if
-- another command changes it, that is past the controller. A command whose answer the state decides leaves the log as it was.
abbrev pub IsTreeLogged : TreeCommand → Option (List Access) → SessionState → Option (List Access) → SessionState → Type 0
IsTreeLogged (Do.Write a line) log_old old log_new new =
    IsLoggedBy (tree_decided old.shape old.plain (Do.Write a line)) log_old old.plain.board log_new new.plain.board
IsTreeLogged (Do.Read a) log_old old log_new new =
    IsLoggedBy (tree_decided old.shape old.plain (Do.Read a)) log_old old.plain.board log_new new.plain.board
IsTreeLogged Do.On log_old old log_new new =
    IsLoggedBy (tree_decided old.shape old.plain Do.On) log_old old.plain.board log_new new.plain.board
IsTreeLogged command log_old old log_new new = log_new ≡ log_old

-- so it is of the command that a line is read as; one without a command leaves the log as it was
abbrev pub IsTreeLogOf :
    Result (Option TreeCommand) Kind → Option (List Access) → SessionState → Option (List Access) → SessionState → Type 0
IsTreeLogOf (Ok (Some command)) log_old old log_new new = IsTreeLogged command log_old old log_new new
IsTreeLogOf reading log_old old log_new new = log_new ≡ log_old
