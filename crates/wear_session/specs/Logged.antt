-- What a command leaves in a log of accesses of the board.
use Rattle.std.specs.Prelude.{◌≡◌, List, Option, Some, Result, Ok}
use Rattle.pmem_base.specs.declared.commands.Kind.{Kind}
use Rattle.board.specs.declared.access.Access.{Access}
use Rattle.trace_text.specs.Logged.{IsLoggedBy}
use Rattle.wear_session.specs.declared.commands.WearCommand.{WearCommand}
use Rattle.wear_session.specs.declared.commands.WearCommand.TheVariants as Do
use Rattle.wear_session.specs.State.{WearState}
use Rattle.wear_session.specs.Answered.{wear_decided}

-- The log goes on from the board before the command to the board after it: through all calls of the engine, in
-- their order. A command that makes none leaves it as it was, and so does one whose answer the state decides.
abbrev pub IsWearLogged : WearCommand → Option (List Access) → WearState → Option (List Access) → WearState → Type 0
IsWearLogged (Do.Write a plain) log_old old log_new new =
    IsLoggedBy (wear_decided old (Do.Write a plain)) log_old old.session.board log_new new.session.board
IsWearLogged (Do.Read a) log_old old log_new new =
    IsLoggedBy (wear_decided old (Do.Read a)) log_old old.session.board log_new new.session.board
IsWearLogged Do.On log_old old log_new new =
    IsLoggedBy (wear_decided old Do.On) log_old old.session.board log_new new.session.board
IsWearLogged command log_old old log_new new = log_new ≡ log_old

-- so it is of the command that a line is read as; one without a command leaves the log as it was
abbrev pub IsWearLogOf :
    Result (Option WearCommand) Kind → Option (List Access) → WearState → Option (List Access) → WearState → Type 0
IsWearLogOf (Ok (Some command)) log_old old log_new new = IsWearLogged command log_old old log_new new
IsWearLogOf reading log_old old log_new new = log_new ≡ log_old
