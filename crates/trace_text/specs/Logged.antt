-- What a command of a session leaves in a log of accesses of the board.
use Rattle.std.specs.Prelude.{◌≡◌, List, Option, Some, None}
use Rattle.board.specs.Memory.{BoardMemory}
use Rattle.board.specs.declared.access.Access.{Access}
use Rattle.access_log.specs.Traced.{GoesOn}

-- If the state decides the answer, no call is made, and the log is as it was: so memory isn't needed for it. Else it goes on from the board
-- before the command to the board after it, through all calls of the engine in their order.
abbrev pub IsLoggedBy : {W : Type 0} → Option W → Option (List Access) → BoardMemory → Option (List Access) → BoardMemory → Type 0
IsLoggedBy (Some fixed) log_old old log_new new = log_new ≡ log_old
IsLoggedBy None log_old old log_new new = GoesOn log_old old log_new new
