-- What a command leaves in a log of accesses of the board.
use Rattle.std.specs.Prelude.{◌≡◌, ◌≢◌, ◌<◌, ◌⊎◌, true, false, List, length, Option, IsTrue}
use Rattle.pmem_base.specs.declared.commands.Command.{Command}
use Rattle.pmem_base.specs.declared.commands.Command.TheVariants as Do
use Rattle.pmem_base.specs.Shape.{Shape, is_loss}
use Rattle.pmem_base.specs.Layout.{data_lines}
use Rattle.pmem_base.specs.WaitingWrites.{queue_of}
use Rattle.board.specs.Memory.{BoardMemory}
use Rattle.plain_model.specs.State.{PlainState}
use Rattle.plain_model.specs.Answers.{is_covered}
use Rattle.board.specs.declared.access.Access.{Access}
use Rattle.access_log.specs.Traced.{GoesOn}

-- The log goes on from the board before the command to the board after it. Only what the engine or recovery serves accesses the board; if
-- another command changes or shows it, that is past the controller.
abbrev pub IsLogged : Command → Option (List Access) → BoardMemory → Option (List Access) → BoardMemory → Type 0
IsLogged (Do.Drain port) log_old old log_new new = GoesOn log_old old log_new new
IsLogged (Do.Fence port) log_old old log_new new = GoesOn log_old old log_new new
IsLogged (Do.Read port at) log_old old log_new new = GoesOn log_old old log_new new
IsLogged Do.Turn log_old old log_new new = GoesOn log_old old log_new new
IsLogged Do.Flush log_old old log_new new = GoesOn log_old old log_new new
IsLogged (Do.Loss n) log_old old log_new new = GoesOn log_old old log_new new
IsLogged Do.On log_old old log_new new = GoesOn log_old old log_new new
IsLogged command log_old old log_new new = log_new ≡ log_old

-- If a command may access the board, so that memory may be needed for the log: in a drain or a fence with power on and a write that waits;
-- in a read with power on of a line that is in range and that no waiting writes cover; in a turn or a flush with power on; in setting a
-- loss with power on that is one and isn't the present one; in recovery with power off.
abbrev pub CanAccess : Shape → PlainState → Command → Type 0
CanAccess g state (Do.Drain port) = (state.power ≡ true) × (0 < length (queue_of state.queues port))
CanAccess g state (Do.Fence port) = (state.power ≡ true) × (0 < length (queue_of state.queues port))
CanAccess g state (Do.Read port at) = (state.power ≡ true) × (at < data_lines g) × (is_covered state port at ≡ false)
CanAccess g state Do.Turn = state.power ≡ true
CanAccess g state Do.Flush = state.power ≡ true
CanAccess g state (Do.Loss n) = (state.power ≡ true) × IsTrue (is_loss n) × (n ≢ state.loss)
CanAccess g state Do.On = state.power ≡ false
CanAccess g state command = ⊥

-- the log is as it was, unless the command may access the board in this state
abbrev pub IsLogKept : Shape → PlainState → Command → Option (List Access) → Option (List Access) → Type 0
IsLogKept g state command log_old log_new = (log_new ≡ log_old) ⊎ CanAccess g state command
