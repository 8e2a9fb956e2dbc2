-- The board in memory as a call sees it.
use Rattle.board.specs.declared.memory.MemBoard.{MemBoard}
use Rattle.board.specs.Device.{Device}
use Rattle.watched_board.specs.declared.watched.Left.{Left}
use Rattle.watched_board.specs.Watching.{none_taken}
use Rattle.access_log.specs.Traced.{as_seen}

-- before the call, which has taken nothing of it
abbrev pub as_found : MemBoard → Device
as_found board = as_seen board none_taken

-- after the call
abbrev pub as_left : {T : Type 0} → Left T → Device
as_left left = as_seen left.board.now left.taken
