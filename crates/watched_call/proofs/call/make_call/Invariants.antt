-- The board as the call finds it, the reference to it, and the log.
use Rattle.board.specs.MemBoard.{memory_of}
use Rattle.watched_call.proofs.call.make_call.Given as goal

abbrev pub ghosts-call_logged-K-Start : goal.ghosts-call_logged-K-Start
ghosts-call_logged-K-Start g a = record { start = memory_of a.board.now; name = a.board.ghost_name }

abbrev pub ghosts-call_logged-K-Entry : goal.ghosts-call_logged-K-Entry
ghosts-call_logged-K-Entry g a = record { log = a.log.now }
