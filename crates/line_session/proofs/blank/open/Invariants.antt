-- The board as the call finds it, and the reference to it.
use Rattle.line_session.proofs.Common.{memory_of}
use Rattle.line_session.proofs.blank.open.Given as goal

abbrev pub ghosts-open_kept : goal.ghosts-open_kept
ghosts-open_kept g a = record { start = memory_of a.board.now; name = a.board.ghost_name }
