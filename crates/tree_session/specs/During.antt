-- What a call over the session's board sees of it, with the steps that were taken so far.
use Rattle.board.specs.declared.memory.MemBoard.{MemBoard}
use Rattle.board.specs.MemBoard.{memory_of}
use Rattle.board.specs.Memory.{device_of}
use Rattle.counter_tree.specs.declared.watch.Watch.{Ghosts as WatchOf}
use Rattle.watched_board.specs.declared.taken.Taken.{Taken}
use Rattle.watched_board.specs.Watching.{device_during}
use Rattle.asit_shadow.specs.State.{TreeState}
use Rattle.asit_shadow.specs.Parts.{TreeEngineParts, tree_parts_of}
use Rattle.asit_shadow.specs.Recovering.{Rest, rest_of}

module _ {W : Type 0} (watch : WatchOf W) where
  abbrev pub parts_during : TreeState → MemBoard → Taken → W → TreeEngineParts
  parts_during engine board taken w = tree_parts_of engine (device_during (memory_of board) taken) (watch.watched w)

  abbrev pub rest_during : MemBoard → Taken → W → Rest
  rest_during board taken w = rest_of (device_during (memory_of board) taken) (watch.watched w)

  -- outside a call
  abbrev pub rest_now : MemBoard → W → Rest
  rest_now board w = rest_of (device_of (memory_of board)) (watch.watched w)
