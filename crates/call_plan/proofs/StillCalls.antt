-- A call on a watched board that did nothing: no step was taken and nothing was read, and the board is as it was.
use Rattle.std.proofs.Common.{rules, ◌≡◌, true, false}
use Rattle.std.proofs.lemmas.Option.{same_Some}
use Rattle.board.specs.Memory.{BoardMemory}
use Rattle.watched_board.specs.Watching.{IsWatched, device_during, none_taken}
use Rattle.watched_board.specs.declared.taken.Taken.{Taken}
use Rattle.watched_board.proofs.StepLaws.{unburnt}
use Rattle.call_plan.proofs.DeterminedCalls.{same_board}

pub untouched : (old new : BoardMemory) (taken : Taken) → IsWatched old new taken → device_during new taken ≡ device_during old none_taken → old.powered ≡ true
    → new ≡ old
untouched old new taken watched same on = search (rules, same_board, same_Some, unburnt)

-- and the same, where power comes on before it and goes off after it
pub rests : (board lit now : BoardMemory) → lit ≡ record board { powered = true } → board.powered ≡ false → now ≡ lit → record now { powered = false } ≡ board
rests board lit now lit_is off same = search rules
