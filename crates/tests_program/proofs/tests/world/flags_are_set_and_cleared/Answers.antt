-- The flags of the test keep their number.
use Rattle.std.proofs.Common.{arith}
use Rattle.pmem_replay.proofs.Boards.StampLemmas.{length-none, length-with, length-without}
use Rattle.tests_program.proofs.tests.world.flags_are_set_and_cleared.Goals as goal

pub set-requires-2 : goal.set-requires-2
set-requires-2 g c = omega (arith, length-none _ 4 c.in_ok-flags.ensures, length-with _ _ 2 c.set.ensures)

pub set-requires-3 : goal.set-requires-3
set-requires-3 g c =
    omega (arith, length-none _ 4 c.in_ok-flags.ensures, length-with _ _ 2 c.set.ensures, length-with _ _ 2 c.set-2.ensures, length-without _ _ 2 c.unset.ensures, length-without _ _ 1 c.unset-2.ensures)

pub get-requires-3 : goal.get-requires-3
get-requires-3 g c =
    omega (arith, length-none _ 4 c.in_ok-flags.ensures, length-with _ _ 2 c.set.ensures, length-with _ _ 2 c.set-2.ensures, length-without _ _ 2 c.unset.ensures, length-without _ _ 1 c.unset-2.ensures, length-with _ _ 3 c.set-3.ensures, length-none _ _ c.clear.ensures)

pub set-requires-4 : goal.set-requires-4
set-requires-4 g c =
    omega (arith, length-none _ 4 c.in_ok-flags.ensures, length-with _ _ 2 c.set.ensures, length-with _ _ 2 c.set-2.ensures, length-without _ _ 2 c.unset.ensures, length-without _ _ 1 c.unset-2.ensures, length-with _ _ 3 c.set-3.ensures, length-none _ _ c.clear.ensures)

pub get-requires-4 : goal.get-requires-4
get-requires-4 g c =
    omega (arith, length-none _ 4 c.in_ok-flags.ensures, length-with _ _ 2 c.set.ensures, length-with _ _ 2 c.set-2.ensures, length-without _ _ 2 c.unset.ensures, length-without _ _ 1 c.unset-2.ensures, length-with _ _ 3 c.set-3.ensures, length-none _ _ c.clear.ensures, length-with _ _ 0 c.set-4.ensures)
