-- No answer was an exhibit yet.
use Rattle.std.specs.Prelude.{◌≡◌, false}
use Rattle.tests_hostile.proofs.tests.cuts.read_all.Given as goal

abbrev pub invariant-lines : goal.invariant-lines
invariant-lines g l = l.world.shown ≡ false
