-- No answer was an exhibit yet.
use Rattle.std.specs.Prelude.{◌≡◌, false}
use Rattle.tests_hostile.proofs.tests.runs.stepped.Given as goal

abbrev pub invariant-bytes : goal.invariant-bytes
invariant-bytes g l = l.world.shown ≡ false
