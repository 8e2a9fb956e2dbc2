-- No answer was an exhibit yet.
use Rattle.std.specs.Prelude.{◌≡◌, false}
use Rattle.tests_hostile.proofs.tests.cuts.all_steps.Given as goal

abbrev pub invariant-commands : goal.invariant-commands
invariant-commands g l = l.world.shown ≡ false
