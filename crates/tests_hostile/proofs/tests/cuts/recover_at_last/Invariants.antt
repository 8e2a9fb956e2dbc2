-- No answer was an exhibit yet.
use Rattle.std.specs.Prelude.{◌≡◌, false}
use Rattle.tests_hostile.proofs.tests.cuts.recover_at_last.Given as goal

abbrev pub invariant-cuts : goal.invariant-cuts
invariant-cuts g l = l.world.shown ≡ false
