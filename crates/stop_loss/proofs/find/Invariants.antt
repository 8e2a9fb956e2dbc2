use Rattle.std.proofs.Common.{◌≡◌, ◌-◌}
use Rattle.pmem_base.specs.Counts.{risen_times}
use Rattle.stop_loss.proofs.Trying.{HasTried}
use Rattle.stop_loss.proofs.find.Given as goal

abbrev pub invariant-loop-minor : goal.invariant-loop-minor
invariant-loop-minor g l =
    HasTried (g.S.Suite.formulas_of (g.S.Suite.keys l.initial.suite)) l.at l.major l.cipher l.tag l.first l.last l.minor l.found
    × (g.S.Suite.tags l.suite ≡ risen_times (l.minor - l.first) (g.S.Suite.tags l.initial.suite))
    × (g.S.Suite.keys l.suite ≡ g.S.Suite.keys l.initial.suite)
    × (g.S.Suite.pads l.suite ≡ g.S.Suite.pads l.initial.suite)
    × (g.S.Suite.digests l.suite ≡ g.S.Suite.digests l.initial.suite)
