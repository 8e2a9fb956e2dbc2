use Rattle.std.proofs.Common.{◌≡◌, ℕ, List, ◌++◌, length}
use Rattle.std.specs.Io.KnownBytes.{Appends}
use Rattle.pmem_cli.proofs.sink.push_all.Given as goal

abbrev pub invariant-pushes : goal.invariant-pushes
invariant-pushes g l = (done : List ℕ) × (l.initial.rest ≡ done ++ l.rest) × Appends (g.K.Sink.put l.initial.out) (g.K.Sink.put l.out) done × (g.K.Sink.faults l.out ≡ g.K.Sink.faults l.initial.out)

abbrev pub decreases-pushes : goal.decreases-pushes
decreases-pushes g l = length l.rest
