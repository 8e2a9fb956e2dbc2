use Rattle.pmem_recovery.specs.Named.{is_among, IsNext}
use Rattle.pmem_recovery.proofs.tables.least_named.Given as goal

abbrev pub invariant-loop-n : goal.invariant-loop-n
invariant-loop-n l = IsNext (is_among l.shadow l.first l.n) l.from l.end l.least
