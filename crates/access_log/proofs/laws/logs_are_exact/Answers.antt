use Rattle.access_log.proofs.TraceLemmas.{exact_log, same_log}
use Rattle.access_log.proofs.laws.logs_are_exact.Goals as goal

pub returns-clause-exact : goal.returns-clause-exact
returns-clause-exact c = λ old new accesses goes. exact_log old new accesses goes

pub returns-clause-determined : goal.returns-clause-determined
returns-clause-determined c = λ old new accesses others it its. same_log old new accesses others it its
