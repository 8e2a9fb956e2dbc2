use Rattle.std.proofs.Common.{refl}
use Rattle.pmem_cli.proofs.FaultLemmas.{CountsFault-none}
use Rattle.pmem_cli.proofs.program.do_words.Goals as goal

pub returns-in-None-clause-reads : goal.returns-in-None-clause-reads
returns-in-None-clause-reads g c = CountsFault-none _ _ _ (λ same. cc) refl

pub returns-in-None-clause-writes : goal.returns-in-None-clause-writes
returns-in-None-clause-writes g c = CountsFault-none _ _ _ (λ same. cc) refl
