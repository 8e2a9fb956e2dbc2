use Rattle.pmem_cli.proofs.SampleLemmas.{HasRunSample-memory, HasRunSample-told, sample_short}
use Rattle.pmem_cli.proofs.StandingLemmas.{first_world}
use Rattle.pmem_cli.proofs.sampling.sample_with.Goals as goal

pub returns-in-Err-clause-run : goal.returns-in-Err-clause-run
returns-in-Err-clause-run g c = HasRunSample-memory _ _ _

pub returns-in-Ok-clause-run : goal.returns-in-Ok-clause-run
returns-in-Ok-clause-run g c =
    HasRunSample-told g.U.Suite.formulas_of _ _ c.in-Ok.world _ c.tell_sample.result _ _
    (sample_short c.args.seed c.args.count c.ranges.count.fits) (first_world _ c.in-Ok.world _ _ c.in-Ok.ensures.new c.in-Ok.ensures.work c.requires)
    c.in-Ok.ensures.keys c.tell_sample.ensures.told
