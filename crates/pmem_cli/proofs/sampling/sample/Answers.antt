use Rattle.std.proofs.Common.{subst}
use Rattle.suite.specs.Setup.{Setup}
use Rattle.pmem_base.specs.Geo.{shape_of}
use Rattle.trace_text.specs.Samples.{sample_trace}
use Rattle.pmem_cli.specs.Printed.{with_waiting}
use Rattle.pmem_cli.specs.HasRun.{HasRunSample}
use Rattle.pmem_cli.proofs.KeyLemmas.{setup_defaults}
use Rattle.pmem_cli.proofs.sampling.sample.Goals as goal

pub returns-clause-run : goal.returns-clause-run
returns-clause-run g c =
    subst
    (λ (setup : Setup).
    HasRunSample setup (sample_trace c.args.seed c.args.count) c.sample_with.result
    (with_waiting (g.K.Sink.put c.args.out.now) c.args.printer.now) (with_waiting (g.K.Sink.put c.sample_with.new.out) c.sample_with.new.printer))
    (setup_defaults c.none-choices.result (shape_of c.geometry-geo.result) _ c.none-choices.ensures.choices c.geometry-geo.ensures c.aes_suite-suite.ensures.keys)
    c.sample_with.ensures.run
