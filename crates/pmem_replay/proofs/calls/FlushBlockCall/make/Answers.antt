-- The engine's call, with its law.
use Rattle.std.proofs.Common.{refl}
use Rattle.seal_ledger.specs.View.{ledger_of}
use Rattle.pmem_engine.specs.Plans.{Chip, chip_of}
use Rattle.pmem_replay.proofs.EngineCalls.OfEngine.{of_engine}
use Rattle.pmem_replay.proofs.EngineCalls.Lawful.{flush_lawful}
use Rattle.pmem_replay.proofs.calls.FlushBlockCall.make.Goals as goal
use Rattle.pmem_engine.proofs.CallEnds.EngineCalls.{down_after}
use Rattle.pmem_engine.specs.Engine.{on_chip}
use Rattle.pmem_engine.proofs.CallEnds.UsableParts.{some_setup, some_ledger}

pub returns-clause-made : goal.returns-clause-made
returns-clause-made g c =
    let related = (c.flush.ensures.flushed (record { shape = c.args.engine.now.shape; formulas = g.S.Suite.formulas_of (g.S.Suite.keys c.args.suite.now) })
    (ledger_of c.args.ledger.now) (g.S.Suite.tags c.args.suite.now) (g.S.Suite.digests c.args.suite.now) refl).did c.requires.up in
    let chip : Chip =
    chip_of c.args.engine.now (ledger_of c.args.ledger.now) (g.S.Suite.tags c.args.suite.now) (g.S.Suite.digests c.args.suite.now) in
    record { related = record { related = related; follows = of_engine chip (on_chip c.flush.new.self) c.flush.result related.plan }; lawful = λ memory begun. flush_lawful _ memory _ _ _ related begun }

pub returns-clause-down : goal.returns-clause-down
returns-clause-down g c = down_after (c.flush.ensures.flushed (some_setup c.args.engine.now.shape) some_ledger 0 0 refl) c.requires.up
