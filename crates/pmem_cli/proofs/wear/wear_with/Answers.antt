use Rattle.std.proofs.Common.{◌≡◌}
use Rattle.suite.specs.Setup.{Setup}
use Rattle.pmem_base.specs.Geo.{shape_of}
use Rattle.wear_session.specs.State.{WearState, wear_setup_in}
use Rattle.pmem_cli.specs.Wear.{levelled_session}
use Rattle.pmem_cli.proofs.SessionLemmas.{HasConversed-memory, HasConversed-stopped, said_first}
use Rattle.pmem_cli.proofs.WearLemmas.{wear_protocol, follows_wear, keeps_wear, first_wear, setup_begins}
use Rattle.pmem_cli.proofs.wear.wear_with.Goals as goal

pub returns-in-Err-clause-talked : goal.returns-in-Err-clause-talked
returns-in-Err-clause-talked g c = λ whole may.
    HasConversed-memory _ c.args.logged _ _

pub returns-in-Ok-clause-talked : goal.returns-in-Ok-clause-talked
returns-in-Ok-clause-talked g c = λ whole may.
    let f = g.U.Suite.formulas_of in
    let setup : Setup = record { shape = shape_of c.args.geo; formulas = f (g.U.Suite.keys c.args.suite) } in
    HasConversed-stopped (levelled_session setup (g.U.Suite.keys c.args.suite) c.args.every) (wear_protocol f) (λ (state : WearState). ◌≡◌ {A = Setup} (wear_setup_in f state) setup) c.args.logged (follows_wear f setup (g.U.Suite.keys c.args.suite) c.args.every)
    _ c.converse.result _ _ _ _ (keeps_wear setup (g.U.Suite.keys c.args.suite) c.args.every c.sessions_keep_lines.ensures.kept c.sessions_keep_lines.ensures.spent)
    (first_wear setup _ c.args.every _ _ _ c.requires.unused.0 c.requires.unused.1 c.in-Ok.ensures.new c.in-Ok.ensures.opened c.in-Ok.ensures.keys) (setup_begins f _ _ c.args.every _ c.in-Ok.ensures.new c.in-Ok.ensures.keys) (c.converse.ensures.stopped whole may)

pub returns-in-Ok-clause-replies_first : goal.returns-in-Ok-clause-replies_first
returns-in-Ok-clause-replies_first g c = λ whole may.
    let f = g.U.Suite.formulas_of in
    let setup : Setup = record { shape = shape_of c.args.geo; formulas = f (g.U.Suite.keys c.args.suite) } in
    said_first (levelled_session setup (g.U.Suite.keys c.args.suite) c.args.every) (wear_protocol f) (λ (state : WearState). ◌≡◌ {A = Setup} (wear_setup_in f state) setup) c.args.logged (follows_wear f setup (g.U.Suite.keys c.args.suite) c.args.every)
    _ _ _ _ _ _ _ (first_wear setup _ c.args.every _ _ _ c.requires.unused.0 c.requires.unused.1 c.in-Ok.ensures.new c.in-Ok.ensures.opened c.in-Ok.ensures.keys) (setup_begins f _ _ c.args.every _ c.in-Ok.ensures.new c.in-Ok.ensures.keys) (c.converse.ensures.replies_first whole may)
