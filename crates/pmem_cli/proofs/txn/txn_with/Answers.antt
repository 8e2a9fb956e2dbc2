use Rattle.std.proofs.Common.{◌≡◌}
use Rattle.suite.specs.Setup.{Setup}
use Rattle.pmem_base.specs.Geo.{shape_of}
use Rattle.txn_session.specs.State.{TxnState, txn_setup_in}
use Rattle.pmem_cli.specs.Txn.{transactions_session}
use Rattle.pmem_cli.proofs.SessionLemmas.{HasConversed-memory, HasConversed-stopped, said_first}
use Rattle.pmem_cli.proofs.TxnLemmas.{txn_protocol, follows_txn, keeps_txn, first_txn, setup_begins}
use Rattle.pmem_cli.proofs.txn.txn_with.Goals as goal

pub returns-in-Err-clause-talked : goal.returns-in-Err-clause-talked
returns-in-Err-clause-talked g c = λ whole may.
    HasConversed-memory _ c.args.logged _ _

pub returns-in-Ok-clause-talked : goal.returns-in-Ok-clause-talked
returns-in-Ok-clause-talked g c = λ whole may.
    let f = g.U.Suite.formulas_of in
    let setup : Setup = record { shape = shape_of c.args.geo; formulas = f (g.U.Suite.keys c.args.suite) } in
    HasConversed-stopped (transactions_session setup (g.U.Suite.keys c.args.suite)) (txn_protocol f) (λ (state : TxnState). ◌≡◌ {A = Setup} (txn_setup_in f state) setup) c.args.logged (follows_txn f setup (g.U.Suite.keys c.args.suite))
    _ c.converse.result _ _ _ _ (keeps_txn setup (g.U.Suite.keys c.args.suite) c.sessions_keep_transactions.ensures.kept c.sessions_keep_transactions.ensures.spent)
    (first_txn setup _ _ _ _ c.requires.0 c.requires.1 c.in-Ok.ensures.new c.in-Ok.ensures.opened c.in-Ok.ensures.keys) (setup_begins f _ _ _ c.in-Ok.ensures.new c.in-Ok.ensures.keys) (c.converse.ensures.stopped whole may)

pub returns-in-Ok-clause-replies_first : goal.returns-in-Ok-clause-replies_first
returns-in-Ok-clause-replies_first g c = λ whole may.
    let f = g.U.Suite.formulas_of in
    let setup : Setup = record { shape = shape_of c.args.geo; formulas = f (g.U.Suite.keys c.args.suite) } in
    said_first (transactions_session setup (g.U.Suite.keys c.args.suite)) (txn_protocol f) (λ (state : TxnState). ◌≡◌ {A = Setup} (txn_setup_in f state) setup) c.args.logged (follows_txn f setup (g.U.Suite.keys c.args.suite))
    _ _ _ _ _ _ _ (first_txn setup _ _ _ _ c.requires.0 c.requires.1 c.in-Ok.ensures.new c.in-Ok.ensures.opened c.in-Ok.ensures.keys) (setup_begins f _ _ _ c.in-Ok.ensures.new c.in-Ok.ensures.keys) (c.converse.ensures.replies_first whole may)
