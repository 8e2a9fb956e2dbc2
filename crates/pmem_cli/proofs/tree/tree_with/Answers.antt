use Rattle.suite.specs.Setup.{Setup}
use Rattle.pmem_base.specs.Geo.{shape_of}
use Rattle.pmem_cli.specs.Tree.{counter_tree_session}
use Rattle.pmem_cli.proofs.SessionLemmas.{HasConversed-memory, HasConversed-stopped, said_first}
use Rattle.pmem_cli.proofs.TreeLemmas.{IsOpen, tree_protocol, follows_tree, keeps_tree, first_tree, open_begins}
use Rattle.pmem_cli.proofs.tree.tree_with.Goals as goal

pub returns-in-Err-clause-talked : goal.returns-in-Err-clause-talked
returns-in-Err-clause-talked g c = λ whole may.
    HasConversed-memory _ c.args.logged _ _

pub returns-in-Ok-clause-talked : goal.returns-in-Ok-clause-talked
returns-in-Ok-clause-talked g c = λ whole may.
    let f = g.U.Suite.formulas_of in
    let setup : Setup = record { shape = shape_of c.args.geo; formulas = f (g.U.Suite.keys c.args.suite) } in
    let law = c.sessions_keep_lines.ensures in
    HasConversed-stopped (counter_tree_session setup (g.U.Suite.keys c.args.suite)) (tree_protocol f) (IsOpen f setup) c.args.logged (follows_tree f setup (g.U.Suite.keys c.args.suite))
    _ c.converse.result _ _ _ _ (keeps_tree setup (g.U.Suite.keys c.args.suite) law.kept law.shown law.untouched)
    (first_tree setup _ _ _ _ _ c.requires.unused.0 c.requires.unused.1 c.requires.unused.2 c.in-Ok.ensures.new c.in-Ok.ensures.formatted c.in-Ok.ensures.keys) (open_begins f _ _ _ c.in-Ok.ensures.new c.in-Ok.ensures.keys) (c.converse.ensures.stopped whole may)

pub returns-in-Ok-clause-replies_first : goal.returns-in-Ok-clause-replies_first
returns-in-Ok-clause-replies_first g c = λ whole may.
    let f = g.U.Suite.formulas_of in
    let setup : Setup = record { shape = shape_of c.args.geo; formulas = f (g.U.Suite.keys c.args.suite) } in
    said_first (counter_tree_session setup (g.U.Suite.keys c.args.suite)) (tree_protocol f) (IsOpen f setup) c.args.logged (follows_tree f setup (g.U.Suite.keys c.args.suite))
    _ _ _ _ _ _ _ (first_tree setup _ _ _ _ _ c.requires.unused.0 c.requires.unused.1 c.requires.unused.2 c.in-Ok.ensures.new c.in-Ok.ensures.formatted c.in-Ok.ensures.keys) (open_begins f _ _ _ c.in-Ok.ensures.new c.in-Ok.ensures.keys) (c.converse.ensures.replies_first whole may)
