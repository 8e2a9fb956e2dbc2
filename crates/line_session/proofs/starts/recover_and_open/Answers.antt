-- Recovery was done, and the opening answers.
use Rattle.std.proofs.Common.{rules, Ok, Err}
use Rattle.line_session.proofs.Common.{shape_of, ledger_of, Setup, OpeningRelation, SuiteState, suite_state}
use Rattle.line_session.specs.Kept.{OpensLines, OpensBoth}
use Rattle.line_session.proofs.Openings.{has_started}
use Rattle.line_session.proofs.starts.recover_and_open.Given.{Over}
use Rattle.line_session.proofs.starts.recover_and_open.Goals as goal

abbrev at : (g : Over) → g.row.S.Denot → SuiteState
at g suite = suite_state (g.S.Suite.keys suite) (g.S.Suite.pads suite) (g.S.Suite.tags suite) (g.S.Suite.digests suite)

-- what the opening does, and what it leaves
abbrev both : (g : Over) → g.row.O.Denot → Setup → OpeningRelation g.row.O-Opened.Denot g.row.O-Fault.Denot
both g opening =
    OpensBoth (g.O.StoreOpening.relation opening)
    (OpensLines (λ opened. g.O.Store.LineStore.engine (g.O.StoreOpening.store opened)) (g.O.StoreOpening.holds opening))

pub returns-in-Err-open-clause-started : goal.returns-in-Err-open-clause-started
returns-in-Err-open-clause-started g c =
    has_started (both g c.args.opening.now) g.S.Suite.formulas_of (shape_of c.args.geo.now)
    (g.B.Board.device c.args.board.now) (g.B.Board.device c.recover.new.board) (g.B.Board.device c.open.new.board)
    (ledger_of c.args.ledger.now) (ledger_of c.open.new.ledger) (at g c.args.suite.now) (at g c.recover.new.suite) (at g c.open.new.suite)
    c.recover.result c.in-Ok.engine c.in-Ok.field-0-1 (Err c.in-Err-open.fault) (search (rules, c.in-Ok.is)) c.recover.ensures (c.in-Err-open.ensures.opened, c.in-Err-open.ensures.kept)

pub returns-in-Ok-open-clause-started : goal.returns-in-Ok-open-clause-started
returns-in-Ok-open-clause-started g c =
    has_started (both g c.args.opening.now) g.S.Suite.formulas_of (shape_of c.args.geo.now)
    (g.B.Board.device c.args.board.now) (g.B.Board.device c.recover.new.board) (g.B.Board.device c.open.new.board)
    (ledger_of c.args.ledger.now) (ledger_of c.open.new.ledger) (at g c.args.suite.now) (at g c.recover.new.suite) (at g c.open.new.suite)
    c.recover.result c.in-Ok.engine c.in-Ok.field-0-1 (Ok c.in-Ok-open.opened) (search (rules, c.in-Ok.is)) c.recover.ensures (c.in-Ok-open.ensures.opened, c.in-Ok-open.ensures.kept)
