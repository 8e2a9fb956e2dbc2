-- A data line and its tag line are written.
use Rattle.std.proofs.Common.{ap, subst, ◌∙◌, rules}
use Rattle.asit_shadow.proofs.Common.{Line, HasWritten, the_cut, write_then, LineSeal, written_so, StaysSteady-then, StaysSteady-written, tag_only, IsSealMade}
use Rattle.asit_shadow.proofs.FormatSteps.{first-made}
use Rattle.asit_shadow.proofs.formatting.seal_one.Goals as goal

pub returns-clause-steady : goal.returns-clause-steady
returns-clause-steady g c = search (rules, StaysSteady-then, StaysSteady-written)

pub returns-clause-lines : goal.returns-clause-lines
returns-clause-lines g c = search (rules, first-made)

pub returns-clause-plan : goal.returns-clause-plan
returns-clause-plan g c =
    let made = first-made _ c.args.at _
    (subst (λ (l : Line). IsSealMade (g.S.Suite.formulas_of (g.S.Suite.keys c.args.suite.now)) c.args.at 0 l c.sealed-seal.result) c.default.ensures c.sealed-seal.ensures.made) in
    write_then the_cut
    (subst (λ (s : LineSeal). HasWritten (g.B.Board.device c.args.board.now) c.args.at s.cipher (g.B.Board.device c.write_steady.new.board)) made c.write_steady.ensures)
    (written_so _ _ _ _ _ _ c.tag_place.ensures.value (c.tag_line.ensures ∙ ap (λ (s : LineSeal). tag_only s.tag) made) c.write_steady-2.ensures)

pub returns-clause-noted : goal.returns-clause-noted
returns-clause-noted g c = search (rules, first-made)
