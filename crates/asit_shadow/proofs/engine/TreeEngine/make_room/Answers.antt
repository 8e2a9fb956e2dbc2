-- A held node's position is below 5461; and the plan of making room, at each end.
use Rattle.std.proofs.Common.{sym, ap, ◌∙◌, rules}
use Rattle.asit_shadow.proofs.Common.{Shape, meta_lines-most, line_of_node, leaving}
use Rattle.asit_shadow.proofs.FetchPlans.{room_none, room_clean, room_end}
use Rattle.asit_shadow.proofs.engine.TreeEngine.make_room.Goals as goal

pub node_line-line-requires-clause-place : goal.node_line-line-requires-clause-place
node_line-line-requires-clause-place g c = search (rules, meta_lines-most)

-- ---- the plan

pub returns-in-None-clause-plan : goal.returns-in-None-clause-plan
returns-in-None-clause-plan g c = search (rules, room_none)

pub returns-then-not-held-clause-plan : goal.returns-then-not-held-clause-plan
returns-then-not-held-clause-plan g c =
    room_clean (record { shape = c.args.self.now.shape; formulas = g.S.Suite.formulas_of _ }) _ _ _ (sym c.held.ensures ∙ c.in-Some.is) _ (cc)

pub returns-clause-plan : goal.returns-clause-plan
returns-clause-plan g c =
    leaving _ _ c.node_line-line.ensures.tags (room_end (record { shape = c.args.self.now.shape; formulas = g.S.Suite.formulas_of _ })
    _ _ _ (sym c.held.ensures ∙ c.in-Some.is) _ _ _ _ _ (cc)
    (c.node_place.ensures.value ∙ ap (λ (k : Shape). line_of_node k c.in-Some.held.x) c.geo-geo.ensures) c.node_line-line.ensures.value
    c.write_line.ensures.ok c.write_line.ensures.cut)
