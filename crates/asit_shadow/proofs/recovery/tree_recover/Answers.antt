-- The engine that recovery makes.
use Rattle.std.proofs.Common.{ℕ, ◌≡◌, ◌++◌, List, replicate, Result, take, drop, length, refl, sym, ap, subst, ◌∙◌, rules}
use Rattle.std.proofs.lemmas.Result.{err_from_is_err_and}
use Rattle.asit_shadow.proofs.Common.{Option, All, Ok, All-replicate, Line, shape_of, Device, Plan, Follows, Work, TreeRec, RecoverParts, recover_parts_at, IsLine, IsLine-zero_line, tree_slots, CachedNode, TreeState, IsTreeEngine, rest_of, HasTreeRecovered}
use Rattle.asit_shadow.specs.RecoverPlans.{fill_plan}
use Rattle.pmem_base.specs.Lines.{zero_line}
use Rattle.asit_shadow.proofs.RecoverEnds.{filled-engine, filled-end, written-whole}
use Rattle.asit_shadow.proofs.recovery.tree_recover.Given.{Over}
use Rattle.asit_shadow.proofs.recovery.tree_recover.Goals.{After-fill_room}
use Rattle.asit_shadow.proofs.recovery.tree_recover.Goals as goal

pub fill_room-requires-clause-whole : goal.fill_room-requires-clause-whole
fill_room-requires-clause-whole g c =
    subst (All IsLine) (sym (c.deref_mut.ensures.value ∙ c.in_ok-room.ensures.slots))
    (All-replicate IsLine (tree_slots (shape_of c.args.geo.now)) zero_line IsLine-zero_line)

module _ (g : Over) (c : After-fill_room g) where
  cache : take c.in_ok-room.room.cache.len (c.fill_room.new.cache ++ drop (length c.fill_room.new.cache) c.in_ok-room.room.cache.items) ≡ c.fill_room.new.cache
  cache = search (rules, written-whole)

pub new-requires : goal.new-requires
new-requires g c =
    let before = (goal.at.new-requires g c).After-fill_room in
    subst (λ (xs : List (Option CachedNode)). IsTreeEngine (record { shape = shape_of c.args.geo.now; cache = xs; tree = c.fill_room.new.tree; down = Rattle.std.specs.Prelude.false })) (sym (cache g before))
    (filled-engine (record { shape = shape_of c.args.geo.now; formulas = g.S.Suite.formulas_of (g.S.Suite.keys c.args.suite.now) })
    (rest_of (g.B.Board.device c.args.board.now) (g.W.Watch.watched c.args.watch.now)) (rest_of (g.B.Board.device c.fill_room.new.board) (g.W.Watch.watched c.fill_room.new.watch))
    (g.S.Suite.digests c.args.suite.now) (g.S.Suite.digests c.fill_room.new.suite) c.fill_room.new.cache c.fill_room.new.tree c.in-Ok.ensures.filled)

pub returns-clause-recovered : goal.returns-clause-recovered
returns-clause-recovered g c =
    let before = (goal.at.returns-clause-recovered g c).After-fill_room in
    let is = c.new.ensures ∙ ap (λ (xs : List (Option CachedNode)). record { shape = shape_of c.args.geo.now; cache = xs; tree = c.fill_room.new.tree; down = Rattle.std.specs.Prelude.false }) (cache g before) in
    subst (λ (engine : TreeState). HasTreeRecovered (record { shape = shape_of c.args.geo.now; formulas = g.S.Suite.formulas_of (g.S.Suite.keys c.args.suite.now) })
    (rest_of (g.B.Board.device c.args.board.now) (g.W.Watch.watched c.args.watch.now)) (rest_of (g.B.Board.device c.fill_room.new.board) (g.W.Watch.watched c.fill_room.new.watch))
    (g.S.Suite.digests c.args.suite.now) (g.S.Suite.digests c.fill_room.new.suite) (Ok (engine, record { trials = 0; digests = c.tree_digests.result }))) (sym is)
    (filled-end (record { shape = shape_of c.args.geo.now; formulas = g.S.Suite.formulas_of (g.S.Suite.keys c.args.suite.now) })
    (rest_of (g.B.Board.device c.args.board.now) (g.W.Watch.watched c.args.watch.now)) (rest_of (g.B.Board.device c.fill_room.new.board) (g.W.Watch.watched c.fill_room.new.watch))
    (g.S.Suite.digests c.args.suite.now) (g.S.Suite.digests c.fill_room.new.suite) c.fill_room.new.cache c.fill_room.new.tree (record { trials = 0; digests = c.tree_digests.result })
    c.layout_is_one_to_one.ensures.ranges c.in-Ok.ensures.filled refl c.tree_digests.ensures)

-- ---- the plan

module _ (g : Over) (c : After-fill_room g) where
  abbrev plan_from : List Line → Plan (RecoverParts × TreeRec) (RecoverParts × (TreeState × Work))
  plan_from start =
      fill_plan (record { shape = shape_of c.args.geo.now; formulas = g.S.Suite.formulas_of (g.S.Suite.keys c.args.suite.now) }) (g.B.Board.device c.args.board.now).regs start
      (recover_parts_at g.S.Suite g.W.Watch c.args.suite.now c.args.watch.now)

  -- the lines are read into zero lines
  from_zero : {new : Device} {end : Result (RecoverParts × (TreeState × Work)) (RecoverParts × TreeRec)} → Follows (plan_from c.deref_mut.result.now) (g.B.Board.device c.args.board.now) new end
      → Follows (plan_from (replicate (tree_slots (shape_of c.args.geo.now)) zero_line)) (g.B.Board.device c.args.board.now) new end
  from_zero {new = new} {end = end} it = search rules

pub returns-in_err-room-clause-plan : goal.returns-in_err-room-clause-plan
returns-in_err-room-clause-plan g c = search (rules, err_from_is_err_and)

pub returns-in-Err-clause-plan : goal.returns-in-Err-clause-plan
returns-in-Err-clause-plan g c = λ other. from_zero g ((goal.at.returns-in-Err-clause-plan g c).After-fill_room) c.in-Err.ensures.plan

pub returns-clause-plan : goal.returns-clause-plan
returns-clause-plan g c =
    let here = (goal.at.returns-clause-plan g c).After-fill_room in
    let engine = c.new.ensures ∙ ap (λ (xs : List (Option CachedNode)). record { shape = shape_of c.args.geo.now; cache = xs; tree = c.fill_room.new.tree; down = Rattle.std.specs.Prelude.false }) (cache g here) in
    let end : TreeState → ℕ → RecoverParts × (TreeState × Work) =
    λ e n. (recover_parts_at g.S.Suite g.W.Watch c.fill_room.new.suite c.fill_room.new.watch, (e, record { trials = 0; digests = n })) in
    λ other.
    subst (λ (done : RecoverParts × (TreeState × Work)). Follows {E = RecoverParts × TreeRec} (plan_from g here (replicate (tree_slots (shape_of c.args.geo.now)) zero_line))
    (g.B.Board.device c.args.board.now) (g.B.Board.device c.fill_room.new.board) (Ok done)) (sym (λ i. end (engine i) (c.tree_digests.ensures i)))
    (from_zero g here c.in-Ok.ensures.plan)
