-- Power comes on.
use Rattle.std.proofs.Common.{rules, ◌≡◌, refl, ap, ◌∙◌}
use Rattle.tree_session.proofs.Common.{shape_of, memory_of, BoardMemory, watch_of, traced_of, goes_on-between, IsLoggedBy, logged_by, SessionState, tree_decided, parts_in, none_of}
use Rattle.tree_session.specs.declared.commands.TreeCommand.TheVariants as Do
use Rattle.tree_session.proofs.DecidedAnswers.{quiet_in, found_some, already, as_now}
use Rattle.tree_session.proofs.LogLemmas.{not_logged}
use Rattle.tree_session.proofs.OnCalls.{OnTreeCall, undecided_now, on_held, on_seen, cut_kept, cut_seen, shadow_kept, shadow_seen, shown_kept, shown_seen}
use Rattle.tree_session.proofs.world.TreeWorld.on.Given.{Over}
use Rattle.tree_session.proofs.world.TreeWorld.on.Goals.{After-steps-steps}
use Rattle.tree_session.proofs.world.TreeWorld.on.Goals as goal

-- once recovery has answered
module _ (g : Over) (c : After-steps-steps g) where
  abbrev call : OnTreeCall
  call =
      record {
        formulas_of = g.S.Suite.formulas_of;
        geometry = shape_of c.self.inside.geo;
        parts = parts_in g.S.Suite c.self.inside;
        now = c.args.self.now;
        is = c.self.view_is;
        world = c.self.invariant;
        unshown = c.requires;
        there = none_of c.self.inside.engine c.is_some.result c.is_some.ensures c.if-is_some.false;
        lit = memory_of c.power.new.self;
        is_lit = c.power.ensures;
        keys = g.S.Suite.keys c.recover-done.new.suite;
        same_keys = c.recover-done.ensures.keys;
        pads = g.S.Suite.pads c.recover-done.new.suite;
        same_pads = c.recover-done.ensures.pads;
        tags = g.S.Suite.tags c.recover-done.new.suite;
        same_tags = c.recover-done.ensures.tags;
        board = memory_of c.recover-done.new.board;
        watch = watch_of g.S.Suite.formulas_of g.S.Suite.keys c.recover-done.new.watch;
        taken = c.recover-done.result.taken;
        watched = c.recover-done.ensures.watched;
        before = g.S.Suite.digests c.self.inside.suite;
        same_before = refl;
        later = g.S.Suite.digests c.recover-done.new.suite;
        answer = c.recover-done.result.answer;
        recovered = c.recover-done.ensures.recovered;
        plan = c.recover-done.ensures.plan;
        said = c.steps-steps.result;
        counted = c.steps-steps.ensures;
      }

  -- the log goes on from the board before to one that is traced as the call left it
  logged : (board : BoardMemory) → traced_of board ≡ traced_of (memory_of c.recover-done.new.board)
      → IsLoggedBy (tree_decided c.args.self.now.shape c.args.self.now.plain Do.On) c.args.log.now c.args.self.now.plain.board c.recover-done.new.log board
  logged board same =
      logged_by _ _ _ _ _ (undecided_now call)
      (goes_on-between c.args.log.now c.recover-done.new.log c.args.self.now.plain.board (memory_of c.power.new.self) (memory_of c.recover-done.new.board)
      board (ap traced_of c.power.ensures ∙ ap (λ (w : SessionState). traced_of w.plain.board) c.self.view_is) same c.recover-done.ensures.logged)

pub returns-then-is_some-clause-answered : goal.returns-then-is_some-clause-answered
returns-then-is_some-clause-answered g c =
    let q = quiet_in g.S.Suite c.self.inside _ c.self.view_is c.self.invariant c.requires in as_now q _ _ (already q _ (found_some _ _ c.is_some.ensures c.if-is_some.true).1)

pub invariant_of-self : goal.invariant_of-self
invariant_of-self g c = on_held (call g (goal.at.invariant_of-self g c).After-steps-steps) _ c.in-Ok.is

pub invariant_of-self-in-Err-Cut : goal.invariant_of-self-in-Err-Cut
invariant_of-self-in-Err-Cut g c = let r = call g ((goal.at.invariant_of-self-in-Err-Cut g c).After-steps-steps) in cut_kept r (let h = c.in-Err-Cut.is in let k = c.in-Err-Cut.field-0-is in search rules)

pub invariant_of-self-in-Err-Shadow : goal.invariant_of-self-in-Err-Shadow
invariant_of-self-in-Err-Shadow g c = let r = call g ((goal.at.invariant_of-self-in-Err-Shadow g c).After-steps-steps) in shadow_kept r (memory_of c.rest.new.self) c.rest.ensures c.in-Err-Shadow.kept c.in-Err-Shadow.found (let h = c.in-Err-Shadow.is in let k = c.in-Err-Shadow.field-0-is in search rules)

pub invariant_of-self-in-Err-Shown : goal.invariant_of-self-in-Err-Shown
invariant_of-self-in-Err-Shown g c = let r = call g ((goal.at.invariant_of-self-in-Err-Shown g c).After-steps-steps) in shown_kept r (memory_of c.rest-in-Err-Shown.new.self) c.rest-in-Err-Shown.ensures (let h = c.in-Err-Shown.is in let k = c.in-Err-Shown.field-0-is in search rules)

pub returns-in-Ok-clause-answered : goal.returns-in-Ok-clause-answered
returns-in-Ok-clause-answered g c = on_seen (call g (goal.at.returns-in-Ok-clause-answered g c).After-steps-steps) _ c.in-Ok.is

pub returns-in-Err-Cut-clause-answered : goal.returns-in-Err-Cut-clause-answered
returns-in-Err-Cut-clause-answered g c = let r = call g ((goal.at.returns-in-Err-Cut-clause-answered g c).After-steps-steps) in cut_seen r (let h = c.in-Err-Cut.is in let k = c.in-Err-Cut.field-0-is in search rules)

pub returns-in-Err-Shadow-clause-answered : goal.returns-in-Err-Shadow-clause-answered
returns-in-Err-Shadow-clause-answered g c = let r = call g ((goal.at.returns-in-Err-Shadow-clause-answered g c).After-steps-steps) in shadow_seen r (memory_of c.rest.new.self) c.rest.ensures c.in-Err-Shadow.kept c.in-Err-Shadow.found (let h = c.in-Err-Shadow.is in let k = c.in-Err-Shadow.field-0-is in search rules)

pub returns-in-Err-Shown-clause-halted : goal.returns-in-Err-Shown-clause-halted
returns-in-Err-Shown-clause-halted g c =
    shown_seen (call g (goal.at.returns-in-Err-Shown-clause-halted g c).After-steps-steps) _ c.rest-in-Err-Shown.ensures (let h = c.in-Err-Shown.is in let k = c.in-Err-Shown.field-0-is in search rules) _ c.shown.ensures

-- ---- the log

pub returns-then-is_some-clause-logged : goal.returns-then-is_some-clause-logged
returns-then-is_some-clause-logged g c = not_logged Do.On c.args.log.now c.args.self.now c.args.self.now refl

pub returns-in-Ok-clause-logged : goal.returns-in-Ok-clause-logged
returns-in-Ok-clause-logged g c = logged g ((goal.at.returns-in-Ok-clause-logged g c).After-steps-steps) (memory_of c.recover-done.new.board) refl

pub returns-in-Err-Cut-clause-logged : goal.returns-in-Err-Cut-clause-logged
returns-in-Err-Cut-clause-logged g c = logged g ((goal.at.returns-in-Err-Cut-clause-logged g c).After-steps-steps) (memory_of c.recover-done.new.board) refl

pub returns-in-Err-Shadow-clause-logged : goal.returns-in-Err-Shadow-clause-logged
returns-in-Err-Shadow-clause-logged g c = logged g (goal.at.returns-in-Err-Shadow-clause-logged g c).After-steps-steps _ (ap traced_of c.rest.ensures)

pub returns-in-Err-Memory-clause-logged : goal.returns-in-Err-Memory-clause-logged
returns-in-Err-Memory-clause-logged g c = logged g (goal.at.returns-in-Err-Memory-clause-logged g c).After-steps-steps _ (ap traced_of c.rest-in-Err-Memory.ensures)

pub returns-in-Err-Shown-clause-logged : goal.returns-in-Err-Shown-clause-logged
returns-in-Err-Shown-clause-logged g c = logged g (goal.at.returns-in-Err-Shown-clause-logged g c).After-steps-steps _ (ap traced_of c.rest-in-Err-Shown.ensures)
