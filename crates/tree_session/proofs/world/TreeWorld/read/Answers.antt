-- A line is read, refused or shown, or power is cut.
use Rattle.std.proofs.Common.{rules, arith, ◌≡◌, refl, ap}
use Rattle.tree_session.proofs.Common.{shape_of, memory_of, BoardMemory, watch_of, traced_of, goes_on-between, IsLoggedBy, logged_by, SessionState, tree_decided, parts_in}
use Rattle.tree_session.specs.declared.commands.TreeCommand.TheVariants as Do
use Rattle.tree_session.proofs.AnswerClauses.{WorldCall}
use Rattle.tree_session.proofs.DecidedAnswers.{quiet_in, read_off, read_past}
use Rattle.tree_session.proofs.LogLemmas.{not_logged}
use Rattle.tree_session.proofs.ReadCalls.{ReadTreeCall, undecided_now, got_held, got_seen, node_kept, node_seen, tag_kept, tag_seen, cut_kept, cut_seen, shown_kept, shown_seen}
use Rattle.tree_session.proofs.world.TreeWorld.read.Given.{Over}
use Rattle.tree_session.proofs.world.TreeWorld.read.Goals.{After-steps-steps}
use Rattle.tree_session.proofs.world.TreeWorld.read.Goals as goal

-- once the engine has answered
module _ (g : Over) (c : After-steps-steps g) where
  abbrev its : WorldCall
  its =
      record {
        formulas_of = g.S.Suite.formulas_of;
        geometry = shape_of c.self.inside.geo;
        parts = parts_in g.S.Suite c.self.inside;
        now = c.args.self.now;
        is = c.self.view_is;
        world = c.self.invariant;
        unshown = c.requires;
        engine = c.in-Some.engine;
        there = c.in-Some.is;
        after = c.read-done.new.engine;
        keys = g.S.Suite.keys c.read-done.new.suite;
        same_keys = c.read-done.ensures.keys;
        pads = g.S.Suite.pads c.read-done.new.suite;
        tags = g.S.Suite.tags c.read-done.new.suite;
        digests = g.S.Suite.digests c.read-done.new.suite;
        board = memory_of c.read-done.new.board;
        watch = watch_of g.S.Suite.formulas_of g.S.Suite.keys c.read-done.new.watch;
        taken = c.read-done.result.taken;
        watched = c.read-done.ensures.watched;
        said = c.steps-steps.result;
        counted = c.steps-steps.ensures;
      }

  abbrev call : ReadTreeCall
  call =
      record {
        world = its;
        at = c.args.at;
        within = omega (arith, c.if-at-from.false, c.from.ensures, c.tree_lines.ensures);
        answer = c.read-done.result.answer;
        was_read = c.read-done.ensures.read;
        plan = c.read-done.ensures.plan;
      }

  -- the log goes on from the board before to one that is traced as the call left it
  logged : (board : BoardMemory) → traced_of board ≡ traced_of (memory_of c.read-done.new.board)
      → IsLoggedBy (tree_decided c.args.self.now.shape c.args.self.now.plain (Do.Read c.args.at)) c.args.log.now c.args.self.now.plain.board c.read-done.new.log board
  logged board same =
      logged_by _ _ _ _ _ (undecided_now call)
      (goes_on-between c.args.log.now c.read-done.new.log c.args.self.now.plain.board (memory_of c.self.inside.board) (memory_of c.read-done.new.board)
      board (ap (λ (w : SessionState). traced_of w.plain.board) c.self.view_is) same c.read-done.ensures.logged)

pub returns-in_default-clause-answered : goal.returns-in_default-clause-answered
returns-in_default-clause-answered g c = read_off (quiet_in g.S.Suite c.self.inside _ c.self.view_is c.self.invariant c.requires) _ c.in_default.is

pub returns-then-at-from-clause-answered : goal.returns-then-at-from-clause-answered
returns-then-at-from-clause-answered g c =
    read_past (quiet_in g.S.Suite c.self.inside _ c.self.view_is c.self.invariant c.requires) _ _ c.in-Some.is (omega (arith, c.if-at-from.true, c.from.ensures, c.tree_lines.ensures))

pub invariant_of-self-in-Ok : goal.invariant_of-self-in-Ok
invariant_of-self-in-Ok g c = got_held (call g (goal.at.invariant_of-self-in-Ok g c).After-steps-steps) _ c.in-Ok.is

pub invariant_of-self-in-Err-Node : goal.invariant_of-self-in-Err-Node
invariant_of-self-in-Err-Node g c = let r = call g ((goal.at.invariant_of-self-in-Err-Node g c).After-steps-steps) in node_kept r c.in-Err-Node.x (let h = c.in-Err-Node.is in let k = c.in-Err-Node.field-0-is in search rules)

pub invariant_of-self-in-Err-Tag : goal.invariant_of-self-in-Err-Tag
invariant_of-self-in-Err-Tag g c = let r = call g ((goal.at.invariant_of-self-in-Err-Tag g c).After-steps-steps) in tag_kept r c.in-Err-Tag.at (let h = c.in-Err-Tag.is in let k = c.in-Err-Tag.field-0-is in search rules)

pub invariant_of-self-in-Err-Cut : goal.invariant_of-self-in-Err-Cut
invariant_of-self-in-Err-Cut g c = let r = call g ((goal.at.invariant_of-self-in-Err-Cut g c).After-steps-steps) in cut_kept r (let h = c.in-Err-Cut.is in let k = c.in-Err-Cut.field-0-is in search rules)

pub invariant_of-self-in-Err-Shown : goal.invariant_of-self-in-Err-Shown
invariant_of-self-in-Err-Shown g c = let r = call g ((goal.at.invariant_of-self-in-Err-Shown g c).After-steps-steps) in shown_kept r (let h = c.in-Err-Shown.is in let k = c.in-Err-Shown.field-0-is in search rules) (memory_of c.rest.new.self) c.rest.ensures

pub returns-in-Ok-clause-answered : goal.returns-in-Ok-clause-answered
returns-in-Ok-clause-answered g c = got_seen (call g (goal.at.returns-in-Ok-clause-answered g c).After-steps-steps) _ c.in-Ok.is

pub returns-in-Err-Node-clause-answered : goal.returns-in-Err-Node-clause-answered
returns-in-Err-Node-clause-answered g c = let r = call g ((goal.at.returns-in-Err-Node-clause-answered g c).After-steps-steps) in node_seen r c.in-Err-Node.x (let h = c.in-Err-Node.is in let k = c.in-Err-Node.field-0-is in search rules)

pub returns-in-Err-Tag-clause-answered : goal.returns-in-Err-Tag-clause-answered
returns-in-Err-Tag-clause-answered g c = let r = call g ((goal.at.returns-in-Err-Tag-clause-answered g c).After-steps-steps) in tag_seen r c.in-Err-Tag.at (let h = c.in-Err-Tag.is in let k = c.in-Err-Tag.field-0-is in search rules)

pub returns-in-Err-Cut-clause-answered : goal.returns-in-Err-Cut-clause-answered
returns-in-Err-Cut-clause-answered g c = let r = call g ((goal.at.returns-in-Err-Cut-clause-answered g c).After-steps-steps) in cut_seen r (let h = c.in-Err-Cut.is in let k = c.in-Err-Cut.field-0-is in search rules)

pub returns-in-Err-Shown-clause-halted : goal.returns-in-Err-Shown-clause-halted
returns-in-Err-Shown-clause-halted g c =
    shown_seen (call g (goal.at.returns-in-Err-Shown-clause-halted g c).After-steps-steps) (let h = c.in-Err-Shown.is in let k = c.in-Err-Shown.field-0-is in search rules) _ c.rest.ensures _ c.shown.ensures

-- ---- the log

pub returns-in_default-clause-logged : goal.returns-in_default-clause-logged
returns-in_default-clause-logged g c = not_logged (Do.Read c.args.at) c.args.log.now c.args.self.now _ c.self.view_is

pub returns-then-at-from-clause-logged : goal.returns-then-at-from-clause-logged
returns-then-at-from-clause-logged g c = not_logged (Do.Read c.args.at) c.args.log.now c.args.self.now _ c.self.view_is

pub returns-in-Ok-clause-logged : goal.returns-in-Ok-clause-logged
returns-in-Ok-clause-logged g c = logged g ((goal.at.returns-in-Ok-clause-logged g c).After-steps-steps) (memory_of c.read-done.new.board) refl

pub returns-in-Err-Node-clause-logged : goal.returns-in-Err-Node-clause-logged
returns-in-Err-Node-clause-logged g c = logged g ((goal.at.returns-in-Err-Node-clause-logged g c).After-steps-steps) (memory_of c.read-done.new.board) refl

pub returns-in-Err-Tag-clause-logged : goal.returns-in-Err-Tag-clause-logged
returns-in-Err-Tag-clause-logged g c = logged g ((goal.at.returns-in-Err-Tag-clause-logged g c).After-steps-steps) (memory_of c.read-done.new.board) refl

pub returns-in-Err-Cut-clause-logged : goal.returns-in-Err-Cut-clause-logged
returns-in-Err-Cut-clause-logged g c = logged g ((goal.at.returns-in-Err-Cut-clause-logged g c).After-steps-steps) (memory_of c.read-done.new.board) refl

pub returns-in-Err-Shown-clause-logged : goal.returns-in-Err-Shown-clause-logged
returns-in-Err-Shown-clause-logged g c = logged g (goal.at.returns-in-Err-Shown-clause-logged g c).After-steps-steps _ (ap traced_of c.rest.ensures)
