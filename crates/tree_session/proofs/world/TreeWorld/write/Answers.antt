-- A line is written, refused or shown, or power is cut; or no write can be counted any more.
use Rattle.std.proofs.Common.{rules, arith, ◌≡◌, refl, ap}
use Rattle.tree_session.proofs.Common.{shape_of, memory_of, BoardMemory, watch_of, traced_of, goes_on-between, IsLoggedBy, logged_by, SessionState, tree_decided, parts_in}
use Rattle.tree_session.specs.declared.commands.TreeCommand.TheVariants as Do
use Rattle.tree_session.proofs.AnswerClauses.{WorldCall}
use Rattle.tree_session.proofs.DecidedAnswers.{quiet_in, write_off, write_past}
use Rattle.tree_session.proofs.LogLemmas.{not_logged}
use Rattle.tree_session.proofs.WriteCalls.{WriteTreeCall, undecided_now, made_held, made_seen, node_kept, node_seen, spent_kept, spent_seen, lost_kept, lost_seen, cut_kept, cut_seen, shown_kept, shown_seen}
use Rattle.tree_session.proofs.world.TreeWorld.write.Given.{Over}
use Rattle.tree_session.proofs.world.TreeWorld.write.Goals.{After-steps-steps}
use Rattle.tree_session.proofs.world.TreeWorld.write.Goals as goal

-- once the engine has answered
module _ (g : Over) (c : After-steps-steps g) where
  abbrev its : WorldCall
  its =
      record {
        formulas_of = g.S.Suite.formulas_of;
        geometry = shape_of c.self.inside.geo;
        parts = parts_in g.S.Suite c.self.inside;
        now = c.args.self.now;
        is = c.self.view_is;
        world = c.self.invariant;
        unshown = c.requires;
        engine = c.in-Some.engine;
        there = c.in-Some.is;
        after = c.write-done.new.engine;
        keys = g.S.Suite.keys c.write-done.new.suite;
        same_keys = c.write-done.ensures.keys;
        pads = g.S.Suite.pads c.write-done.new.suite;
        tags = g.S.Suite.tags c.write-done.new.suite;
        digests = g.S.Suite.digests c.write-done.new.suite;
        board = memory_of c.write-done.new.board;
        watch = watch_of g.S.Suite.formulas_of g.S.Suite.keys c.write-done.new.watch;
        taken = c.write-done.result.taken;
        watched = c.write-done.ensures.watched;
        said = c.steps-steps.result;
        counted = c.steps-steps.ensures;
      }

  abbrev call : WriteTreeCall
  call =
      record {
        world = its;
        at = c.args.at;
        within = omega (arith, c.if-at-from.false, c.from.ensures, c.tree_lines.ensures);
        line = c.args.line.now;
        whole = c.is_whole.ensures;
        answer = c.write-done.result.answer;
        was_written = c.write-done.ensures.written;
        plan = c.write-done.ensures.plan;
      }

  -- the log goes on from the board before to one that is traced as the call left it
  logged : (board : BoardMemory) → traced_of board ≡ traced_of (memory_of c.write-done.new.board)
      → IsLoggedBy (tree_decided c.args.self.now.shape c.args.self.now.plain (Do.Write c.args.at c.args.line.now)) c.args.log.now c.args.self.now.plain.board c.write-done.new.log board
  logged board same =
      logged_by _ _ _ _ _ (undecided_now call)
      (goes_on-between c.args.log.now c.write-done.new.log c.args.self.now.plain.board (memory_of c.self.inside.board) (memory_of c.write-done.new.board)
      board (ap (λ (w : SessionState). traced_of w.plain.board) c.self.view_is) same c.write-done.ensures.logged)

pub returns-in_default-clause-answered : goal.returns-in_default-clause-answered
returns-in_default-clause-answered g c = write_off (quiet_in g.S.Suite c.self.inside _ c.self.view_is c.self.invariant c.requires) _ _ c.in_default.is

pub returns-then-at-from-clause-answered : goal.returns-then-at-from-clause-answered
returns-then-at-from-clause-answered g c =
    write_past (quiet_in g.S.Suite c.self.inside _ c.self.view_is c.self.invariant c.requires) _ _ _ c.in-Some.is (omega (arith, c.if-at-from.true, c.from.ensures, c.tree_lines.ensures))

pub invariant_of-self-in-Ok : goal.invariant_of-self-in-Ok
invariant_of-self-in-Ok g c = made_held (call g (goal.at.invariant_of-self-in-Ok g c).After-steps-steps) _ c.in-Ok.is

pub invariant_of-self-in-Err-Node : goal.invariant_of-self-in-Err-Node
invariant_of-self-in-Err-Node g c = let r = call g ((goal.at.invariant_of-self-in-Err-Node g c).After-steps-steps) in node_kept r c.in-Err-Node.x (let h = c.in-Err-Node.is in let k = c.in-Err-Node.field-0-is in search rules)

pub invariant_of-self-in-Err-Spent : goal.invariant_of-self-in-Err-Spent
invariant_of-self-in-Err-Spent g c = let r = call g ((goal.at.invariant_of-self-in-Err-Spent g c).After-steps-steps) in spent_kept r (let h = c.in-Err-Spent.is in let k = c.in-Err-Spent.field-0-is in search rules)

pub invariant_of-self-then-done-gt0 : goal.invariant_of-self-then-done-gt0
invariant_of-self-then-done-gt0 g c = let r = call g ((goal.at.invariant_of-self-then-done-gt0 g c).After-steps-steps) in cut_kept r (let h = c.in-Err-Cut.is in let k = c.in-Err-Cut.field-0-is in search rules) c.if-done-gt0.true

pub invariant_of-self-else-done-gt0 : goal.invariant_of-self-else-done-gt0
invariant_of-self-else-done-gt0 g c = let r = call g ((goal.at.invariant_of-self-else-done-gt0 g c).After-steps-steps) in lost_kept r (let h = c.in-Err-Cut.is in let k = c.in-Err-Cut.field-0-is in search rules) c.if-done-gt0.false

pub invariant_of-self-in-Err-Shown : goal.invariant_of-self-in-Err-Shown
invariant_of-self-in-Err-Shown g c = let r = call g ((goal.at.invariant_of-self-in-Err-Shown g c).After-steps-steps) in shown_kept r (let h = c.in-Err-Shown.is in let k = c.in-Err-Shown.field-0-is in search rules) (memory_of c.rest.new.self) c.rest.ensures

pub returns-in-Ok-clause-answered : goal.returns-in-Ok-clause-answered
returns-in-Ok-clause-answered g c = made_seen (call g (goal.at.returns-in-Ok-clause-answered g c).After-steps-steps) _ c.in-Ok.is

pub returns-in-Err-Node-clause-answered : goal.returns-in-Err-Node-clause-answered
returns-in-Err-Node-clause-answered g c = let r = call g ((goal.at.returns-in-Err-Node-clause-answered g c).After-steps-steps) in node_seen r c.in-Err-Node.x (let h = c.in-Err-Node.is in let k = c.in-Err-Node.field-0-is in search rules)

pub returns-in-Err-Spent-clause-answered : goal.returns-in-Err-Spent-clause-answered
returns-in-Err-Spent-clause-answered g c = let r = call g ((goal.at.returns-in-Err-Spent-clause-answered g c).After-steps-steps) in spent_seen r (let h = c.in-Err-Spent.is in let k = c.in-Err-Spent.field-0-is in search rules)

pub returns-then-done-gt0-clause-answered : goal.returns-then-done-gt0-clause-answered
returns-then-done-gt0-clause-answered g c = let r = call g ((goal.at.returns-then-done-gt0-clause-answered g c).After-steps-steps) in cut_seen r (let h = c.in-Err-Cut.is in let k = c.in-Err-Cut.field-0-is in search rules) c.if-done-gt0.true

pub returns-else-done-gt0-clause-answered : goal.returns-else-done-gt0-clause-answered
returns-else-done-gt0-clause-answered g c = let r = call g ((goal.at.returns-else-done-gt0-clause-answered g c).After-steps-steps) in lost_seen r (let h = c.in-Err-Cut.is in let k = c.in-Err-Cut.field-0-is in search rules) c.if-done-gt0.false

pub returns-in-Err-Shown-clause-halted : goal.returns-in-Err-Shown-clause-halted
returns-in-Err-Shown-clause-halted g c =
    shown_seen (call g (goal.at.returns-in-Err-Shown-clause-halted g c).After-steps-steps) (let h = c.in-Err-Shown.is in let k = c.in-Err-Shown.field-0-is in search rules) _ c.rest.ensures _ c.shown.ensures

-- ---- the log

pub returns-in_default-clause-logged : goal.returns-in_default-clause-logged
returns-in_default-clause-logged g c = not_logged (Do.Write c.args.at c.args.line.now) c.args.log.now c.args.self.now _ c.self.view_is

pub returns-then-at-from-clause-logged : goal.returns-then-at-from-clause-logged
returns-then-at-from-clause-logged g c = not_logged (Do.Write c.args.at c.args.line.now) c.args.log.now c.args.self.now _ c.self.view_is

pub returns-in-Ok-clause-logged : goal.returns-in-Ok-clause-logged
returns-in-Ok-clause-logged g c = logged g ((goal.at.returns-in-Ok-clause-logged g c).After-steps-steps) (memory_of c.write-done.new.board) refl

pub returns-in-Err-Node-clause-logged : goal.returns-in-Err-Node-clause-logged
returns-in-Err-Node-clause-logged g c = logged g ((goal.at.returns-in-Err-Node-clause-logged g c).After-steps-steps) (memory_of c.write-done.new.board) refl

pub returns-in-Err-Spent-clause-logged : goal.returns-in-Err-Spent-clause-logged
returns-in-Err-Spent-clause-logged g c = logged g ((goal.at.returns-in-Err-Spent-clause-logged g c).After-steps-steps) (memory_of c.write-done.new.board) refl

pub returns-then-done-gt0-clause-logged : goal.returns-then-done-gt0-clause-logged
returns-then-done-gt0-clause-logged g c = logged g ((goal.at.returns-then-done-gt0-clause-logged g c).After-steps-steps) (memory_of c.write-done.new.board) refl

pub returns-else-done-gt0-clause-logged : goal.returns-else-done-gt0-clause-logged
returns-else-done-gt0-clause-logged g c = logged g ((goal.at.returns-else-done-gt0-clause-logged g c).After-steps-steps) (memory_of c.write-done.new.board) refl

pub returns-in-Err-Shown-clause-logged : goal.returns-in-Err-Shown-clause-logged
returns-in-Err-Shown-clause-logged g c = logged g (goal.at.returns-in-Err-Shown-clause-logged g c).After-steps-steps _ (ap traced_of c.rest.ensures)
