use Rattle.std.proofs.Common.{rules, [], ℕ, ◌≡◌, ◌+◌, ◌*◌, List, take, set, refl, sym, ap, ◌∙◌, arith, ◌<◌, ◌≤◌}
use Rattle.std.proofs.lemmas.List.{take_more_set, take_all}
use Rattle.bonsai_tree.specs.Nodes.{node_of}
use Rattle.call_plan.proofs.Steps.{ended_err}
use Rattle.call_plan.proofs.Loops.{turns_start, turn_ok, turn_err, turns_end}
use Rattle.call_effects.specs.SuiteStates.{setup_with}
use Rattle.pmem_recovery.specs.Plans.{counts_at, child_turn}
use Rattle.pmem_recovery.proofs.NodePlans.{same_counts, child_made, child_cut, children_made, children_cut}
use Rattle.pmem_base.specs.Geo.{shape_of}
use Rattle.pmem_base.specs.Shape.{Shape}
use Rattle.pmem_base.specs.Layout.{level_start}
use Rattle.pmem_base.proofs.LayoutLemmas.{pages-most}
use Rattle.bonsai_tree.proofs.Levels.{level_start-pow}
use Rattle.pmem_recovery.proofs.nodes.node_line.Given.{Over}
use Rattle.pmem_recovery.proofs.nodes.node_line.Goals.{After-from}
use Rattle.pmem_recovery.proofs.nodes.node_line.Goals as goal

pub children-init : goal.children-init
children-init g c =
    record {
      keys = refl;
      pads = refl;
      reached =
          turns_start (child_turn (setup_with g.S.Suite c.args.geo.now c.args.suite.now) c.args.made.now.entries c.args.x) 4 (counts_at g.S.Suite c.args.suite.now, [])
          (g.B.Board.device c.args.board.now);
      long = refl;
    }

-- one more child
module _ (g : Over) (c : After-from g) where
  place : 4 * c.args.x + 1 + c.from.result ≡ 4 * c.args.x + 1 + c.children.i
  place = ap (λ n. 4 * c.args.x + 1 + n) c.from.ensures

pub children-preserved : goal.children-preserved
children-preserved g c =
    record {
      keys = c.digest.ensures.keys ∙ c.children.invariant.keys;
      pads = c.digest.ensures.pads ∙ c.children.invariant.pads;
      reached =
          let here = (goal.at.children-preserved g c).After-from in
          let keys = c.children.invariant.keys in
          turn_ok c.children.invariant.reached c.children-test.true
          (child_made (setup_with g.S.Suite c.args.geo.now c.args.suite.now) c.args.made.now.entries c.args.x c.children.i (counts_at g.S.Suite c.children.suite)
          (take c.children.i c.children.digests) (place g here) c.in_ok-line.line (counts_at g.S.Suite c.digest.new.self)
          _ c.digest.result
          (same_counts c.digest.ensures.tags c.digest.ensures.digests)
          (ap (λ k. take (c.children.i + 1) (set c.children.digests k c.digest.result)) c.from-in-children.ensures
          ∙ take_more_set c.children.digests c.children.i c.digest.result (omega (arith, c.children.invariant.long, c.children-test.true)))
          (c.digest.ensures.digest ∙ ap (λ (k : List ℕ). (g.S.Suite.formulas_of k).digest_of (4 * c.args.x + 1 + c.from.result) c.in_ok-line.line) keys)
          c.in_ok-line.ensures.plan);
      long = search rules;
    }

-- positions of nodes are small, and their children are on the tree
node-small : (g : Shape) (x : ℕ) → g.levels ≤ 6 → x < level_start g.levels → x < 1365
node-small g x six node = omega (arith, node, level_start-pow g.levels, pages-most g.levels six)

pub overflow_mul-child : goal.overflow_mul-child
overflow_mul-child g c = omega (arith, node-small (shape_of c.args.geo.now) c.args.x c.args.geo.now.has_levels.1 c.requires.node)

pub overflow_add-child : goal.overflow_add-child
overflow_add-child g c = omega (arith, node-small (shape_of c.args.geo.now) c.args.x c.args.geo.now.has_levels.1 c.requires.node)

pub overflow_add-child-in-children : goal.overflow_add-child-in-children
overflow_add-child-in-children g c = omega (arith, node-small (shape_of c.args.geo.now) c.args.x c.args.geo.now.has_levels.1 c.requires.node, c.children-test.true, c.from.ensures)

-- ---- the plan

pub returns-in_err-line-clause-plan : goal.returns-in_err-line-clause-plan
returns-in_err-line-clause-plan g c =
    let here = (goal.at.returns-in_err-line-clause-plan g c).After-from in
    ended_err c.from_residual.result c.from_residual.ensures.1
    (children_cut (setup_with g.S.Suite c.args.geo.now c.args.suite.now) c.args.made.now.entries c.args.x (counts_at g.S.Suite c.args.suite.now) (counts_at g.S.Suite c.children.suite)
    (turn_err c.children.invariant.reached c.children-test.true
    (child_cut (setup_with g.S.Suite c.args.geo.now c.args.suite.now) c.args.made.now.entries c.args.x c.children.i (counts_at g.S.Suite c.children.suite)
    (take c.children.i c.children.digests) (place g here) c.in_err-line.ensures.plan)))

pub returns-clause-plan : goal.returns-clause-plan
returns-clause-plan g c =
    children_made (setup_with g.S.Suite c.args.geo.now c.args.suite.now) c.args.made.now.entries c.args.x (counts_at g.S.Suite c.args.suite.now) (counts_at g.S.Suite c.children.suite)
    (take c.children.i c.children.digests) c.node_of.result
    (c.node_of.ensures ∙ ap node_of (sym (take_all c.children.i c.children.digests (omega (arith, c.children.invariant.long, c.children-test.false)))))
    (turns_end c.children.invariant.reached (omega (arith, c.children-test.false)))
