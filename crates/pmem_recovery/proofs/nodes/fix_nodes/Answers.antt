use Rattle.std.proofs.Common.{ℕ, suc, ◌≡◌, ◌<◌, ◌≤◌, ◌+◌, ◌-◌, List, ap, subst, ◌∙◌, arith}
use Rattle.pmem_base.specs.declared.lines.Line.{Line}
use Rattle.pmem_base.specs.declared.geometry.Geo.{Geo}
use Rattle.pmem_base.specs.Geo.{shape_of}
use Rattle.pmem_base.specs.Shape.{Shape}
use Rattle.pmem_base.specs.Layout.{level_start}
use Rattle.bonsai_tree.proofs.Levels.{level_start-le}
use Rattle.pmem_recovery.specs.Named.{count_doubted}
use Rattle.pmem_recovery.proofs.PartLaws.{IsShape-geo}
use Rattle.pmem_recovery.proofs.NamedLaws.{count_doubted-parts, count_doubted-within, count_doubted-small}
use Rattle.call_plan.proofs.Steps.{ended_err}
use Rattle.call_plan.proofs.Bind.{mapped_follows}
use Rattle.call_plan.proofs.Loops.{turn_ok, turn_err, turns_end}
use Rattle.pmem_recovery.proofs.nodes.fix_nodes.Given.{Over}
use Rattle.pmem_recovery.proofs.nodes.fix_nodes.Goals.{After-levels}
use Rattle.pmem_recovery.proofs.nodes.fix_nodes.Goals as goal

-- the level that is next, and how many nodes are doubted from it on
record IsNextLevel (g : Shape) (shadow : List Line) (above level : ℕ) : Type 0 where
  pub below : suc level ≡ g.levels - above
  pub again : g.levels - (above + 1) ≡ level
  pub inside : level < g.levels
  pub parts :
      count_doubted g shadow (level_start level) (level_start g.levels)
      ≡ count_doubted g shadow (level_start level) (level_start (suc level))
      + count_doubted g shadow (level_start (g.levels - above)) (level_start g.levels)
  pub within :
      count_doubted g shadow (level_start level) (level_start g.levels)
      ≤ count_doubted g shadow 0 (level_start g.levels)
  pub few : count_doubted g shadow (level_start level) (level_start g.levels) ≤ 3072

next_level : (geo : Geo) (shadow : List Line) (above levels level : ℕ) → levels ≡ (shape_of geo).levels → above < levels → level ≡ levels - 1 - above → IsNextLevel (shape_of geo) shadow above level
next_level geo shadow above levels level e low l =
    let g = shape_of geo in
    let up : suc level ≡ g.levels - above = omega (arith, e, low, l) in
    let inside : level < g.levels = omega (arith, e, low, l) in
    let first = level_start-le level (suc level) (omega arith) in
    let rest = level_start-le (suc level) g.levels inside in
    let all = level_start-le level g.levels (omega (arith, inside)) in
    record {
      below = up;
      again = omega (arith, e, low, l);
      inside = inside;
      parts =
          subst (λ n. count_doubted g shadow (level_start level) (level_start g.levels) ≡ count_doubted g shadow (level_start level) (level_start (suc level)) + count_doubted g shadow (level_start n) (level_start g.levels)) up
          (count_doubted-parts g shadow (level_start level) (level_start (suc level)) (level_start g.levels) first rest);
      within = count_doubted-within g shadow (level_start level) (level_start g.levels) (level_start g.levels) all (omega arith);
      few = count_doubted-small g shadow (level_start level) (level_start g.levels) (IsShape-geo geo) all (omega arith);
    }

module _ (g : Over) (c : After-levels g) where
  next_here : IsNextLevel (shape_of c.args.geo.now) c.args.shadow.now c.upward.above (c.levels.result - 1 - c.upward.above)
  next_here =
      next_level c.args.geo.now c.args.shadow.now c.upward.above c.levels.result (c.levels.result - 1 - c.upward.above) c.levels.ensures
      (omega (arith, c.upward-test.true, c.levels.ensures, c.levels-above-end.ensures)) (omega arith)

  more : c.upward.above < (shape_of c.args.geo.now).levels
  more = omega (arith, c.upward-test.true, c.levels.ensures, c.levels-above-end.ensures)

pub fix_level-requires-clause-room : goal.fix_level-requires-clause-room
fix_level-requires-clause-room g c =
    let n = next_here g (goal.at.fix_level-requires-clause-room g c).After-levels in
    omega (arith, n.parts, n.within, c.upward.invariant.counted, c.upward.invariant.capacity, c.requires.room)

pub fix_level-requires-clause-few : goal.fix_level-requires-clause-few
fix_level-requires-clause-few g c = omega (arith, c.upward.invariant.capacity, c.requires.few)

pub fix_level-requires-clause-positions : goal.fix_level-requires-clause-positions
fix_level-requires-clause-positions g c = c.upward.invariant.positions ∙ c.requires.positions

pub overflow_add-digests : goal.overflow_add-digests
overflow_add-digests g c =
    let n = next_here g (goal.at.overflow_add-digests g c).After-levels in
    omega (arith, n.parts, n.few, c.upward.invariant.done, c.in_ok-digests.ensures.digests)

pub upward-preserved : goal.upward-preserved
upward-preserved g c =
    let shape = shape_of c.args.geo.now in
    let shadow = c.args.shadow.now in
    let level : ℕ = c.levels.result - 1 - c.upward.above in
    let inv = c.upward.invariant in
    let ok = c.in_ok-digests.ensures in
    let n = next_here g (goal.at.upward-preserved g c).After-levels in
    let count : count_doubted shape shadow (level_start (shape.levels - (c.upward.above + 1))) (level_start shape.levels) ≡ count_doubted shape shadow (level_start level) (level_start shape.levels) =
    ap (λ i. count_doubted shape shadow (level_start i) (level_start shape.levels)) n.again in
    record {
      few = omega (arith, n.below);
      keys = c.fix_level.ensures.keys ∙ inv.keys;
      pads = c.fix_level.ensures.pads ∙ inv.pads;
      reached =
          let place = (goal.at.upward-preserved g c).After-levels in
          turn_ok inv.reached (more g place)
          (mapped_follows _ _ (rw (inv.keys, c.levels.ensures) at ok.plan));
      counted = omega (arith, ok.counted, inv.counted, n.parts, count);
      done = omega (arith, ok.digests, inv.done, n.parts, count);
      capacity = c.fix_level.ensures.capacity ∙ inv.capacity;
      positions = c.fix_level.ensures.positions ∙ inv.positions;
    }

-- ---- the plan

pub returns-in_err-digests-clause-plan : goal.returns-in_err-digests-clause-plan
returns-in_err-digests-clause-plan g c =
    let place = (goal.at.returns-in_err-digests-clause-plan g c).After-levels in
    ended_err c.from_residual.result c.from_residual.ensures.1
    (turn_err c.upward.invariant.reached (more g place)
    (mapped_follows _ _ (rw (c.upward.invariant.keys, c.levels.ensures) at c.in_err-digests.ensures.plan)))

pub returns-clause-plan : goal.returns-clause-plan
returns-clause-plan g c =
    turns_end c.upward.invariant.reached (omega (arith, c.upward-test.false, c.levels-above-end.ensures))
