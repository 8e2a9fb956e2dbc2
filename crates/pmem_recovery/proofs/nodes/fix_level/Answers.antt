use Rattle.std.proofs.Common.{ℕ, suc, ◌≡◌, ◌<◌, ◌≤◌, ◌+◌, List, ap, subst, false, ◌∙◌, add-one, arith}
use Rattle.pmem_base.specs.declared.lines.Line.{Line}
use Rattle.pmem_base.specs.declared.geometry.Geo.{Geo}
use Rattle.pmem_base.specs.Geo.{shape_of}
use Rattle.pmem_base.specs.Shape.{Shape}
use Rattle.pmem_base.specs.Layout.{level_start}
use Rattle.bonsai_tree.proofs.Levels.{level_start-le}
use Rattle.pmem_recovery.specs.Named.{doubts, count_doubted, IsNextAt}
use Rattle.call_effects.specs.SuiteStates.{setup_with}
use Rattle.pmem_recovery.proofs.PartLaws.{IsShape-geo}
use Rattle.pmem_recovery.proofs.NamedLaws.{count_doubted-next, count_doubted-last, count_doubted-le, count_doubted-small}
use Rattle.call_plan.proofs.Steps.{ended_err}
use Rattle.call_plan.proofs.Bind.{mapped_follows}
use Rattle.pmem_recovery.specs.Plans.{RecoveryParts, recovery_parts, counts_at, node_turn}
use Rattle.pmem_recovery.proofs.NamedPlans.{named_ok, named_err, named_end}
use Rattle.pmem_recovery.proofs.nodes.fix_level.Given.{Over}
use Rattle.pmem_recovery.proofs.nodes.fix_level.Goals.{In-Some, In_default}
use Rattle.pmem_recovery.proofs.nodes.fix_level.Goals as goal

-- the end of a level
end_is : (level end : ℕ) → end ≡ level_start (level + 1) → end ≡ level_start (suc level)
end_is level end e = e ∙ ap level_start (add-one level)

-- the next node has room, and is one of a few
pub record HasNext (g : Shape) (shadow : List Line) (level from x : ℕ) : Type 0 where
  pub next : IsNextAt (doubts g shadow) from (level_start (suc level)) x
  pub node : x < level_start g.levels
  pub more : count_doubted g shadow (level_start level) (x + 1) ≡ count_doubted g shadow (level_start level) from + 1
  pub within : count_doubted g shadow (level_start level) (x + 1) ≤ count_doubted g shadow (level_start level) (level_start (suc level))
  pub few : count_doubted g shadow (level_start level) (x + 1) ≤ 3072

has_next : (geo : Geo) (shadow : List Line) (level from x end : ℕ) → level < (shape_of geo).levels → level_start level ≤ from → end ≡ level_start (level + 1) → IsNextAt (doubts (shape_of geo) shadow) from end x → HasNext (shape_of geo) shadow level from x
has_next geo shadow level from x end above low e n =
    let g = shape_of geo in
    let next : IsNextAt (doubts g shadow) from (level_start (suc level)) x = subst (λ m. IsNextAt (doubts g shadow) from m x) (end_is level end e) n in
    let up = level_start-le (suc level) g.levels above in
    record {
      next = next;
      node = omega (arith, next.high, up);
      more = count_doubted-next g shadow (level_start level) from (level_start (suc level)) x low next;
      within = count_doubted-le g shadow (level_start level) (x + 1) (level_start (suc level)) (omega (arith, low, next.low)) (omega (arith, next.high));
      few = count_doubted-small g shadow (level_start level) (x + 1) (IsShape-geo geo) (omega (arith, low, next.low)) (omega (arith, next.high, up));
    }

module _ (g : Over) (c : In-Some g) where
  next_here : HasNext (shape_of c.args.geo.now) c.args.shadow.now c.args.level c.positions.from c.in-Some.x
  next_here =
      has_next c.args.geo.now c.args.shadow.now c.args.level c.positions.from c.in-Some.x c.first_of_level-end.result c.requires.level c.positions.invariant.low c.first_of_level-end.ensures.value c.in-Some.ensures

  -- it is the next of the plan
  first_here : IsNextAt (doubts (shape_of c.args.geo.now) c.args.shadow.now) c.positions.from (level_start (c.args.level + 1)) c.in-Some.x
  first_here =
      subst (λ m. IsNextAt (doubts (shape_of c.args.geo.now) c.args.shadow.now) c.positions.from m c.in-Some.x) c.first_of_level-end.ensures.value
      c.in-Some.ensures

  abbrev before : RecoveryParts
  before = recovery_parts c.positions.made.entries (counts_at g.S.Suite c.positions.suite)

pub fix_node-requires-clause-node : goal.fix_node-requires-clause-node
fix_node-requires-clause-node g c =
    (next_here g (goal.at.fix_node-requires-clause-node g c).In-Some).node

pub fix_node-requires-clause-room : goal.fix_node-requires-clause-room
fix_node-requires-clause-room g c =
    let h = next_here g (goal.at.fix_node-requires-clause-room g c).In-Some in
    omega (arith, h.more, h.within, c.positions.invariant.counted, c.positions.invariant.capacity, c.requires.room)

pub fix_node-requires-clause-few : goal.fix_node-requires-clause-few
fix_node-requires-clause-few g c = omega (arith, c.positions.invariant.capacity, c.requires.few)

pub fix_node-requires-clause-positions : goal.fix_node-requires-clause-positions
fix_node-requires-clause-positions g c = c.positions.invariant.positions ∙ c.requires.positions

pub overflow_add-digests : goal.overflow_add-digests
overflow_add-digests g c =
    let h = next_here g (goal.at.overflow_add-digests g c).In-Some in
    omega (arith, h.more, h.few, c.positions.invariant.done)

pub positions-preserved : goal.positions-preserved
positions-preserved g c =
    let shape = shape_of c.args.geo.now in
    let inv = c.positions.invariant in
    let ok = c.in_ok-fix_node.ensures in
    let h = next_here g (goal.at.positions-preserved g c).In-Some in
    record {
      keys = c.fix_node.ensures.keys ∙ inv.keys;
      pads = c.fix_node.ensures.pads ∙ inv.pads;
      reached =
          let place = (goal.at.positions-preserved g c).In-Some in
          named_ok (node_turn (setup_with g.S.Suite c.args.geo.now c.args.suite.now)) shape c.args.shadow.now c.positions.from (level_start (c.args.level + 1))
          (before g place, c.positions.digests) inv.reached c.in-Some.x (first_here g place)
          (mapped_follows _ _ (rw inv.keys at ok.plan));
      low = omega (arith, inv.low, h.next.low);
      high = omega (arith, h.next.high);
      counted = ok.longer ∙ omega (arith, inv.counted, h.more);
      done = omega (arith, inv.done, h.more);
      capacity = c.fix_node.ensures.capacity ∙ inv.capacity;
      positions = c.fix_node.ensures.positions ∙ inv.positions;
    }

-- at the end of the level
all_counted : (g : Shape) (shadow : List Line) (level from end : ℕ) → level_start level ≤ from → from ≤ level_start (suc level) → end ≡ level_start (level + 1) → ((y : ℕ) → from ≤ y → y < end → doubts g shadow y ≡ false) → count_doubted g shadow (level_start level) (level_start (suc level)) ≡ count_doubted g shadow (level_start level) from
all_counted g shadow level from end low high e none =
    count_doubted-last g shadow (level_start level) from (level_start (suc level)) low high (λ y a b. none y a (omega (arith, b, end_is level end e)))

module _ (g : Over) (c : In_default g) where
  all_here : count_doubted (shape_of c.args.geo.now) c.args.shadow.now (level_start c.args.level) (level_start (suc c.args.level))
      ≡ count_doubted (shape_of c.args.geo.now) c.args.shadow.now (level_start c.args.level) c.positions.from
  all_here =
      all_counted (shape_of c.args.geo.now) c.args.shadow.now c.args.level c.positions.from c.first_of_level-end.result c.positions.invariant.low c.positions.invariant.high c.first_of_level-end.ensures.value c.in_default.ensures

pub returns-clause-digests : goal.returns-clause-digests
returns-clause-digests g c =
    let all = all_here g (goal.at.returns-clause-digests g c).In_default in
    omega (arith, all, c.positions.invariant.done)

pub returns-clause-counted : goal.returns-clause-counted
returns-clause-counted g c =
    let all = all_here g (goal.at.returns-clause-counted g c).In_default in
    omega (arith, all, c.positions.invariant.counted)

-- ---- the plan

pub returns-in_err-fix_node-clause-plan : goal.returns-in_err-fix_node-clause-plan
returns-in_err-fix_node-clause-plan g c =
    let place = (goal.at.returns-in_err-fix_node-clause-plan g c).In-Some in
    ended_err c.from_residual.result c.from_residual.ensures.1
    (named_err (node_turn (setup_with g.S.Suite c.args.geo.now c.args.suite.now)) (shape_of c.args.geo.now) c.args.shadow.now c.positions.from (level_start (c.args.level + 1))
    (before g place, c.positions.digests) c.positions.invariant.reached c.in-Some.x (first_here g place)
    (mapped_follows _ _ (rw c.positions.invariant.keys at c.in_err-fix_node.ensures.plan)))

pub returns-clause-plan : goal.returns-clause-plan
returns-clause-plan g c =
    named_end (node_turn (setup_with g.S.Suite c.args.geo.now c.args.suite.now)) (shape_of c.args.geo.now) c.args.shadow.now c.positions.from (level_start (c.args.level + 1))
    (recovery_parts c.positions.made.entries (counts_at g.S.Suite c.positions.suite), c.positions.digests) c.positions.invariant.reached
    (λ y low high. c.in_default.ensures y low (omega (arith, high, c.first_of_level-end.ensures.value)))
