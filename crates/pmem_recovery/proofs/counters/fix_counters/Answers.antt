use Rattle.std.proofs.Common.{refl, ◌/◌, ℕ, ◌≡◌, ◌<◌, ◌≤◌, ◌+◌, ◌-◌, ◌*◌, ◌^◌, IsTrue, List, length, sym, ap, subst, ◌∙◌, arith}
use Rattle.std.proofs.lemmas.Nat.{mul-le}
use Rattle.pmem_base.specs.declared.lines.Line.{Line}
use Rattle.pmem_base.specs.Geo.{shape_of}
use Rattle.pmem_base.specs.Shape.{Shape, is_loss}
use Rattle.pmem_base.specs.Layout.{meta_lines, level_start}
use Rattle.bonsai_tree.proofs.Levels.{meta_lines-counters}
use Rattle.plain_model.specs.Bounds.{most_blocks}
use Rattle.stop_loss.proofs.Windows.{is_loss_cases}
use Rattle.pmem_recovery.specs.Named.{doubts, count_doubted, IsNextAt}
use Rattle.call_effects.specs.SuiteStates.{setup_with}
use Rattle.pmem_recovery.proofs.PartLaws.{IsShape-geo, few_and_one}
use Rattle.pmem_recovery.proofs.NamedLaws.{count_doubted-gap, count_doubted-next, count_doubted-le, count_doubted-counters, most_blocks-small}
use Rattle.call_plan.specs.Plans.{for_each}
use Rattle.call_plan.proofs.Steps.{ended_err}
use Rattle.call_plan.proofs.Bind.{mapped_follows}
use Rattle.call_plan.proofs.Loops.{HasReached, reached_start}
use Rattle.pmem_recovery.specs.Plans.{RecoveryParts, recovery_parts, counts_at, doubted_positions, block_turn, blocks_plan}
use Rattle.pmem_recovery.proofs.NamedPlans.{named_ok, named_err, named_end}
use Rattle.pmem_recovery.proofs.counters.fix_counters.Given.{Over}
use Rattle.pmem_recovery.proofs.counters.fix_counters.Goals.{In-Some}
use Rattle.pmem_recovery.proofs.counters.fix_counters.Goals as goal

-- the next one has room
next_fits : (g : Shape) (shadow : List Line) (n from x : ℕ) → n ≡ count_doubted g shadow (level_start g.levels) from → level_start g.levels ≤ from → IsNextAt (doubts g shadow) from (meta_lines g) x → count_doubted g shadow (level_start g.levels) (meta_lines g) ≤ most_blocks g → n < most_blocks g
next_fits g shadow n from x e low next most =
    let more = count_doubted-next g shadow (level_start g.levels) from (meta_lines g) x low next in
    let up = count_doubted-le g shadow (level_start g.levels) (x + 1) (meta_lines g) (omega (arith, low, next.low)) (omega (arith, next.high)) in
    omega (arith, e, more, up, most)

-- at a doubted counter block
module _ (g : Over) (c : In-Some g) where
  abbrev shape : Shape
  shape = shape_of c.args.geo.now

  next : IsNextAt (doubts shape c.args.shadow.now) c.positions.from (meta_lines shape) c.in-Some.x
  next = subst (λ n. IsNextAt (doubts shape c.args.shadow.now) c.positions.from n c.in-Some.x) c.metas.ensures.value c.in-Some.ensures

  room : length c.positions.made.entries < most_blocks shape
  room =
      next_fits shape c.args.shadow.now (length c.positions.made.entries) c.positions.from c.in-Some.x c.positions.invariant.counted c.positions.invariant.low next
      (count_doubted-counters shape c.args.shadow.now (IsShape-geo c.args.geo.now))

  abbrev parts : RecoveryParts
  parts = recovery_parts c.positions.made.entries (counts_at g.S.Suite c.positions.suite)

pub positions-init : goal.positions-init
positions-init g c =
    let shape = shape_of c.args.geo.now in
    let from : ℕ = (c.pages.result - 1) / 3 in
    let start : from ≡ level_start shape.levels = ap (λ n. (n - 1) / 3) c.pages.ensures.value in
    record {
      keys = refl;
      pads = refl;
      reached =
          let turn = block_turn (setup_with g.S.Suite c.args.geo.now c.args.suite.now) c.args.regs.now in
          let all = blocks_plan (setup_with g.S.Suite c.args.geo.now c.args.suite.now) c.args.regs.now c.args.shadow.now
          (recovery_parts c.args.made.now.entries (counts_at g.S.Suite c.args.suite.now)) in
          subst (λ n. HasReached all (g.B.Board.device c.args.board.now) (for_each turn (doubted_positions shape c.args.shadow.now n (meta_lines shape))
          (recovery_parts c.args.made.now.entries (counts_at g.S.Suite c.args.suite.now), 0)) (g.B.Board.device c.args.board.now)) (sym start)
          (reached_start all (g.B.Board.device c.args.board.now));
      low = omega (arith, start);
      high = omega (arith, start, meta_lines-counters shape);
      counted = ap length c.requires.empty ∙ sym (count_doubted-gap shape c.args.shadow.now (level_start shape.levels) from (λ x low high. absurd (omega (arith, low, high, start))));
      few = omega arith;
      capacity = refl;
      positions = refl;
    }

pub fix_counter-requires-clause-room : goal.fix_counter-requires-clause-room
fix_counter-requires-clause-room g c =
    omega (arith, room g (goal.at.fix_counter-requires-clause-room g c).In-Some, c.positions.invariant.capacity, c.requires.room)

pub fix_counter-requires-clause-most : goal.fix_counter-requires-clause-most
fix_counter-requires-clause-most g c = omega (arith, c.positions.invariant.capacity, c.requires.few)

pub fix_counter-requires-clause-positions : goal.fix_counter-requires-clause-positions
fix_counter-requires-clause-positions g c = c.positions.invariant.positions ∙ c.requires.positions

loss_small : (n : ℕ) → IsTrue (is_loss n) → n ≤ 16
loss_small n h = let cases = is_loss_cases n h in omega arith

fits : (n loss blocks : ℕ) → n ≤ 64 * loss * blocks → loss ≤ 16 → blocks ≤ 4096 → n < 2 ^ 64
fits n loss blocks h low small =
    let m = mul-le (64 * loss) blocks 1024 4096 (omega arith) small in
    omega arith

pub overflow_add-trials : goal.overflow_add-trials
overflow_add-trials g c =
    let small = fits (c.positions.trials + c.in_ok-trials.field-0) c.args.regs.now.loss (most_blocks (shape_of c.args.geo.now))
    (few_and_one c.positions.trials c.in_ok-trials.field-0 (64 * c.args.regs.now.loss) (length c.positions.made.entries) (most_blocks (shape_of c.args.geo.now)) c.positions.invariant.few
    c.in_ok-trials.ensures.few (room g (goal.at.overflow_add-trials g c).In-Some))
    (loss_small c.args.regs.now.loss c.requires.loss) (most_blocks-small (shape_of c.args.geo.now) (IsShape-geo c.args.geo.now)) in
    omega (arith, small)

pub positions-preserved : goal.positions-preserved
positions-preserved g c =
    let place = (goal.at.positions-preserved g c).In-Some in
    let its_shape = shape_of c.args.geo.now in
    let inv = c.positions.invariant in
    let ok = c.in_ok-trials.ensures in
    let its_next = next g place in
    record {
      keys = c.fix_counter.ensures.keys ∙ inv.keys;
      pads = c.fix_counter.ensures.pads ∙ inv.pads;
      reached =
          named_ok (block_turn (setup_with g.S.Suite c.args.geo.now c.args.suite.now) c.args.regs.now) its_shape c.args.shadow.now c.positions.from (meta_lines its_shape)
          (parts g place, c.positions.trials) inv.reached c.in-Some.x its_next
          (mapped_follows _ _ (rw inv.keys at ok.plan));
      low = omega (arith, inv.low, its_next.low);
      high = omega (arith, its_next.high);
      counted = ok.longer ∙ ap (λ n. n + 1) inv.counted ∙ sym (count_doubted-next its_shape c.args.shadow.now (level_start its_shape.levels) c.positions.from (meta_lines its_shape) c.in-Some.x inv.low its_next);
      few =
          subst (λ n. c.positions.trials + c.in_ok-trials.field-0 ≤ n * (64 * c.args.regs.now.loss)) (sym ok.longer)
          (let few = inv.few in let more = ok.few in omega arith);
      capacity = c.fix_counter.ensures.capacity ∙ inv.capacity;
      positions = c.fix_counter.ensures.positions ∙ inv.positions;
    }

-- at the end
few_at_end : (g : Shape) (shadow : List Line) (n from : ℕ) → n ≡ count_doubted g shadow (level_start g.levels) from → level_start g.levels ≤ from → from ≤ meta_lines g → count_doubted g shadow (level_start g.levels) (meta_lines g) ≤ most_blocks g → n ≤ most_blocks g
few_at_end g shadow n from e low high most =
    omega (arith, e, count_doubted-le g shadow (level_start g.levels) from (meta_lines g) low high, most)

pub returns-clause-few_made : goal.returns-clause-few_made
returns-clause-few_made g c =
    let shape = shape_of c.args.geo.now in
    few_at_end shape c.args.shadow.now (length c.positions.made.entries) c.positions.from c.positions.invariant.counted c.positions.invariant.low c.positions.invariant.high (count_doubted-counters shape c.args.shadow.now (IsShape-geo c.args.geo.now))

-- ---- the plan

pub returns-in_err-trials-clause-plan : goal.returns-in_err-trials-clause-plan
returns-in_err-trials-clause-plan g c =
    let place = (goal.at.returns-in_err-trials-clause-plan g c).In-Some in
    ended_err c.from_residual.result c.from_residual.ensures.1
    (named_err (block_turn (setup_with g.S.Suite c.args.geo.now c.args.suite.now) c.args.regs.now) (shape_of c.args.geo.now) c.args.shadow.now c.positions.from
    (meta_lines (shape_of c.args.geo.now)) (parts g place, c.positions.trials) c.positions.invariant.reached c.in-Some.x (next g place)
    (mapped_follows _ _ (rw c.positions.invariant.keys at c.in_err-trials.ensures.plan)))

pub returns-clause-plan : goal.returns-clause-plan
returns-clause-plan g c =
    named_end (block_turn (setup_with g.S.Suite c.args.geo.now c.args.suite.now) c.args.regs.now) (shape_of c.args.geo.now) c.args.shadow.now c.positions.from
    (meta_lines (shape_of c.args.geo.now)) (recovery_parts c.positions.made.entries (counts_at g.S.Suite c.positions.suite), c.positions.trials) c.positions.invariant.reached
    (λ y low high. c.in_default.ensures y low (omega (arith, high, c.metas.ensures.value)))
