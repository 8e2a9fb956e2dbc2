use Rattle.std.proofs.Common.{◌≡◌, ◌≤◌, ◌-◌, ◌*◌, length}
use Rattle.pmem_base.specs.Geo.{shape_of}
use Rattle.pmem_base.specs.Layout.{meta_lines, level_start}
use Rattle.pmem_recovery.specs.Named.{count_doubted}
use Rattle.call_effects.specs.SuiteStates.{setup_with}
use Rattle.call_plan.specs.Plans.{for_each}
use Rattle.call_plan.proofs.Loops.{HasReached}
use Rattle.pmem_recovery.specs.Plans.{recovery_parts, counts_at, doubted_positions, block_turn, blocks_plan}
use Rattle.pmem_recovery.proofs.counters.fix_counters.Given as goal

abbrev pub invariant-positions : goal.invariant-positions
invariant-positions g l =
    let shape = shape_of l.geo in
    record {
      keys : g.S.Suite.keys l.suite ≡ g.S.Suite.keys l.initial.suite;
      pads : g.S.Suite.pads l.suite ≡ g.S.Suite.pads l.initial.suite;
      reached :
          HasReached
          (blocks_plan (setup_with g.S.Suite l.geo l.initial.suite) l.regs l.shadow (recovery_parts l.initial.made.entries (counts_at g.S.Suite l.initial.suite)))
          (g.B.Board.device l.initial.board)
          (for_each (block_turn (setup_with g.S.Suite l.geo l.initial.suite) l.regs) (doubted_positions shape l.shadow l.from (meta_lines shape))
          (recovery_parts l.made.entries (counts_at g.S.Suite l.suite), l.trials)) (g.B.Board.device l.board);
      low : level_start shape.levels ≤ l.from;
      high : l.from ≤ meta_lines shape;
      counted : length l.made.entries ≡ count_doubted shape l.shadow (level_start shape.levels) l.from;
      few : l.trials ≤ length l.made.entries * (64 * l.regs.loss);
      capacity : l.made.room ≡ l.initial.made.room;
      positions : l.made.positions ≡ l.initial.made.positions;
    }

abbrev pub decreases-positions : goal.decreases-positions
decreases-positions g l = meta_lines (shape_of l.geo) - l.from
