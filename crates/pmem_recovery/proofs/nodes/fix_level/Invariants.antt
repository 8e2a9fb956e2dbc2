use Rattle.std.proofs.Common.{◌≡◌, suc, ◌≤◌, ◌+◌, ◌-◌, ◌*◌, length}
use Rattle.pmem_base.specs.Geo.{shape_of}
use Rattle.pmem_base.specs.Layout.{level_start}
use Rattle.pmem_recovery.specs.Named.{count_doubted}
use Rattle.call_effects.specs.SuiteStates.{setup_with}
use Rattle.call_plan.specs.Plans.{for_each}
use Rattle.call_plan.proofs.Loops.{HasReached}
use Rattle.pmem_recovery.specs.Plans.{recovery_parts, counts_at, doubted_positions, node_turn, fixed_level_plan}
use Rattle.pmem_recovery.proofs.nodes.fix_level.Given as goal

abbrev pub invariant-positions : goal.invariant-positions
invariant-positions g l =
    let shape = shape_of l.geo in
    record {
      keys : g.S.Suite.keys l.suite ≡ g.S.Suite.keys l.initial.suite;
      pads : g.S.Suite.pads l.suite ≡ g.S.Suite.pads l.initial.suite;
      reached :
          HasReached
          (fixed_level_plan (setup_with g.S.Suite l.geo l.initial.suite) l.shadow l.level (recovery_parts l.initial.made.entries (counts_at g.S.Suite l.initial.suite)))
          (g.B.Board.device l.initial.board)
          (for_each (node_turn (setup_with g.S.Suite l.geo l.initial.suite)) (doubted_positions shape l.shadow l.from (level_start (l.level + 1)))
          (recovery_parts l.made.entries (counts_at g.S.Suite l.suite), l.digests)) (g.B.Board.device l.board);
      low : level_start l.level ≤ l.from;
      high : l.from ≤ level_start (suc l.level);
      counted : length l.made.entries ≡ length l.initial.made.entries + count_doubted shape l.shadow (level_start l.level) l.from;
      done : l.digests ≡ 4 * count_doubted shape l.shadow (level_start l.level) l.from;
      capacity : l.made.room ≡ l.initial.made.room;
      positions : l.made.positions ≡ l.initial.made.positions;
    }

abbrev pub decreases-positions : goal.decreases-positions
decreases-positions g l = level_start (suc l.level) - l.from
