use Rattle.std.proofs.Common.{◌≡◌, ◌≤◌, ◌+◌, ◌-◌, ◌*◌, length}
use Rattle.pmem_base.specs.Geo.{shape_of}
use Rattle.pmem_base.specs.Layout.{level_start}
use Rattle.pmem_recovery.specs.Named.{count_doubted}
use Rattle.call_effects.specs.SuiteStates.{setup_with}
use Rattle.call_plan.proofs.Loops.{AreTurnsLeft}
use Rattle.pmem_recovery.specs.Plans.{recovery_parts, counts_at, level_turn, nodes_plan}
use Rattle.pmem_recovery.proofs.nodes.fix_nodes.Given as goal

abbrev pub invariant-upward : goal.invariant-upward
invariant-upward g l =
    let shape = shape_of l.geo in
    record {
      few : l.above ≤ shape.levels;
      keys : g.S.Suite.keys l.suite ≡ g.S.Suite.keys l.initial.suite;
      pads : g.S.Suite.pads l.suite ≡ g.S.Suite.pads l.initial.suite;
      reached :
          AreTurnsLeft
          (nodes_plan (setup_with g.S.Suite l.geo l.initial.suite) l.shadow (recovery_parts l.initial.made.entries (counts_at g.S.Suite l.initial.suite)))
          (g.B.Board.device l.initial.board) (level_turn (setup_with g.S.Suite l.geo l.initial.suite) l.shadow) l.above shape.levels
          (recovery_parts l.made.entries (counts_at g.S.Suite l.suite), l.digests) (g.B.Board.device l.board);
      counted : length l.made.entries ≡ length l.initial.made.entries + count_doubted shape l.shadow (level_start (shape.levels - l.above)) (level_start shape.levels);
      done : l.digests ≡ 4 * count_doubted shape l.shadow (level_start (shape.levels - l.above)) (level_start shape.levels);
      capacity : l.made.room ≡ l.initial.made.room;
      positions : l.made.positions ≡ l.initial.made.positions;
    }
