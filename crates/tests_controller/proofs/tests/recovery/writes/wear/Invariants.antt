use Rattle.std.proofs.Common.{◌≡◌}
use Rattle.pmem_base.specs.Geo.{shape_of}
use Rattle.board.specs.Memory.{device_of}
use Rattle.board.specs.MemBoard.{memory_of}
use Rattle.pmem_engine.specs.Calls.{IsReady}
use Rattle.tests_controller.proofs.tests.recovery.writes.wear.Given as goal

abbrev pub invariant-writes : goal.invariant-writes
invariant-writes g l =
    record {
      same_geo : shape_of l.bench.geo ≡ shape_of l.initial.bench.geo;
      same_shape : l.engine.shape ≡ l.initial.engine.shape;
      its_shape : l.engine.shape ≡ shape_of l.bench.geo;
      is_ready : IsReady l.engine.shape l.engine (device_of (memory_of l.bench.board));
    }
