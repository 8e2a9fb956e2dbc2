-- So many writes were drained.
use Rattle.std.proofs.Common.{◌≡◌, ◌-◌}
use Rattle.std.specs.Prelude.{◌<◌, ◌⊎◌}
use Rattle.access_log.specs.Traced.{GoesOn}
use Rattle.pmem_replay.proofs.Drains.FenceLaws.{IsDraining}
use Rattle.pmem_replay.proofs.world.World.drain_all.Given as goal

abbrev pub invariant-writes : goal.invariant-writes
invariant-writes g l =
    IsDraining g.S.Suite.formulas_of l.fn.self l.self l.port l.count l.done l.steps × GoesOn l.fn.log l.fn.self.board l.log l.self.board
    × ((l.log ≡ l.fn.log) ⊎ (0 < l.count))

abbrev pub decreases-writes : goal.decreases-writes
decreases-writes g l = l.count - l.done
