-- The levels so far.
use Rattle.std.proofs.Common.{◌≡◌}
use Rattle.asit_shadow.proofs.Common.{IsRaisedTo}
use Rattle.asit_shadow.specs.WritePlans.{raised_path}
use Rattle.asit_shadow.proofs.engine.TreeEngine.raised.Given as goal

abbrev pub invariant-levels : goal.invariant-levels
invariant-levels l =
    record {
      done : IsRaisedTo l.fn.self.shape l.fn.self.cache l.fn.at l.level l.raised.items;
      value : l.raised.items ≡ raised_path l.fn.self.shape l.fn.self.cache l.fn.at l.level;
    }
