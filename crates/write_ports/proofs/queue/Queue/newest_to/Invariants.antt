-- The newest of the first writes.
use Rattle.std.proofs.Common.{◌≡◌, ◌<◌, take}
use Rattle.std.specs.Prelude.{IfSome}
use Rattle.pmem_base.specs.WaitingWrites.{newest_to}
use Rattle.write_ports.proofs.queue.Queue.newest_to.Given as goal

abbrev pub invariant-writes : goal.invariant-writes
invariant-writes l =
    record {
      newest : l.newest ≡ newest_to (take l.place l.write-items) l.at;
      within : IfSome l.newest (λ found. found.0 < l.place);
    }
