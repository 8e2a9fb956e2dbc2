-- What was seen so far is what the first writes show.
use Rattle.std.proofs.Common.{take}
use Rattle.pmem_base.specs.WaitingWrites.{writes_to}
use Rattle.write_ports.specs.Seen.{IsSight}
use Rattle.write_ports.proofs.queue.Queue.look.Given as goal

abbrev pub invariant-writes : goal.invariant-writes
invariant-writes l = IsSight (writes_to (take l.write-index l.write-items) l.at) l.seen
