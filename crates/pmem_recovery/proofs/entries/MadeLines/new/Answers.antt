-- No line is made, and no position has a number.
use Rattle.std.proofs.Common.{rules}
use Rattle.pmem_recovery.proofs.MadeIndex.{IsIndexed-none}
use Rattle.pmem_recovery.proofs.entries.MadeLines.new.Goals as goal

pub invariant_of-result : goal.invariant_of-result
invariant_of-result c = search (rules, IsIndexed-none)
