-- So many empty sets so far.
use Rattle.std.proofs.Common.{◌≡◌, [], replicate}
use Rattle.meta_cache.proofs.bank.Bank.new.Given as goal

abbrev pub invariant-sets : goal.invariant-sets
invariant-sets l = l.sets.items ≡ replicate l._i []
