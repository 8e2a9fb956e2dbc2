-- No set so far has a dirty position.
use Rattle.std.proofs.Common.{◌≡◌, [], take}
use Rattle.std.specs.List.{filter_map}
use Rattle.meta_cache.specs.Sets.{oldest_dirty_in}
use Rattle.meta_cache.proofs.bank.Bank.oldest_dirty.Given as goal

abbrev pub invariant-sets : goal.invariant-sets
invariant-sets l = filter_map oldest_dirty_in (take l.set-index l.set-items) ≡ []
