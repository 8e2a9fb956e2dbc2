-- No bank so far has a dirty position.
use Rattle.std.proofs.Common.{◌≡◌, [], length, take}
use Rattle.std.specs.List.{filter_map, range_with_len}
use Rattle.meta_cache.specs.State.{dirty_in_bank}
use Rattle.meta_cache.proofs.cache.Cache.first_dirty.Given as goal

abbrev pub invariant-banks : goal.invariant-banks
invariant-banks l =
    filter_map (dirty_in_bank l.self.banks) (take l.bank (range_with_len 0 (length l.self.banks))) ≡ []
