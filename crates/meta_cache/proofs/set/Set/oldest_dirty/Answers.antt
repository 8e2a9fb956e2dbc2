-- One slot more, and all of them.
use Rattle.std.proofs.Common.{rules}
use Rattle.std.proofs.lemmas.List.{take_all}
use Rattle.meta_cache.proofs.set.Set.oldest_dirty.Goals as goal

pub returns : goal.returns
returns c = search (rules, take_all)
