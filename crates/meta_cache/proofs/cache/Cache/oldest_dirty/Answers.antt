-- What is found is dirty, and where nothing is found nothing is.
use Rattle.std.proofs.Common.{rules}
use Rattle.meta_cache.proofs.DirtyLemmas.{oldest_if, cache_clean_if}
use Rattle.meta_cache.proofs.cache.Cache.oldest_dirty.Goals as goal

pub returns-clause-dirty : goal.returns-clause-dirty
returns-clause-dirty c =
    oldest_if c.args.self.now.shape c.args.self.now.banks c.first_dirty.result c.are_banks.ensures.cache
    c.first_dirty.ensures

pub returns-clause-clean : goal.returns-clause-clean
returns-clause-clean c = search (rules, cache_clean_if)
