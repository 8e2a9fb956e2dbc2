-- What is found is dirty, and where nothing is found nothing is.
use Rattle.std.proofs.Common.{rules}
use Rattle.meta_cache.proofs.DirtyLemmas.{oldest_of_bank_if, bank_clean_if}
use Rattle.meta_cache.proofs.cache.Cache.oldest_dirty_of.Goals as goal

pub returns-clause-dirty : goal.returns-clause-dirty
returns-clause-dirty c = search (rules, oldest_of_bank_if)

pub returns-clause-clean : goal.returns-clause-clean
returns-clause-clean c = search (rules, bank_clean_if)
