-- The slot at the position's place is written.
use Rattle.std.proofs.Common.{get_or, rules}
use Rattle.std.proofs.lemmas.List.{length-set}
use Rattle.meta_cache.proofs.ListLemmas.{refill_same}
use Rattle.meta_cache.proofs.SetLemmas.{with_mark_is}
use Rattle.meta_cache.proofs.set.Set.mark.Goals as goal

pub returns : goal.returns
returns c = search (rules, get_or, refill_same, length-set, with_mark_is)
