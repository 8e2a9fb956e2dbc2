-- The way of the slot at the position's place.
use Rattle.std.proofs.Common.{get_or, rules}
use Rattle.std.proofs.lemmas.Option.{slice_get-get_or}
use Rattle.meta_cache.proofs.set.Set.way_of.Goals as goal

pub returns : goal.returns
returns c = search (rules, slice_get-get_or, get_or)
