-- A slot that comes first already stays; another comes out of its place and in at the front.
use Rattle.std.proofs.Common.{get_or, rules}
use Rattle.meta_cache.proofs.SetLemmas.{touched_is, first_stays}
use Rattle.meta_cache.proofs.set.Set.touch.Goals as goal

pub insert-requires : goal.insert-requires
insert-requires c = search rules

pub returns : goal.returns
returns c = search (rules, get_or, touched_is)

pub returns-then-i-eq0 : goal.returns-then-i-eq0
returns-then-i-eq0 c = search (rules, first_stays)
