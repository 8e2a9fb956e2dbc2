-- A free way, or the victim's.
use Rattle.std.proofs.Common.{◌-◌, get_or, rules}
use Rattle.meta_cache.proofs.SetLemmas.{next_way-room, next_way-full}
use Rattle.meta_cache.proofs.set.Set.take_way.Goals as goal

pub returns-then-len-from-clause-way : goal.returns-then-len-from-clause-way
returns-then-len-from-clause-way c = search (rules, next_way-room)

pub returns-clause-way : goal.returns-clause-way
returns-clause-way c = search (rules, get_or, next_way-full)
