-- The way is one of the set's, and the set one of the bank's.
use Rattle.std.proofs.Common.{◌*◌, ◌<◌, ◌≡◌, arith, rules}
use Rattle.pmem_base.proofs.LayoutLemmas.{number_low}
use Rattle.meta_cache.specs.Banks.{set_index}
use Rattle.meta_cache.specs.State.{slots_of}
use Rattle.meta_cache.proofs.FormLemmas.{way_low}
use Rattle.meta_cache.proofs.cache.Cache.slot_of.Goals as goal

pub returns-clause-within : goal.returns-clause-within
returns-clause-within c =
    let cache = c.args.self.now in
    let n = set_index cache.shape c.args.x in
    let low : c.way_of-way.result < cache.shape.ways =
    way_low cache.shape n (slots_of cache c.args.bank c.args.x) c.args.x c.way_of-way.result
    (c.are_banks.ensures.cache.each_set c.args.bank n) c.way_of-way.ensures in
    let ways : c.from.result ≡ cache.shape.ways = search rules in
    let below = number_low cache.shape.sets c.from.result c.set_of-n.result c.from-2.result c.set_of-n.ensures.within
    (omega (arith, low, ways, c.from-2.ensures)) in
    let size : cache.shape.sets * c.from.result ≡ cache.shape.sets * cache.shape.ways = search rules in
    omega (arith, below, size)
