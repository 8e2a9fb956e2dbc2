-- So many empty banks so far.
use Rattle.std.proofs.Common.{◌≡◌, [], replicate}
use Rattle.pmem_base.specs.Geo.{shape_of}
use Rattle.meta_cache.proofs.cache.Cache.new.Given as goal

abbrev pub invariant-banks : goal.invariant-banks
invariant-banks l = l.banks.items ≡ replicate l._i (replicate (shape_of l.geo).sets [])
