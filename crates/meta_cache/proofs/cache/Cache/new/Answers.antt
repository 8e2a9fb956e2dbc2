-- An empty cache has its form.
use Rattle.std.proofs.Common.{◌≡◌, ◌+◌, sym, ap, subst, ◌∙◌, replicate, List, [], arith}
use Rattle.pmem_base.specs.Geo.{shape_of}
use Rattle.meta_cache.specs.Banks.{Slot}
use Rattle.meta_cache.specs.State.{IsCacheOf}
use Rattle.meta_cache.proofs.CacheLemmas.{IsCacheOf-empty}
use Rattle.meta_cache.proofs.cache.Cache.new.Goals as goal

pub invariant_of-result : goal.invariant_of-result
invariant_of-result c =
    let g = shape_of c.args.geo.now in
    let whole : c.banks._i ≡ g.levels + 1 = omega arith in
    let sets : List (List Slot) = replicate g.sets [] in
    subst (IsCacheOf g) (sym (c.banks.invariant ∙ ap (λ n. replicate n sets) whole)) (IsCacheOf-empty g)
