-- The line and the mark are one change of the set.
use Rattle.std.proofs.Common.{rules, true, false, sym, subst₂}
use Rattle.meta_cache.specs.Banks.{set_index}
use Rattle.meta_cache.specs.State.{CacheState, ChangesSet}
use Rattle.meta_path.specs.Blocks.{slots_at}
use Rattle.meta_path.specs.Storing.{stored_set}
use Rattle.meta_path.proofs.StoreLemmas.{lined_cached, stored_twice}
use Rattle.meta_path.proofs.renewal.store_level.Goals.{then-dirty, else-dirty}
use Rattle.meta_path.proofs.renewal.store_level.Goals as goal

pub set_dirty-requires-clause-cached : goal.set_dirty-requires-clause-cached
set_dirty-requires-clause-cached g c = search (rules, lined_cached)

pub set_clean-requires-clause-cached : goal.set_clean-requires-clause-cached
set_clean-requires-clause-cached g c = search (rules, lined_cached)

pub returns-clause-cache : goal.returns-clause-cache
returns-clause-cache g c =
    let old = c.args.cache.now in
    elim c.if-dirty.branch [
      | then-dirty w ↦
          subst₂ (λ (cache : CacheState) mark. ChangesSet old cache c.args.bank (set_index old.shape c.args.x)
          (stored_set (slots_at old.shape old.banks c.args.bank c.args.x) c.args.x c.args.line.now mark)) (sym w.cache-is) (sym w.if-dirty.true)
          (stored_twice old c.store.new.self _ _ _ _ true c.store.ensures w.set_dirty.ensures)
      | else-dirty w ↦
          subst₂ (λ (cache : CacheState) mark. ChangesSet old cache c.args.bank (set_index old.shape c.args.x)
          (stored_set (slots_at old.shape old.banks c.args.bank c.args.x) c.args.x c.args.line.now mark)) (sym w.cache-is) (sym w.if-dirty.false)
          (stored_twice old c.store.new.self _ _ _ _ false c.store.ensures w.set_clean.ensures)
    ]
