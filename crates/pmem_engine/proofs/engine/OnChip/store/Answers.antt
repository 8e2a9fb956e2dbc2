-- What storing a path makes of the cache is what the engine says of it.
use Rattle.std.proofs.Common.{sym, subst}
use Rattle.pmem_base.specs.Geo.{shape_of}
use Rattle.pmem_base.specs.Shape.{Shape}
use Rattle.meta_path.specs.Blocks.{IsPathCached}
use Rattle.meta_path.specs.Storing.{IsPathOf}
use Rattle.pmem_engine.specs.Engine.{ChipState}
use Rattle.pmem_engine.specs.Sealing.{HasStoredPath}
use Rattle.pmem_engine.proofs.Seals.KeptSlots.{stored_path}
use Rattle.pmem_engine.proofs.engine.OnChip.store.Goals as goal

pub returns-clause-stored : goal.returns-clause-stored
returns-clause-stored g c =
    let shape : Shape = shape_of c.self.inside.geo in
    let new : ChipState =
    record { shape = shape; cache = c.store_path.new.cache.banks; mirror = c.self.inside.mirror } in
    subst (λ (e : ChipState). HasStoredPath e.shape c.args.page c.args.grouped c.args.path.now.lines.items e new) c.self.view_is
    (stored_path shape c.args.page c.args.grouped c.args.path.now.lines.items c.self.inside.cache c.store_path.new.cache
    c.self.inside.mirror c.self.invariant.0 c.store_path.ensures.shape
    (subst (λ (e : ChipState). IsPathOf e.shape c.args.page c.args.path.now.lines.items) (sym c.self.view_is) c.requires.path)
    (subst (λ (e : ChipState). IsPathCached e.shape e.cache c.args.page) (sym c.self.view_is) c.requires.cached)
    c.are_banks.ensures.banks c.are_banks-2.ensures.banks (c.store_path.ensures.cache c.args.page)
    (c.store_path.ensures.slots c.args.page) (c.store_path.ensures.cached c.args.page))
