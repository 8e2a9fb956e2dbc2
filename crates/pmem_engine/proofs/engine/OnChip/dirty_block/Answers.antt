-- Where no position of the bank is dirty, no slot is.
use Rattle.std.proofs.Common.{◌≡◌, ℕ, false, subst, subst₂, rules}
use Rattle.pmem_base.specs.Shape.{Shape}
use Rattle.pmem_base.specs.Geo.{shape_of}
use Rattle.meta_cache.specs.Banks.{is_cached_dirty}
use Rattle.meta_path.specs.Blocks.{bank_dirty_count}
use Rattle.meta_path.proofs.PathFacts.{AreSets}
use Rattle.pmem_engine.specs.Engine.{ChipState}
use Rattle.pmem_engine.proofs.BlockWrites.DirtyCounts.{dirty_in_bank-none}
use Rattle.pmem_engine.proofs.engine.OnChip.dirty_block.Goals as goal

pub returns-clause-none : goal.returns-clause-none
returns-clause-none c = λ none.
    let shape : Shape = shape_of c.self.inside.geo in
    let sets : AreSets shape c.self.inside.cache.banks = search rules in
    subst (λ (e : ChipState). bank_dirty_count e.shape e.cache e.shape.levels ≡ 0) c.self.view_is
    (dirty_in_bank-none shape c.self.inside.cache.banks shape.levels sets
    (λ x.
    subst₂ (λ (s : Shape) (bank : ℕ). is_cached_dirty s c.self.inside.cache.banks bank x ≡ false) c.self.invariant.0 c.levels.ensures
    (c.oldest_dirty_of.ensures.clean none x)))

pub returns-clause-oldest : goal.returns-clause-oldest
returns-clause-oldest c = search rules
