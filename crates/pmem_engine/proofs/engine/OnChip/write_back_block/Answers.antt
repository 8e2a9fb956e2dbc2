-- A dirty counter block is cached on the tree; its line is written, and then its mark cleared.
use Rattle.std.proofs.Common.{◌≡◌, ◌+◌, ◌∙◌, ◌∷◌, Some, Ok, Err, ℕ, true, false, refl, sym, ap, subst, subst₂, arith}
use Rattle.pmem_base.specs.Shape.{Shape}
use Rattle.pmem_base.specs.Geo.{shape_of}
use Rattle.pmem_base.specs.Layout.{meta_line}
use Rattle.board.specs.Device.{Device}
use Rattle.board.specs.Steps.{HasWritten}
use Rattle.meta_cache.specs.Banks.{set_of, set_index, is_cached, is_cached_dirty}
use Rattle.meta_cache.specs.Sets.{with_mark, IsSetOf}
use Rattle.meta_cache.specs.State.{IsCacheOf, ChangesSet, bank_of, slots_of, oldest_dirty_of}
use Rattle.meta_path.specs.Blocks.{line_in, slots_at, bank_dirty_count}
use Rattle.meta_path.proofs.PathFacts.{AreSets}
use Rattle.meta_path.proofs.WriteLemmas.{dirty_is_cached, dirty_on_tree, IsMarkedSet-with_mark, AreInTheirBanks-marked}
use Rattle.pmem_engine.specs.Engine.{ChipState}
use Rattle.pmem_engine.specs.DirtyOrder.{dirty_order}
use Rattle.pmem_engine.specs.Flushed.{HasWrittenBack}
use Rattle.pmem_engine.proofs.BlockWrites.FlushOutcomes.{written_block}
use Rattle.pmem_engine.proofs.BlockWrites.DirtyCounts.{dirty_in_bank-cleaned}
use Rattle.pmem_engine.proofs.BlockWrites.OldestFirst.{order_cleaned}
use Rattle.pmem_engine.proofs.BlockWrites.LossBlocks.{cleaned_block}
use Rattle.call_plan.specs.Following.{Follows}
use Rattle.call_plan.proofs.Steps.{ended_err}
use Rattle.call_plan.specs.Plans.{the_cut}
use Rattle.meta_cache.specs.State.{CacheState}
use Rattle.meta_path.specs.Plans.{write_back_plan}
use Rattle.meta_path.proofs.WritePlans.{block_written, block_cut}
use Rattle.pmem_engine.specs.Plans.{block_plan}
use Rattle.pmem_engine.proofs.PlannedCalls.CachePlans.{its_block}
use Rattle.pmem_engine.proofs.engine.OnChip.write_back_block.Goals as goal

pub meta_line-requires : goal.meta_line-requires
meta_line-requires g c =
    let shape : Shape = shape_of c.self.inside.geo in
    dirty_on_tree shape c.self.inside.cache.banks shape.levels c.args.x c.self.invariant.1
    (subst (λ (e : ChipState). is_cached_dirty e.shape e.cache e.shape.levels c.args.x ≡ true) (sym c.self.view_is) c.requires.dirty)

pub block_line-requires : goal.block_line-requires
block_line-requires g c =
    record {
      cached =
          dirty_is_cached c.args.self.now.shape c.args.self.now.cache c.args.self.now.shape.levels c.args.x c.requires.dirty;
    }

pub set_clean-requires-clause-cached : goal.set_clean-requires-clause-cached
set_clean-requires-clause-cached g c =
    let shape : Shape = shape_of c.self.inside.geo in
    subst₂ (λ (s : Shape) (bank : ℕ). is_cached s c.self.inside.cache.banks bank c.args.x ≡ true) (sym c.self.invariant.0)
    (sym c.levels.ensures)
    (dirty_is_cached shape c.self.inside.cache.banks shape.levels c.args.x
    (subst (λ (e : ChipState). is_cached_dirty e.shape e.cache e.shape.levels c.args.x ≡ true) (sym c.self.view_is) c.requires.dirty))

pub invariant_of-self : goal.invariant_of-self
invariant_of-self g c =
    let shape : Shape = shape_of c.self.inside.geo in (
      c.set_clean.ensures.shape ∙ c.self.invariant.0,
      AreInTheirBanks-marked shape c.self.inside.cache c.set_clean.new.self c.levels.result (set_index c.self.inside.cache.shape c.args.x)
          (with_mark (slots_of c.self.inside.cache c.levels.result c.args.x) c.args.x false)
          (IsMarkedSet-with_mark c.self.inside.cache c.set_clean.new.self c.levels.result (set_index c.self.inside.cache.shape c.args.x)
          c.args.x false c.set_clean.ensures)
          c.self.invariant.1,
      c.self.invariant.2,
      c.self.invariant.3,
    )

pub returns-clause-ok : goal.returns-clause-ok
returns-clause-ok g c =
    let shape : Shape = shape_of c.self.inside.geo in
    let old : ChipState = record { shape = shape; cache = c.self.inside.cache.banks; mirror = c.self.inside.mirror } in
    let new : ChipState = record { shape = shape; cache = c.set_clean.new.self.banks; mirror = c.self.inside.mirror } in
    let before : Device = g.B.Board.device c.args.board.now in
    let after : Device = g.B.Board.device c.write_line.new.self in
    let form : IsCacheOf shape old.cache = subst (λ (s : Shape). IsCacheOf s old.cache) c.self.invariant.0 c.are_banks.ensures.cache in
    let dirty : is_cached_dirty shape old.cache shape.levels c.args.x ≡ true =
    subst (λ (e : ChipState). is_cached_dirty e.shape e.cache e.shape.levels c.args.x ≡ true) (sym c.self.view_is) c.requires.dirty in
    let line : c.block_line.result.now ≡ line_in shape old.cache shape.levels c.args.x =
    c.block_line.ensures ∙ ap (λ (e : ChipState). line_in e.shape e.cache e.shape.levels c.args.x) (sym c.self.view_is) in
    let changes : ChangesSet c.self.inside.cache c.set_clean.new.self shape.levels (set_index c.self.inside.cache.shape c.args.x)
    (with_mark (slots_of c.self.inside.cache shape.levels c.args.x) c.args.x false) =
    subst (λ (bank : ℕ). ChangesSet c.self.inside.cache c.set_clean.new.self bank (set_index c.self.inside.cache.shape c.args.x)
    (with_mark (slots_of c.self.inside.cache bank c.args.x) c.args.x false)) c.levels.ensures c.set_clean.ensures in
    let board : HasWritten before (meta_line shape c.args.x) (line_in shape old.cache shape.levels c.args.x) after =
    subst₂ (λ at line. HasWritten before at line after) c.meta_line.ensures.value line c.in_ok-write_line.ensures.ok in
    subst (λ (e : ChipState). HasWrittenBack e.shape.levels c.args.x e new before after) c.self.view_is
    (written_block old new before after refl form c.self.invariant.1 shape.levels c.args.x (omega arith) dirty
    (cleaned_block shape c.self.inside.cache c.set_clean.new.self shape.levels c.args.x before after c.self.invariant.0 changes board))

pub returns-clause-fewer : goal.returns-clause-fewer
returns-clause-fewer g c =
    let shape : Shape = shape_of c.self.inside.geo in
    let dirty : is_cached_dirty shape c.self.inside.cache.banks shape.levels c.args.x ≡ true =
    subst (λ (e : ChipState). is_cached_dirty e.shape e.cache e.shape.levels c.args.x ≡ true) (sym c.self.view_is) c.requires.dirty in
    let changes : ChangesSet c.self.inside.cache c.set_clean.new.self shape.levels (set_index shape c.args.x)
    (with_mark (slots_at shape c.self.inside.cache.banks shape.levels c.args.x) c.args.x false) =
    subst₂ (λ (bank : ℕ) (s : Shape). ChangesSet c.self.inside.cache c.set_clean.new.self bank (set_index s c.args.x)
    (with_mark (slots_at s c.self.inside.cache.banks bank c.args.x) c.args.x false)) c.levels.ensures c.self.invariant.0
    c.set_clean.ensures in
    let sets : AreSets shape c.self.inside.cache.banks =
    record {
      each =
          λ bank set.
          subst (λ (s : Shape). IsSetOf s set (set_of c.self.inside.cache.banks bank set)) c.self.invariant.0
          (c.are_banks.ensures.cache.each_set bank set);
    } in
    subst
    (λ (e : ChipState). bank_dirty_count e.shape c.set_clean.new.self.banks e.shape.levels + 1 ≡ bank_dirty_count e.shape e.cache e.shape.levels)
    c.self.view_is
    (dirty_in_bank-cleaned shape c.self.inside.cache c.set_clean.new.self shape.levels c.args.x sets c.self.inside.geo.has_sets.0
    dirty changes)

pub returns-clause-order : goal.returns-clause-order
returns-clause-order g c =
    let shape : Shape = shape_of c.self.inside.geo in
    let was : IsCacheOf shape c.self.inside.cache.banks =
    subst (λ (s : Shape). IsCacheOf s c.self.inside.cache.banks) c.self.invariant.0 c.are_banks.ensures.cache in
    let now : IsCacheOf shape c.set_clean.new.self.banks =
    subst (λ (s : Shape). IsCacheOf s c.set_clean.new.self.banks) (c.set_clean.ensures.shape ∙ c.self.invariant.0)
    c.are_banks-2.ensures.cache in
    let changes : ChangesSet c.self.inside.cache c.set_clean.new.self shape.levels (set_index shape c.args.x)
    (with_mark (slots_at shape c.self.inside.cache.banks shape.levels c.args.x) c.args.x false) =
    subst₂ (λ (bank : ℕ) (s : Shape). ChangesSet c.self.inside.cache c.set_clean.new.self bank (set_index s c.args.x)
    (with_mark (slots_at s c.self.inside.cache.banks bank c.args.x) c.args.x false)) c.levels.ensures c.self.invariant.0
    c.set_clean.ensures in
    let oldest : oldest_dirty_of (bank_of c.self.inside.cache.banks shape.levels) ≡ Some c.args.x =
    subst (λ (e : ChipState). oldest_dirty_of (bank_of e.cache e.shape.levels) ≡ Some c.args.x) (sym c.self.view_is)
    c.requires.oldest in
    subst
    (λ (e : ChipState). dirty_order (bank_of e.cache e.shape.levels)
    ≡ c.args.x ∷ dirty_order (bank_of c.set_clean.new.self.banks e.shape.levels))
    c.self.view_is
    (order_cleaned shape c.self.inside.cache c.set_clean.new.self shape.levels c.args.x (omega arith) was now changes oldest)

pub returns-clause-plan : goal.returns-clause-plan
returns-clause-plan g c =
    let shape : Shape = shape_of c.self.inside.geo in
    let cache : CacheState = c.self.inside.cache in
    let new : ChipState = record { shape = shape; cache = c.set_clean.new.self.banks; mirror = c.self.inside.mirror } in
    let before : Device = g.B.Board.device c.args.board.now in
    let after : Device = g.B.Board.device c.write_line.new.self in
    let changes : ChangesSet cache c.set_clean.new.self shape.levels (set_index cache.shape c.args.x)
    (with_mark (slots_of cache shape.levels c.args.x) c.args.x false) =
    subst (λ (bank : ℕ). ChangesSet cache c.set_clean.new.self bank (set_index cache.shape c.args.x)
    (with_mark (slots_of cache bank c.args.x) c.args.x false)) c.levels.ensures c.set_clean.ensures in
    subst (λ (e : ChipState). Follows (block_plan e.shape.levels c.args.x e) before after (Ok (new, tt))) c.self.view_is
    (its_block shape c.self.inside.mirror cache c.self.invariant.0 shape.levels c.args.x c.set_clean.new.self (Ok tt)
    (subst (λ (now : CacheState). Follows (write_back_plan cache shape.levels c.args.x) before after (Ok (now, tt))) (sym changes.exact)
    (block_written cache shape.levels c.args.x before after c.meta_line.result c.block_line.result.now
    (c.meta_line.ensures.value ∙ ap (λ (s : Shape). meta_line s c.args.x) (sym c.self.invariant.0))
    (c.block_line.ensures ∙ ap (λ (e : ChipState). line_in e.shape e.cache e.shape.levels c.args.x) (sym c.self.view_is)
    ∙ ap (λ (s : Shape). line_in s cache.banks shape.levels c.args.x) (sym c.self.invariant.0)) c.in_ok-write_line.ensures.ok)))

pub returns-in_err-write_line-clause-plan : goal.returns-in_err-write_line-clause-plan
returns-in_err-write_line-clause-plan g c =
    let shape : Shape = shape_of c.self.inside.geo in
    let cache : CacheState = c.self.inside.cache in
    ended_err c.from_residual.result c.from_residual.ensures.1
    (subst (λ (e : ChipState). Follows (block_plan e.shape.levels c.args.x e) (g.B.Board.device c.args.board.now) (g.B.Board.device c.write_line.new.self)
    (Err (e, the_cut))) c.self.view_is
    (its_block shape c.self.inside.mirror cache c.self.invariant.0 shape.levels c.args.x cache (Err the_cut)
    (block_cut cache shape.levels c.args.x (g.B.Board.device c.args.board.now) (g.B.Board.device c.write_line.new.self) c.in_err-write_line.ensures.cut)))
