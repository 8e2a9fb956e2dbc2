-- The oldest dirty block was written back, or a cut came before its write.
use Rattle.std.proofs.Common.{◌≡◌, ◌∙◌, Option, Result, Ok, ℕ, refl, sym, subst, subst₂, rules}
use Rattle.std.proofs.lemmas.Result.{err_from_is_err_and}
use Rattle.pmem_base.specs.declared.faults.Cut.{Cut}
use Rattle.pmem_base.specs.Shape.{Shape}
use Rattle.pmem_base.specs.Geo.{shape_of}
use Rattle.board.specs.Device.{Device}
use Rattle.meta_cache.specs.State.{CacheState, IsCacheOf, oldest_dirty}
use Rattle.meta_path.specs.Storing.{IsOneWrittenBack}
use Rattle.pmem_engine.specs.Engine.{ChipState}
use Rattle.pmem_engine.specs.Flushed.{HasWrittenOldest}
use Rattle.pmem_engine.proofs.CheckedReads.FetchCalls.{of_states}
use Rattle.pmem_engine.proofs.BlockWrites.FlushOutcomes.{oldest_written, oldest_cut}
use Rattle.call_plan.specs.Following.{Follows}
use Rattle.call_plan.proofs.Steps.{ended_err}
use Rattle.pmem_engine.specs.Plans.{oldest_block_plan}
use Rattle.pmem_engine.proofs.PlannedCalls.CachePlans.{oldest_block}
use Rattle.pmem_engine.proofs.engine.OnChip.write_back.Goals as goal

pub returns-clause-written : goal.returns-clause-written
returns-clause-written g c =
    let shape : Shape = shape_of c.self.inside.geo in
    let old : ChipState = record { shape = shape; cache = c.self.inside.cache.banks; mirror = c.self.inside.mirror } in
    let new : ChipState = record { shape = shape; cache = c.write_back_one.new.cache.banks; mirror = c.self.inside.mirror } in
    let before : Device = g.B.Board.device c.args.board.now in
    let after : Device = g.B.Board.device c.write_back_one.new.board in
    let form : IsCacheOf shape old.cache = subst (λ (s : Shape). IsCacheOf s old.cache) c.self.invariant.0 c.are_banks.ensures.cache in
    subst₂ (λ (e : ChipState) (x : Option ℕ). HasWrittenOldest e new before after (Ok x)) c.self.view_is
    (sym c.in_ok-x.ensures.answer)
    (oldest_written old new before after refl form c.self.invariant.1 (oldest_dirty old.cache) refl
    (of_states shape c.self.inside.cache c.write_back_one.new.cache
    (λ (was now : CacheState). IsOneWrittenBack shape (oldest_dirty old.cache) was now before after)
    c.self.invariant.0 (c.write_back_one.ensures.shape ∙ c.self.invariant.0) c.in_ok-x.ensures.ok))

pub returns-in_err-x-clause-written : goal.returns-in_err-x-clause-written
returns-in_err-x-clause-written g c =
    let shape : Shape = shape_of c.self.inside.geo in
    let old : ChipState = record { shape = shape; cache = c.self.inside.cache.banks; mirror = c.self.inside.mirror } in
    let new : ChipState = record { shape = shape; cache = c.write_back_one.new.cache.banks; mirror = c.self.inside.mirror } in
    let before : Device = g.B.Board.device c.args.board.now in
    let after : Device = g.B.Board.device c.write_back_one.new.board in
    let form : IsCacheOf shape old.cache = subst (λ (s : Shape). IsCacheOf s old.cache) c.self.invariant.0 c.are_banks.ensures.cache in
    let answer = err_from_is_err_and c.from_residual.result c.from_residual.ensures.1 in
    subst₂ (λ (e : ChipState) (answer : Result (Option ℕ) Cut). HasWrittenOldest e new before after answer) c.self.view_is (sym answer.1)
    (oldest_cut old new before after refl form c.self.invariant.1 (oldest_dirty old.cache) refl
    (of_states shape c.self.inside.cache c.write_back_one.new.cache
    (λ (was now : CacheState). now ≡ was)
    c.self.invariant.0 (c.write_back_one.ensures.shape ∙ c.self.invariant.0) c.in_err-x.ensures.same)
    c.in_err-x.ensures.cut c.in_err-x.ensures.some_dirty answer.0)

pub returns-clause-plan : goal.returns-clause-plan
returns-clause-plan g c =
    let shape : Shape = shape_of c.self.inside.geo in
    let new : ChipState = record { shape = shape; cache = c.write_back_one.new.cache.banks; mirror = c.self.inside.mirror } in
    subst (λ (e : ChipState). Follows (oldest_block_plan e) (g.B.Board.device c.args.board.now) (g.B.Board.device c.write_back_one.new.board)
    (Ok (new, c.in_ok-x.x))) c.self.view_is
    (oldest_block shape c.self.inside.mirror c.self.inside.cache c.self.invariant.0 c.write_back_one.new.cache (Ok c.in_ok-x.x)
    c.in_ok-x.ensures.plan)

pub returns-in_err-x-clause-plan : goal.returns-in_err-x-clause-plan
returns-in_err-x-clause-plan g c = search (rules, ended_err, oldest_block)
