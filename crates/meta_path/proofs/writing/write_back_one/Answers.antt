-- The oldest dirty block is cached on the tree; once it is clean, one block less is dirty.
use Rattle.std.proofs.Common.{rules, ◌≤◌, false, sym, subst, ◌∙◌}
use Rattle.std.specs.Prelude.{IsTrue}
use Rattle.pmem_base.specs.Shape.{Shape}
use Rattle.pmem_base.specs.Geo.{shape_of}
use Rattle.meta_cache.specs.Banks.{set_index, is_cached_dirty}
use Rattle.meta_cache.specs.Sets.{with_mark}
use Rattle.meta_path.specs.Blocks.{slots_at}
use Rattle.meta_path.specs.Storing.{IsOneWrittenBack}
use Rattle.meta_path.proofs.PathFacts.{AreSets}
use Rattle.meta_path.proofs.WriteLemmas.{IsMarkedSet, dirty_is_cached, dirty_on_tree, dirty_count-cleaned, KeepsCleaned-from, IsMarkedSet-with_mark, AreInTheirBanks-marked, AreCachedTrue-marked}
use Rattle.call_plan.proofs.Steps.{ended_err}
use Rattle.meta_path.proofs.WritePlans.{oldest_none, oldest_ok, oldest_err}
use Rattle.meta_path.proofs.writing.write_back_one.Given.{Over}
use Rattle.meta_path.proofs.writing.write_back_one.Goals.{In-Some, In_ok-write_back}
use Rattle.meta_path.proofs.writing.write_back_one.Goals as goal

-- the oldest dirty block is cached, in the call's shape
module _ (g : Over) (c : In-Some g) where
  dirty : (c.in-Some.bank ≤ (shape_of c.args.geo.now).levels)
      × IsTrue (is_cached_dirty (shape_of c.args.geo.now) c.args.cache.now.banks c.in-Some.bank c.in-Some.x)
  dirty = search rules

-- its set is marked
module _ (g : Over) (c : In_ok-write_back g) where
  marked : IsMarkedSet c.args.cache.now c.write_back.new.cache c.in-Some.bank (set_index (shape_of c.args.geo.now) c.in-Some.x)
      (with_mark (slots_at (shape_of c.args.geo.now) c.args.cache.now.banks c.in-Some.bank c.in-Some.x) c.in-Some.x false)
  marked = IsMarkedSet-with_mark _ _ _ _ c.in-Some.x false c.in_ok-write_back.ensures.ok.cache

pub write_back-requires-clause-position : goal.write_back-requires-clause-position
write_back-requires-clause-position g c =
    dirty_on_tree _ _ c.in-Some.bank c.in-Some.x c.requires.banks (dirty g (goal.at.write_back-requires-clause-position g c).In-Some).1

pub write_back-requires-clause-cached : goal.write_back-requires-clause-cached
write_back-requires-clause-cached g c =
    dirty_is_cached (shape_of c.args.geo.now) c.args.cache.now.banks c.in-Some.bank c.in-Some.x
    (dirty g (goal.at.write_back-requires-clause-cached g c).In-Some).1

pub returns-clause-ok : goal.returns-clause-ok
returns-clause-ok g c =
    let shape = shape_of c.args.geo.now in
    let found = dirty g (goal.at.returns-clause-ok g c).In-Some in
    let sets : AreSets shape c.args.cache.now.banks =
    subst (λ (k : Shape). AreSets k c.args.cache.now.banks) c.requires.shape (record { each = c.are_banks.ensures.cache.each_set }) in
    subst (λ found. IsOneWrittenBack shape found c.args.cache.now c.write_back.new.cache (g.B.Board.device c.args.board.now)
    (g.B.Board.device c.write_back.new.board)) (sym c.in-Some.is ∙ c.oldest_dirty.ensures.value) (
      c.in_ok-write_back.ensures.ok,
      KeepsCleaned-from shape c.in-Some.bank c.in-Some.x c.args.cache.now c.write_back.new.cache sets c.in_ok-write_back.ensures.ok.cache,
      dirty_count-cleaned shape c.args.cache.now c.write_back.new.cache c.in-Some.bank c.in-Some.x sets c.args.geo.now.has_sets.0
          found.0 found.1 c.in_ok-write_back.ensures.ok.cache,
    )

pub returns-clause-banks : goal.returns-clause-banks
returns-clause-banks g c =
    AreInTheirBanks-marked (shape_of c.args.geo.now) _ _ _ _ _ (marked g (goal.at.returns-clause-banks g c).In_ok-write_back) c.requires.banks

pub returns-clause-lines : goal.returns-clause-lines
returns-clause-lines g c truth is_true =
    AreCachedTrue-marked _ _ _ _ _ truth (marked g (goal.at.returns-clause-lines g c).In_ok-write_back) is_true

pub returns-in_err-write_back-clause-plan : goal.returns-in_err-write_back-clause-plan
returns-in_err-write_back-clause-plan g c =
    ended_err c.from_residual.result c.from_residual.ensures.1 (oldest_err _ c.write_back.new.cache c.in-Some.bank c.in-Some.x (g.B.Board.device _)
    (g.B.Board.device c.write_back.new.board) (sym c.oldest_dirty.ensures.value ∙ c.in-Some.is) c.in_err-write_back.ensures.plan)

pub returns-clause-plan : goal.returns-clause-plan
returns-clause-plan g c =
    oldest_ok c.args.cache.now c.write_back.new.cache c.in-Some.bank c.in-Some.x (g.B.Board.device c.args.board.now)
    (g.B.Board.device c.write_back.new.board) (sym c.oldest_dirty.ensures.value ∙ c.in-Some.is) c.in_ok-write_back.ensures.plan

pub returns-in_default-clause-plan : goal.returns-in_default-clause-plan
returns-in_default-clause-plan g c = oldest_none c.args.cache.now (g.B.Board.device c.args.board.now) (sym c.in_default.ensures.value)
