-- The path was named, or a cut came before one of its entries was written.
use Rattle.std.proofs.Common.{◌≡◌, ◌<◌, ◌≤◌, ◌+◌, ◌∙◌, List, Result, Ok, Err, ℕ, refl, sym, ap, subst, subst₂}
use Rattle.std.specs.Prelude.{All, length}
use Rattle.std.proofs.lemmas.Result.{err_from_is_err_and}
use Rattle.pmem_base.specs.declared.faults.Cut.{Cut}
use Rattle.pmem_base.specs.declared.lines.Line.{Line}
use Rattle.pmem_base.specs.Shape.{Shape, named_levels}
use Rattle.pmem_base.specs.Geo.{shape_of}
use Rattle.pmem_base.specs.Layout.{pages, device_lines, shadow_lines}
use Rattle.pmem_base.specs.Lines.{IsLine}
use Rattle.board.specs.Device.{Device}
use Rattle.meta_cache.specs.Banks.{Banks, IsBanksOf}
use Rattle.meta_cache.specs.State.{IsCacheOf}
use Rattle.meta_path.specs.Blocks.{IsPathCached}
use Rattle.meta_path.specs.Naming.{IsNamedTo, IsNamingCut, named_path}
use Rattle.pmem_engine.specs.Engine.{ChipState}
use Rattle.pmem_engine.specs.Parts.{parts_with}
use Rattle.pmem_engine.specs.Inner.{HasNamedPath}
use Rattle.pmem_engine.proofs.PathNaming.PathNames.{IsMirror, named_mirror}
use Rattle.pmem_engine.proofs.PathNaming.NamingOutcomes.{path_named, path_cut}
use Rattle.call_plan.specs.Following.{Follows}
use Rattle.call_plan.proofs.Steps.{ended_err}
use Rattle.pmem_engine.specs.Plans.{name_plan}
use Rattle.pmem_engine.proofs.PlannedCalls.CachePlans.{its_names}
use Rattle.pmem_engine.proofs.engine.OnChip.name_path.Goals as goal

-- the copy's lines are lines still
whole_named : (g : Shape) (cache : Banks) (page n : ℕ) (mirror new : List Line) → length mirror ≡ shadow_lines g → All IsLine mirror
    → new ≡ named_path g cache page mirror n → All IsLine new
whole_named g cache page n mirror new long whole same =
    subst (λ (lines : List Line). All IsLine lines) (sym same)
    (named_mirror g cache page mirror n (record { long = long; whole = whole })).whole

pub invariant_of-self : goal.invariant_of-self
invariant_of-self g c =
    let shape : Shape = shape_of c.self.inside.geo in (
      c.self.invariant.0,
      c.self.invariant.1,
      c.make_dirty.ensures.long,
      whole_named shape c.self.inside.cache.banks c.args.page (c.in_err-make_dirty.ensures.cut.n + 1) c.self.inside.mirror c.make_dirty.new.mirror
          c.self.invariant.2 c.self.invariant.3 c.in_err-make_dirty.ensures.cut.mirror,
    )

pub invariant_of-self-2 : goal.invariant_of-self-2
invariant_of-self-2 g c =
    let shape : Shape = shape_of c.self.inside.geo in (
      c.self.invariant.0,
      c.self.invariant.1,
      c.make_dirty.ensures.long,
      whole_named shape c.self.inside.cache.banks c.args.page (named_levels shape) c.self.inside.mirror c.make_dirty.new.mirror
          c.self.invariant.2 c.self.invariant.3 c.in_ok-make_dirty.ensures.ok.mirror,
    )

pub returns-clause-named : goal.returns-clause-named
returns-clause-named g c = λ setup ledger tags digests same.
    let shape : Shape = shape_of c.self.inside.geo in
    let old : ChipState = record { shape = shape; cache = c.self.inside.cache.banks; mirror = c.self.inside.mirror } in
    let new : ChipState = record { shape = shape; cache = c.self.inside.cache.banks; mirror = c.make_dirty.new.mirror } in
    let before : Device = g.B.Board.device c.args.board.now in
    let after : Device = g.B.Board.device c.make_dirty.new.board in
    let its : shape ≡ setup.shape = ap (λ (e : ChipState). e.shape) c.self.view_is ∙ sym same in
    let its_page : c.args.page < pages setup.shape = subst (λ (s : Shape). c.args.page < pages s) (sym same) c.requires.page in
    let cached : IsPathCached setup.shape old.cache c.args.page =
    subst₂ (λ (s : Shape) (banks : Banks). IsPathCached s banks c.args.page) (sym same)
    (ap (λ (e : ChipState). e.cache) (sym c.self.view_is)) c.requires.cached in
    subst
    (λ (e : ChipState). HasNamedPath setup c.args.page (parts_with e before ledger tags digests) (parts_with new after ledger tags digests)
    (Ok tt))
    c.self.view_is
    (path_named setup c.args.page old new before after ledger tags digests its refl refl its_page
    (subst (λ (s : Shape). s.levels ≤ 6) its c.self.inside.geo.has_levels.1)
    (subst (λ (s : Shape). 1 ≤ s.sets) its c.self.inside.geo.has_sets.0)
    (subst (λ (s : Shape). IsCacheOf s old.cache) (c.self.invariant.0 ∙ its) c.are_banks.ensures.cache)
    (subst (λ (s : Shape). IsBanksOf s old.cache) (c.self.invariant.0 ∙ its) c.are_banks.ensures.banks)
    cached
    (subst (λ (s : Shape). IsMirror s old.mirror) its (record { long = c.self.invariant.2; whole = c.self.invariant.3 }))
    (c.requires.size ∙ ap (λ (s : Shape). device_lines s) (sym same)) (g.met.B.Board.whole c.args.board.now)
    (subst (λ (s : Shape). IsNamedTo s old.cache c.args.page (named_levels s) old.mirror new.mirror before after) its
    c.in_ok-make_dirty.ensures.ok))

pub returns-in_err-make_dirty-clause-named : goal.returns-in_err-make_dirty-clause-named
returns-in_err-make_dirty-clause-named g c = λ setup ledger tags digests same.
    let shape : Shape = shape_of c.self.inside.geo in
    let old : ChipState = record { shape = shape; cache = c.self.inside.cache.banks; mirror = c.self.inside.mirror } in
    let new : ChipState = record { shape = shape; cache = c.self.inside.cache.banks; mirror = c.make_dirty.new.mirror } in
    let before : Device = g.B.Board.device c.args.board.now in
    let after : Device = g.B.Board.device c.make_dirty.new.board in
    let its : shape ≡ setup.shape = ap (λ (e : ChipState). e.shape) c.self.view_is ∙ sym same in
    let its_page : c.args.page < pages setup.shape = subst (λ (s : Shape). c.args.page < pages s) (sym same) c.requires.page in
    let cached : IsPathCached setup.shape old.cache c.args.page =
    subst₂ (λ (s : Shape) (banks : Banks). IsPathCached s banks c.args.page) (sym same)
    (ap (λ (e : ChipState). e.cache) (sym c.self.view_is)) c.requires.cached in
    let answer = err_from_is_err_and c.from_residual.result c.from_residual.ensures.1 in
    subst₂
    (λ (e : ChipState) (answer : Result Unit Cut). HasNamedPath setup c.args.page (parts_with e before ledger tags digests)
    (parts_with new after ledger tags digests) answer)
    c.self.view_is (sym answer.1)
    (path_cut setup c.args.page old new before after ledger tags digests its refl refl its_page
    (subst (λ (s : Shape). s.levels ≤ 6) its c.self.inside.geo.has_levels.1)
    (subst (λ (s : Shape). 1 ≤ s.sets) its c.self.inside.geo.has_sets.0)
    (subst (λ (s : Shape). IsCacheOf s old.cache) (c.self.invariant.0 ∙ its) c.are_banks.ensures.cache)
    (subst (λ (s : Shape). IsBanksOf s old.cache) (c.self.invariant.0 ∙ its) c.are_banks.ensures.banks)
    cached
    (subst (λ (s : Shape). IsMirror s old.mirror) its (record { long = c.self.invariant.2; whole = c.self.invariant.3 }))
    (c.requires.size ∙ ap (λ (s : Shape). device_lines s) (sym same)) (g.met.B.Board.whole c.args.board.now) answer.0
    (subst (λ (s : Shape). IsNamingCut s old.cache c.args.page old.mirror new.mirror before after) its
    c.in_err-make_dirty.ensures.cut))

pub returns-clause-plan : goal.returns-clause-plan
returns-clause-plan g c =
    let shape : Shape = shape_of c.self.inside.geo in
    let old : ChipState = record { shape = shape; cache = c.self.inside.cache.banks; mirror = c.self.inside.mirror } in
    let new : ChipState = record { shape = shape; cache = c.self.inside.cache.banks; mirror = c.make_dirty.new.mirror } in
    subst (λ (e : ChipState). Follows (name_plan c.args.page e) (g.B.Board.device c.args.board.now) (g.B.Board.device c.make_dirty.new.board)
    (Ok (new, tt))) c.self.view_is (its_names old c.args.page c.make_dirty.new.mirror (Ok tt) c.in_ok-make_dirty.ensures.plan)

pub returns-in_err-make_dirty-clause-plan : goal.returns-in_err-make_dirty-clause-plan
returns-in_err-make_dirty-clause-plan g c =
    let shape : Shape = shape_of c.self.inside.geo in
    let old : ChipState = record { shape = shape; cache = c.self.inside.cache.banks; mirror = c.self.inside.mirror } in
    let new : ChipState = record { shape = shape; cache = c.self.inside.cache.banks; mirror = c.make_dirty.new.mirror } in
    ended_err c.from_residual.result c.from_residual.ensures.1
    (subst (λ (e : ChipState). Follows (name_plan c.args.page e) (g.B.Board.device c.args.board.now) (g.B.Board.device c.make_dirty.new.board)
    (Err (new, c.in_err-make_dirty.field-0.0))) c.self.view_is
    (its_names old c.args.page c.make_dirty.new.mirror (Err c.in_err-make_dirty.field-0.0) c.in_err-make_dirty.ensures.plan))
