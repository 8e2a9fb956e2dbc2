-- The path was fetched, or not: in both cases what the fetch of the path ensures is what a fetch of the engine has to say.
use Rattle.std.proofs.Common.{ℕ, ◌≡◌, ◌<◌, ◌+◌, ◌∙◌, Result, Ok, Err, refl, sym, ap, subst}
use Rattle.std.specs.Prelude.{is_ok}
use Rattle.std.proofs.lemmas.Bool.{false≢true}
use Rattle.pmem_base.specs.Layout.{pages, device_lines}
use Rattle.pmem_base.specs.Geo.{shape_of}
use Rattle.pmem_base.specs.Shape.{Shape}
use Rattle.suite.specs.Setup.{Setup}
use Rattle.board.specs.Device.{Device}
use Rattle.meta_cache.specs.State.{CacheState, IsCacheOf}
use Rattle.meta_path.specs.Fetching.{IsFetchedTo, IsPathFault}
use Rattle.meta_path.specs.declared.faults.PathFault.{PathFault}
use Rattle.pmem_engine.specs.Engine.{ChipState}
use Rattle.pmem_engine.specs.Parts.{parts_with}
use Rattle.pmem_engine.specs.Inner.{HasFetched}
use Rattle.call_effects.proofs.ResultLaws.{is_err_of}
use Rattle.pmem_engine.proofs.CheckedReads.FetchCalls.{of_states, fetch_ok, fetch_err}
use Rattle.meta_path.specs.FetchPlans.{fetch_parts}
use Rattle.call_plan.specs.Following.{Follows}
use Rattle.call_plan.proofs.Steps.{ended_err}
use Rattle.pmem_engine.specs.Plans.{chip_with, fetch_path_plan}
use Rattle.pmem_engine.proofs.PlannedCalls.CachePlans.{its_fetch}
use Rattle.pmem_engine.proofs.engine.OnChip.fetch.Goals as goal

pub returns-clause-fetched : goal.returns-clause-fetched
returns-clause-fetched g c =
    let shape : Shape = shape_of c.self.inside.geo in
    let setup : Setup = record { shape = shape; formulas = g.S.Suite.formulas_of (g.S.Suite.keys c.args.suite.now) } in
    let old : ChipState = record { shape = shape; cache = c.self.inside.cache.banks; mirror = c.self.inside.mirror } in
    let new : ChipState = record { shape = shape; cache = c.fetch_path.new.cache.banks; mirror = c.self.inside.mirror } in
    let before : Device = g.B.Board.device c.args.board.now in
    let after : Device = g.B.Board.device c.fetch_path.new.board in
    let its_page : c.args.page < pages shape = subst (λ (e : ChipState). c.args.page < pages e.shape) (sym c.self.view_is) c.requires.page in
    let its_size : before.size ≡ device_lines shape = c.requires.size ∙ ap (λ (e : ChipState). device_lines e.shape) (sym c.self.view_is) in
    let shapes : c.fetch_path.new.cache.shape ≡ shape = c.fetch_path.ensures.shape ∙ c.self.invariant.0 in
    subst
    (λ (e : ChipState). HasFetched (record { shape = e.shape; formulas = setup.formulas }) c.args.page
    (parts_with e before (g.A.Audit.ledger c.args.audit.now) (g.S.Suite.tags c.args.suite.now) (g.S.Suite.digests c.args.suite.now))
    (parts_with new after (g.A.Audit.ledger c.fetch_path.new.audit) (g.S.Suite.tags c.fetch_path.new.suite)
    (g.S.Suite.digests c.fetch_path.new.suite))
    (Ok tt))
    c.self.view_is
    (fetch_ok setup c.args.page old new (g.A.Audit.ledger c.args.audit.now) (g.A.Audit.ledger c.fetch_path.new.audit) before after
    (g.S.Suite.tags c.args.suite.now) (g.S.Suite.digests c.args.suite.now) (g.S.Suite.tags c.fetch_path.new.suite)
    (g.S.Suite.digests c.fetch_path.new.suite) its_page c.self.inside.geo.has_levels.1 its_size refl refl
    c.fetch_path.ensures.tags (g.met.B.Board.whole c.fetch_path.new.board) c.fetch_path.ensures.keeps c.self.invariant.1
    (subst (λ (s : Shape). IsCacheOf s c.self.inside.cache.banks) c.self.invariant.0 c.are_banks.ensures.cache)
    c.in_ok-fetch_path.ensures.cached c.in_ok-fetch_path.ensures.ledger
    (of_states shape c.self.inside.cache c.fetch_path.new.cache
    (λ (was now : CacheState). IsFetchedTo shape setup.formulas (g.A.Audit.ledger c.args.audit.now).truth c.args.page (shape.levels + 1)
    (record { cache = was; device = before; digests = g.S.Suite.digests c.args.suite.now })
    (record { cache = now; device = after; digests = g.S.Suite.digests c.fetch_path.new.suite }))
    c.self.invariant.0 shapes c.in_ok-fetch_path.ensures.ok))

pub returns-in_err-fetch_path-clause-fetched : goal.returns-in_err-fetch_path-clause-fetched
returns-in_err-fetch_path-clause-fetched g c =
    let shape : Shape = shape_of c.self.inside.geo in
    let setup : Setup = record { shape = shape; formulas = g.S.Suite.formulas_of (g.S.Suite.keys c.args.suite.now) } in
    let old : ChipState = record { shape = shape; cache = c.self.inside.cache.banks; mirror = c.self.inside.mirror } in
    let new : ChipState = record { shape = shape; cache = c.fetch_path.new.cache.banks; mirror = c.self.inside.mirror } in
    let before : Device = g.B.Board.device c.args.board.now in
    let after : Device = g.B.Board.device c.fetch_path.new.board in
    let its_page : c.args.page < pages shape = subst (λ (e : ChipState). c.args.page < pages e.shape) (sym c.self.view_is) c.requires.page in
    let its_size : before.size ≡ device_lines shape = c.requires.size ∙ ap (λ (e : ChipState). device_lines e.shape) (sym c.self.view_is) in
    let shapes : c.fetch_path.new.cache.shape ≡ shape = c.fetch_path.ensures.shape ∙ c.self.invariant.0 in
    let fault : PathFault = c.in_err-fetch_path.field-0.0 in
    let same : c.from_residual.result ≡ Err fault = is_err_of c.from_residual.result fault c.from_residual.ensures.1 in
    subst
    (λ (e : ChipState). HasFetched (record { shape = e.shape; formulas = setup.formulas }) c.args.page
    (parts_with e before (g.A.Audit.ledger c.args.audit.now) (g.S.Suite.tags c.args.suite.now) (g.S.Suite.digests c.args.suite.now))
    (parts_with new after (g.A.Audit.ledger c.fetch_path.new.audit) (g.S.Suite.tags c.fetch_path.new.suite)
    (g.S.Suite.digests c.fetch_path.new.suite))
    c.from_residual.result)
    c.self.view_is
    (subst
    (λ (answer : Result Unit PathFault). HasFetched setup c.args.page
    (parts_with old before (g.A.Audit.ledger c.args.audit.now) (g.S.Suite.tags c.args.suite.now) (g.S.Suite.digests c.args.suite.now))
    (parts_with new after (g.A.Audit.ledger c.fetch_path.new.audit) (g.S.Suite.tags c.fetch_path.new.suite)
    (g.S.Suite.digests c.fetch_path.new.suite))
    answer)
    (sym same)
    (fetch_err setup c.args.page old new (g.A.Audit.ledger c.args.audit.now) (g.A.Audit.ledger c.fetch_path.new.audit) before after
    (g.S.Suite.tags c.args.suite.now) (g.S.Suite.digests c.args.suite.now) (g.S.Suite.tags c.fetch_path.new.suite)
    (g.S.Suite.digests c.fetch_path.new.suite) its_page c.self.inside.geo.has_levels.1 its_size refl refl
    c.fetch_path.ensures.tags (g.met.B.Board.whole c.fetch_path.new.board) c.fetch_path.ensures.keeps c.self.invariant.1
    (subst (λ (s : Shape). IsCacheOf s c.self.inside.cache.banks) c.self.invariant.0 c.are_banks.ensures.cache)
    fault
    (λ was. false≢true (ap is_ok (sym c.in_err-fetch_path.was) ∙ c.fetch_path.ensures.no_fault was))
    (of_states shape c.self.inside.cache c.fetch_path.new.cache
    (λ (was now : CacheState). IsPathFault shape setup.formulas c.args.page
    (record { cache = was; device = before; digests = g.S.Suite.digests c.args.suite.now })
    (record { cache = now; device = after; digests = g.S.Suite.digests c.fetch_path.new.suite })
    (g.A.Audit.ledger c.args.audit.now) (g.A.Audit.ledger c.fetch_path.new.audit) fault)
    c.self.invariant.0 shapes c.in_err-fetch_path.ensures.fault)
    c.in_err-fetch_path.ensures.cause
    (λ is_cut live. c.fetch_path.ensures.dirty_left (c.in_err-fetch_path.was ∙ ap (λ (f : PathFault). Err f) is_cut) live)))

pub returns-clause-plan : goal.returns-clause-plan
returns-clause-plan g c =
    let shape : Shape = shape_of c.self.inside.geo in
    let formulas = g.S.Suite.formulas_of (g.S.Suite.keys c.args.suite.now) in
    let new : ChipState = record { shape = shape; cache = c.fetch_path.new.cache.banks; mirror = c.self.inside.mirror } in
    let before : Device = g.B.Board.device c.args.board.now in
    subst (λ (e : ChipState). Follows (fetch_path_plan (record { shape = e.shape; formulas = formulas }) before.regs.root c.args.page
    (chip_with e (g.A.Audit.ledger c.args.audit.now) (g.S.Suite.tags c.args.suite.now) (g.S.Suite.digests c.args.suite.now))) before
    (g.B.Board.device c.fetch_path.new.board) (Ok (
      chip_with new (g.A.Audit.ledger c.fetch_path.new.audit) (g.S.Suite.tags c.fetch_path.new.suite)
          (g.S.Suite.digests c.fetch_path.new.suite),
      tt,
    ))) c.self.view_is
    (subst (λ (tags : ℕ). Follows (fetch_path_plan (record { shape = shape; formulas = formulas }) before.regs.root c.args.page
    (chip_with (record new { cache = c.self.inside.cache.banks }) (g.A.Audit.ledger c.args.audit.now) (g.S.Suite.tags c.args.suite.now)
    (g.S.Suite.digests c.args.suite.now))) before (g.B.Board.device c.fetch_path.new.board) (Ok (
      chip_with new (g.A.Audit.ledger c.fetch_path.new.audit) tags
          (g.S.Suite.digests c.fetch_path.new.suite),
      tt,
    ))) (sym c.fetch_path.ensures.tags)
    (its_fetch shape c.self.inside.mirror c.self.inside.cache c.self.invariant.0 formulas before.regs.root c.args.page
    (g.A.Audit.ledger c.args.audit.now) (g.S.Suite.tags c.args.suite.now) (g.S.Suite.digests c.args.suite.now)
    (fetch_parts c.fetch_path.new.cache (g.A.Audit.ledger c.fetch_path.new.audit) (g.S.Suite.digests c.fetch_path.new.suite)) (Ok tt)
    c.in_ok-fetch_path.ensures.plan))

pub returns-in_err-fetch_path-clause-plan : goal.returns-in_err-fetch_path-clause-plan
returns-in_err-fetch_path-clause-plan g c =
    let shape : Shape = shape_of c.self.inside.geo in
    let formulas = g.S.Suite.formulas_of (g.S.Suite.keys c.args.suite.now) in
    let new : ChipState = record { shape = shape; cache = c.fetch_path.new.cache.banks; mirror = c.self.inside.mirror } in
    let before : Device = g.B.Board.device c.args.board.now in
    ended_err c.from_residual.result c.from_residual.ensures.1
    (subst (λ (e : ChipState). Follows (fetch_path_plan (record { shape = e.shape; formulas = formulas }) before.regs.root c.args.page
    (chip_with e (g.A.Audit.ledger c.args.audit.now) (g.S.Suite.tags c.args.suite.now) (g.S.Suite.digests c.args.suite.now))) before
    (g.B.Board.device c.fetch_path.new.board) (Err (
      chip_with new (g.A.Audit.ledger c.fetch_path.new.audit) (g.S.Suite.tags c.fetch_path.new.suite)
          (g.S.Suite.digests c.fetch_path.new.suite),
      c.in_err-fetch_path.field-0.0,
    ))) c.self.view_is
    (subst (λ (tags : ℕ). Follows (fetch_path_plan (record { shape = shape; formulas = formulas }) before.regs.root c.args.page
    (chip_with (record new { cache = c.self.inside.cache.banks }) (g.A.Audit.ledger c.args.audit.now) (g.S.Suite.tags c.args.suite.now)
    (g.S.Suite.digests c.args.suite.now))) before (g.B.Board.device c.fetch_path.new.board) (Err (
      chip_with new (g.A.Audit.ledger c.fetch_path.new.audit) tags
          (g.S.Suite.digests c.fetch_path.new.suite),
      c.in_err-fetch_path.field-0.0,
    ))) (sym c.fetch_path.ensures.tags)
    (its_fetch shape c.self.inside.mirror c.self.inside.cache c.self.invariant.0 formulas before.regs.root c.args.page
    (g.A.Audit.ledger c.args.audit.now) (g.S.Suite.tags c.args.suite.now) (g.S.Suite.digests c.args.suite.now)
    (fetch_parts c.fetch_path.new.cache (g.A.Audit.ledger c.fetch_path.new.audit) (g.S.Suite.digests c.fetch_path.new.suite)) (Err c.in_err-fetch_path.field-0.0)
    c.in_err-fetch_path.ensures.plan)))
