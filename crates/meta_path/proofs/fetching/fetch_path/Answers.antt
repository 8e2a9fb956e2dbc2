-- The levels so far and the next one, whether it is fetched or not.
use Rattle.std.proofs.Common.{◌≡◌, ℕ, ◌+◌, ◌<◌, List, Result, refl, sym, ap, subst, subst₂, ◌∙◌, arith}
use Rattle.std.specs.Prelude.{slice_index_or}
use Rattle.pmem_base.specs.Shape.{Shape}
use Rattle.pmem_base.specs.declared.registers.Regs.{Regs}
use Rattle.board.specs.Device.{Device}
use Rattle.call_plan.specs.Following.{Follows}
use Rattle.call_plan.specs.Bounds.{AtEnd}
use Rattle.call_plan.proofs.Leaves.{leaves}
use Rattle.call_plan.proofs.Steps.{ended_err}
use Rattle.call_plan.proofs.Loops.{turns_start, turn_ok, turn_err, turns_end}
use Rattle.pmem_base.specs.Geo.{shape_of}
use Rattle.suite.specs.Formulas.{Formulas}
use Rattle.seal_ledger.specs.Ledger.{LedgerState}
use Rattle.meta_cache.specs.State.{CacheState, IsCacheOf}
use Rattle.meta_path.specs.Blocks.{path_at}
use Rattle.meta_path.specs.Work.{FetchState}
use Rattle.meta_path.specs.Levels.{HasParent}
use Rattle.meta_path.specs.declared.faults.PathFault.{PathFault}
use Rattle.meta_path.specs.Fetching.{IsFetchedTo}
use Rattle.meta_path.specs.FetchPlans.{FetchParts, fetch_parts, level_plan, fetch_turn}
use Rattle.meta_path.proofs.FetchLemmas.{HasParent-at, IsPathCached-fetched}
use Rattle.meta_path.proofs.PathFacts.{position_is, all_levels}
use Rattle.meta_path.proofs.FetchedLevels.{HasCome, Stopped, turn_so, begins}
use Rattle.meta_path.proofs.RunLaws.{IsStart, IsRunEnded, banks_of_run, keeps_of_run, keeps_of_end, cause_of_end, dirty_of_end, no_end, same_of_end, IsUndisturbed-cached, fault_handed_on, same_fault}
use Rattle.meta_path.proofs.fetching.fetch_path.Given.{Over}
use Rattle.meta_path.proofs.fetching.fetch_path.Goals.{After-are_banks, After-fetch_level-arg-in-levels-3-1}
use Rattle.meta_path.proofs.fetching.fetch_path.Goals as goal

-- what the fetch works on at a moment
abbrev at : (g : Over) → CacheState → g.row.B.Denot → g.row.S.Denot → FetchState
at g cache board suite = record { cache = cache; device = g.B.Board.device board; digests = g.S.Suite.digests suite }

abbrev formulas : (g : Over) → g.row.S.Denot → Formulas
formulas g suite = g.S.Suite.formulas_of (g.S.Suite.keys suite)

-- ---- before a level

module _ (g : Over) (c : After-are_banks g) where
  start : IsStart (shape_of c.args.geo.now) c.args.page (at g c.args.cache.now c.args.board.now c.args.suite.now)
  start =
      record {
        begun =
            record {
              its_page = c.requires.page;
              few = c.args.geo.now.has_levels.1;
              some_set = c.args.geo.now.has_sets.0;
              some_way = c.args.geo.now.has_ways.0;
              shape = c.requires.shape;
              form = subst (λ (s : Shape). IsCacheOf s c.args.cache.now.banks) c.requires.shape c.are_banks.ensures.cache;
              its_banks = c.requires.banks;
            };
        told = g.met.B.Board.whole c.args.board.now;
        its_size = c.requires.size;
      }

pub fetch_level-requires-clause-banks : goal.fetch_level-requires-clause-banks
fetch_level-requires-clause-banks g c =
    banks_of_run (start g (goal.at.fetch_level-requires-clause-banks g c).After-are_banks)
    (omega (arith, c.levels-test.true, c.levels-bank-end.ensures)) c.levels.invariant.come.fetched

pub fetch_level-requires-clause-parent : goal.fetch_level-requires-clause-parent
fetch_level-requires-clause-parent g c =
    subst (HasParent (shape_of c.args.geo.now) c.levels.cache.banks c.levels.bank)
    (sym (position_is _ c.as_slice.result.now c.from.result c.levels.bank (c.as_slice.ensures.value ∙ c.path-path.ensures.value) c.from.ensures))
    (HasParent-at (shape_of c.args.geo.now) (g.A.Audit.ledger c.args.audit.now).truth c.args.page c.levels.bank
    c.args.cache.now c.levels.cache c.requires.page (omega (arith, c.levels-test.true, c.levels-bank-end.ensures))
    c.levels.invariant.come.fetched.cache)

-- ---- its plan, level by level

abbrev parts : (g : Over) → CacheState → g.row.A.Denot → g.row.S.Denot → FetchParts
parts g cache audit suite = fetch_parts cache (g.A.Audit.ledger audit) (g.S.Suite.digests suite)

module _ (g : Over) (c : After-fetch_level-arg-in-levels-3-1 g) where
  more : c.levels.bank < c.args.cache.now.shape.levels + 1
  more = omega (arith, c.levels-test.true, c.levels-bank-end.ensures, ap (λ (s : Shape). s.levels) c.requires.shape)

  position : slice_index_or c.as_slice.result.now c.from.result 0 ≡ path_at c.args.cache.now.shape c.args.page c.levels.bank
  position =
      position_is _ c.as_slice.result.now c.from.result c.levels.bank (c.as_slice.ensures.value ∙ c.path-path.ensures.value) c.from.ensures
      ∙ ap (λ (s : Shape). path_at s c.args.page c.levels.bank) (sym c.requires.shape)

  root : (g.B.Board.device c.levels.board).regs.root ≡ (g.B.Board.device c.args.board.now).regs.root
  root = ap (λ (regs : Regs). regs.root) c.levels.invariant.come.fetched.work.regs

  -- the level's plan is the turn's
  level_turn : (new : Device) (end : Result (FetchParts × Unit {0}) (FetchParts × PathFault))
      → Follows (level_plan (formulas g c.levels.suite) (g.B.Board.device c.levels.board).regs.root c.levels.bank
      (slice_index_or c.as_slice.result.now c.from.result 0) (parts g c.levels.cache c.levels.audit c.levels.suite))
      (g.B.Board.device c.levels.board) new end
      → Follows (level_plan (formulas g c.args.suite.now) (g.B.Board.device c.args.board.now).regs.root c.levels.bank
      (path_at c.args.cache.now.shape c.args.page c.levels.bank) (parts g c.levels.cache c.levels.audit c.levels.suite))
      (g.B.Board.device c.levels.board) new end
  level_turn new end it =
      let at : FetchParts = parts g c.levels.cache c.levels.audit c.levels.suite in
      let now : Device = g.B.Board.device c.levels.board in
      subst (λ x. Follows (level_plan (formulas g c.args.suite.now) (g.B.Board.device c.args.board.now).regs.root c.levels.bank x at) now new end) position
      (subst₂ (λ (keys : List ℕ) (r : List ℕ). Follows (level_plan (g.S.Suite.formulas_of keys) r c.levels.bank
      (slice_index_or c.as_slice.result.now c.from.result 0) at) now new end) c.levels.invariant.keys root it)

  abbrev first : FetchState
  first = at g c.args.cache.now c.args.board.now c.args.suite.now

  abbrev ledger : LedgerState
  ledger = g.A.Audit.ledger c.args.audit.now

  -- what it leaves
  abbrev Come : FetchParts × Unit {0} → Device → Type 0
  Come end d = HasCome (shape_of c.args.geo.now) (formulas g c.args.suite.now) c.args.page first ledger (c.levels.bank + 1) end.0 d

  abbrev Stop : FetchParts × PathFault → Device → Type 0
  Stop left d = Stopped (shape_of c.args.geo.now) (formulas g c.args.suite.now) c.args.page first ledger left d

  level_leaves : IsStart (shape_of c.args.geo.now) c.args.page first → (new : Device) (end : Result (FetchParts × Unit {0}) (FetchParts × PathFault))
      → Follows (level_plan (formulas g c.levels.suite) (g.B.Board.device c.levels.board).regs.root c.levels.bank
      (slice_index_or c.as_slice.result.now c.from.result 0) (parts g c.levels.cache c.levels.audit c.levels.suite))
      (g.B.Board.device c.levels.board) new end
      → AtEnd Come Stop end new
  level_leaves begin new end it =
      let at : FetchParts = parts g c.levels.cache c.levels.audit c.levels.suite in
      let now : Device = g.B.Board.device c.levels.board in
      leaves Come Stop
      (turn_so (shape_of c.args.geo.now) (formulas g c.args.suite.now) c.args.page first ledger begin.begun c.levels.bank (at, tt) now
      (omega (arith, c.levels-test.true, c.levels-bank-end.ensures)) c.levels.invariant.come)
      (subst (λ (s : Shape). Follows (level_plan (formulas g c.args.suite.now) first.device.regs.root c.levels.bank (path_at s c.args.page c.levels.bank) at)
      now new end) c.requires.shape (level_turn new end it))

pub levels-init : goal.levels-init
levels-init g c =
    record {
      come = begins _ _ _ _ _ (start g (goal.at.levels-init g c).After-are_banks).begun;
      reached =
          turns_start
          (fetch_turn (formulas g c.args.suite.now) (g.B.Board.device c.args.board.now).regs.root c.args.cache.now.shape c.args.page)
          (c.args.cache.now.shape.levels + 1) (parts g c.args.cache.now c.args.audit.now c.args.suite.now, tt)
          (g.B.Board.device c.args.board.now);
      capacity = refl;
      keys = refl;
      pads = refl;
      tags = refl;
    }

pub returns-in_err-fetch_level-clause-plan : goal.returns-in_err-fetch_level-clause-plan
returns-in_err-fetch_level-clause-plan g c =
    let place = (goal.at.returns-in_err-fetch_level-clause-plan g c).After-fetch_level-arg-in-levels-3-1 in
    ended_err c.from_residual.result c.from_residual.ensures.1
    (turn_err c.levels.invariant.reached (more g place) (level_turn g place (g.B.Board.device c.fetch_level.new.board) _ c.in_err-fetch_level.ensures.plan))

pub returns-clause-plan : goal.returns-clause-plan
returns-clause-plan g c =
    turns_end c.levels.invariant.reached
    (omega (arith, c.levels-test.false, c.levels-bank-end.ensures, ap (λ (s : Shape). s.levels) c.requires.shape))

-- ---- an end at a level

module _ (g : Over) (c : goal.After-from_residual g) where
  stopped : IsRunEnded (shape_of c.args.geo.now) (formulas g c.args.suite.now) c.args.page
      (at g c.args.cache.now c.args.board.now c.args.suite.now)
      (at g c.fetch_level.new.cache c.fetch_level.new.board c.fetch_level.new.suite)
      (g.A.Audit.ledger c.args.audit.now) (g.A.Audit.ledger c.fetch_level.new.audit) c.in_err-fetch_level.field-0.0
  stopped =
      let here = goal.at.returns-in_err-fetch_level-clause-fault g c in
      record {
        start = start g here.After-are_banks;
        its_fault =
            level_leaves g here.After-fetch_level-arg-in-levels-3-1 (start g here.After-are_banks) (g.B.Board.device c.fetch_level.new.board) _
            c.in_err-fetch_level.ensures.plan;
      }

pub returns-in_err-fetch_level-clause-fault : goal.returns-in_err-fetch_level-clause-fault
returns-in_err-fetch_level-clause-fault g c =
    fault_handed_on c.from_residual.result _ _ c.from_residual.ensures.1 (stopped g c).its_fault

pub returns-in_err-fetch_level-clause-cause : goal.returns-in_err-fetch_level-clause-cause
returns-in_err-fetch_level-clause-cause g c tree is_true =
    fault_handed_on c.from_residual.result _ _ c.from_residual.ensures.1
    (cause_of_end (stopped g c) (g.met.S.Suite.in_range c.args.suite.now) (g.met.A.Audit.whole c.args.audit.now) tree is_true)

pub returns-in_err-fetch_level-clause-undisturbed : goal.returns-in_err-fetch_level-clause-undisturbed
returns-in_err-fetch_level-clause-undisturbed g c cached = no_end (stopped g c) cached

pub returns-in_err-fetch_level-clause-no_fault : goal.returns-in_err-fetch_level-clause-no_fault
returns-in_err-fetch_level-clause-no_fault g c cached = no_end (stopped g c) cached

pub returns-in_err-fetch_level-clause-shape : goal.returns-in_err-fetch_level-clause-shape
returns-in_err-fetch_level-clause-shape g c = (same_of_end (stopped g c)).0

pub returns-in_err-fetch_level-clause-truth : goal.returns-in_err-fetch_level-clause-truth
returns-in_err-fetch_level-clause-truth g c = (same_of_end (stopped g c)).1

pub returns-in_err-fetch_level-clause-keeps : goal.returns-in_err-fetch_level-clause-keeps
returns-in_err-fetch_level-clause-keeps g c = keeps_of_end (stopped g c)

pub returns-in_err-fetch_level-clause-dirty_left :
    goal.returns-in_err-fetch_level-clause-dirty_left
returns-in_err-fetch_level-clause-dirty_left g c is_cut live =
    dirty_of_end (stopped g c) (same_fault c.from_residual.result _ _ c.from_residual.ensures.1 is_cut) live

-- ---- one level more, and all

pub levels-preserved : goal.levels-preserved
levels-preserved g c =
    record {
      come =
          level_leaves g (goal.at.levels-preserved g c).After-fetch_level-arg-in-levels-3-1 (start g (goal.at.levels-preserved g c).After-are_banks)
          (g.B.Board.device c.fetch_level.new.board) _ c.in_ok-fetch_level.ensures.plan;
      reached =
          let place = (goal.at.levels-preserved g c).After-fetch_level-arg-in-levels-3-1 in
          turn_ok c.levels.invariant.reached (more g place)
          (level_turn g place (g.B.Board.device c.fetch_level.new.board) _ c.in_ok-fetch_level.ensures.plan);
      capacity = c.fetch_level.ensures.capacity ∙ c.levels.invariant.capacity;
      keys = c.in_ok-fetch_level.ensures.keys ∙ c.levels.invariant.keys;
      pads = c.in_ok-fetch_level.ensures.pads ∙ c.levels.invariant.pads;
      tags = c.in_ok-fetch_level.ensures.tags ∙ c.levels.invariant.tags;
    }

pub returns-clause-ok : goal.returns-clause-ok
returns-clause-ok g c =
    subst (λ n. IsFetchedTo (shape_of c.args.geo.now) (formulas g c.args.suite.now) (g.A.Audit.ledger c.args.audit.now).truth
    c.args.page n (at g c.args.cache.now c.args.board.now c.args.suite.now) (at g c.levels.cache c.levels.board c.levels.suite))
    (all_levels (shape_of c.args.geo.now).levels c.levels.bank c.levels-bank-end.result c.levels-bank-end.ensures
    c.levels.auto.bank-end c.levels-test.false) c.levels.invariant.come.fetched

pub returns-clause-cached : goal.returns-clause-cached
returns-clause-cached g c =
    IsPathCached-fetched (shape_of c.args.geo.now) (g.A.Audit.ledger c.args.audit.now).truth c.args.page c.args.cache.now c.levels.cache
    (returns-clause-ok g c).cache

pub returns-clause-keeps : goal.returns-clause-keeps
returns-clause-keeps g c =
    keeps_of_run (start g (goal.at.returns-clause-keeps g c).After-are_banks) (omega (arith, c.levels.auto.bank-end, c.levels-bank-end.ensures))
    c.levels.invariant.come.fetched

pub returns-clause-undisturbed : goal.returns-clause-undisturbed
returns-clause-undisturbed g c cached =
    IsUndisturbed-cached (shape_of c.args.geo.now) (formulas g c.args.suite.now) (g.A.Audit.ledger c.args.audit.now).truth
    c.args.page (at g c.args.cache.now c.args.board.now c.args.suite.now) (at g c.levels.cache c.levels.board c.levels.suite)
    cached (returns-clause-ok g c)
