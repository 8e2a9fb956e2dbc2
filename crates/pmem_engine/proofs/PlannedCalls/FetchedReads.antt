-- What a read comes to, wherever its plan ends: so many levels of its path are fetched, and a cached path takes no step.
use Rattle.std.proofs.Common.{ℕ, ◌≡◌, ◌≢◌, ◌<◌, ◌≤◌, ◌+◌, true, false, List, get_or, Option, Some, None, Result, Ok, Err, refl, ◌∙◌, inr, arith, rules}
use Rattle.std.proofs.lemmas.Bool.{false≢true}
use Rattle.std.proofs.lemmas.List.{get_or-set_other}
use Rattle.pmem_base.specs.declared.lines.Line.{Line}
use Rattle.pmem_base.specs.declared.lines.Ctr.{Ctr}
use Rattle.pmem_base.specs.declared.answers.Exhibit.{Exhibit}
use Rattle.pmem_base.specs.declared.registers.Regs.{Regs}
use Rattle.pmem_base.specs.Counts.{risen}
use Rattle.pmem_base.specs.Layout as layout
use Rattle.pmem_base.specs.Layout.{page_of}
use Rattle.pmem_base.specs.Lines.{tag_slot}
use Rattle.pmem_base.specs.Shape.{Shape}
use Rattle.board.specs.Device.{Device}
use Rattle.board.specs.Steps.{HasRead, WasCut}
use Rattle.call_plan.specs.Plans.{Plan}
use Rattle.call_plan.specs.Bounds.{Leaves, AtEnd}
use Rattle.call_plan.proofs.Keeping.{on_and_off}
use Rattle.call_plan.proofs.Leaves.{leaves, leaves_bind, leaves_mapped, leaves_more, leaves_if, leaves_repeated}
use Rattle.line_seal.specs.Seals.{unsealed}
use Rattle.seal_ledger.specs.Notes.{shown}
use Rattle.suite.specs.Formulas.{Formulas}
use Rattle.suite.specs.Setup.{Setup}
use Rattle.meta_cache.specs.declared.slot.Slot.{Slot}
use Rattle.meta_cache.specs.Banks.{set_of}
use Rattle.meta_cache.specs.State.{CacheState, with_slots}
use Rattle.meta_cache.proofs.CacheLemmas.{set_of-get_or}
use Rattle.meta_path.specs.declared.faults.PathFault.{PathFault}
use Rattle.meta_path.specs.declared.faults.PathFault.TheVariants as Path
use Rattle.meta_path.specs.Blocks.{path_at, IsPathCached}
use Rattle.meta_path.specs.Fetching.{HasFetchedSets}
use Rattle.meta_path.specs.FetchPlans.{FetchParts, level_plan, fetch_turn, fetch_plan}
use Rattle.pmem_engine.specs.declared.fault.Fault.{Fault}
use Rattle.pmem_engine.specs.declared.fault.LineFault.{LineFault}
use Rattle.pmem_engine.specs.declared.fault.LineFault.TheVariants as AtLine
use Rattle.pmem_engine.specs.Flushed.{cache_of}
use Rattle.pmem_engine.specs.Outcomes.{fault_of_line, fault_of_path}
use Rattle.pmem_engine.specs.Plans.{Chip, with_tags, with_ledger, with_fetched, fetch_parts_of, fetch_path_plan, its_counter, opened_plan, unseal_plan, read_plan}
use Rattle.pmem_engine.specs.KeptLaws.{left_at}
use Rattle.pmem_engine.specs.FetchLaws.{HasWholeCache, HasFetchedLevels, FetchesFirst, ReadsFetchFirst, TakesNoStep, CachedReadsTakeNoStep}
use Rattle.meta_path.proofs.FetchedLevels.{HasCome, Stopped, IsBegun, state, fetch_so}

-- ---- a line unsealed: two reads

module _ (setup : Setup) (holds : Chip → Device → Type 0) (err : Chip × LineFault → Device → Type 0)
    (later : (chip : Chip) (at : ℕ) (line : Line) (now new : Device) → HasRead now at line new → holds chip now → holds chip new)
    (counted : (chip : Chip) (tags : ℕ) (now : Device) → holds chip now → holds (with_tags chip tags) now)
    (cut : (chip : Chip) (now new : Device) → WasCut now new → now.live ≡ false → holds chip now → err (chip, AtLine.Cut) new)
    (refused : (chip : Chip) (at : ℕ) (now : Device) → holds chip now → err (chip, AtLine.Tag at) now)
    (forged : (chip : Chip) (exhibit : Exhibit) (now : Device) → holds chip now → err (with_ledger chip (shown chip.ledger exhibit), AtLine.Shown) now) where
  opened_leaves : (at : ℕ) (ctr : Ctr) (cipher tags : Line) (chip : Chip) (plain : Option Line) (now : Device) → holds chip now
      → Leaves (opened_plan at ctr cipher tags chip plain) (λ end d. holds end.0 d) err now
  unfolding Leaves
  opened_leaves at ctr cipher tags chip None now so = refused chip at now so
  opened_leaves at ctr cipher tags chip (Some plain) now so = search (rules, leaves_if)

  pub unseal_leaves : (at : ℕ) (ctr : Ctr) (chip : Chip) (now : Device) → holds chip now
      → Leaves (unseal_plan setup at ctr chip) (λ end d. holds end.0 d) err now
  unfolding Leaves unseal_plan
  unseal_leaves at ctr chip now so = (
    λ new was off. cut chip now new was off so,
    λ cipher mid was whole.
        let half : holds chip mid = later chip at cipher now mid was so in (
          λ new ended off. cut chip mid new ended off half,
          λ tags new second its.
              opened_leaves at ctr cipher tags (with_tags chip (risen chip.tags)) (unsealed setup.formulas at ctr cipher (tag_slot tags at)) new
              (counted chip (risen chip.tags) new (later chip (layout.tag_line setup.shape at) tags mid new second half)),
        ),
  )

-- ---- the levels that were fetched

module _ (f : Formulas) (page : ℕ) (first : Chip) (start : Device) (whole : HasWholeCache first.engine) (inside : page < layout.pages first.engine.shape) where
  abbrev pub Comes : ℕ → FetchParts → Device → Type 0
  Comes n parts now =
      HasCome first.engine.shape f page (state (cache_of first.engine) start first.digests) first.ledger n parts now

  abbrev pub Ends : FetchParts × PathFault → Device → Type 0
  Ends left now =
      Stopped first.engine.shape f page (state (cache_of first.engine) start first.digests) first.ledger left now

  pub fetch_start : IsBegun first.engine.shape page (cache_of first.engine)
  fetch_start = search rules

  abbrev all : ℕ
  all = first.engine.shape.levels + 1

  of_engine : (n : ℕ) (parts : FetchParts) → HasFetchedSets first.engine.shape first.ledger.truth page n (cache_of first.engine) parts.cache
      → HasFetchedSets first.engine.shape first.ledger.truth page n (cache_of first.engine) (cache_of (with_fetched first parts).engine)
  of_engine n parts sets = record { shape = refl; fetched = sets.fetched; elsewhere = sets.elsewhere }

  -- all of them, and power that was on is
  pub record IsFetched (chip : Chip) (now : Device) : Type 0 where
    pub levels : HasFetchedLevels page all first chip.engine start now
    pub live : start.live ≡ true → now.live ≡ true

  pub is_fetched : (parts : FetchParts) (now : Device) → Comes all parts now → IsFetched (with_fetched first parts) now
  is_fetched parts now come = search (rules, of_engine)

  pub isnt_fetched : {A : Type 0} (parts : FetchParts) (fault : PathFault) (now : Device) → Ends (parts, fault) now
      → FetchesFirst {A = A} page first start now (Err (with_fetched first parts, fault_of_path fault))
  isnt_fetched parts Path.Cut now it = search (rules, of_engine)
  isnt_fetched parts (Path.Meta x) now it = search (rules, of_engine)
  isnt_fetched parts Path.Shown now it = search (rules, of_engine)

  -- ---- a line unsealed after that

  abbrev After : Chip × LineFault → Device → Type 0
  After left now = FetchesFirst {A = Line} page first start now (Err (left.0, fault_of_line left.1))

  still : (chip : Chip) (now new : Device) → new.lines ≡ now.lines → new.writes ≡ now.writes → new.latches ≡ now.latches → new.regs ≡ now.regs
      → HasFetchedLevels page all first chip.engine start now → HasFetchedLevels page all first chip.engine start new
  still chip now new lines writes latches regs so = search rules

  -- none is left to fetch
  left_so : (chip : Chip) (fault : LineFault) (now : Device) → HasFetchedLevels page all first chip.engine start now
      → (fault ≡ AtLine.Cut → start.live ≡ true → ⊥) → After (chip, fault) now
  left_so chip AtLine.Cut now so off = record { levels = all; fetched = so; as_far = λ on. absurd (off refl on) }
  left_so chip (AtLine.Tag at) now so off = record { levels = all; fetched = so; as_far = refl }
  left_so chip AtLine.Shown now so off = record { levels = all; fetched = so; as_far = inr refl }

  unsealed_so : (setup : Setup) (at : ℕ) (ctr : Ctr) (chip : Chip) (now : Device) → IsFetched chip now
      → Leaves (unseal_plan setup at ctr chip) (λ end d. IsFetched end.0 d) After now
  unsealed_so setup =
      unseal_leaves setup IsFetched After
      (λ chip at line now new was so. record { levels = still chip now new was.lines was.writes was.latches was.regs so.levels; live = λ on. was.live ∙ so.live on })
      (λ chip tags now so. record { levels = so.levels; live = so.live })
      (λ chip now new was off so. left_so chip AtLine.Cut new (still chip now new was.lines was.writes was.latches was.regs so.levels)
      (λ cut on. on_and_off now.live (so.live on) off))
      (λ chip at now so. left_so chip (AtLine.Tag at) now so.levels (λ cut on. absurd (cc)))
      (λ chip exhibit now so. left_so (with_ledger chip (shown chip.ledger exhibit)) AtLine.Shown now so.levels (λ cut on. absurd (cc)))

-- ---- a read

module _ (setup : Setup) (a : ℕ) (first : Chip) (start : Device) (whole : HasWholeCache first.engine)
    (inside : page_of a < layout.pages first.engine.shape) where
  abbrev Done : Chip → Device → Type 0
  Done chip now = IsFetched setup.formulas (page_of a) first start whole inside chip now

  abbrev Left : Chip × Fault → Device → Type 0
  Left left now = FetchesFirst {A = Line} (page_of a) first start now (Err left)

  path_so : Leaves (fetch_path_plan setup start.regs.root (page_of a) first) (λ end d. Done end.0 d) (λ left d. Left (left.0, fault_of_path left.1) d) start
  unfolding fetch_path_plan
  path_so =
      leaves_mapped _ _ (λ end d. Done end.0 d) (λ left d. Left (left.0, fault_of_path left.1) d) _ start
      (leaves_more (λ end d. Comes setup.formulas (page_of a) first start whole inside (first.engine.shape.levels + 1) end.0 d)
      (λ end d. Done (with_fetched first end.0) d) (λ left d. Ends setup.formulas (page_of a) first start whole inside left d)
      (λ left d. Left (with_fetched first left.0, fault_of_path left.1) d) _ start
      (λ end d come. is_fetched setup.formulas (page_of a) first start whole inside end.0 d come)
      (λ left d it. isnt_fetched setup.formulas (page_of a) first start whole inside left.0 left.1 d it)
      (fetch_so first.engine.shape setup.formulas (page_of a) (state (cache_of first.engine) start first.digests) first.ledger
      (fetch_start setup.formulas (page_of a) first start whole inside)))

  read_so : Leaves (read_plan setup start.regs a first) (λ end d. Done end.0 d) Left start
  unfolding read_plan
  read_so =
      leaves_bind (λ end d. Done end.0 d) Left _ _ start
      (leaves_mapped _ _ (λ fetched d. Leaves _ (λ end d. Done end.0 d) Left d) Left _ start
      (leaves_more (λ end d. Done end.0 d) _ (λ left d. Left (left.0, fault_of_path left.1) d) (λ left d. Left (left.0, fault_of_path left.1) d) _ start
      (λ fetched d so. leaves_mapped _ _ (λ end d. Done end.0 d) Left _ d
      (unsealed_so setup.formulas (page_of a) first start whole inside setup a (its_counter setup start.regs a fetched.0) fetched.0 d so))
      (λ left d it. it) path_so))

pub read_fetches : ReadsFetchFirst
read_fetches setup a chip old new end whole inside it =
    at_end end (leaves (λ end d. Done setup a chip old whole inside end.0 d) (Left setup a chip old whole inside) (read_so setup a chip old whole inside) it)
  where
    at_end : (end : Result (Chip × Line) (Chip × Fault)) → AtEnd (λ end d. Done setup a chip old whole inside end.0 d) (Left setup a chip old whole inside) end new
        → FetchesFirst (page_of a) chip old new end
    at_end (Ok t) so = record { levels = chip.engine.shape.levels + 1; fetched = so.levels; as_far = refl }
    at_end (Err left) so = so

-- ---- a read whose path is cached

-- a set of another bank
other_bank : (cache : CacheState) (i n : ℕ) (slots : List Slot) (bank set : ℕ) → bank ≢ i
    → set_of (with_slots cache i n slots).banks bank set ≡ set_of cache.banks bank set
other_bank cache i n slots bank set apart = search (rules, set_of-get_or, get_or, get_or-set_other)

module _ (setup : Setup) (regs : Regs) (a : ℕ) (first : Chip) (start : Device)
    (cached : IsPathCached first.engine.shape first.engine.cache (page_of a)) where
  abbrev g : Shape
  g = first.engine.shape

  -- nothing was done but that blocks of the levels above i were used
  record IsUsedTo (i : ℕ) (at : FetchParts) (now : Device) : Type 0 where
    shape : at.cache.shape ≡ g
    below : (bank set : ℕ) → i ≤ bank → set_of at.cache.banks bank set ≡ set_of first.engine.cache bank set
    digests : at.digests ≡ first.digests
    still : now ≡ start

  abbrev Used : ℕ → Plan (FetchParts × PathFault) (FetchParts × Unit {0}) → Device → Type 0
  Used i plan now = Leaves plan (λ end d. IsUsedTo i end.0 d) (λ left d. ⊥) now

  use_so : (i : ℕ) (at : FetchParts) (now : Device) → i < g.levels + 1 → IsUsedTo i at now
      → Used (i + 1) (level_plan setup.formulas regs.root i (path_at g (page_of a) i) at) now
  unfolding Leaves level_plan
  use_so i at now low so = search (rules, leaves_if, other_bank, still, false≢true)

  fetch_used : Used (g.levels + 1) (fetch_plan setup.formulas regs.root (page_of a) (fetch_parts_of first)) start
  fetch_used =
      leaves_repeated (λ i end d. IsUsedTo i end.0 d) (λ left d. ⊥) (fetch_turn setup.formulas regs.root g (page_of a)) (g.levels + 1) 0 (g.levels + 1)
      (fetch_parts_of first, tt) start (omega arith) (λ i t d low so. use_so i t.0 d low so)
      (record { shape = refl; below = λ bank set more. refl; digests = refl; still = refl })

  abbrev Idle : Chip → Device → Type 0
  Idle chip now = TakesNoStep first chip start now

  idle_so : (parts : FetchParts) (now : Device) → IsUsedTo (g.levels + 1) parts now → Idle (with_fetched first parts) now
  idle_so parts now so = search rules

  unsealed_idle : (at : ℕ) (ctr : Ctr) (chip : Chip) (now : Device) → Idle chip now
      → Leaves (unseal_plan setup at ctr chip) (λ end d. Idle end.0 d) (λ left d. Idle left.0 d) now
  unsealed_idle =
      unseal_leaves setup Idle (λ left d. Idle left.0 d)
      (λ chip at line now new was so. record {
        lines = was.lines ∙ so.lines;
        regs = was.regs ∙ so.regs;
        writes = was.writes ∙ so.writes;
        latches = was.latches ∙ so.latches;
        digests = so.digests;
        uncut = λ on. was.live ∙ so.uncut on;
      })
      (λ chip tags now so. as_idle (with_tags chip tags) now so.lines so.regs so.writes so.latches so.digests so.uncut)
      (λ chip now new was off so. record {
        lines = was.lines ∙ so.lines;
        regs = was.regs ∙ so.regs;
        writes = was.writes ∙ so.writes;
        latches = was.latches ∙ so.latches;
        digests = so.digests;
        uncut = λ on. on_and_off now.live (so.uncut on) off;
      })
      (λ chip at now so. so)
      (λ chip exhibit now so. as_idle (with_ledger chip (shown chip.ledger exhibit)) now so.lines so.regs so.writes so.latches so.digests so.uncut)
    where
      as_idle : (chip : Chip) (now : Device) → now.lines ≡ start.lines → now.regs ≡ start.regs → now.writes ≡ start.writes → now.latches ≡ start.latches
          → chip.digests ≡ first.digests → (start.live ≡ true → now.live ≡ true) → Idle chip now
      as_idle chip now lines regs writes latches digests uncut =
          record { lines = lines; regs = regs; writes = writes; latches = latches; digests = digests; uncut = uncut }

  path_idle : Leaves (fetch_path_plan setup regs.root (page_of a) first) (λ end d. Idle end.0 d) (λ left d. Idle left.0 d) start
  unfolding fetch_path_plan
  path_idle =
      leaves_mapped _ _ (λ end d. Idle end.0 d) (λ left d. Idle left.0 d) _ start
      (leaves_more (λ end d. IsUsedTo (g.levels + 1) end.0 d) (λ end d. Idle (with_fetched first end.0) d) (λ left d. ⊥)
      (λ left d. Idle (with_fetched first left.0) d) _ start (λ end d so. idle_so end.0 d so) (λ left d no. absurd no) fetch_used)

  read_idle : Leaves (read_plan setup regs a first) (λ end d. Idle end.0 d) (λ left d. Idle left.0 d) start
  unfolding read_plan
  read_idle =
      leaves_bind (λ end d. Idle end.0 d) (λ left d. Idle left.0 d) _ _ start
      (leaves_mapped _ _ (λ fetched d. Leaves _ (λ end d. Idle end.0 d) (λ left d. Idle left.0 d) d) (λ left d. Idle left.0 d) _ start
      (leaves_more (λ end d. Idle end.0 d) _ (λ left d. Idle left.0 d) (λ left d. Idle left.0 d) _ start
      (λ fetched d so. leaves_mapped _ _ (λ end d. Idle end.0 d) (λ left d. Idle left.0 d) _ d
      (unsealed_idle a (its_counter setup regs a fetched.0) fetched.0 d so))
      (λ left d it. it) path_idle))

pub cached_read : CachedReadsTakeNoStep
cached_read setup regs a chip old new end cached it =
    at_end end
    (leaves (λ end d. Idle setup regs a chip old cached end.0 d) (λ left d. Idle setup regs a chip old cached left.0 d) (read_idle setup regs a chip old cached) it)
  where
    at_end : (end : Result (Chip × Line) (Chip × Fault))
        → AtEnd (λ end d. Idle setup regs a chip old cached end.0 d) (λ left d. Idle setup regs a chip old cached left.0 d) end new
        → TakesNoStep chip (left_at end) old new
    at_end (Ok t) so = so
    at_end (Err left) so = so
