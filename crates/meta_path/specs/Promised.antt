-- What the functions of a page's path promise of what they are called with: a clause names the geometry, the cache or the
-- mirror, the board, the suite and the audit, before and after.
use Rattle.std.specs.Prelude.{ℕ, ◌≡◌, ◌<◌, ◌+◌, List, Result, IfErr}
use Rattle.pmem_base.specs.declared.faults.Cut.{Cut}
use Rattle.pmem_base.specs.declared.geometry.Geo.{Geo}
use Rattle.pmem_base.specs.declared.lines.Line.{Line}
use Rattle.pmem_base.specs.Geo.{shape_of}
use Rattle.pmem_base.specs.Layout.{slots}
use Rattle.pmem_base.specs.Shape.{Shape, named_levels}
use Rattle.board.specs.Device.{Device}
use Rattle.board.specs.declared.device.Board.{Ghosts as BoardOf}
use Rattle.suite.specs.Formulas.{Formulas}
use Rattle.suite.specs.declared.Suite.{Ghosts as SuiteOf}
use Rattle.seal_ledger.specs.declared.Audit.{Ghosts as AuditOf}
use Rattle.call_plan.specs.Plans.{ended}
use Rattle.call_plan.specs.Following.{Follows}
use Rattle.shadow_tables.specs.Entries.{slot_entry}
use Rattle.meta_cache.specs.Banks.{Banks}
use Rattle.meta_cache.specs.State.{CacheState}
use Rattle.meta_path.specs.declared.faults.PathFault.{PathFault}
use Rattle.meta_path.specs.declared.renewal.Path.{Path}
use Rattle.meta_path.specs.Blocks.{number_in, IsPathCached, AreCachedTrue}
use Rattle.meta_path.specs.Work.{FetchState}
use Rattle.meta_path.specs.Levels.{expected_digest}
use Rattle.meta_path.specs.Fetching.{IsFetchedTo, IsPathFault}
use Rattle.meta_path.specs.Keeping.{IsUndisturbed, IsTrueTree, IsFaultCaused}
use Rattle.meta_path.specs.Naming.{path_number}
use Rattle.meta_path.specs.Plans.{slot_plan}
use Rattle.meta_path.specs.FetchPlans.{FetchParts, fetch_parts, check_plan, level_plan, fetch_plan}
use Rattle.meta_path.specs.Storing.{IsPathOf, IsRenewed, IsStoredTo}

-- ---- fetching

-- the line has the digest that position x of a bank has to have
abbrev pub HasExpectedDigest : {B S : Type 0} → BoardOf B → SuiteOf S → Shape → CacheState → B → S → ℕ → ℕ → Line → Type 0
HasExpectedDigest board suite g cache b s bank x line =
    (suite.formulas_of (suite.keys s)).digest_of x line ≡ expected_digest g (board.device b).regs.root cache.banks bank x

module _ {B S A : Type 0} (board : BoardOf B) (suite : SuiteOf S) (audit : AuditOf A) (geo : Geo)
    (cache : CacheState) (b : B) (s : S) (a : A) (later_cache : CacheState) (later_b : B) (later_s : S) (later_a : A) where
  abbrev formulas : Formulas
  formulas = suite.formulas_of (suite.keys s)

  abbrev device : Device
  device = board.device b

  abbrev later_device : Device
  later_device = board.device later_b

  abbrev before : FetchState
  before = record { cache = cache; device = device; digests = suite.digests s }

  abbrev after : FetchState
  after = record { cache = later_cache; device = later_device; digests = suite.digests later_s }

  abbrev parts : FetchParts
  parts = fetch_parts cache (audit.ledger a) (suite.digests s)

  abbrev later_parts : FetchParts
  later_parts = fetch_parts later_cache (audit.ledger later_a) (suite.digests later_s)

  -- the blocks of a page's path were fetched
  abbrev pub FetchesBlocks : ℕ → Type 0
  FetchesBlocks page =
      IsFetchedTo (shape_of geo) formulas (audit.ledger a).truth page ((shape_of geo).levels + 1) before after

  -- why they weren't
  abbrev pub FailsAtBlock : ℕ → PathFault → Type 0
  FailsAtBlock page = IsPathFault (shape_of geo) formulas page before after (audit.ledger a) (audit.ledger later_a)

  -- if they were cached nothing was read, written or digested
  abbrev pub LeavesCachedPath : ℕ → Type 0
  LeavesCachedPath page = IsPathCached (shape_of geo) cache.banks page → IsUndisturbed before after

  -- if the tree and the cached lines are true, a fault says this of the board's lines
  abbrev pub FailsByBoard : Result (Unit {0}) PathFault → Type 0
  FailsByBoard answer =
      IsTrueTree (shape_of geo) formulas (audit.ledger a).truth device.regs.root
      → AreCachedTrue cache.banks (audit.ledger a).truth
      → IfErr answer (IsFaultCaused (shape_of geo) formulas later_device.lines (audit.ledger a) (audit.ledger later_a))

  abbrev pub FollowsBlocks : ℕ → Result (Unit {0}) PathFault → Type 0
  FollowsBlocks page answer =
      Follows (fetch_plan formulas device.regs.root page parts) device later_device (ended answer later_parts)

  -- position x of a bank is fetched
  abbrev pub FollowsLevel : ℕ → ℕ → Result (Unit {0}) PathFault → Type 0
  FollowsLevel bank x answer =
      Follows (level_plan formulas device.regs.root bank x parts) device later_device (ended answer later_parts)

  -- its line, which isn't cached, is read and checked
  abbrev pub FollowsCheck : ℕ → ℕ → Result Line PathFault → Type 0
  FollowsCheck bank x answer =
      Follows (check_plan formulas device.regs.root bank x parts) device later_device (ended answer later_parts)

-- ---- naming

-- the slots of the page's path that may get dirty apart, each entry is as it was
abbrev pub KeepsOtherEntries : Shape → Banks → ℕ → List Line → List Line → Type 0
KeepsOtherEntries g banks page mirror later_mirror =
    (bank n : ℕ) → n < slots g → ((bank < named_levels g) × (n ≡ path_number g banks page bank) → ⊥)
    → slot_entry g later_mirror bank n ≡ slot_entry g mirror bank n

module _ {B : Type 0} (board : BoardOf B) (geo : Geo) (cache : CacheState) (mirror : List Line) (b : B)
    (later_mirror : List Line) (later_b : B) (bank x : ℕ) where
  abbrev number : ℕ
  number = number_in (shape_of geo) cache.banks bank x

  -- the slot of position x, which is cached, is named
  abbrev pub FollowsNaming : Result (Unit {0}) Cut → Type 0
  FollowsNaming answer =
      Follows (slot_plan (shape_of geo) bank number x mirror) (board.device b) (board.device later_b)
      (ended answer later_mirror)

-- ---- renewing and storing

-- over a cache whose lines are true, the lines and the root of the path with this block are those of the true tree with it
abbrev pub RenewsTruth : {S : Type 0} → SuiteOf S → Geo → CacheState → S → ℕ → Line → Path → Type 0
RenewsTruth suite geo cache s page block path =
    (truth : List Line) → AreCachedTrue cache.banks truth
    → IsRenewed (shape_of geo) (suite.formulas_of (suite.keys s)) truth page block path.lines.items path.root

-- whatever page these lines are the path of, they were stored
abbrev pub StoresPath : ℕ → Path → CacheState → CacheState → Type 0
StoresPath grouped path cache later_cache =
    (page : ℕ) → IsPathOf cache.shape page path.lines.items
    → IsStoredTo cache.shape page grouped path.lines.items (cache.shape.levels + 1) cache later_cache
