-- A page's path is fetched, level by level from the top.
use Rattle.std.specs.Prelude.{ℕ, zero, suc, ◌≡◌, ◌≢◌, ◌≤◌, ◌<◌, ◌+◌, true, false, List, [], ◌++◌, length}
use Rattle.pmem_base.specs.declared.lines.Line.{Line}
use Rattle.pmem_base.specs.declared.answers.Exhibit.TheVariants.{Clash}
use Rattle.pmem_base.specs.Counts.{HasRisen, risen_times}
use Rattle.pmem_base.specs.Shape.{Shape}
use Rattle.pmem_base.specs.Layout.{meta_line}
use Rattle.pmem_base.specs.Lines.{IsLine, line_at}
use Rattle.suite.specs.Formulas.{Formulas}
use Rattle.board.specs.Counts.{RisesBy}
use Rattle.board.specs.Steps.{Tells}
use Rattle.commit_regs.specs.Groups.{redone_told}
use Rattle.seal_ledger.specs.Ledger.{LedgerState}
use Rattle.seal_ledger.specs.Notes.{HasExhibit}
use Rattle.meta_cache.specs.Banks.{Banks, set_of, set_index, is_cached}
use Rattle.meta_cache.specs.State.{CacheState}
use Rattle.meta_path.specs.declared.faults.PathFault.{PathFault}
use Rattle.meta_path.specs.declared.faults.PathFault.TheVariants as Fault
use Rattle.meta_path.specs.Blocks.{path_at, slots_at}
use Rattle.meta_path.specs.Work.{HasWorked, FetchState}
use Rattle.meta_path.specs.Levels.{expected_digest, level_write, level_reads, fetched_set, HasDirtyVictim}

-- how many of the path's first n levels aren't cached
abbrev pub absent_count : Shape → Banks → ℕ → ℕ → ℕ
absent_count g banks page zero = 0
absent_count g banks page (suc n) = absent_count g banks page n + level_reads g banks n (path_at g page n)

-- the write-backs, by place and line, that fetching the path's first n levels takes
abbrev pub spilled : Shape → Banks → ℕ → ℕ → List (ℕ × Line)
spilled g banks page zero = []
spilled g banks page (suc n) = spilled g banks page n ++ level_write g banks n (path_at g page n)

-- the sets of the path's first n positions are fetched, and every other set is as it was
pub record HasFetchedSets (g : Shape) (truth : List Line) (page n : ℕ) (old new : CacheState) : Type 0 where
  pub shape : new.shape ≡ old.shape
  pub fetched :
      (j : ℕ) → j < n
      → slots_at g new.banks j (path_at g page j) ≡ fetched_set g truth old.banks j (path_at g page j)
  pub elsewhere :
      (bank set : ℕ) → ((bank < n) × (set ≡ set_index g (path_at g page bank)) → ⊥)
      → set_of new.banks bank set ≡ set_of old.banks bank set

-- each of the path's first n levels that wasn't cached: the board's line is the true one, and has the
-- digest that it has to have
pub record AreLevelsChecked (g : Shape) (f : Formulas) (truth : List Line) (page n : ℕ) (old new : FetchState) :
    Type 0 where
  pub told :
      (j : ℕ) → j < n → is_cached g old.cache.banks j (path_at g page j) ≡ false
      → Tells old.device.lines (meta_line g (path_at g page j)) (line_at truth (path_at g page j))
  pub checked :
      (j : ℕ) → j < n → is_cached g old.cache.banks j (path_at g page j) ≡ false
      → f.digest_of (path_at g page j) (line_at truth (path_at g page j))
      ≡ expected_digest g old.device.regs.root new.cache.banks j (path_at g page j)

-- the path's first n levels were fetched
pub record IsFetchedTo (g : Shape) (f : Formulas) (truth : List Line) (page n : ℕ) (old new : FetchState) :
    Type 0 where
  pub cache : HasFetchedSets g truth page n old.cache new.cache
  pub levels : AreLevelsChecked g f truth page n old new
  pub work :
      HasWorked (absent_count g old.cache.banks page n) (spilled g old.cache.banks page n) old.device
      new.device
  pub digests : new.digests ≡ risen_times (absent_count g old.cache.banks page n) old.digests

-- the path's first n levels were fetched; level n isn't cached, its line was read and a digest made
pub record IsReadAt (g : Shape) (f : Formulas) (truth : List Line) (page n : ℕ) (line : Line)
    (old new : FetchState) : Type 0 where
  pub on_path : n ≤ g.levels
  pub absent : is_cached g old.cache.banks n (path_at g page n) ≡ false
  pub cache : HasFetchedSets g truth page n old.cache new.cache
  pub levels : AreLevelsChecked g f truth page n old new
  pub work :
      HasWorked (absent_count g old.cache.banks page n + 1) (spilled g old.cache.banks page n) old.device
      new.device
  pub digests : new.digests ≡ risen_times (absent_count g old.cache.banks page n + 1) old.digests
  pub tells : Tells new.device.lines (meta_line g (path_at g page n)) line
  pub whole : IsLine line

-- The path's first n levels were fetched, and a cut came at level n, which isn't cached: at its read,
-- or before the write that makes room for it, and then its read and its digest are counted.
pub record IsCutAt (g : Shape) (f : Formulas) (truth : List Line) (page : ℕ) (old new : FetchState) :
    Type 0 where
  pub n : ℕ
  pub on_path : n ≤ g.levels
  pub absent : is_cached g old.cache.banks n (path_at g page n) ≡ false
  pub cache : HasFetchedSets g truth page n old.cache new.cache
  pub levels : AreLevelsChecked g f truth page n old new
  pub tries : ℕ
  pub at_least : absent_count g old.cache.banks page n ≤ tries
  pub at_most : tries ≤ absent_count g old.cache.banks page n + 1
  pub reads : RisesBy tries old.device.reads new.device.reads
  pub digests : new.digests ≡ risen_times tries old.digests
  pub lines : new.device.lines ≡ redone_told (spilled g old.cache.banks page n) old.device.lines
  pub writes : RisesBy (length (spilled g old.cache.banks page n)) old.device.writes new.device.writes
  pub unsteady : old.device.steady ≡ false
  pub off : new.device.live ≡ false
  pub never_falls : old.device.cuts ≤ new.device.cuts
  pub rose : HasRisen old.device.cuts new.device.cuts
  pub size : new.device.size ≡ old.device.size
  pub regs : new.device.regs ≡ old.device.regs
  pub latches : new.device.latches ≡ old.device.latches
  pub victim :
      old.device.live ≡ true → HasDirtyVictim g (slots_at g old.cache.banks n (path_at g page n))

-- the line read at level n doesn't have the digest that its parent says
pub record IsRefusedAt (g : Shape) (f : Formulas) (truth : List Line) (page x : ℕ) (old new : FetchState) :
    Type 0 where
  pub n : ℕ
  pub line : Line
  pub position : x ≡ path_at g page n
  pub read : IsReadAt g f truth page n line old new
  pub differs :
      f.digest_of (path_at g page n) line
      ≢ expected_digest g old.device.regs.root new.cache.banks n (path_at g page n)

-- the line read at level n has that digest, but isn't the true line; the two are shown
pub record IsShownAt (g : Shape) (f : Formulas) (page : ℕ) (old new : FetchState)
    (old_ledger new_ledger : LedgerState) : Type 0 where
  pub n : ℕ
  pub line : Line
  pub read : IsReadAt g f old_ledger.truth page n line old new
  pub same_digest :
      f.digest_of (path_at g page n) line
      ≡ expected_digest g old.device.regs.root new.cache.banks n (path_at g page n)
  pub differs : line ≢ line_at old_ledger.truth (path_at g page n)
  pub shown :
      HasExhibit old_ledger new_ledger
      (Clash (path_at g page n) line (line_at old_ledger.truth (path_at g page n)))

-- why the path wasn't fetched
abbrev pub IsPathFault : Shape → Formulas → ℕ → FetchState → FetchState → LedgerState → LedgerState → PathFault → Type 0
IsPathFault g f page old new old_ledger new_ledger Fault.Cut =
    IsCutAt g f old_ledger.truth page old new × (new_ledger ≡ old_ledger)
IsPathFault g f page old new old_ledger new_ledger (Fault.Meta x) =
    IsRefusedAt g f old_ledger.truth page x old new × (new_ledger ≡ old_ledger)
IsPathFault g f page old new old_ledger new_ledger Fault.Shown =
    IsShownAt g f page old new old_ledger new_ledger
