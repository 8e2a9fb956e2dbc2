-- A fetch that has come to a level, and one that ends by a fault: what they keep.
use Rattle.std.proofs.Common.{rules, ◌≡◌, ℕ, ◌+◌, ◌≤◌, true, List, [], ◌∷◌, length, refl, sym, ap, subst, ◌∙◌, arith, Result, Ok, Err}
use Rattle.std.specs.Prelude.{All, IfErr, IsErrAnd}
use Rattle.pmem_base.specs.declared.lines.Line.{Line}
use Rattle.pmem_base.specs.Shape.{Shape}
use Rattle.pmem_base.specs.Layout.{device_lines}
use Rattle.pmem_base.specs.Lines.{IsLine}
use Rattle.pmem_base.specs.Counts.{risen_times}
use Rattle.suite.specs.Formulas.{Formulas, AreInRange}
use Rattle.board.specs.Device.{IsDevice}
use Rattle.seal_ledger.specs.Ledger.{LedgerState}
use Rattle.commit_regs.specs.Groups.{redone_told}
use Rattle.commit_regs.proofs.GroupLemmas.{redone-nil}
use Rattle.meta_path.specs.declared.faults.PathFault.{PathFault}
use Rattle.meta_path.specs.declared.faults.PathFault.TheVariants as Fault
use Rattle.meta_path.specs.Blocks.{dirty_count, AreInTheirBanks, AreCachedTrue, IsPathCached}
use Rattle.meta_path.specs.Work.{FetchState}
use Rattle.meta_path.specs.Fetching.{absent_count, spilled, IsFetchedTo, IsReadAt, IsCutAt, IsPathFault}
use Rattle.meta_path.specs.Keeping.{KeepsBlocks, IsUndisturbed, IsTrueTree, IsFaultCaused}
use Rattle.meta_path.proofs.FetchLemmas.{cached_no_fault}
use Rattle.meta_path.proofs.FetchedLevels.{IsBegun, fetch_of}
use Rattle.meta_path.proofs.KeepLemmas.{IsKeptPart, length-spilled, absent_count-cached}
use Rattle.meta_path.proofs.KeepLaws.{in_their_banks, KeepsBlocks-part}
use Rattle.meta_path.proofs.CauseLaws.{cut_dirty, IsFaultCaused-fault}

-- what a fetch starts from
pub record IsStart (g : Shape) (page : ℕ) (old : FetchState) : Type 0 where
  pub begun : IsBegun g page old.cache
  pub told : IsDevice old.device
  pub its_size : old.device.size ≡ device_lines g

-- ---- each answer is a part

module _ {g : Shape} {page : ℕ} {old : FetchState} (start : IsStart g page old) where
  part_fetched : {f : Formulas} {truth : List Line} {n : ℕ} {new : FetchState} → n ≤ g.levels + 1
      → IsFetchedTo g f truth page n old new → IsKeptPart g truth page n old.cache new.cache old.device new.device
  part_fetched level h = search (rules, fetch_of start.begun)

  part_read : {f : Formulas} {truth : List Line} {n : ℕ} {line : Line} {new : FetchState}
      → IsReadAt g f truth page n line old new → IsKeptPart g truth page n old.cache new.cache old.device new.device
  part_read h = search (rules, fetch_of start.begun)

  part_cut : {f : Formulas} {truth : List Line} {new : FetchState} (cut : IsCutAt g f truth page old new)
      → IsKeptPart g truth page cut.n old.cache new.cache old.device new.device
  part_cut cut = search (rules, fetch_of start.begun)

  -- what is kept where a fault is answered
  keeps_of_fault : (f : Formulas) (new : FetchState) (old_ledger new_ledger : LedgerState) (fault : PathFault)
      → IsPathFault g f page old new old_ledger new_ledger fault
      → KeepsBlocks g old_ledger.truth page old.cache.banks new.cache.banks old.device new.device
  keeps_of_fault f new old_ledger new_ledger Fault.Cut h = KeepsBlocks-part (part_cut h.0)
  keeps_of_fault f new old_ledger new_ledger (Fault.Meta x) h = KeepsBlocks-part (part_read h.0.read)
  keeps_of_fault f new old_ledger new_ledger Fault.Shown h = KeepsBlocks-part (part_read h.read)

  -- ---- so far

  module _ {f : Formulas} {truth : List Line} {n : ℕ} {new : FetchState} (level : n ≤ g.levels + 1)
      (it : IsFetchedTo g f truth page n old new) where
    pub banks_of_run : AreInTheirBanks g new.cache.banks
    banks_of_run = in_their_banks (part_fetched level it)

    pub keeps_of_run : KeepsBlocks g truth page old.cache.banks new.cache.banks old.device new.device
    keeps_of_run = KeepsBlocks-part (part_fetched level it)

-- ---- an end by a fault

-- a fetch that ends by a fault
pub record IsRunEnded (g : Shape) (f : Formulas) (page : ℕ) (old new : FetchState) (old_ledger new_ledger : LedgerState) (fault : PathFault) :
    Type 0 where
  pub start : IsStart g page old
  pub its_fault : IsPathFault g f page old new old_ledger new_ledger fault

module _ {g : Shape} {f : Formulas} {page : ℕ} {old new : FetchState} {old_ledger new_ledger : LedgerState} {fault : PathFault}
    (end : IsRunEnded g f page old new old_ledger new_ledger fault) where
  pub keeps_of_end : KeepsBlocks g old_ledger.truth page old.cache.banks new.cache.banks old.device new.device
  keeps_of_end = keeps_of_fault end.start f new old_ledger new_ledger fault end.its_fault

  pub cause_of_end : AreInRange f → All IsLine old_ledger.truth → IsTrueTree g f old_ledger.truth old.device.regs.root
      → AreCachedTrue old.cache.banks old_ledger.truth → IsFaultCaused g f new.device.lines old_ledger new_ledger fault
  cause_of_end in_range whole tree is_true =
      IsFaultCaused-fault g f page old new old_ledger new_ledger fault end.start.begun.its_page
      (record { in_range = in_range; tree = tree; whole = whole; is_true = keeps_of_end.cached_true is_true })
      end.its_fault

  pub dirty_of_end : fault ≡ Fault.Cut → old.device.live ≡ true → 1 ≤ dirty_count g new.cache.banks
  dirty_of_end is_cut live =
      cut_dirty (fetch_of end.start.begun).sets end.start.begun.some_set
      (subst (IsPathFault g f page old new old_ledger new_ledger) is_cut end.its_fault).0 live

  -- no fault can come where the path is cached
  pub no_end : {X : Type 0} → IsPathCached g old.cache.banks page → X
  no_end cached = absurd (cached_no_fault g f page old new old_ledger new_ledger fault cached end.its_fault)

  -- the shape and the true lines are those of before
  pub same_of_end : (new.cache.shape ≡ old.cache.shape) × (new_ledger.truth ≡ old_ledger.truth)
  same_of_end =
      elim fault as (λ fault. IsPathFault g f page old new old_ledger new_ledger fault
      → (new.cache.shape ≡ old.cache.shape) × (new_ledger.truth ≡ old_ledger.truth)) [
        | Fault.Cut ↦ λ h. (h.0.cache.shape, ap (λ (ledger : LedgerState). ledger.truth) h.1)
        | Fault.Meta x ↦ λ h. (h.0.read.cache.shape, ap (λ (ledger : LedgerState). ledger.truth) h.1)
        | Fault.Shown ↦ λ h. (h.read.cache.shape, h.shown.truth)
      ] end.its_fault

-- an answer that hands a fault on has what the fault says
pub fault_handed_on : {X : Type 0} (answer : Result X PathFault) (fault : PathFault) (P : PathFault → Type 0)
    → IsErrAnd answer (λ e. e ≡ fault) → P fault → IfErr answer P
fault_handed_on (Ok value) fault P is holds = absurd is
fault_handed_on (Err e) fault P is holds = subst P (sym is) holds

pub same_fault : {X : Type 0} (answer : Result X PathFault) (fault other : PathFault)
    → IsErrAnd answer (λ e. e ≡ fault) → answer ≡ Err other → fault ≡ other
same_fault (Ok value) fault other is e = absurd is
same_fault (Err e) fault other is same = cc

-- where the path is cached nothing is read, written or digested
pub IsUndisturbed-cached : (g : Shape) (f : Formulas) (truth : List Line) (page : ℕ) (old new : FetchState)
    → IsPathCached g old.cache.banks page → IsFetchedTo g f truth page (g.levels + 1) old new → IsUndisturbed old new
IsUndisturbed-cached g f truth page old new cached h =
    record {
      lines = h.work.lines ∙ ap (λ entries. redone_told entries old.device.lines) nothing ∙ redone-nil old.device.lines;
      reads = h.work.no_read none;
      writes = h.work.no_write (ap (λ (xs : List (ℕ × Line)). length xs) nothing);
      latches = h.work.latches;
      digests = h.digests ∙ ap (λ times. risen_times times old.digests) none;
    }
  where
    none : absent_count g old.cache.banks page (g.levels + 1) ≡ 0
    none = absent_count-cached g old.cache.banks page (g.levels + 1) cached (omega arith)

    empty : (xs : List (ℕ × Line)) → length xs ≡ 0 → xs ≡ []
    empty [] e = refl
    empty (x ∷ xs) e = absurd (omega (arith, e))

    nothing : spilled g old.cache.banks page (g.levels + 1) ≡ []
    nothing =
        empty (spilled g old.cache.banks page (g.levels + 1))
        (omega (arith, length-spilled g old.cache.banks page (g.levels + 1), none))
