-- A path is fetched level by level.
use Rattle.std.proofs.Common.{rules, ◌≡◌, ℕ, zero, suc, ◌+◌, ◌<◌, ◌≤◌, true, false, cond, List, [], ◌++◌, length, refl, sym, ap, subst, subst₂, ◌∙◌, inl, inr, arith}
use Rattle.std.proofs.lemmas.Bool.{cases_eq, both_ways}
use Rattle.std.proofs.lemmas.List.{append-nil}
use Rattle.pmem_base.specs.declared.lines.Line.{Line}
use Rattle.pmem_base.specs.Counts.{HasRisen, risen_times}
use Rattle.pmem_base.specs.Shape.{Shape}
use Rattle.pmem_base.specs.Layout.{pages, meta_line}
use Rattle.pmem_base.specs.Lines.{line_at}
use Rattle.suite.specs.Formulas.{Formulas}
use Rattle.board.specs.Counts.{RisesBy}
use Rattle.board.specs.Device.{Device}
use Rattle.board.specs.Steps.{Tells, WasCut}
use Rattle.board.proofs.CountLemmas.{HasRisen-once}
use Rattle.seal_ledger.specs.Ledger.{LedgerState}
use Rattle.meta_cache.specs.Banks.{Banks, set_of, set_index, is_cached}
use Rattle.meta_cache.specs.Sets.{holds}
use Rattle.meta_cache.specs.State.{CacheState}
use Rattle.meta_path.specs.declared.faults.PathFault.{PathFault}
use Rattle.meta_path.specs.declared.faults.PathFault.TheVariants as Fault
use Rattle.meta_path.specs.Blocks.{path_at, slots_at, IsPathCached, AreInTheirBanks}
use Rattle.meta_path.specs.Work.{HasWorked, FetchState}
use Rattle.meta_path.specs.Levels.{expected_digest, HasParent, room_write, level_write, level_reads, fetched_set, HasDirtyVictim, IsLevelFetched, IsLevelRead}
use Rattle.meta_path.specs.Fetching.{absent_count, spilled, HasFetchedSets, AreLevelsChecked, IsFetchedTo, IsReadAt, IsCutAt, IsPathFault}
use Rattle.pmem_base.proofs.CountLemmas.{risen_times-add}
use Rattle.meta_path.proofs.WorkLemmas.{not_steady, HasWorked-then}
use Rattle.meta_path.proofs.PathFacts.{path_at-below, path_at-parent, Tells-before, AreSets, spilled-apart, holds-fetched_set}

-- what a fetch of a page's path rests on
pub record IsFetchOf (g : Shape) (page : ℕ) (banks : Banks) : Type 0 where
  pub its_page : page < pages g
  pub few : g.levels ≤ 6
  pub sets : AreSets g banks
  pub its_banks : AreInTheirBanks g banks

-- ---- banks that aren't reached yet

pub same_later : (g : Shape) (truth : List Line) (page n : ℕ) (old new : CacheState) (bank set : ℕ)
    → HasFetchedSets g truth page n old new → n ≤ bank → set_of new.banks bank set ≡ set_of old.banks bank set
same_later g truth page n old new bank set fetched later = fetched.elsewhere bank set (λ e. omega (arith, e.0))

-- what fetching a position does follows from its set
level_reads-same : (g : Shape) (a b : Banks) (bank x : ℕ) → slots_at g a bank x ≡ slots_at g b bank x
    → level_reads g a bank x ≡ level_reads g b bank x
level_reads-same g a b bank x same = ap (λ slots. cond (holds slots x) 0 1) same

level_write-same : (g : Shape) (a b : Banks) (bank x : ℕ) → slots_at g a bank x ≡ slots_at g b bank x
    → level_write g a bank x ≡ level_write g b bank x
level_write-same g a b bank x same = ap (λ slots. cond (holds slots x) [] (room_write g slots)) same

fetched_set-same : (g : Shape) (truth : List Line) (a b : Banks) (bank x : ℕ) → slots_at g a bank x ≡ slots_at g b bank x
    → fetched_set g truth a bank x ≡ fetched_set g truth b bank x
fetched_set-same g truth a b bank x same = search rules

is_cached-same : (g : Shape) (a b : Banks) (bank x : ℕ) → slots_at g a bank x ≡ slots_at g b bank x
    → is_cached g a bank x ≡ is_cached g b bank x
is_cached-same g a b bank x same = ap (λ slots. holds slots x) same

-- the digest that a line has to have follows from the bank above
expected_digest-same : (g : Shape) (root : List ℕ) (a b : Banks) (bank x : ℕ)
    → ((above set : ℕ) → above < bank → set_of a above set ≡ set_of b above set)
    → expected_digest g root a bank x ≡ expected_digest g root b bank x
expected_digest-same g root a b zero x same = refl
expected_digest-same g root a b (suc above) x same = search rules

-- ---- one level more

module _ {g : Shape} {f : Formulas} {truth : List Line} {page n : ℕ} {old mid : FetchState}
    (before : IsFetchedTo g f truth page n old mid) where
  -- the level's set is as it was
  same_here : slots_at g mid.cache.banks n (path_at g page n) ≡ slots_at g old.cache.banks n (path_at g page n)
  same_here = same_later g truth page n old.cache mid.cache n (set_index g (path_at g page n)) before.cache (omega arith)

module _ {g : Shape} {f : Formulas} {truth : List Line} {page n : ℕ} {old mid new : FetchState}
    (before : IsFetchedTo g f truth page n old mid) (level : IsLevelFetched g f truth n (path_at g page n) mid new) where
  sets_more : HasFetchedSets g truth page (suc n) old.cache new.cache
  sets_more =
      record {
        shape = level.cache.shape ∙ before.cache.shape;
        fetched = λ j h.
            elim (cases_eq j n) [
              | inl same ↦ search (rules, fetched_set-same, same_here)
              | inr other ↦
                  level.cache.elsewhere j (set_index g (path_at g page j)) (λ e. other e.0) ∙ before.cache.fetched j (omega arith)
            ];
        elsewhere =
            λ bank set apart.
            level.cache.elsewhere bank set
            (λ e. apart (omega (arith, e.0), e.1 ∙ ap (λ k. set_index g (path_at g page k)) (sym e.0)))
            ∙ before.cache.elsewhere bank set (λ e. apart (omega (arith, e.0), e.1));
      }

  checked_more : IsFetchOf g page old.cache.banks → n ≤ g.levels → AreLevelsChecked g f truth page (suc n) old new
  checked_more of le =
      record {
        told = λ j h absent.
            elim (cases_eq j n) [
              | inl same ↦
                  subst (λ k. Tells old.device.lines (meta_line g (path_at g page k)) (line_at truth (path_at g page k))) (sym same)
                  (Tells-before (spilled g old.cache.banks page n) old.device.lines (meta_line g (path_at g page n))
                  (line_at truth (path_at g page n))
                  (spilled-apart g old.cache.banks page n of.its_page of.few le of.sets of.its_banks n (omega arith))
                  (subst (λ lines. Tells lines (meta_line g (path_at g page n)) (line_at truth (path_at g page n))) before.work.lines
                  (level.told (still (ap (λ k. is_cached g old.cache.banks k (path_at g page k)) (sym same) ∙ absent)))))
              | inr other ↦ before.levels.told j (omega arith) absent
            ];
        checked = λ j h absent.
            elim (cases_eq j n) [
              | inl same ↦ search rules
              | inr other ↦ before.levels.checked j (omega arith) absent ∙ expected_later j (omega arith)
            ];
      }
    where
      still : is_cached g old.cache.banks n (path_at g page n) ≡ false → is_cached g mid.cache.banks n (path_at g page n) ≡ false
      still absent = is_cached-same g mid.cache.banks old.cache.banks n (path_at g page n) (same_here before) ∙ absent

      -- the digests of the levels so far come from banks above
      expected_later : (j : ℕ) → j ≤ n
          → expected_digest g old.device.regs.root mid.cache.banks j (path_at g page j)
          ≡ expected_digest g old.device.regs.root new.cache.banks j (path_at g page j)
      expected_later j low =
          expected_digest-same g old.device.regs.root mid.cache.banks new.cache.banks j (path_at g page j)
          (λ above set h. sym (level.cache.elsewhere above set (λ e. omega (arith, e.0, low, h))))

  -- the first n levels and the next one
  pub IsFetchedTo-more : IsFetchOf g page old.cache.banks → n ≤ g.levels → IsFetchedTo g f truth page (suc n) old new
  IsFetchedTo-more of le =
      let same = same_here before in
      record {
        cache = sets_more;
        levels = checked_more of le;
        work =
            subst₂ (λ times entries. HasWorked (absent_count g old.cache.banks page n + times)
            (spilled g old.cache.banks page n ++ entries) old.device new.device) (level_reads-same g mid.cache.banks old.cache.banks n _ same)
            (level_write-same g mid.cache.banks old.cache.banks n _ same) (HasWorked-then _ _ _ _ old.device mid.device new.device
            before.work level.work);
        digests =
            level.digests
            ∙ ap (λ times. risen_times times mid.digests) (level_reads-same g mid.cache.banks old.cache.banks n _ same)
            ∙ ap (risen_times _) before.digests
            ∙ sym (risen_times-add _ _ old.digests);
      }

-- ---- a level that isn't fetched

-- the first n levels, and a line read at the next one
pub read_at : (g : Shape) (f : Formulas) (truth : List Line) (page n : ℕ) (line : Line) (old mid new : FetchState)
    → n ≤ g.levels → IsFetchedTo g f truth page n old mid → IsLevelRead g n (path_at g page n) line mid new
    → IsReadAt g f truth page n line old new
read_at g f truth page n line old mid new le before level = search rules

-- or a cut came at the next one, which isn't cached: before its read, or once it was read
pub cut_at : {g : Shape} {truth : List Line} {n : ℕ} (f : Formulas) (page : ℕ) (old mid : FetchState) (new : Device) (tries : ℕ) (between : Device)
    → n ≤ g.levels → IsFetchedTo g f truth page n old mid → is_cached g mid.cache.banks n (path_at g page n) ≡ false → tries ≤ 1
    → HasWorked tries [] mid.device between → WasCut between new
    → (mid.device.live ≡ true → HasDirtyVictim g (slots_at g mid.cache.banks n (path_at g page n)))
    → IsCutAt g f truth page old (record { cache = mid.cache; device = new; digests = risen_times tries mid.digests })
cut_at {g = g} {n = n} f page old mid new tries between le before absent few read cut victim =
    let same = same_here before in
    let work : HasWorked (absent_count g old.cache.banks page n + tries) (spilled g old.cache.banks page n) old.device between =
    subst (λ entries. HasWorked (absent_count g old.cache.banks page n + tries) entries old.device between) (append-nil _)
    (HasWorked-then _ tries _ [] old.device mid.device between before.work read) in
    record {
      n = n;
      on_path = le;
      absent = sym (is_cached-same g mid.cache.banks old.cache.banks n _ same) ∙ absent;
      cache = before.cache;
      levels = record { told = before.levels.told; checked = before.levels.checked };
      tries = absent_count g old.cache.banks page n + tries;
      at_least = omega arith;
      at_most = omega (arith, few);
      reads = subst (RisesBy _ old.device.reads) (sym cut.reads) work.reads;
      digests = ap (risen_times tries) before.digests ∙ sym (risen_times-add _ tries old.digests);
      lines = cut.lines ∙ work.lines;
      writes = subst (RisesBy (length _) old.device.writes) (sym cut.writes) work.writes;
      unsteady = not_steady work.steady cut.unsteady;
      off = cut.off;
      never_falls = omega (arith, cut.cuts.never_falls, work.cuts);
      rose = subst (λ count. HasRisen count new.cuts) work.cuts (HasRisen-once cut.cuts);
      size = cut.size ∙ work.size;
      regs = cut.regs ∙ work.regs;
      latches = cut.latches ∙ work.latches;
      victim = λ live. subst (HasDirtyVictim g) same (victim (before.work.live live));
    }

-- ---- what the next level rests on

-- a fetched position is cached
pub cached_at : (g : Shape) (truth : List Line) (page n : ℕ) (old new : CacheState) (j : ℕ)
    → HasFetchedSets g truth page n old new → j < n → is_cached g new.banks j (path_at g page j) ≡ true
cached_at g truth page n old new j fetched h = search (rules, holds-fetched_set)

pub HasParent-at : (g : Shape) (truth : List Line) (page n : ℕ) (old new : CacheState) → page < pages g → n ≤ g.levels
    → HasFetchedSets g truth page n old new → HasParent g new.banks n (path_at g page n)
HasParent-at g truth page zero old new inside le fetched = tt
HasParent-at g truth page (suc above) old new inside le fetched = (
  path_at-below g page above inside le,
  ap (is_cached g new.banks above) (path_at-parent g page above le)
      ∙ cached_at g truth page (suc above) old new above fetched (omega arith),
)

pub IsPathCached-fetched : (g : Shape) (truth : List Line) (page : ℕ) (old new : CacheState)
    → HasFetchedSets g truth page (g.levels + 1) old new → IsPathCached g new.banks page
IsPathCached-fetched g truth page old new fetched =
    record { each = λ j le. cached_at g truth page (g.levels + 1) old new j fetched (omega arith) }

-- ---- where the path is cached

-- a fault names a level that isn't
pub cached_no_fault : (g : Shape) (f : Formulas) (page : ℕ) (old new : FetchState) (old_ledger new_ledger : LedgerState)
    (fault : PathFault) → IsPathCached g old.cache.banks page
    → IsPathFault g f page old new old_ledger new_ledger fault → ⊥
cached_no_fault g f page old new old_ledger new_ledger Fault.Cut cached h = search (rules, both_ways)
cached_no_fault g f page old new old_ledger new_ledger (Fault.Meta x) cached h = search (rules, both_ways)
cached_no_fault g f page old new old_ledger new_ledger Fault.Shown cached h = search (rules, both_ways)
