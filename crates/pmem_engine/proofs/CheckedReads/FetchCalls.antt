-- A fetch of the engine, from what the fetch of its path ensures.
use Rattle.std.proofs.Common.{rules, ℕ, ◌≡◌, ◌<◌, ◌≤◌, ◌+◌, true, Ok, Err, sym, ap, subst, subst₂, ◌∙◌}
use Rattle.std.specs.Prelude.{is_some}
use Rattle.pmem_base.specs.Layout as layout
use Rattle.board.specs.Device.{Device, IsDevice}
use Rattle.seal_ledger.specs.Ledger.{LedgerState}
use Rattle.pmem_base.specs.Shape.{Shape}
use Rattle.pmem_base.specs.Counts.{risen_times}
use Rattle.meta_cache.specs.State.{CacheState, IsCacheOf}
use Rattle.meta_path.specs.declared.faults.PathFault.{PathFault}
use Rattle.meta_path.specs.declared.faults.PathFault.TheVariants as Path
use Rattle.meta_path.specs.Blocks.{IsPathCached, AreInTheirBanks, AreCachedTrue, dirty_count}
use Rattle.meta_path.specs.Work.{FetchState}
use Rattle.meta_path.specs.Fetching.{IsFetchedTo, IsPathFault}
use Rattle.meta_path.specs.Keeping.{KeepsBlocks, IsTrueTree, IsFaultCaused}
use Rattle.suite.specs.Setup.{Setup}
use Rattle.pmem_engine.specs.Engine.{ChipState}
use Rattle.pmem_engine.specs.Outcomes.{NeverFalls}
use Rattle.pmem_engine.specs.Parts.{parts_with}
use Rattle.pmem_engine.specs.Inner.{HasFetched}
use Rattle.commit_regs.proofs.GroupLemmas.{told_redone}
use Rattle.pmem_engine.proofs.CheckedReads.FetchEnds.{IsFetchOver}
use Rattle.pmem_engine.proofs.Seals.NextPaths.{times_never_fall}
use Rattle.pmem_engine.proofs.CheckedReads.FetchAnswers.{fetched_ok, fetched_cut, fetched_meta, fetched_shown}

-- a cache of this shape
its_state : (g : Shape) (cache : CacheState) → cache.shape ≡ g → cache ≡ record { shape = g; banks = cache.banks }
its_state g cache same = ap (λ (shape : Shape). record { shape = shape; banks = cache.banks }) same

-- what is said of two caches of this shape
pub of_states : (g : Shape) (old new : CacheState) (P : CacheState → CacheState → Type 0) → old.shape ≡ g → new.shape ≡ g
    → P old new → P (record { shape = g; banks = old.banks }) (record { shape = g; banks = new.banks })
of_states g old new P same same_now it = subst₂ P (its_state g old same) (its_state g new same_now) it

module _ (setup : Setup) (page : ℕ) (old new : ChipState) (ledger noted : LedgerState) (before after : Device)
    (tags digests tags_now digests_now : ℕ)
    (its_page : page < layout.pages setup.shape) (few_levels : setup.shape.levels ≤ 6)
    (its_size : before.size ≡ layout.device_lines setup.shape)
    (shape : new.shape ≡ old.shape) (mirror : new.mirror ≡ old.mirror)
    (same_tags : tags_now ≡ tags) (whole : IsDevice after)
    (keeps : KeepsBlocks setup.shape ledger.truth page old.cache new.cache before after)
    (in_banks : AreInTheirBanks setup.shape old.cache) (form : IsCacheOf setup.shape old.cache) where
  abbrev state_before : FetchState
  state_before = record { cache = record { shape = setup.shape; banks = old.cache }; device = before; digests = digests }

  abbrev state_after : FetchState
  state_after = record { cache = record { shape = setup.shape; banks = new.cache }; device = after; digests = digests_now }

  told : is_some after.lines ≡ is_some before.lines
  told = ap is_some keeps.lines ∙ told_redone keeps.entries before.lines

  rising : (times : ℕ) → digests_now ≡ risen_times times digests → NeverFalls digests digests_now
  rising times it = subst (λ n. NeverFalls digests n) (sym it) (times_never_fall times digests)

  -- with the ledger as it was
  over : noted ≡ ledger → before.reads ≤ after.reads → NeverFalls digests digests_now
      → IsFetchOver before after digests digests_now ledger noted
  over same reads digests_rise = search rules

  -- the path was fetched
  pub fetch_ok : IsPathCached setup.shape new.cache page → noted ≡ ledger
      → IsFetchedTo setup.shape setup.formulas ledger.truth page (setup.shape.levels + 1) state_before state_after
      → HasFetched setup page (parts_with old before ledger tags digests) (parts_with new after noted tags_now digests_now) (Ok tt)
  fetch_ok cached same fetched = search (rules, fetched_ok, rising, over)

  -- it wasn't
  pub fetch_err : (fault : PathFault) → (IsPathCached setup.shape old.cache page → ⊥)
      → IsPathFault setup.shape setup.formulas page state_before state_after ledger noted fault
      → (IsTrueTree setup.shape setup.formulas ledger.truth before.regs.root → AreCachedTrue old.cache ledger.truth
      → IsFaultCaused setup.shape setup.formulas after.lines ledger noted fault)
      → (fault ≡ Path.Cut → before.live ≡ true → 1 ≤ dirty_count setup.shape new.cache)
      → HasFetched setup page (parts_with old before ledger tags digests) (parts_with new after noted tags_now digests_now)
      (Err fault)
  fetch_err Path.Cut uncached it cause left = search (rules, fetched_cut, over, rising)
  fetch_err (Path.Meta x) uncached it cause left = search (rules, fetched_meta, over, rising)
  fetch_err Path.Shown uncached it cause left = search (rules, fetched_shown, told, rising)
