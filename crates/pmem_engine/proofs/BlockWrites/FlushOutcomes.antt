-- A flush: the oldest dirty block is written back, where one is dirty.
use Rattle.std.proofs.Common.{rules, ℕ, ◌≡◌, ◌<◌, ◌≤◌, true, [], Option, Some, None, Result, Ok, Err, refl, sym, ap, subst, subst₂, ◌∙◌, arith}
use Rattle.std.specs.Prelude.{option_map, is_some, IfOk}
use Rattle.std.proofs.lemmas.Bool.{true≢false}
use Rattle.pmem_base.specs.declared.faults.Cut.{Cut}
use Rattle.pmem_base.specs.Layout.{device_lines, meta_lines}
use Rattle.bonsai_tree.specs.Positions.{level_of}
use Rattle.board.proofs.CountLemmas.{RisesBy-once}
use Rattle.board.specs.Device.{Device, IsDevice}
use Rattle.seal_ledger.specs.Ledger.{LedgerState}
use Rattle.suite.specs.Setup.{Setup}
use Rattle.board.specs.Steps.{WasCut}
use Rattle.meta_cache.specs.Banks.{set_index, is_cached, is_cached_dirty}
use Rattle.meta_cache.specs.State.{IsCacheOf, oldest_dirty}
use Rattle.meta_cache.proofs.DirtyLemmas.{oldest_cached, cache_clean}
use Rattle.meta_path.specs.Blocks.{AreInTheirBanks}
use Rattle.meta_path.specs.Storing.{IsCleaned, IsOneWrittenBack}
use Rattle.meta_path.proofs.PathFacts.{its_bank_of}
use Rattle.meta_path.proofs.WriteLemmas.{dirty_at, dirty_on_tree}
use Rattle.pmem_engine.specs.Engine.{ChipState}
use Rattle.pmem_engine.specs.Parts.{Parts, parts_with}
use Rattle.call_effects.specs.Outcomes.{going, cut_short}
use Rattle.pmem_engine.specs.Outcomes.{of_cut, fault_of_cut, outcome_of, OneLossEffect}
use Rattle.pmem_engine.specs.CallFacts.{AnswersFlush, IsFlushWork}
use Rattle.pmem_engine.specs.Calls.{HasFlushed}
use Rattle.call_plan.specs.Plans.{ended}
use Rattle.call_plan.specs.Following.{Follows}
use Rattle.pmem_engine.specs.Plans.{oldest_block_plan}
use Rattle.pmem_engine.proofs.PlannedCalls.CachePlans.{faulted_end}
use Rattle.pmem_engine.specs.Flushed.{cache_of, HasWrittenBack, HasWrittenOldest}
use Rattle.pmem_engine.proofs.CallEnds.ErrorAnswers.{ok_faulted, cut_not_down}
use Rattle.pmem_engine.proofs.CallEnds.StillParts.{nothing_done, no_steps_of, cut_still}
use Rattle.pmem_engine.proofs.CheckedReads.UnsealedLines.{same_never_falls}
use Rattle.pmem_engine.proofs.BlockWrites.WrittenBlocks.{written_back, clean_after, cached_after}

same_engine : (old new : ChipState) → cache_of new ≡ cache_of old → new.mirror ≡ old.mirror → new ≡ old
same_engine old new cache mirror = search rules

module _ (old new : ChipState) (before after : Device) (mirror : new.mirror ≡ old.mirror)
    (form : IsCacheOf old.shape old.cache) (its_banks : AreInTheirBanks old.shape old.cache) where
  -- a dirty block of a bank has its level
  pub dirty_level : (bank x : ℕ) → is_cached_dirty old.shape old.cache bank x ≡ true → level_of x ≡ bank
  dirty_level bank x dirty =
      let at = dirty_at old.shape old.cache bank x dirty in
      ap level_of (sym at.position)
      ∙ (its_bank_of old.shape old.cache bank (set_index old.shape x) at.slot its_banks at.stands).its_bank

  pub written_block : (bank x : ℕ) → bank ≤ old.shape.levels → is_cached_dirty old.shape old.cache bank x ≡ true
      → IsCleaned old.shape bank x (cache_of old) (cache_of new) before after → HasWrittenBack bank x old new before after
  written_block bank x low dirty cleaned = search (rules, dirty_on_tree, dirty_level)

  pub oldest_written : (found : Option (ℕ × ℕ)) → oldest_dirty old.cache ≡ found
      → IsOneWrittenBack old.shape found (cache_of old) (cache_of new) before after
      → HasWrittenOldest old new before after (Ok (option_map (λ f. f.1) found))
  oldest_written None none it = search (rules, same_engine, cache_clean)
  oldest_written (Some found) is it =
      let dirty = oldest_cached old.shape old.cache found form is in
      let block : HasWrittenBack found.0 found.1 old new before after = written_block found.0 found.1 dirty.0 dirty.1 it.0 in
      subst (λ bank. HasWrittenBack bank found.1 old new before after) (sym block.its_level) block

  pub oldest_cut : (found : Option (ℕ × ℕ)) → oldest_dirty old.cache ≡ found → cache_of new ≡ cache_of old
      → WasCut before after → is_some found ≡ true → (cut : Cut) → HasWrittenOldest old new before after (Err cut)
  oldest_cut None is same was_cut some cut = absurd (true≢false (sym some))
  oldest_cut (Some found) is same was_cut some cut = (
    same_engine old new same mirror,
    was_cut,
    (found.0, found.1, (oldest_cached old.shape old.cache found form is).1),
  )

-- ---- the call

module _ (setup : Setup) (old new : ChipState) (before after : Device) (ledger : LedgerState) (tags digests : ℕ)
    (its_shape : old.shape ≡ setup.shape) (its_size : before.size ≡ device_lines setup.shape) (whole : IsDevice before) where
  abbrev start : Parts
  start = parts_with old before ledger tags digests

  abbrev finish : Parts
  finish = parts_with new after ledger tags digests

  flush_done : (answer : Result (Option ℕ) Cut) → HasWrittenOldest old new before after answer
      → OneLossEffect setup (outcome_of (of_cut answer)) [] start finish
  flush_done (Ok None) it =
      subst₂ (λ e d. OneLossEffect setup going [] start (parts_with e d ledger tags digests)) (sym it.0) (sym it.1) (nothing_done setup start)
  flush_done (Ok (Some x)) it = search (rules, written_back)
  flush_done (Err cut) it =
      subst (λ e. OneLossEffect setup cut_short [] start (parts_with e after ledger tags digests)) (sym it.0)
      (cut_still setup old before after ledger tags digests tags digests it.1 (same_never_falls tags tags refl) (same_never_falls digests digests refl))

  flush_cached : (answer : Result (Option ℕ) Cut) → HasWrittenOldest old new before after answer
      → (bank x : ℕ) → is_cached setup.shape new.cache bank x ≡ is_cached setup.shape old.cache bank x
  flush_cached (Ok None) it bank x = ap (λ e. is_cached setup.shape e.cache bank x) it.0
  flush_cached (Ok (Some y)) it bank x =
      subst (λ g. is_cached g new.cache bank x ≡ is_cached g old.cache bank x) its_shape
      (cached_after (level_of y) y old new before after it bank x)
  flush_cached (Err cut) it bank x = ap (λ e. is_cached setup.shape e.cache bank x) it.0

  flush_answer : (answer : Result (Option ℕ) Cut) → HasWrittenOldest old new before after answer
      → AnswersFlush setup.shape start finish (of_cut answer)
  flush_answer (Ok None) it = search rules
  flush_answer (Ok (Some x)) it = (
    ap (λ g. is_cached_dirty g old.cache (level_of x) x) (sym its_shape) ∙ it.was_dirty,
    ap (λ g. is_cached_dirty g new.cache (level_of x) x) (sym its_shape)
        ∙ clean_after (level_of x) x old new before after it,
    subst (λ g. x < meta_lines g) its_shape it.on_tree,
    record {
      writes = it.cleaned.board.writes.never_falls;
      latches = omega (arith, it.cleaned.board.latches);
      sum = λ writes latches. omega (arith, (RisesBy-once it.cleaned.board.writes).exact writes, it.cleaned.board.latches);
    },
  )
  flush_answer (Err cut) it = search (rules, no_steps_of)

  flush_regs : (answer : Result (Option ℕ) Cut) → HasWrittenOldest old new before after answer → after.regs ≡ before.regs
  flush_regs (Ok None) it = ap (λ (d : Device). d.regs) it.1
  flush_regs (Ok (Some x)) it = it.cleaned.board.regs
  flush_regs (Err cut) it = it.1.regs

  flush_work : (answer : Result (Option ℕ) Cut) → HasWrittenOldest old new before after answer
      → IfOk (of_cut answer) (λ found. IsFlushWork setup.shape found start finish)
  flush_work (Ok None) it = ap (λ (e : ChipState). e.cache) it.0
  flush_work (Ok (Some x)) it = search rules
  flush_work (Err fault) it = tt

  pub flushed : (answer : Result (Option ℕ) Cut) → after.reads ≡ before.reads → new.mirror ≡ old.mirror
      → IfOk answer (λ found. found ≡ option_map (λ block. block.1) (oldest_dirty old.cache))
      → Follows (oldest_block_plan old) before after (ended answer new) → HasWrittenOldest old new before after answer
      → HasFlushed setup start finish (of_cut answer)
  flushed answer reads mirror oldest planned it =
      record {
        plan = faulted_end fault_of_cut answer new planned;
        not_down = cut_not_down answer;
        done = flush_done answer it;
        answered = flush_answer answer it;
        oldest = ok_faulted fault_of_cut answer _ oldest;
        mirror = mirror;
        regs = flush_regs answer it;
        work = flush_work answer it;
        same_ledger = refl;
        same_reads = reads;
        tags = refl;
        digests = refl;
        cached = flush_cached answer it;
      }
