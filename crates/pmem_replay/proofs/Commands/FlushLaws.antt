-- Flushes: the engine's answer is legal and fits, and the world goes on.
use Rattle.std.proofs.Common.{rules}
use Rattle.std.proofs.Common.{ℕ, ◌≡◌, ◌≢◌, true, false, Some, None, Ok, Err, refl, sym, ap, subst, ◌∙◌, arith}
use Rattle.std.proofs.lemmas.Bool.{true≢false}
use Rattle.pmem_base.specs.declared.commands.Command.TheVariants as Do
use Rattle.pmem_base.specs.declared.answers.Answer.TheVariants as Say
use Rattle.bonsai_tree.specs.Positions.{level_of}
use Rattle.board.specs.Device.{Device}
use Rattle.meta_cache.specs.Banks.{set_of, set_index, is_cached_dirty}
use Rattle.meta_cache.proofs.SlotLemmas.{dirty_slot, All-stands}
use Rattle.suite.specs.Setup.{Setup}
use Rattle.pmem_engine.specs.declared.fault.Fault.TheVariants as Fail
use Rattle.pmem_engine.specs.Engine.{EngineState, on_chip}
use Rattle.pmem_engine.specs.Invariants.{IsTrusted, IsTrueSlot}
use Rattle.pmem_engine.specs.Calls.{HasFlushed, IsLeftAlone}
use Rattle.pmem_replay.specs.World.{WorldState, IsOn}
use Rattle.watched_board.specs.declared.taken.Taken.{Taken}
use Rattle.watched_board.specs.Watching.{none_taken, steps_in}
use Rattle.pmem_replay.specs.During.{parts_in}
use Rattle.pmem_replay.specs.EngineCalls.{IsCall}
use Rattle.pmem_replay.proofs.Steps.WorldsAfterCalls.{on_in, cut_at_fuse, within_fuse}
use Rattle.pmem_replay.proofs.Steps.MarklessCalls.{exactly}
use Rattle.pmem_replay.proofs.Steps.FaultCauses.{zero_within}
use Rattle.pmem_replay.specs.Replies.{without_marks}
use Rattle.pmem_replay.proofs.Steps.GoodReplies.{IsGood, good}

-- where nothing was done no step was taken
pub left_alone-steps : (setup : Setup) (old new : WorldState) (engine after : EngineState) (taken : Taken)
    → IsLeftAlone (parts_in old engine none_taken) (parts_in new after taken) → steps_in taken ≡ 0
left_alone-steps setup old new engine after taken alone =
    let writes : taken.writes ≡ 0 = ap (λ (device : Device). device.writes) alone.device in
    let latches : taken.latches ≡ 0 = ap (λ (device : Device). device.latches) alone.device in
    omega (arith, writes, latches)

-- a position that is no longer dirty in its level's bank isn't in any other
pub clean_everywhere : (setup : Setup) (world : WorldState) (after : EngineState) (bank x y : ℕ)
    → IsTrusted setup (on_chip after) world.board.regs world.ledger
    → is_cached_dirty setup.shape after.cache (level_of x) x ≡ false
    → is_cached_dirty setup.shape after.cache bank y ≡ true → y ≢ x
clean_everywhere setup world after bank x y trusted clean dirty same =
    let slot = dirty_slot setup.shape after.cache bank y dirty in
    let its = All-stands (IsTrueSlot setup.shape world.ledger.truth bank (set_index setup.shape y)) (set_of after.cache bank (set_index setup.shape y)) slot.0
    (trusted.cached_true bank (set_index setup.shape y)) slot.1 in
    let level : level_of x ≡ bank = ap level_of (sym same ∙ sym slot.2) ∙ its.its_bank in
    true≢false (sym (subst (λ z. is_cached_dirty setup.shape after.cache bank z ≡ true) same dirty)
    ∙ subst (λ b. is_cached_dirty setup.shape after.cache b x ≡ false) level clean)

module _ (setup : Setup) (old new : WorldState) (engine after : EngineState) (taken : Taken)
    (call : IsCall setup old new engine after taken) where
  on_now : IsOn setup old engine
  on_now = on_in setup old engine call.world call.was_on

  -- ---- nothing is dirty

  module _ (flush : HasFlushed setup (parts_in old engine none_taken) (parts_in new after taken) (Ok None)) where
    pub clean-good : IsGood setup old Do.Flush (without_marks Say.Clean)
    clean-good = search (rules, zero_within)

  -- ---- a block is written back

  module _ (x : ℕ) (flush : HasFlushed setup (parts_in old engine none_taken) (parts_in new after taken) (Ok (Some x))) where
    pub flushed-good : IsGood setup old Do.Flush (without_marks (Say.Flushed x (steps_in taken)))
    flushed-good =
        let answered = flush.answered in
        let done = flush.done in
        let powered = done.gone.power.1 (call.world.board.power ∙ on_now.powered) in
        good refl (within_fuse old.state old.board new.board taken call.world.board call.follows powered) refl tt tt
        refl tt tt (on_now.dirty (level_of x) x answered.0)
        (exactly old.board new.board taken 1 call.follows.few answered.3)

  -- ---- a cut

  module _ (flush : HasFlushed setup (parts_in old engine none_taken) (parts_in new after taken) (Err Fail.Cut)) where
    pub cut-good : IsGood setup old Do.Flush (without_marks (Say.Cut (steps_in taken)))
    cut-good = search (rules, arith, cut_at_fuse, exactly, within_fuse, on_now)
