-- The stop-loss number: the engine's answer is legal and fits, and the world goes on.
use Rattle.std.proofs.Common.{ℕ, mul-le-mul_left, mul-le-mul_right, ◌≡◌, ◌≢◌, ◌<◌, ◌≤◌, ◌+◌, Bool, true, false, [], ◌∷◌, Ok, Err, refl, sym, subst, ◌∙◌, arith, cond}
use Rattle.std.specs.Prelude.{MatchBool, nat_lt, ◌==◌}
use Rattle.std.proofs.lemmas.Bool.{ne_eqb, lt-ltb, le-leb}
use Rattle.pmem_base.specs.Layout as layout
use Rattle.pmem_base.specs.Shape.{Shape, IsShape}
use Rattle.pmem_base.specs.declared.commands.Command.TheVariants as Do
use Rattle.pmem_base.specs.declared.answers.Answer.TheVariants as Say
use Rattle.meta_path.specs.Blocks.{bank_dirty_count}
use Rattle.suite.specs.Setup.{Setup}
use Rattle.plain_model.specs.Bounds.{dirty_bound, dirty_blocks, AreAllWithin}
use Rattle.pmem_engine.specs.declared.fault.Fault.TheVariants as Fail
use Rattle.pmem_engine.specs.Engine.{EngineState}
use Rattle.pmem_engine.specs.Outcomes.{TakesFewer}
use Rattle.pmem_engine.specs.Calls.{HasSetLoss}
use Rattle.pmem_replay.specs.World.{WorldState, IsOn}
use Rattle.watched_board.specs.declared.taken.Taken.{Taken}
use Rattle.watched_board.specs.Watching.{none_taken, device_during, steps_in}
use Rattle.watched_board.proofs.StepLaws.{fewer}
use Rattle.pmem_replay.specs.During.{parts_in}
use Rattle.pmem_replay.specs.EngineCalls.{IsCall}
use Rattle.pmem_replay.proofs.Steps.WorldsAfterCalls.{on_in, cut_at_fuse, within_fuse}
use Rattle.pmem_replay.proofs.Marks.DirtyBlocks.{dirty_blocks-le, dirty_slots-le, dirty_counters-le}
use Rattle.pmem_replay.proofs.Steps.MarklessCalls.{exactly, accounted_in}
use Rattle.pmem_replay.specs.Replies.{without_marks}
use Rattle.pmem_replay.proofs.Steps.GoodReplies.{IsGood, good}

-- the slots of a bank are few
pub few_slots : (g : Shape) → IsShape g → layout.slots g ≤ 512
few_slots g shape =
    omega (arith, mul-le-mul_left g.sets shape.at_most_eight_ways, mul-le-mul_right 8 shape.at_most_64_sets)

module _ (setup : Setup) (old new : WorldState) (engine after : EngineState) (taken : Taken)
    (call : IsCall setup old new engine after taken) (n : ℕ) (other : n ≢ old.state.loss) where
  on_now : IsOn setup old engine
  on_now = on_in setup old engine call.world call.was_on

  abbrev dirty_now : ℕ
  dirty_now = bank_dirty_count setup.shape engine.cache setup.shape.levels

  not_same : (n == old.board.regs.loss) ≡ false
  not_same = ne_eqb n old.board.regs.loss (λ same. other (same ∙ call.world.board.loss))

  few_dirty : (dirty_now ≤ dirty_blocks setup.shape) × (dirty_now ≤ dirty_bound setup.shape old.state) × (dirty_now ≤ layout.slots setup.shape)
  few_dirty =
      let accounted = accounted_in setup old engine call.world on_now in (
        dirty_counters-le setup.shape engine.cache old.state accounted,
        dirty_blocks-le setup.shape engine.cache old.state accounted setup.shape.levels,
        dirty_slots-le setup.shape engine.cache old.state accounted setup.shape.levels,
      )

  -- ---- the number is set

  module _ (steps : ℕ) (set : HasSetLoss setup n (parts_in old engine none_taken) (parts_in new after taken) (Ok steps)) where
    its_steps : MatchBool (nat_lt old.state.loss n) (steps_in taken ≡ 1) (steps_in taken ≡ dirty_now + 1)
    its_steps =
        let answered = set.answered in
        let same : steps_in taken ≡ steps = exactly old.board new.board taken steps call.follows.few answered.1 in
        let by_less : MatchBool (nat_lt old.board.regs.loss n) (steps ≡ 1) (steps ≡ dirty_now + 1) =
        subst (λ b. MatchBool b (steps ≡ 0) (MatchBool (nat_lt old.board.regs.loss n) (steps ≡ 1) (steps ≡ dirty_now + 1))) not_same answered.0 in
        subst (λ loss. MatchBool (nat_lt loss n) (steps_in taken ≡ 1) (steps_in taken ≡ dirty_now + 1)) call.world.board.loss
        (subst (λ k. MatchBool (nat_lt old.board.regs.loss n) (k ≡ 1) (k ≡ dirty_now + 1)) (sym same) by_less)

    set_steps : (less : Bool) → MatchBool less (steps_in taken ≡ 1) (steps_in taken ≡ dirty_now + 1)
        → MatchBool less (steps_in taken ≡ 1) ((1 ≤ steps_in taken) × (steps_in taken ≤ dirty_blocks setup.shape + 1))
    set_steps true one = one
    set_steps false many = (omega (arith, many), omega (arith, many, few_dirty.0))

    set_bounds : (less : Bool) → MatchBool less (steps_in taken ≡ 1) (steps_in taken ≡ dirty_now + 1)
        → AreAllWithin false (steps_in taken)
        (cond less (1 ∷ []) ((dirty_blocks setup.shape + 1) ∷ (dirty_bound setup.shape old.state + 1) ∷ []))
    set_bounds true one = (le-leb (steps_in taken) 1 (omega (arith, one)), tt)
    set_bounds false many = (
      le-leb (steps_in taken) (dirty_blocks setup.shape + 1) (omega (arith, many, few_dirty.0)),
      (le-leb (steps_in taken) (dirty_bound setup.shape old.state + 1) (omega (arith, many, few_dirty.1)), tt),
    )

    pub set-good : IsGood setup old (Do.Loss n) (without_marks (Say.LossSet (steps_in taken)))
    set-good =
        let gone = set.gone in
        let powered = gone.power.1 (call.world.board.power ∙ on_now.powered) in
        good refl (within_fuse old.state old.board new.board taken call.world.board call.follows powered) refl
        (set_steps (nat_lt old.state.loss n) its_steps) tt refl tt tt tt
        (subst (λ b. AreAllWithin false (steps_in taken)
        (cond b (0 ∷ []) (cond (nat_lt old.state.loss n) (1 ∷ []) ((dirty_blocks setup.shape + 1) ∷ (dirty_bound setup.shape old.state + 1) ∷ []))))
        (sym (ne_eqb n old.state.loss other))
        (set_bounds (nat_lt old.state.loss n) its_steps))

  -- ---- a cut

  module _ (set : HasSetLoss setup n (parts_in old engine none_taken) (parts_in new after taken) (Err Fail.Cut)) where
    cut_steps : MatchBool (nat_lt old.state.loss n) (steps_in taken < 1) (steps_in taken < dirty_now + 1)
    cut_steps =
        let answered = set.answered in
        let by_less =
        subst (λ b. MatchBool b ⊥ (MatchBool (nat_lt old.board.regs.loss n)
        (TakesFewer 1 (device_during old.board none_taken) (device_during new.board taken))
        (TakesFewer (dirty_now + 1) (device_during old.board none_taken) (device_during new.board taken)))) not_same answered.0 in
        subst (λ loss. MatchBool (nat_lt loss n) (steps_in taken < 1) (steps_in taken < dirty_now + 1)) call.world.board.loss
        (go (nat_lt old.board.regs.loss n) by_less)
      where
        go : (less : Bool)
            → MatchBool less (TakesFewer 1 (device_during old.board none_taken) (device_during new.board taken))
            (TakesFewer (dirty_now + 1) (device_during old.board none_taken) (device_during new.board taken))
            → MatchBool less (steps_in taken < 1) (steps_in taken < dirty_now + 1)
        go true it = fewer taken 1 call.follows.few it.sum
        go false it = fewer taken (dirty_now + 1) call.follows.few it.sum

    cut_bounds : (less : Bool) → MatchBool less (steps_in taken < 1) (steps_in taken < dirty_now + 1)
        → AreAllWithin true (steps_in taken)
        (cond less (1 ∷ []) ((dirty_blocks setup.shape + 1) ∷ (dirty_bound setup.shape old.state + 1) ∷ []))
    cut_bounds true one = (lt-ltb (steps_in taken) 1 one, tt)
    cut_bounds false many = (
      lt-ltb (steps_in taken) (dirty_blocks setup.shape + 1) (omega (arith, many, few_dirty.0)),
      (lt-ltb (steps_in taken) (dirty_bound setup.shape old.state + 1) (omega (arith, many, few_dirty.1)), tt),
    )

    few_steps : (less : Bool) → MatchBool less (steps_in taken < 1) (steps_in taken < dirty_now + 1) → steps_in taken < 1000
    few_steps true one = omega (arith, one)
    few_steps false many = omega (arith, many, few_dirty.2, few_slots setup.shape call.world.whole_shape)

    pub cut-good : IsGood setup old (Do.Loss n) (without_marks (Say.Cut (steps_in taken)))
    cut-good =
        let gone = set.gone in
        good refl
        (cut_at_fuse old.state old.board new.board taken call.world.board call.follows gone.power.1
        (omega (arith, few_steps (nat_lt old.state.loss n) cut_steps)))
        refl tt tt refl tt tt tt
        (subst (λ b. AreAllWithin true (steps_in taken)
        (cond b (0 ∷ []) (cond (nat_lt old.state.loss n) (1 ∷ []) ((dirty_blocks setup.shape + 1) ∷ (dirty_bound setup.shape old.state + 1) ∷ []))))
        (sym (ne_eqb n old.state.loss other))
        (cut_bounds (nat_lt old.state.loss n) cut_steps))
