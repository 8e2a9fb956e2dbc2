-- One commit, from its device step and its truth step: what is stored and held over the lines that it comes to, and
-- the device mendable, durable while the group is armed, the engine sound and trusted once it is emptied.
use Rattle.std.proofs.Common.{rules, ℕ, ◌≡◌, ◌<◌, ◌++◌, Bool, true, false, List, [], ◌∷◌, IsTrue, sym, ap, subst, ◌∙◌, ◌⊎◌, inl, inr}
use Rattle.std.specs.List.{All}
use Rattle.std.proofs.lemmas.Bool.{cases_Bool, false≢true}
use Rattle.pmem_base.specs.declared.lines.Line.{Line}
use Rattle.pmem_base.specs.declared.registers.Regs.{Regs}
use Rattle.pmem_base.specs.declared.answers.Mark.{Mark}
use Rattle.pmem_base.specs.Shape.{is_lazy, counter_window}
use Rattle.pmem_base.specs.Layout.{data_lines, device_lines, meta_lines, pages}
use Rattle.pmem_base.specs.Lines.{line_at}
use Rattle.split_counters.specs.Blocks.{unpacked, IsStoredBlock}
use Rattle.bonsai_tree.specs.Positions.{level_of, counter_position}
use Rattle.bonsai_tree.proofs.Levels.{counter_position-lt}
use Rattle.board.specs.Device.{AreLinesOf}
use Rattle.commit_regs.specs.Groups.{redone}
use Rattle.seal_ledger.specs.Ledger.{LedgerState}
use Rattle.shadow_tables.specs.Entries.{is_doubted_in, shadow_of}
use Rattle.meta_cache.specs.Banks.{set_of}
use Rattle.suite.specs.Setup.{Setup}
use Rattle.pmem_engine.specs.Truth.{true_block}
use Rattle.pmem_engine.specs.Engine.{ChipState}
use Rattle.pmem_engine.specs.Invariants.{IsAnchored, IsTrusted, IsSealStored, IsCounterStored, stored_meta, is_doubted, IsMendable, IsDurable, IsDirtyNamed, IsSound}
use Rattle.pmem_engine.specs.Steps.{IsPlaceKept}
use Rattle.pmem_engine.specs.Recached.{IsTrueOrDirty}
use Rattle.pmem_engine.specs.Outcomes.{is_sealed_by}
use Rattle.pmem_engine.proofs.Laws.DeviceRegions.{IsSealStored-kept}
use Rattle.pmem_engine.proofs.Laws.CounterBlocks.{IsCounterStored-true}
use Rattle.pmem_engine.proofs.Laws.MendableLaws.{IsMendable-no_group, IsDurable-no_group}
use Rattle.pmem_engine.proofs.Laws.CacheLaws.{IsTrueOrDirty-sound}
use Rattle.pmem_engine.proofs.Laws.NameLaws.{dirty_is_named}
use Rattle.pmem_engine.proofs.Laws.PlainLines.{last_seal-unsealed}
use Rattle.pmem_engine.proofs.Laws.DeviceSteps.{IsDeviceStep}
use Rattle.pmem_engine.proofs.Laws.TruthSteps.{IsDirtyIn, IsStill, IsTruthStep}

-- the engine is trusted, whatever the device holds
pub trusted_after : (setup : Setup) (mark : Mark) (written : ℕ → Bool) (entry : ℕ → Line) (old new : ChipState) (regs : Regs)
    (before after : LedgerState) → IsTruthStep setup mark written entry (counter_window setup.shape regs.loss) old new before.truth after.truth
    → (final : Regs) → IsTrusted setup old regs before → IsAnchored setup final after → final.group.items ≡ []
    → IsTrusted setup new final after
trusted_after setup mark written entry old new regs before after truth final trusted anchored none =
    record {
      its_shape = truth.shape ∙ trusted.its_shape;
      anchored = anchored;
      no_group = none;
      cached_true = truth.true_slots;
    }

-- what one commit keeps over lines and what they come to
pub record KeepsOver (setup : Setup) (mark : Mark) (loss : ℕ) (old new : ChipState) (before after : LedgerState)
    (lines lines' : List Line) : Type 0 where
  -- each seal that was stored, and the new one
  pub seals :
      (a : ℕ) → a < data_lines setup.shape
      → IsSealStored setup.shape lines before.marks a ⊎ IsTrue (is_sealed_by (mark ∷ []) a)
      → IsSealStored setup.shape lines' after.marks a
  pub places :
      (a : ℕ) → a < data_lines setup.shape → is_sealed_by (mark ∷ []) a ≡ false → IsPlaceKept setup.shape lines lines' a
  -- each metadata line that was true or dirty, and each that was changed
  pub held :
      (x : ℕ) → x < meta_lines setup.shape → IsTrueOrDirty setup.shape old.cache lines before.truth x
      → IsTrueOrDirty setup.shape new.cache lines' after.truth x
  pub changed :
      (x : ℕ) → x < meta_lines setup.shape
      → (stored_meta setup.shape lines' x ≡ stored_meta setup.shape lines x)
      ⊎ IsTrueOrDirty setup.shape new.cache lines' after.truth x
  -- what is stored of each counter block
  pub counters :
      (other : ℕ) → other < pages setup.shape → IsCounterStored setup lines loss before.truth other
      → IsCounterStored setup lines' loss after.truth other
  -- each line of a strict level that was true
  pub strict :
      (x : ℕ) → x < meta_lines setup.shape → is_lazy setup.shape (level_of x) ≡ false
      → stored_meta setup.shape lines x ≡ line_at before.truth x → stored_meta setup.shape lines' x ≡ line_at after.truth x

module _ (setup : Setup) (mark : Mark) (written : ℕ → Bool) (entry : ℕ → Line) (old new : ChipState) (regs : Regs)
    (before after : LedgerState) (lines lines' : List Line)
    (device : IsDeviceStep setup.shape mark before.marks written entry lines lines')
    (truth : IsTruthStep setup mark written entry (counter_window setup.shape regs.loss) old new before.truth after.truth)
    (marks : after.marks ≡ before.marks ++ mark ∷ []) where
  -- each seal that was stored, and the new one
  seals_kept : (a : ℕ) → a < data_lines setup.shape
      → IsSealStored setup.shape lines before.marks a ⊎ IsTrue (is_sealed_by (mark ∷ []) a)
      → IsSealStored setup.shape lines' after.marks a
  seals_kept a within held = search (rules, cases_Bool, false≢true, IsSealStored-kept, last_seal-unsealed)

  -- each line that is written is the true one
  written_true : (x : ℕ) → x < meta_lines setup.shape → written x ≡ true → stored_meta setup.shape lines' x ≡ line_at after.truth x
  written_true x within is = device.entries x is ∙ sym (truth.entries x within is)

  -- each metadata line is true or dirty
  true_or_dirty : (x : ℕ) → x < meta_lines setup.shape → IsTrueOrDirty setup.shape old.cache lines before.truth x
      → IsTrueOrDirty setup.shape new.cache lines' after.truth x
  true_or_dirty x within was = search (rules, cases_Bool, IsDirtyIn, IsStill, written_true)

  -- one that was changed is
  changed_true : (x : ℕ) → x < meta_lines setup.shape → (stored_meta setup.shape lines' x ≡ stored_meta setup.shape lines x)
      ⊎ IsTrueOrDirty setup.shape new.cache lines' after.truth x
  changed_true x within = search (rules, cases_Bool, written_true)

  -- one of a strict level that was true is
  strict_true : (x : ℕ) → x < meta_lines setup.shape → is_lazy setup.shape (level_of x) ≡ false
      → stored_meta setup.shape lines x ≡ line_at before.truth x → stored_meta setup.shape lines' x ≡ line_at after.truth x
  strict_true x within strict was =
      elim (cases_Bool (written x)) [
        | inl is ↦ written_true x within is
        | inr un ↦ device.others x un ∙ was ∙ sym (truth.strict x within strict un)
      ]

  -- what is stored of each counter block
  counters_kept : (other : ℕ) → other < pages setup.shape → IsCounterStored setup lines regs.loss before.truth other
      → IsCounterStored setup lines' regs.loss after.truth other
  counters_kept other within was =
      elim (cases_Bool (written (counter_position setup.shape other))) [
        | inl is ↦
            IsCounterStored-true setup lines' regs.loss after.truth other
            (written_true (counter_position setup.shape other) (counter_position-lt setup.shape other within) is)
        | inr un ↦
            subst (λ line. IsStoredBlock (counter_window setup.shape regs.loss) (unpacked line) (true_block setup.shape after.truth other))
            (sym (device.others (counter_position setup.shape other) un))
            (truth.counters other un (unpacked (stored_meta setup.shape lines (counter_position setup.shape other))) was)
      ]

  pub kept_over : KeepsOver setup mark regs.loss old new before after lines lines'
  kept_over = search (rules, seals_kept, true_or_dirty, changed_true, counters_kept, strict_true)

  module _ (sound : IsSound setup old lines regs before) where
    mirror_now : new.mirror ≡ shadow_of setup.shape lines'
    mirror_now = truth.mirror ∙ sound.mirror_true ∙ sym device.shadow

    dirty_named : (bank set : ℕ) → All (IsDirtyNamed setup.shape new.mirror bank set) (set_of new.cache bank set)
    dirty_named =
        subst (λ mirror. (bank set : ℕ) → All (IsDirtyNamed setup.shape mirror bank set) (set_of new.cache bank set))
        (sym truth.mirror) (truth.named sound.dirty_named)

    true_or_doubted : (x : ℕ) → x < meta_lines setup.shape
        → (stored_meta setup.shape lines' x ≡ line_at after.truth x) ⊎ IsTrue (is_doubted setup.shape lines' x)
    true_or_doubted x within = by (cases_Bool (written x))
      where
        by : (written x ≡ true) ⊎ (written x ≡ false)
            → (stored_meta setup.shape lines' x ≡ line_at after.truth x) ⊎ IsTrue (is_doubted setup.shape lines' x)
        by (inl is) = inl (written_true x within is)
        by (inr un) =
            other (truth.others x within un)
            ((IsMendable-no_group setup lines regs before sound.trusted.no_group sound.durable).true_or_doubted x within)
          where
            other : IsDirtyIn setup.shape new.cache x ⊎ IsStill setup.shape old.cache new.cache before.truth after.truth x
                → (stored_meta setup.shape lines x ≡ line_at before.truth x) ⊎ IsTrue (is_doubted setup.shape lines x)
                → (stored_meta setup.shape lines' x ≡ line_at after.truth x) ⊎ IsTrue (is_doubted setup.shape lines' x)
            other (inl dirty) was =
                inr
                (dirty_is_named setup.shape new.cache lines' x dirty.0
                (subst (λ mirror. (bank set : ℕ) → All (IsDirtyNamed setup.shape mirror bank set) (set_of new.cache bank set))
                mirror_now dirty_named)
                dirty.1)
            other (inr still) (inl stored) = inl (device.others x un ∙ stored ∙ sym still.0)
            other (inr still) (inr named) =
                inr (ap (λ shadow. is_doubted_in setup.shape shadow (level_of x) x) device.shadow ∙ named)

    -- recovery can rest on the lines that the group comes to
    mendable : (final : Regs) → final.loss ≡ regs.loss → IsAnchored setup final after → IsMendable setup lines' final after
    mendable final loss anchored = search (rules, IsMendable-no_group, seals_kept, counters_kept, true_or_doubted)

    -- the group is armed
    pub durable_while_armed : (group : List (ℕ × Line)) (armed : Regs) → lines' ≡ redone group lines → armed.group.items ≡ group
        → armed.loss ≡ regs.loss → IsAnchored setup armed after → IsDurable setup lines armed after
    durable_while_armed group armed comes arming loss anchored = search (rules, mendable)

    -- it is written whole, and emptied
    pub sound_after : (final : Regs) → AreLinesOf (device_lines setup.shape) lines' → final.group.items ≡ []
        → final.loss ≡ regs.loss → IsAnchored setup final after → IsSound setup new lines' final after
    sound_after final whole none loss anchored = search (rules, false≢true, IsDurable-no_group, IsTrueOrDirty-sound, trusted_after, true_or_dirty, mirror_now, dirty_named, mendable)
