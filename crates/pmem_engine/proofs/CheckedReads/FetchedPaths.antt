-- A fetch of a page's path, whatever the device holds: what it keeps of the chip and of the device.
use Rattle.std.proofs.Common.{rules, ℕ, ◌≡◌, ◌≢◌, ◌<◌, ◌⊎◌, inl, inr, true, List, [], length, Option, Some, None, refl, sym, ap, subst, ◌∙◌}
use Rattle.std.specs.Prelude.{IfSome, option_map, is_some}
use Rattle.std.specs.List.{Contains}
use Rattle.std.proofs.lemmas.Bool.{true≢false, false≢true, cases_Bool}
use Rattle.pmem_base.specs.declared.lines.Line.{Line}
use Rattle.pmem_base.specs.Layout as layout
use Rattle.pmem_base.specs.Lines.{line_at}
use Rattle.bonsai_tree.specs.Positions.{level_of}
use Rattle.board.specs.Device.{Device, AreLinesOf}
use Rattle.board.specs.Steps.{Tells}
use Rattle.seal_ledger.specs.Ledger.{LedgerState}
use Rattle.meta_cache.specs.declared.slot.Slot.{Slot}
use Rattle.meta_cache.specs.Banks.{set_of, set_index, is_cached_dirty}
use Rattle.meta_cache.specs.KeptSlots.{IsFromBefore}
use Rattle.meta_cache.proofs.SlotLemmas.{dirty_slot, is_cached_dirty_from}
use Rattle.meta_path.specs.Keeping.{KeepsBlocks, HasGivenWay, WasWrittenBack}
use Rattle.meta_path.specs.Keeping as path
use Rattle.suite.specs.Setup.{Setup}
use Rattle.pmem_engine.specs.Engine.{ChipState}
use Rattle.pmem_engine.specs.Invariants.{IsTrueSlot, IsTrusted, IsSound, stored_meta}
use Rattle.pmem_engine.specs.Recached.{IsRecached, IsNewlyCached, IsTrueOrDirty, WasCleaned}
use Rattle.pmem_engine.specs.Parts.{Parts, parts_with, lines_redone, meta_line_in, HoldsCounters, HoldsMeta}
use Rattle.pmem_engine.specs.Outcomes.{HoldsTruth, KeepsPlaces, KeepsMeta}
use Rattle.commit_regs.proofs.GroupLemmas.{unarmed}
use Rattle.pmem_engine.proofs.Laws.CounterBlocks.{IsCounterStored-same, IsCounterStored-true}
use Rattle.pmem_engine.proofs.Laws.MendableLaws.{IsMendable-no_group, IsDurable-no_group, IsMendingOf, IsMendable-mending, shadow_of-same, IsSealStored-same}
use Rattle.pmem_engine.proofs.Laws.CacheLaws.{IsTrusted-recached, IsSound-recached}

-- what a fetch is seen to keep, over a trusted chip
module _ (setup : Setup) (page : ℕ) (old new : ChipState) (ledger : LedgerState) (before after : Device)
    (shape : new.shape ≡ old.shape) (mirror : new.mirror ≡ old.mirror)
    (trusted : IsTrusted setup old before.regs ledger)
    (keeps : KeepsBlocks setup.shape ledger.truth page old.cache new.cache before after) where
  recached : IsRecached setup old new ledger
  recached =
      record {
        shape = shape;
        mirror = mirror;
        slots = λ bank set slot stands. from bank set slot stands (keeps.slots_now bank set slot stands);
      }
    where
      from : (bank set : ℕ) (slot : Slot) → Contains (set_of new.cache bank set) slot
          → Contains (set_of old.cache bank set) slot ⊎ path.HasComeIn setup.shape ledger.truth page old.cache bank set slot
          → IsFromBefore (set_of old.cache bank set) slot ⊎ IsNewlyCached setup.shape ledger.truth bank set slot
      from bank set slot stands v4 = search rules

  pub trusted_after : after.regs ≡ before.regs → IsTrusted setup new after.regs ledger
  trusted_after same =
      subst (λ regs. IsTrusted setup new regs ledger) (sym same)
      (IsTrusted-recached setup old new before.regs ledger trusted recached)

  -- a slot that stood there has the true line of its position
  pub own_slot : (bank set : ℕ) (slot : Slot) → Contains (set_of old.cache bank set) slot
      → IsTrueSlot setup.shape ledger.truth bank set slot
  own_slot bank set slot was = search rules

  -- ---- the device's lines

  module _ (lines lines_now : List Line) (told : before.lines ≡ Some lines) (told_now : after.lines ≡ Some lines_now) where
    -- a line as it was, or that of a metadata line that is true now
    abbrev IsSameOrTrue : ℕ → Type 0
    IsSameOrTrue at =
        (line_at lines_now at ≡ line_at lines at)
        ⊎ ((x : ℕ) × (x < layout.meta_lines setup.shape) × (at ≡ layout.meta_line setup.shape x)
        × (line_at lines_now at ≡ line_at ledger.truth x))

    tells_now : (at : ℕ) (line : Line) → Tells after.lines at line → line ≡ line_at lines_now at
    tells_now at line it = subst (λ told. Tells told at line) told_now it

    same_or_true : (at : ℕ) → IsSameOrTrue at
    same_or_true at = go (keeps.line_writes at)
      where
        go : (option_map (λ lines. line_at lines at) after.lines ≡ option_map (λ lines. line_at lines at) before.lines)
            ⊎ WasWrittenBack setup.shape old.cache new.cache after.lines at → IsSameOrTrue at
        go v0 = search rules

    pub same_unless_meta : (at : ℕ) → ((x : ℕ) → x < layout.meta_lines setup.shape → at ≢ layout.meta_line setup.shape x)
        → line_at lines_now at ≡ line_at lines at
    same_unless_meta at apart =
        elim (same_or_true at) [
          | inl same ↦ same
          | inr true_now ↦ absurd (apart true_now.0 true_now.1 true_now.2)
        ]

    -- each metadata line is as it was, or true
    pub meta_same_or_true : (x : ℕ) → (stored_meta setup.shape lines_now x ≡ stored_meta setup.shape lines x)
        ⊎ (stored_meta setup.shape lines_now x ≡ line_at ledger.truth x)
    meta_same_or_true x = search (rules, same_or_true)

    mending : length lines ≡ layout.device_lines setup.shape → length lines_now ≡ layout.device_lines setup.shape
        → IsMendingOf setup lines lines_now ledger
    mending count count_now = search (rules, shadow_of-same, same_or_true, same_unless_meta, meta_same_or_true)

    -- ---- sound

    -- a block that was cleaned is true on the device
    cleaned_true : (x : ℕ) → x < layout.meta_lines setup.shape → WasCleaned setup.shape old.cache new.cache x
        → stored_meta setup.shape lines_now x ≡ line_at ledger.truth x
    cleaned_true x within cleaned =
        let was = dirty_slot setup.shape old.cache (level_of x) x cleaned.0 in
        go was.0 was.1 was.2 was.3
        (keeps.slots_before (level_of x) (set_index setup.shape x) was.0
        was.1)
      where
        go : (slot : Slot) → Contains (set_of old.cache (level_of x) (set_index setup.shape x)) slot → slot.position ≡ x
            → slot.dirty ≡ true
            → Contains (set_of new.cache (level_of x) (set_index setup.shape x)) slot
            ⊎ HasGivenWay setup.shape page old.cache new.cache after.lines (level_of x) (set_index setup.shape x) slot
            → stored_meta setup.shape lines_now x ≡ line_at ledger.truth x
        go slot stands here dirty (inl still) =
            absurd (true≢false
            (sym (subst (λ z. is_cached_dirty setup.shape new.cache (level_of x) z ≡ true) here
            (is_cached_dirty_from setup.shape new.cache (level_of x) slot
            (subst (λ z. Contains (set_of new.cache (level_of x) (set_index setup.shape z)) slot) (sym here)
            still) dirty))
            ∙ cleaned.1))
        go slot stands here dirty (inr gone) =
            let own = own_slot (level_of x) (set_index setup.shape x) slot
            stands in
            ap (λ z. stored_meta setup.shape lines_now z) (sym here)
            ∙ sym (tells_now (layout.meta_line setup.shape slot.position) slot.line (gone.written dirty))
            ∙ own.true_line ∙ ap (line_at ledger.truth) here

    -- a metadata line that was true or dirty still is
    true_or_dirty : (x : ℕ) → x < layout.meta_lines setup.shape → IsTrueOrDirty setup.shape old.cache lines ledger.truth x
        → IsTrueOrDirty setup.shape new.cache lines_now ledger.truth x
    true_or_dirty x within was = search (rules, cases_Bool, meta_same_or_true, cleaned_true)

    pub sound_lines : AreLinesOf (layout.device_lines setup.shape) lines_now → after.regs ≡ before.regs
        → IsSound setup old lines before.regs ledger → IsSound setup new lines_now after.regs ledger
    sound_lines whole same sound =
        subst (λ regs. IsSound setup new lines_now regs ledger) (sym same)
        (IsSound-recached setup old new lines_now before.regs ledger mended recached
        (λ x within cleaned. cleaned_true x within cleaned))
      where
        is_mending : IsMendingOf setup lines lines_now ledger
        is_mending = mending sound.durable.device_whole.count whole.count

        mended : IsSound setup old lines_now before.regs ledger
        mended =
            record {
              trusted = trusted;
              durable =
                  IsDurable-no_group setup lines_now before.regs ledger trusted.no_group whole
                  (IsMendable-mending setup lines lines_now before.regs ledger is_mending
                  (IsMendable-no_group setup lines before.regs ledger trusted.no_group sound.durable));
              true_unless_dirty = search (rules, meta_same_or_true);
              dirty_named = sound.dirty_named;
              mirror_true = search (rules, shadow_of-same, same_unless_meta);
            }

  -- ---- place by place

  module _ (tags digests tags_now digests_now : ℕ) (noted : LedgerState)
      (marks : noted.marks ≡ ledger.marks) (truth : noted.truth ≡ ledger.truth)
      (same_regs : after.regs ≡ before.regs) (same_told : is_some after.lines ≡ is_some before.lines) where
    abbrev parts_before : Parts
    parts_before = parts_with old before ledger tags digests

    abbrev parts_after : Parts
    parts_after = parts_with new after noted tags_now digests_now

    no_group_now : after.regs.group.items ≡ []
    no_group_now = ap (λ regs. regs.group.items) same_regs ∙ trusted.no_group

    pub redone_before : lines_redone parts_before ≡ before.lines
    redone_before = unarmed before.regs.group.items before.lines trusted.no_group

    pub redone_after : lines_redone parts_after ≡ after.lines
    redone_after = unarmed after.regs.group.items after.lines no_group_now

    -- what holds of the lines as they were gives what holds of them now
    from_lines : (P Q : List Line → Type 0)
        → ((lines lines_now : List Line) → before.lines ≡ Some lines → after.lines ≡ Some lines_now → P lines → Q lines_now)
        → IfSome (lines_redone parts_before) P → IfSome (lines_redone parts_after) Q
    from_lines P Q give it = search rules

    same_view : {A : Type 0} (f : List Line → A)
        → ((lines lines_now : List Line) → before.lines ≡ Some lines → after.lines ≡ Some lines_now → f lines_now ≡ f lines)
        → option_map f (lines_redone parts_after) ≡ option_map f (lines_redone parts_before)
    same_view f give = search rules

    strict : (x : ℕ) → HoldsTruth setup.shape parts_before x → HoldsTruth setup.shape parts_after x
    strict x =
        from_lines (λ lines. stored_meta setup.shape lines x ≡ line_at ledger.truth x)
        (λ lines. stored_meta setup.shape lines x ≡ line_at noted.truth x)
        (λ lines now told told_now had.
        elim (meta_same_or_true lines now told told_now x) [
          | inl as_was ↦ as_was ∙ had ∙ ap (λ lines. line_at lines x) (sym truth)
          | inr true_now ↦ true_now ∙ ap (λ lines. line_at lines x) (sym truth)
        ])

    pub places : KeepsPlaces setup [] parts_before parts_after
    places = search (rules, true≢false, IsSealStored-same, same_unless_meta, from_lines, same_view, strict)

    pub counters : (block : ℕ) → block < layout.pages setup.shape → HoldsCounters setup parts_before block → HoldsCounters setup parts_after block
    counters block within it = search (rules, IsCounterStored-same, IsCounterStored-true, meta_same_or_true, from_lines)

    pub metadata : KeepsMeta setup [] parts_before parts_after
    metadata =
        record {
          true_or_dirty = search (rules, from_lines, true_or_dirty);
          changed = λ x within. changed x before.lines after.lines refl refl same_told;
          dirty =
              λ bank x now.
              let slot = dirty_slot setup.shape new.cache bank x now in
              inl (dirty_before bank x slot.0 slot.2 slot.3
              (keeps.slots_now bank (set_index setup.shape x) slot.0
              slot.1));
        }
      where
        changed : (x : ℕ) (o o' : Option (List Line)) → before.lines ≡ o → after.lines ≡ o' → is_some o' ≡ is_some o
            → (meta_line_in setup.shape parts_after x ≡ meta_line_in setup.shape parts_before x) ⊎ HoldsMeta setup.shape parts_after x
        changed x None None told told_now same =
            inl (ap (option_map (λ lines. stored_meta setup.shape lines x)) (redone_after ∙ told_now)
            ∙ sym (ap (option_map (λ lines. stored_meta setup.shape lines x)) (redone_before ∙ told)))
        changed x None (Some now) told told_now same = absurd (true≢false same)
        changed x (Some lines) None told told_now same = absurd (false≢true same)
        changed x (Some lines) (Some now) told told_now same =
            elim (meta_same_or_true lines now told told_now x) [
              | inl as_was ↦ search (rules, redone_after, redone_before)
              | inr true_now ↦ search (rules, redone_after)
            ]

        dirty_before : (bank x : ℕ) (slot : Slot) → slot.position ≡ x → slot.dirty ≡ true
            → Contains (set_of old.cache bank (set_index setup.shape x)) slot
            ⊎ path.HasComeIn setup.shape ledger.truth page old.cache bank (set_index setup.shape x) slot
            → is_cached_dirty setup.shape old.cache bank x ≡ true
        dirty_before bank x slot here dirty (inl was) =
            subst (λ z. is_cached_dirty setup.shape old.cache bank z ≡ true) here
            (is_cached_dirty_from setup.shape old.cache bank slot
            (subst (λ z. Contains (set_of old.cache bank (set_index setup.shape z)) slot) (sym here)
            was) dirty)
        dirty_before bank x slot here dirty (inr came) = absurd (true≢false (sym dirty ∙ came.clean))
