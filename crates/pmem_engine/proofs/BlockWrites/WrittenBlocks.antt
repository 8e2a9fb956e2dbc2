-- A dirty block is written to its place, and is clean afterwards: what it keeps, whatever the device holds.
use Rattle.std.proofs.Common.{rules, ℕ, ◌≡◌, ◌≢◌, ◌<◌, ◌⊎◌, inl, inr, true, false, List, [], ◌∷◌, length, Some, refl, sym, ap, ap₂, subst, subst₂, ◌∙◌}
use Rattle.std.specs.Prelude.{IfSome, option_map, is_some, ◌==◌, ◌&&◌}
use Rattle.std.specs.List.{Contains, list_any}
use Rattle.std.proofs.lemmas.Bool.{cases_eq}
use Rattle.std.proofs.lemmas.List.{append-nil}
use Rattle.pmem_base.specs.declared.lines.Line.{Line}
use Rattle.pmem_base.specs.Layout as layout
use Rattle.pmem_base.specs.Lines.{line_at}
use Rattle.board.specs.Device.{Device, IsDevice}
use Rattle.seal_ledger.specs.Ledger.{LedgerState}
use Rattle.meta_cache.specs.declared.slot.Slot.{Slot}
use Rattle.meta_cache.specs.Banks.{set_of, set_index, is_cached, is_cached_dirty}
use Rattle.meta_cache.specs.Sets.{holds, with_mark}
use Rattle.meta_cache.specs.KeptSlots.{IsFromBefore, IsStillDirty}
use Rattle.meta_cache.proofs.SlotLemmas.{IsFromBefore-cleaned, IsStillDirty-cleaned}
use Rattle.meta_path.specs.Blocks.{line_in}
use Rattle.meta_path.proofs.KeepLaws.{line_in-true}
use Rattle.meta_path.proofs.SetFacts.{holds-with_mark}
use Rattle.meta_path.proofs.WriteLemmas.{dirty_is_cached}
use Rattle.suite.specs.Setup.{Setup}
use Rattle.pmem_engine.specs.Engine.{ChipState}
use Rattle.pmem_engine.specs.Invariants.{IsTrusted, IsSound, IsCounterStored, stored_meta}
use Rattle.pmem_engine.specs.Steps.{with_true_line}
use Rattle.pmem_engine.specs.Recached.{IsRecached, IsTrueOrDirty, WasCleaned}
use Rattle.pmem_engine.specs.Parts.{Parts, parts_with, AreTrusted, AreSound, HoldsCounters, HoldsMeta, meta_line_in, lines_redone}
use Rattle.call_effects.specs.Outcomes.{going}
use Rattle.pmem_engine.specs.Outcomes.{HoldsTruth, KeepsPlaces, KeepsMeta, OneLossEffect}
use Rattle.pmem_engine.specs.Flushed.{HasWrittenBack}
use Rattle.call_effects.proofs.ToldLines.{told_cases, told_surely, any_told, told_same, whole_lines}
use Rattle.commit_regs.proofs.GroupLemmas.{unarmed}
use Rattle.pmem_engine.proofs.CheckedReads.LineCounters.{cached_true}
use Rattle.pmem_engine.proofs.Laws.DeviceRegions.{stored_meta-set_other}
use Rattle.pmem_engine.proofs.Laws.CounterBlocks.{IsCounterStored-written_back}
use Rattle.pmem_engine.proofs.Laws.CacheLaws.{stored_meta-true_line, stays_true-true_line, IsTrusted-recached, IsSound-cleaned, not_cleaned_other, IsTrueOrDirty-cleaned, dirty_before-recached}
use Rattle.board.proofs.StepLemmas.{is_some-with_line}

-- a position that was cleaned isn't dirty
marked_clean : (slots : List Slot) (x : ℕ) → list_any (λ s. s.position == x && s.dirty) (with_mark slots x false) ≡ false
unfolding with_mark
marked_clean [] x = refl
marked_clean (slot ∷ slots) x = search (rules, (marked_clean slots x))

-- what the cache holds once a block was written back
module _ (bank x : ℕ) (old new : ChipState) (before after : Device) (it : HasWrittenBack bank x old new before after) where
  marked_set : set_of new.cache bank (set_index old.shape x) ≡ with_mark (set_of old.cache bank (set_index old.shape x)) x false
  marked_set = it.cleaned.cache.here

  from_before : (b set : ℕ) (slot : Slot) → Contains (set_of new.cache b set) slot → IsFromBefore (set_of old.cache b set) slot
  from_before b set slot stands = by (cases_eq b bank) (cases_eq set (set_index old.shape x))
    where
      apart : ((b ≡ bank) × (set ≡ set_index old.shape x) → ⊥) → IsFromBefore (set_of old.cache b set) slot
      apart other = search rules

      by : (b ≡ bank) ⊎ (b ≡ bank → ⊥) → (set ≡ set_index old.shape x) ⊎ (set ≡ set_index old.shape x → ⊥)
          → IsFromBefore (set_of old.cache b set) slot
      by (inl here) (inl there) =
          subst (λ slots. IsFromBefore slots slot) (sym (ap₂ (set_of old.cache) here there))
          (IsFromBefore-cleaned (set_of old.cache bank (set_index old.shape x)) x slot
          (subst (λ slots. Contains slots slot) (ap₂ (set_of new.cache) here there ∙ marked_set) stands))
      by (inl here) (inr other) = apart (λ e. other e.1)
      by (inr other) which = apart (λ e. other e.0)

  still_dirty : (b set : ℕ) (slot : Slot) → Contains (set_of old.cache b set) slot → slot.dirty ≡ true → slot.position ≢ x
      → IsStillDirty (set_of new.cache b set) slot
  still_dirty b set slot stands dirty away = by (cases_eq b bank) (cases_eq set (set_index old.shape x))
    where
      apart : ((b ≡ bank) × (set ≡ set_index old.shape x) → ⊥) → IsStillDirty (set_of new.cache b set) slot
      apart other = search rules

      by : (b ≡ bank) ⊎ (b ≡ bank → ⊥) → (set ≡ set_index old.shape x) ⊎ (set ≡ set_index old.shape x → ⊥)
          → IsStillDirty (set_of new.cache b set) slot
      by (inl here) (inl there) =
          subst (λ slots. IsStillDirty slots slot) (sym (ap₂ (set_of new.cache) here there ∙ marked_set))
          (IsStillDirty-cleaned (set_of old.cache bank (set_index old.shape x)) x slot
          (subst (λ slots. Contains slots slot) (ap₂ (set_of old.cache) here there) stands) dirty away)
      by (inl here) (inr other) = apart (λ e. other e.1)
      by (inr other) which = apart (λ e. other e.0)

  -- the block is clean, and which blocks are cached stays
  pub clean_after : is_cached_dirty old.shape new.cache bank x ≡ false
  clean_after = search (rules, marked_clean)

  pub cached_after : (b y : ℕ) → is_cached old.shape new.cache b y ≡ is_cached old.shape old.cache b y
  cached_after b y = by (cases_eq b bank) (cases_eq (set_index old.shape y) (set_index old.shape x))
    where
      apart : ((b ≡ bank) × (set_index old.shape y ≡ set_index old.shape x) → ⊥)
          → is_cached old.shape new.cache b y ≡ is_cached old.shape old.cache b y
      apart other = ap (λ slots. holds slots y) (it.cleaned.cache.elsewhere b (set_index old.shape y) other)

      by : (b ≡ bank) ⊎ (b ≡ bank → ⊥)
          → (set_index old.shape y ≡ set_index old.shape x) ⊎ (set_index old.shape y ≡ set_index old.shape x → ⊥)
          → is_cached old.shape new.cache b y ≡ is_cached old.shape old.cache b y
      by (inl here) (inl there) =
          ap (λ slots. holds slots y) (ap₂ (set_of new.cache) here there ∙ marked_set)
          ∙ holds-with_mark (set_of old.cache bank (set_index old.shape x)) x false y
          ∙ ap (λ slots. holds slots y) (sym (ap₂ (set_of old.cache) here there))
      by (inl here) (inr other) = apart (λ e. other e.1)
      by (inr other) which = apart (λ e. other e.0)

-- a block written back, over the setup of the engine's shape
module _ (setup : Setup) (bank x : ℕ) (old new : ChipState) (before after : Device) (ledger : LedgerState)
    (tags digests : ℕ) (its_shape : old.shape ≡ setup.shape) (its_size : before.size ≡ layout.device_lines setup.shape)
    (whole : IsDevice before) (it : HasWrittenBack bank x old new before after) where
  abbrev start : Parts
  start = parts_with old before ledger tags digests

  abbrev finish : Parts
  finish = parts_with new after ledger tags digests

  shape : new.shape ≡ old.shape
  shape = it.cleaned.cache.shape

  on_tree : x < layout.meta_lines setup.shape
  on_tree = subst (λ g. x < layout.meta_lines g) its_shape it.on_tree

  recached : IsRecached setup old new ledger
  recached =
      record {
        shape = shape;
        mirror = it.mirror;
        slots = λ b set slot stands. inl (from_before bank x old new before after it b set slot stands);
      }

  kept_dirty : (y : ℕ) → y ≢ x → WasCleaned setup.shape old.cache new.cache y → ⊥
  kept_dirty y away = not_cleaned_other setup old new x y away (still_dirty bank x old new before after it)

  -- what the device holds now

  told : is_some after.lines ≡ is_some before.lines
  told = ap is_some it.cleaned.board.lines ∙ is_some-with_line before.lines (layout.meta_line old.shape x) (line_in old.shape old.cache bank x)

  -- the lines with the written one are those with the true one, of a trusted chip
  lines_now : AreTrusted setup start → (lines lines' : List Line) → before.lines ≡ Some lines → after.lines ≡ Some lines'
      → lines' ≡ with_true_line setup.shape lines ledger.truth x
  lines_now trusted lines lines' was now = search (rules, line_in-true, dirty_is_cached, cached_true, shape)

  count : (lines : List Line) → before.lines ≡ Some lines → length lines ≡ layout.device_lines setup.shape
  count lines was = (whole_lines before.size before.lines lines whole was).count ∙ its_size

  same_group : after.regs.group ≡ before.regs.group
  same_group = ap (λ regs. regs.group) it.cleaned.board.regs

  redone_before : AreTrusted setup start → lines_redone start ≡ before.lines
  redone_before trusted = unarmed before.regs.group.items before.lines trusted.no_group

  redone_after : AreTrusted setup start → lines_redone finish ≡ after.lines
  redone_after trusted = search rules

  -- what holds of the lines as they were gives what holds of those with the true line
  holds_now : AreTrusted setup start → (P Q : List Line → Type 0)
      → ((lines : List Line) → length lines ≡ layout.device_lines setup.shape → P lines
      → Q (with_true_line setup.shape lines ledger.truth x))
      → IfSome (lines_redone start) P → IfSome (lines_redone finish) Q
  holds_now trusted P Q give held =
      subst (λ o. IfSome o Q) (sym (redone_after trusted))
      (told_cases P Q before.lines after.lines told
      (λ lines lines' was now had. subst Q (sym (lines_now trusted lines lines' was now)) (give lines (count lines was) had))
      (subst (λ o. IfSome o P) (redone_before trusted) held))

  -- what is seen of both is the same
  seen_same : {A : Type 0} → AreTrusted setup start → (f : List Line → A)
      → ((lines : List Line) → f (with_true_line setup.shape lines ledger.truth x) ≡ f lines)
      → option_map f (lines_redone finish) ≡ option_map f (lines_redone start)
  seen_same trusted f same =
      ap (option_map f) (redone_after trusted)
      ∙ told_same f before.lines after.lines told
      (λ lines lines' was now. ap f (lines_now trusted lines lines' was now) ∙ same lines)
      ∙ sym (ap (option_map f) (redone_before trusted))

  trusted_after : AreTrusted setup start → AreTrusted setup finish
  trusted_after trusted =
      subst (λ regs. IsTrusted setup new regs ledger) (sym it.cleaned.board.regs)
      (IsTrusted-recached setup old new before.regs ledger trusted recached)

  sound_after : AreSound setup start → AreSound setup finish
  sound_after sound =
      told_surely (λ lines. IsSound setup old lines before.regs ledger) (λ lines. IsSound setup new lines after.regs ledger)
      before.lines after.lines told
      (λ lines lines' was now had.
      subst₂ (λ z regs. IsSound setup new z regs ledger) (sym (lines_now had.trusted lines lines' was now)) (sym it.cleaned.board.regs)
      (IsSound-cleaned setup old new lines before.regs ledger x had on_tree recached (λ y within away. kept_dirty y away)))
      sound

  strict_after : AreTrusted setup start → (y : ℕ) → HoldsTruth setup.shape start y → HoldsTruth setup.shape finish y
  strict_after trusted y =
      holds_now trusted (λ lines. stored_meta setup.shape lines y ≡ line_at ledger.truth y)
      (λ lines. stored_meta setup.shape lines y ≡ line_at ledger.truth y)
      (λ lines size had. stays_true-true_line setup.shape lines ledger.truth x y size on_tree had)

  places : AreTrusted setup start → KeepsPlaces setup [] start finish
  places trusted = search (rules, strict_after)

  held_after : AreTrusted setup start → (y : ℕ) → HoldsMeta setup.shape start y → HoldsMeta setup.shape finish y
  held_after trusted y held = search (rules, IsTrueOrDirty-cleaned, on_tree, kept_dirty, holds_now)

  -- the block itself is true on the device then
  own_true : AreTrusted setup start → HoldsMeta setup.shape finish x
  own_true trusted =
      subst (λ o. IfSome o (λ lines. IsTrueOrDirty setup.shape new.cache lines ledger.truth x)) (sym (redone_after trusted))
      (told_cases (λ lines. Unit {0}) (λ lines. IsTrueOrDirty setup.shape new.cache lines ledger.truth x) before.lines after.lines told
      (λ lines lines' was now had.
      inl (ap (λ z. stored_meta setup.shape z x) (lines_now trusted lines lines' was now)
      ∙ stored_meta-true_line setup.shape lines ledger.truth x (count lines was) on_tree))
      (any_told before.lines))

  metadata : AreTrusted setup start → KeepsMeta setup [] start finish
  metadata trusted =
      record {
        true_or_dirty = λ y within held. held_after trusted y held;
        changed = λ y within. by y (cases_eq y x);
        dirty =
            λ b y now. inl (dirty_before-recached setup old new ledger b y recached now);
      }
    where
      by : (y : ℕ) → (y ≡ x) ⊎ (y ≡ x → ⊥)
          → (meta_line_in setup.shape finish y ≡ meta_line_in setup.shape start y) ⊎ HoldsMeta setup.shape finish y
      by y (inl here) = inr (subst (λ z. HoldsMeta setup.shape finish z) (sym here) (own_true trusted))
      by y (inr away) =
          inl (seen_same trusted (λ lines. stored_meta setup.shape lines y)
          (λ lines. stored_meta-set_other setup.shape lines x (line_at ledger.truth x) y away))

  counters_after : AreTrusted setup start → (page : ℕ) → HoldsCounters setup start page → HoldsCounters setup finish page
  counters_after trusted page held =
      subst (λ regs. IfSome (lines_redone finish) (λ lines. IsCounterStored setup lines regs.loss ledger.truth page))
      (sym it.cleaned.board.regs)
      (holds_now trusted (λ lines. IsCounterStored setup lines before.regs.loss ledger.truth page)
      (λ lines. IsCounterStored setup lines before.regs.loss ledger.truth page)
      (λ lines size had. IsCounterStored-written_back setup lines before.regs.loss ledger.truth page x size on_tree had) held)

  pub written_back : OneLossEffect setup going [] start finish
  written_back = search (rules, append-nil, shape, told, same_group, trusted_after, sound_after, places, metadata, counters_after)
