-- The ends of a fetch: its path is cached, or it was cut, refused or stopped.
use Rattle.std.proofs.Common.{rules, ℕ, ◌≡◌, ◌≢◌, ◌<◌, ◌≤◌, ◌+◌, ◌⊎◌, inl, inr, true, false, List, [], length, Option, Some, None, refl, sym, ap, subst, subst₂, ◌∙◌, arith}
use Rattle.std.specs.Prelude.{MatchOption, option_map, is_some, ◌==◌}
use Rattle.std.specs.List.{Contains, list_any}
use Rattle.std.proofs.lemmas.Bool.{true≢false, cases_Bool, eq-eqb}
use Rattle.std.proofs.lemmas.Option.{same_Some}
use Rattle.std.proofs.lemmas.List.Folds.{list_any_at}
use Rattle.pmem_base.specs.declared.lines.Line.{Line}
use Rattle.pmem_base.specs.Counts.{HasRisen}
use Rattle.pmem_base.specs.Layout as layout
use Rattle.pmem_base.specs.Lines.{line_at}
use Rattle.pmem_base.specs.Marks.{IsFresh}
use Rattle.bonsai_tree.specs.Positions.{level_of}
use Rattle.board.specs.Device.{Device, IsDevice, AreLinesOf}
use Rattle.board.specs.Steps.{Tells}
use Rattle.seal_ledger.specs.Ledger.{LedgerState}
use Rattle.meta_cache.specs.declared.slot.Slot.{Slot}
use Rattle.meta_cache.specs.Banks.{is_cached, is_cached_dirty, set_of}
use Rattle.meta_cache.proofs.SlotLemmas.{dirty_slot}
use Rattle.meta_path.specs.Blocks.{dirty_count}
use Rattle.meta_path.specs.Keeping.{KeepsBlocks, WasWrittenBack}
use Rattle.suite.specs.Setup.{Setup}
use Rattle.pmem_engine.specs.Engine.{ChipState}
use Rattle.pmem_engine.specs.Invariants.{IsAnchored, IsTrusted, IsDurable, IsSound, stored_meta}
use Rattle.pmem_engine.specs.Parts.{Parts, parts_with, AreTrusted, AreSound, HoldsCounters}
use Rattle.call_effects.specs.Outcomes.{Outcome, going, cut_short, shown, HasPower}
use Rattle.pmem_engine.specs.Outcomes.{NeverFalls, HasSmallGroup, LeavesTrusted, LeavesSound, KeepsPlaces, KeepsMetaWhere, CallEffect, OneLossEffect, TakesAtMost, TakesFewer}
use Rattle.call_effects.proofs.ToldLines.{told_surely}
use Rattle.pmem_engine.proofs.CheckedReads.FetchedPaths.{trusted_after, sound_lines, places, counters, metadata, meta_same_or_true, own_slot}

-- ---- counts

-- ---- the device of a fetch, whatever its end

-- what a fetch's device, counts and ledger have in common, whatever the end
pub record IsFetchOver (old new : Device) (digests digests_now : ℕ) (ledger noted : LedgerState) : Type 0 where
  pub size : new.size ≡ old.size
  pub regs : new.regs ≡ old.regs
  pub told : is_some new.lines ≡ is_some old.lines
  pub whole : IsDevice new
  pub latches : new.latches ≡ old.latches
  pub reads : old.reads ≤ new.reads
  pub digests_rise : NeverFalls digests digests_now
  pub marks : noted.marks ≡ ledger.marks
  pub truth : noted.truth ≡ ledger.truth
  pub data_lines : noted.data_lines ≡ ledger.data_lines

module _ (setup : Setup) (page : ℕ) (old new : ChipState) (ledger noted : LedgerState) (before after : Device)
    (tags digests tags_now digests_now : ℕ)
    (its_size : before.size ≡ layout.device_lines setup.shape)
    (shape : new.shape ≡ old.shape) (mirror : new.mirror ≡ old.mirror)
    (same_tags : tags_now ≡ tags)
    (over : IsFetchOver before after digests digests_now ledger noted)
    (keeps : KeepsBlocks setup.shape ledger.truth page old.cache new.cache before after) where
  abbrev parts_old : Parts
  parts_old = parts_with old before ledger tags digests

  abbrev parts_new : Parts
  parts_new = parts_with new after noted tags_now digests_now

  whole_now : (lines : List Line) → after.lines ≡ Some lines → AreLinesOf (layout.device_lines setup.shape) lines
  whole_now lines it = search rules

  still_sound : AreSound setup parts_old → MatchOption after.lines ⊥ (λ lines. IsSound setup new lines after.regs ledger)
  still_sound sound =
      told_surely (λ lines. IsSound setup old lines before.regs ledger) (λ lines. IsSound setup new lines after.regs ledger)
      before.lines after.lines over.told
      (λ lines now told told_now it.
      sound_lines setup page old new ledger before after shape mirror it.trusted keeps lines now told told_now
      (whole_now now told_now) over.regs it) sound

  still_durable : AreSound setup parts_old → MatchOption after.lines ⊥ (λ lines. IsDurable setup lines after.regs ledger)
  still_durable sound = search (rules, same_Some, told_surely, still_sound)

  pub gone : (outcome : Outcome) → HasPower outcome before after
      → (outcome ≢ shown → noted.exhibit ≡ ledger.exhibit)
      → (AreTrusted setup parts_old → LeavesTrusted setup outcome parts_new)
      → (AreSound setup parts_old → LeavesSound setup outcome parts_new)
      → (AreTrusted setup parts_old → KeepsPlaces setup [] parts_old parts_new)
      → (AreTrusted setup parts_old → KeepsMetaWhere setup outcome [] parts_old parts_new)
      → (before.regs.group.items ≡ [] → HasSmallGroup setup.shape outcome parts_new)
      → CallEffect setup outcome [] parts_old parts_new
  gone outcome power exhibit leaves_trusted leaves_sound keeps_places keeps_meta small = search rules

  pub keeps_counters : AreTrusted setup parts_old → (block : ℕ) → block < layout.pages setup.shape
      → HoldsCounters setup parts_old block → HoldsCounters setup parts_new block
  keeps_counters trusted = search (rules, counters)

  -- the engine goes on: the path was fetched, or refused
  pub done_going : noted ≡ ledger → (before.steady ≡ true → after.steady ≡ true) → (before.live ≡ true → after.live ≡ true)
      → after.cuts ≡ before.cuts → OneLossEffect setup going [] parts_old parts_new
  done_going same steady live cuts =
      record {
        gone =
            gone going (steady, live, cuts) (λ unshown. ap (λ l. l.exhibit) same)
            (λ trusted. subst (λ l. IsTrusted setup new after.regs l) (sym same)
            (trusted_after setup page old new ledger before after shape mirror trusted keeps over.regs))
            (λ sound. subst (λ l. MatchOption after.lines ⊥ (λ lines. IsSound setup new lines after.regs l)) (sym same) (still_sound sound))
            (λ trusted.
            places setup page old new ledger before after shape mirror trusted keeps tags digests tags_now digests_now noted
            over.marks over.truth over.regs over.told)
            (λ trusted.
            metadata setup page old new ledger before after shape mirror trusted keeps tags digests tags_now digests_now noted
            over.marks over.truth over.regs over.told)
            (λ none. tt);
        loss = ap (λ regs. regs.loss) over.regs;
        counters = λ trusted. keeps_counters trusted;
      }

  -- power was cut
  pub done_cut : noted ≡ ledger → before.steady ≡ false → after.live ≡ false → HasRisen before.cuts after.cuts
      → OneLossEffect setup cut_short [] parts_old parts_new
  done_cut same unsteady off rose =
      record {
        gone =
            gone cut_short (unsteady, off, rose) (λ unshown. ap (λ l. l.exhibit) same)
            (λ trusted. subst₂ (λ regs l. IsAnchored setup regs l) (sym over.regs) (sym same) trusted.anchored)
            (λ sound. subst (λ l. MatchOption after.lines ⊥ (λ lines. IsDurable setup lines after.regs l)) (sym same) (still_durable sound))
            (λ trusted.
            places setup page old new ledger before after shape mirror trusted keeps tags digests tags_now digests_now noted
            over.marks over.truth over.regs over.told)
            (λ trusted. tt)
            (λ none. omega (arith, ap (λ regs. length regs.group.items) over.regs, ap length none));
        loss = ap (λ regs. regs.loss) over.regs;
        counters = λ trusted. keeps_counters trusted;
      }

  -- the audit stopped the engine; of a sound device it doesn't
  pub done_shown : (AreSound setup parts_old → ⊥) → (before.steady ≡ true → after.steady ≡ true)
      → (before.live ≡ true → after.live ≡ true) → after.cuts ≡ before.cuts → OneLossEffect setup shown [] parts_old parts_new
  done_shown never steady live cuts =
      record {
        gone =
            gone shown (steady, live, cuts) (λ unshown. absurd (unshown refl))
            (λ trusted. subst (λ marks. IsFresh marks) (sym over.marks) trusted.anchored.fresh) never
            (λ trusted.
            places setup page old new ledger before after shape mirror trusted keeps tags digests tags_now digests_now noted
            over.marks over.truth over.regs over.told)
            (λ trusted.
            metadata setup page old new ledger before after shape mirror trusted keeps tags digests tags_now digests_now noted
            over.marks over.truth over.regs over.told)
            (λ none. tt);
        loss = ap (λ regs. regs.loss) over.regs;
        counters = λ trusted. keeps_counters trusted;
      }

  -- ---- steps

  pub few_steps : TakesAtMost (setup.shape.levels + 1) before after
  few_steps = search rules

  pub dirty_steps : TakesAtMost (dirty_count setup.shape old.cache) before after
  dirty_steps = search rules

  pub fewer_dirty_steps : 1 ≤ dirty_count setup.shape new.cache → TakesFewer (dirty_count setup.shape old.cache) before after
  fewer_dirty_steps left = search rules

  -- ---- a line that was read at a position that isn't cached

  not_dirty : (x : ℕ) → is_cached setup.shape old.cache (level_of x) x ≡ false
      → is_cached_dirty setup.shape old.cache (level_of x) x ≡ false
  not_dirty x absent = search (rules, true≢false, cases_Bool, eq-eqb, list_any_at, dirty_slot)

  -- it stood there before the call: what a fetch writes back was cached
  pub read_was_there : AreTrusted setup parts_old → (x : ℕ) (line : Line)
      → is_cached setup.shape old.cache (level_of x) x ≡ false
      → Tells after.lines (layout.meta_line setup.shape x) line → Tells before.lines (layout.meta_line setup.shape x) line
  read_was_there trusted x line absent tells =
      go before.lines after.lines over.told (keeps.line_writes (layout.meta_line setup.shape x)) tells
    where
      never : (bank set : ℕ) (slot : Slot) → Contains (set_of old.cache bank set) slot
          → layout.meta_line setup.shape x ≡ layout.meta_line setup.shape slot.position → ⊥
      never bank set slot stands here =
          let own = own_slot setup page old new ledger before after shape mirror trusted keeps bank set slot stands in
          let one : slot.position ≡ x = omega (arith, here) in
          let found : list_any (λ s. s.position == x) (set_of old.cache bank set) ≡ true = search (rules, list_any_at, eq-eqb) in
          let cached : is_cached setup.shape old.cache (level_of x) x ≡ true = search rules in
          true≢false (sym cached ∙ absent)

      go : (o o' : Option (List Line)) → is_some o' ≡ is_some o
          → (option_map (λ lines. line_at lines (layout.meta_line setup.shape x)) o'
          ≡ option_map (λ lines. line_at lines (layout.meta_line setup.shape x)) o)
          ⊎ WasWrittenBack setup.shape old.cache new.cache after.lines (layout.meta_line setup.shape x)
          → Tells o' (layout.meta_line setup.shape x) line → Tells o (layout.meta_line setup.shape x) line
      go None o' same kept it = tt
      go (Some lines) None same kept it = absurd (true≢false (sym same))
      go (Some lines) (Some now) same (inl kept) it =
          it
          ∙ same_Some (line_at now (layout.meta_line setup.shape x)) (line_at lines (layout.meta_line setup.shape x)) kept
      go (Some lines) (Some now) same (inr back) it = absurd (never back.bank back.set back.slot back.was_cached back.place)

  -- of a sound device it is the true one
  pub read_is_true : AreSound setup parts_old → (x : ℕ) (line : Line) → x < layout.meta_lines setup.shape
      → is_cached setup.shape old.cache (level_of x) x ≡ false
      → Tells after.lines (layout.meta_line setup.shape x) line → line ≡ line_at ledger.truth x
  read_is_true sound x line within absent tells = go before.lines after.lines refl refl over.told sound
    where
      go : (o o' : Option (List Line)) → before.lines ≡ o → after.lines ≡ o' → is_some o' ≡ is_some o
          → MatchOption o ⊥ (λ lines. IsSound setup old lines before.regs ledger) → line ≡ line_at ledger.truth x
      go None o' told told_now same it = absurd it
      go (Some lines) None told told_now same it = absurd (true≢false (sym same))
      go (Some lines) (Some now) told told_now same it =
          let reads : line ≡ stored_meta setup.shape now x = search rules in
          elim (meta_same_or_true setup page old new ledger before after shape mirror it.trusted keeps lines now told told_now x) [
            | inl as_was ↦ reads ∙ as_was ∙ it.true_unless_dirty x within (not_dirty x absent)
            | inr true_now ↦ reads ∙ true_now
          ]
