-- A path was named, or a cut came before one of its entries was written: what the call keeps.
use Rattle.std.proofs.Common.{rules, ℕ, ◌≡◌, ◌<◌, ◌≤◌, ◌+◌, inl, inr, true, false, List, [], length, Some, Ok, Err, refl, sym, ap, ap₂, subst, ◌∙◌, arith}
use Rattle.std.specs.Prelude.{MatchOption, IfSome, option_map}
use Rattle.std.proofs.lemmas.Bool.{true≢false}
use Rattle.pmem_base.specs.declared.faults.Cut.{Cut}
use Rattle.pmem_base.specs.declared.lines.Line.{Line}
use Rattle.pmem_base.specs.Counts.{HasRisen}
use Rattle.pmem_base.specs.Shape.{named_levels}
use Rattle.pmem_base.specs.Layout as layout
use Rattle.pmem_base.specs.Lines.{line_at, tag_slot, put_lines}
use Rattle.bonsai_tree.specs.Positions.{counter_position}
use Rattle.bonsai_tree.proofs.Levels.{counter_position-lt}
use Rattle.board.specs.Device.{Device, IsDevice}
use Rattle.commit_regs.specs.Groups.{redone_told}
use Rattle.seal_ledger.specs.Ledger.{LedgerState}
use Rattle.shadow_tables.specs.Entries.{slot_entry}
use Rattle.meta_cache.specs.Banks.{IsBanksOf}
use Rattle.meta_cache.specs.State.{IsCacheOf}
use Rattle.meta_path.specs.Blocks.{path_at, IsPathCached}
use Rattle.meta_path.specs.Work.{told_line}
use Rattle.meta_path.specs.Naming.{path_number, named_path, naming_writes, IsNamedTo, IsNamingCut}
use Rattle.meta_path.proofs.NameLemmas.{length-naming_writes}
use Rattle.suite.specs.Setup.{Setup}
use Rattle.plain_model.specs.Bounds.{path_length}
use Rattle.pmem_engine.specs.Engine.{ChipState}
use Rattle.pmem_engine.specs.Invariants.{IsSound, IsDurable, IsSealStored, IsCounterStored, stored_meta}
use Rattle.pmem_engine.specs.Parts.{Parts, parts_with, AreTrusted, AreSound, HoldsCounters, lines_redone, meta_line_in}
use Rattle.call_effects.specs.Outcomes.{Outcome, going, cut_short, HasPower}
use Rattle.pmem_engine.specs.Outcomes.{KeepsPlaces, KeepsMeta, CallEffect, OneLossEffect, HasSmallGroup, LeavesTrusted, LeavesSound, KeepsMetaWhere}
use Rattle.pmem_engine.specs.Inner.{HasNamedPath}
use Rattle.call_effects.proofs.ToldLines.{whole_lines}
use Rattle.commit_regs.proofs.GroupLemmas.{unarmed}
use Rattle.pmem_engine.proofs.CallEnds.ExactWork.{still_rise}
use Rattle.pmem_engine.proofs.CallEnds.MetaLines.{named_off_meta}
use Rattle.pmem_engine.proofs.Laws.CounterBlocks.{IsCounterStored-same}
use Rattle.pmem_engine.proofs.Laws.DeviceRegions.{IsSealStored-kept}
use Rattle.pmem_engine.proofs.Laws.PolicyBounds.{named_most}
use Rattle.pmem_engine.proofs.PathNaming.PathNames.{IsMirror, meta_kept, place_kept, sound_at}

-- the first n blocks of the path were named on the board; the engine's copy may be one ahead
module _ (setup : Setup) (page n : ℕ) (old new : ChipState) (before after : Device) (ledger : LedgerState) (tags digests : ℕ)
    (its_shape : old.shape ≡ setup.shape) (shape : new.shape ≡ old.shape) (cache : new.cache ≡ old.cache)
    (lines : after.lines ≡ redone_told (naming_writes setup.shape old.cache page old.mirror n) before.lines)
    (same_regs : after.regs ≡ before.regs) (size : after.size ≡ before.size) (reads : after.reads ≡ before.reads) where
  abbrev start : Parts
  start = parts_with old before ledger tags digests

  abbrev finish : Parts
  finish = parts_with new after ledger tags digests

  abbrev now_of : List Line → List Line
  now_of lines = put_lines (naming_writes setup.shape old.cache page old.mirror n) lines

  holds_now : AreTrusted setup start → (P Q : List Line → Type 0) → ((were : List Line) → P were → Q (now_of were))
      → IfSome (lines_redone start) P → IfSome (lines_redone finish) Q
  holds_now trusted P Q give held = search rules

  seen_same : {A : Type 0} → AreTrusted setup start → (f : List Line → A) → ((were : List Line) → f (now_of were) ≡ f were)
      → option_map f (lines_redone finish) ≡ option_map f (lines_redone start)
  seen_same trusted f same = search rules

  pub meta_same : before.regs.group.items ≡ [] → (x : ℕ) → x < layout.meta_lines setup.shape
      → meta_line_in setup.shape finish x ≡ meta_line_in setup.shape start x
  meta_same no_group x within = search (rules, unarmed, meta_kept)

  places : AreTrusted setup start → KeepsPlaces setup [] start finish
  places trusted =
      record {
        seals =
            λ a within held.
            elim held [
              | inl stored ↦
                  holds_now trusted (λ lines. IsSealStored setup.shape lines ledger.marks a)
                  (λ lines. IsSealStored setup.shape lines ledger.marks a)
                  (λ were had.
                  IsSealStored-kept setup.shape were (now_of were) ledger.marks ledger.marks a refl
                  (place_kept setup.shape old.cache page old.mirror were n a within) had)
                  stored
              | inr made ↦ absurd (true≢false (sym made))
            ];
        data_lines =
            λ a within unsealed.
            seen_same trusted (λ lines. line_at lines a)
            (λ were. (place_kept setup.shape old.cache page old.mirror were n a within).its_line);
        tag_slots =
            λ a within unsealed.
            seen_same trusted (λ lines. tag_slot (line_at lines (layout.tag_line setup.shape a)) a)
            (λ were. (place_kept setup.shape old.cache page old.mirror were n a within).slot);
        strict =
            λ x within lazy held.
            holds_now trusted (λ lines. stored_meta setup.shape lines x ≡ line_at ledger.truth x)
            (λ lines. stored_meta setup.shape lines x ≡ line_at ledger.truth x)
            (λ were had. meta_kept setup.shape old.cache page old.mirror were n x within ∙ had) held;
      }

  metadata : AreTrusted setup start → KeepsMeta setup [] start finish
  metadata trusted = search (rules, meta_kept, holds_now, meta_same)

  counters_kept : AreTrusted setup start → (p : ℕ) → p < layout.pages setup.shape → HoldsCounters setup start p
      → HoldsCounters setup finish p
  counters_kept trusted p within held =
      subst (λ regs. IfSome (lines_redone finish) (λ lines. IsCounterStored setup lines regs.loss ledger.truth p)) (sym same_regs)
      (holds_now trusted (λ lines. IsCounterStored setup lines before.regs.loss ledger.truth p)
      (λ lines. IsCounterStored setup lines before.regs.loss ledger.truth p)
      (λ were had.
      IsCounterStored-same setup were (now_of were) before.regs.loss ledger.truth ledger.truth p
      (meta_kept setup.shape old.cache page old.mirror were n (counter_position setup.shape p)
      (counter_position-lt setup.shape p within))
      refl had)
      held)

  trusted_after : AreTrusted setup start → AreTrusted setup finish
  trusted_after trusted = search rules

  -- what is sound of the lines once they are written
  sound_gives : (P : List Line → Type 0)
      → ((were : List Line) → IsSound setup old were before.regs ledger → P (now_of were)) → AreSound setup start
      → MatchOption after.lines ⊥ P
  sound_gives P give sound = search rules

  pub gone : (outcome : Outcome) → HasPower outcome before after
      → (AreTrusted setup start → LeavesTrusted setup outcome finish)
      → (AreSound setup start → LeavesSound setup outcome finish)
      → (AreTrusted setup start → KeepsPlaces setup [] start finish)
      → (AreTrusted setup start → KeepsMetaWhere setup outcome [] start finish)
      → (before.regs.group.items ≡ [] → HasSmallGroup setup.shape outcome finish)
      → CallEffect setup outcome [] start finish
  gone outcome power leaves_trusted leaves_sound keeps_places keeps_meta small = search rules

  pub named_going : (before.steady ≡ true → after.steady ≡ true) → (before.live ≡ true → after.live ≡ true)
      → after.cuts ≡ before.cuts
      → ((were : List Line) → IsSound setup old were before.regs ledger → IsSound setup new (now_of were) before.regs ledger)
      → OneLossEffect setup going [] start finish
  named_going steady live cuts sound = search (rules, places, metadata, counters_kept, trusted_after, sound_gives, gone)

  pub named_cut : before.steady ≡ false → after.live ≡ false → HasRisen before.cuts after.cuts
      → ((were : List Line) → IsSound setup old were before.regs ledger → IsDurable setup (now_of were) before.regs ledger)
      → OneLossEffect setup cut_short [] start finish
  named_cut unsteady off rose durable = search (rules, places, counters_kept, trusted_after, sound_gives, gone)

-- ---- the call

module _ (setup : Setup) (page : ℕ) (old new : ChipState) (before after : Device) (ledger : LedgerState) (tags digests : ℕ)
    (its_shape : old.shape ≡ setup.shape) (shape : new.shape ≡ old.shape) (cache : new.cache ≡ old.cache)
    (its_page : page < layout.pages setup.shape) (few_levels : setup.shape.levels ≤ 6) (some_sets : 1 ≤ setup.shape.sets)
    (cache_form : IsCacheOf setup.shape old.cache) (form : IsBanksOf setup.shape old.cache)
    (cached : IsPathCached setup.shape old.cache page) (its_mirror : IsMirror setup.shape old.mirror)
    (its_size : before.size ≡ layout.device_lines setup.shape) (whole : IsDevice before) where
  long : (lines : List Line) → before.lines ≡ Some lines → length lines ≡ layout.device_lines setup.shape
  long lines told = (whole_lines before.size before.lines lines whole told).count ∙ its_size

  -- how many blocks of the path may get dirty
  abbrev all : ℕ
  all = named_levels setup.shape

  few_named : all ≤ path_length setup.shape
  few_named = named_most setup.shape

  pub path_named : IsNamedTo setup.shape old.cache page all old.mirror new.mirror before after
      → HasNamedPath setup page (parts_with old before ledger tags digests) (parts_with new after ledger tags digests) (Ok tt)
  path_named it =
      record {
        done =
            named_going setup page all old new before after ledger tags digests its_shape shape cache it.work.lines
            it.work.regs it.work.size (it.work.no_read refl) it.work.steady it.work.live it.work.cuts
            (λ were sound.
            subst (λ e. IsSound setup e (put_lines (naming_writes setup.shape old.cache page old.mirror all) were)
            before.regs ledger)
            (sym same_engine)
            (sound_at setup page old were before.regs ledger its_page few_levels some_sets cache_form form cached its_mirror sound
            all (omega arith)));
        path_named =
            λ ok.
            record {
              each =
                  λ j within.
                  subst (λ banks. slot_entry setup.shape new.mirror j (path_number setup.shape banks page j) ≡ path_at setup.shape page j + 1)
                  (sym cache) (it.entries.named j within);
            };
        work =
            λ ok.
            record {
              reads = it.work.reads;
              no_read = it.work.no_read;
              writes = it.work.writes;
              no_write = it.work.no_write;
              latches = still_rise 0 before.latches after.latches refl it.work.latches;
              no_latch = λ none. it.work.latches;
              tags = refl;
              digests = refl;
            };
        meta_lines =
            λ ok x within.
            ap (λ told. told_line told (layout.meta_line setup.shape x)) it.work.lines
            ∙ named_off_meta setup.shape old.cache page old.mirror all before.lines x within;
        cache = cache;
        regs = it.work.regs;
        ledger = refl;
        tags = refl;
        digests = refl;
        reads = it.work.no_read refl;
        steps =
            record {
              writes = it.work.writes.never_falls;
              latches = omega (arith, it.work.latches);
              sum =
                  λ writes latches.
                  omega (
                    arith,
                    it.work.writes.exact writes,
                    it.work.latches,
                    length-naming_writes setup.shape old.cache page old.mirror all,
                    few_named,
                  );
            };
      }
    where
      same_engine : new ≡ record {
        shape = old.shape;
        cache = old.cache;
        mirror = named_path setup.shape old.cache page old.mirror all;
      }
      same_engine =
          ap (λ s. record { shape = s; cache = new.cache; mirror = new.mirror }) shape
          ∙ ap₂ (λ banks m. record { shape = old.shape; cache = banks; mirror = m }) cache it.mirror

  pub path_cut : (cut : Cut) → IsNamingCut setup.shape old.cache page old.mirror new.mirror before after
      → HasNamedPath setup page (parts_with old before ledger tags digests) (parts_with new after ledger tags digests) (Err cut)
  path_cut cut it =
      record {
        done =
            named_cut setup page it.n old new before after ledger tags digests its_shape shape cache it.lines it.regs it.size
            it.reads it.unsteady it.off it.rose
            (λ were sound.
            (sound_at setup page old were before.regs ledger its_page few_levels some_sets cache_form form cached its_mirror sound
            it.n (omega (arith, it.on_path))).durable);
        path_named = λ ok. absurd (true≢false (sym ok));
        work = λ ok. absurd (true≢false (sym ok));
        meta_lines = λ ok. absurd (true≢false (sym ok));
        cache = cache;
        regs = it.regs;
        ledger = refl;
        tags = refl;
        digests = refl;
        reads = it.reads;
        steps =
            record {
              writes = it.writes.never_falls;
              latches = omega (arith, it.latches);
              sum =
                  λ writes latches.
                  omega (
                    arith,
                    it.writes.exact writes,
                    it.latches,
                    it.on_path,
                    few_named,
                    length-naming_writes setup.shape old.cache page old.mirror it.n,
                  );
            };
      }
