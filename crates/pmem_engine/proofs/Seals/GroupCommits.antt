-- A group of one mark that was armed, and finished or cut: what is left to show of the part of a call that commits it.
use Rattle.std.proofs.Common.{rules, ℕ, ◌≡◌, ◌<◌, ◌≤◌, ◌⊎◌, Bool, true, List, [], ◌∷◌, length, Option, Some, None, refl, sym, ap, subst, ◌∙◌}
use Rattle.std.specs.Prelude.{option_map}
use Rattle.pmem_base.specs.declared.lines.Line.{Line}
use Rattle.pmem_base.specs.declared.answers.Mark.{Mark}
use Rattle.pmem_base.specs.Shape.{counter_window}
use Rattle.pmem_base.specs.Layout as layout
use Rattle.pmem_base.specs.Lines.{line_at}
use Rattle.pmem_base.specs.Registers.{IsGroup, IsValidRegs}
use Rattle.board.specs.Device.{Device, IsDevice, AreLinesOf}
use Rattle.board.specs.Steps.{HasLatched}
use Rattle.meta_cache.specs.Banks.{is_cached_dirty}
use Rattle.commit_regs.specs.Groups.{IsInterrupted, redone, redone_told}
use Rattle.commit_regs.proofs.GroupLemmas.{redone-nil, AreLinesOf-redone, IsGroup-nil}
use Rattle.suite.specs.Setup.{Setup}
use Rattle.plain_model.specs.Bounds.{group_bound}
use Rattle.pmem_engine.specs.Invariants.{IsAnchored, IsSound, IsDurable, stored_meta}
use Rattle.pmem_engine.specs.Parts.{Parts, regs_of, lines_redone, AreTrusted, AreSound, AreDurable, HoldsCounters, meta_line_in}
use Rattle.call_effects.specs.Outcomes.{going, cut_short}
use Rattle.pmem_engine.specs.Outcomes.{IsTouchedBy, NeverFalls, KeepsPlaces, KeepsMeta, OneLossEffect}
use Rattle.pmem_engine.specs.Committing.{HasCommitted}
use Rattle.pmem_engine.specs.Sealing.{HasNotedPath}
use Rattle.pmem_engine.proofs.Laws.DeviceSteps.{IsDeviceStep}
use Rattle.pmem_engine.proofs.Laws.TruthSteps.{IsTruthStep}
use Rattle.pmem_engine.proofs.Laws.CommitLaws.{KeepsOver, kept_over, trusted_after, durable_while_armed, sound_after}

-- of one mark, before and after a commit: its group over the device, and from a trusted chip on its truth step
pub record IsCommit (setup : Setup) (group : List (ℕ × Line)) (mark : Mark) (written : ℕ → Bool) (entry : ℕ → Line)
    (old new : Parts) : Type 0 where
  pub unarmed : (regs_of old).group.items ≡ []
  pub short : length group ≤ group_bound setup.shape
  pub is_group : IsGroup (layout.device_lines setup.shape) group
  pub whole : IsDevice old.device
  pub size : old.device.size ≡ layout.device_lines setup.shape
  pub shape : new.engine.shape ≡ old.engine.shape
  pub lines : List (ℕ × Line)
  pub noted : HasNotedPath lines mark old.ledger new.ledger
  pub loss : (regs_of new).loss ≡ (regs_of old).loss
  pub valid :
      IsGroup (layout.device_lines setup.shape) (regs_of new).group.items
      → IsValidRegs setup.shape (regs_of old) → IsValidRegs setup.shape (regs_of new)
  pub tags : NeverFalls old.tags new.tags
  pub digests : NeverFalls old.digests new.digests
  pub device :
      (lines : List Line) → old.device.lines ≡ Some lines → AreLinesOf (layout.device_lines setup.shape) lines
      → IsDeviceStep setup.shape mark old.ledger.marks written entry lines (redone group lines)
  pub truth :
      AreTrusted setup old
      → IsTruthStep setup mark written entry (counter_window setup.shape (regs_of old).loss) old.engine new.engine old.ledger.truth new.ledger.truth
  pub anchored :
      AreTrusted setup old → IsGroup (layout.device_lines setup.shape) (regs_of new).group.items
      → IsAnchored setup (regs_of new) new.ledger

module _ (setup : Setup) (group : List (ℕ × Line)) (mark : Mark) (written : ℕ → Bool) (entry : ℕ → Line) (old new : Parts)
    (it : IsCommit setup group mark written entry old new) where
  -- the told lines are whole
  whole_lines : (lines : List Line) → old.device.lines ≡ Some lines → AreLinesOf (layout.device_lines setup.shape) lines
  whole_lines lines told = search rules

  step_over : (lines : List Line) → old.device.lines ≡ Some lines
      → IsDeviceStep setup.shape mark old.ledger.marks written entry lines (redone group lines)
  step_over lines told = it.device lines told (whole_lines lines told)

  -- finished, it comes to the lines with the group redone
  pub comes_committed : HasCommitted group old.device new.device → lines_redone new ≡ redone_told group old.device.lines
  comes_committed done = search rules

  abbrev Keeps : List Line → Type 0
  Keeps lines = KeepsOver setup mark (regs_of old).loss old.engine new.engine old.ledger new.ledger lines (redone group lines)

  keeps : AreTrusted setup old → (lines : List Line) → old.device.lines ≡ Some lines → Keeps lines
  keeps trusted lines told =
      kept_over setup mark written entry old.engine new.engine (regs_of old) old.ledger new.ledger lines (redone group lines)
      (step_over lines told) (it.truth trusted) it.noted.marks

  module _ (comes : lines_redone new ≡ redone_told group old.device.lines) where
    stood : lines_redone old ≡ old.device.lines
    stood = ap (λ items. redone_told items old.device.lines) it.unarmed ∙ redone-nil old.device.lines

    -- place by place
    places_kept : ((lines : List Line) → old.device.lines ≡ Some lines → Keeps lines) → KeepsPlaces setup (mark ∷ []) old new
    places_kept each = search rules

    -- what is stored of a counter block
    counters_kept : (other : ℕ) → other < layout.pages setup.shape
        → ((lines : List Line) → old.device.lines ≡ Some lines → Keeps lines)
        → HoldsCounters setup old other → HoldsCounters setup new other
    counters_kept other within each before = search rules

    -- the metadata lines
    metadata_kept : ((lines : List Line) → old.device.lines ≡ Some lines → Keeps lines)
        → ((bank x : ℕ) → is_cached_dirty setup.shape new.engine.cache bank x ≡ true
        → (is_cached_dirty setup.shape old.engine.cache bank x ≡ true) ⊎ IsTouchedBy setup.shape (mark ∷ []) x)
        → KeepsMeta setup (mark ∷ []) old new
    metadata_kept each dirty = search rules

    -- a metadata line that is in the group is the true one
    pub written_true : AreTrusted setup old → (x : ℕ) → x < layout.meta_lines setup.shape → written x ≡ true
        → meta_line_in setup.shape new x ≡ option_map (λ lines. line_at new.ledger.truth x) (lines_redone new)
    written_true trusted x within is =
        subst (λ told. option_map (λ lines. stored_meta setup.shape lines x) told ≡ option_map (λ lines. line_at new.ledger.truth x) told)
        (sym comes) (by old.device.lines refl)
      where
        by : (told : Option (List Line)) → old.device.lines ≡ told
            → option_map (λ lines. stored_meta setup.shape lines x) (redone_told group told)
            ≡ option_map (λ lines. line_at new.ledger.truth x) (redone_told group told)
        by None told = refl
        by (Some lines) told =
            ap (λ (line : Line). Some line) ((step_over lines told).entries x is ∙ sym ((it.truth trusted).entries x within is))

  -- ---- the part of a call

  -- it went on, ..
  going_on : HasCommitted group old.device new.device → (AreTrusted setup old → AreTrusted setup new)
      → (AreSound setup old → AreSound setup new) → (AreTrusted setup old → KeepsPlaces setup (mark ∷ []) old new)
      → (AreTrusted setup old → KeepsMeta setup (mark ∷ []) old new)
      → (AreTrusted setup old → (page : ℕ) → page < layout.pages setup.shape → HoldsCounters setup old page → HoldsCounters setup new page)
      → IsGroup (layout.device_lines setup.shape) (regs_of new).group.items → OneLossEffect setup going (mark ∷ []) old new
  going_on done trusted sound places metadata counters group = search rules

  sound_over : HasCommitted group old.device new.device
      → ((lines : List Line) → old.device.lines ≡ Some lines → IsSound setup old.engine lines (regs_of old) old.ledger
      → IsSound setup new.engine (redone group lines) (regs_of new) new.ledger)
      → AreSound setup old → AreSound setup new
  sound_over done each sound = search rules

  pub done_committed : HasCommitted group old.device new.device → OneLossEffect setup going (mark ∷ []) old new
  done_committed done =
      going_on done
      (λ trusted.
      trusted_after setup mark written entry old.engine new.engine (regs_of old) old.ledger new.ledger
      (it.truth trusted) (regs_of new) trusted (it.anchored trusted empty) done.no_group)
      (sound_over done
      (λ lines told sound.
      sound_after setup mark written entry old.engine new.engine (regs_of old) old.ledger new.ledger lines (redone group lines)
      (step_over lines told) (it.truth sound.trusted) it.noted.marks sound (regs_of new)
      (AreLinesOf-redone (layout.device_lines setup.shape) group lines it.is_group.lines_range (whole_lines lines told))
      done.no_group it.loss (it.anchored sound.trusted empty)))
      (λ trusted. places_kept (comes_committed done) (keeps trusted))
      (λ trusted. metadata_kept (comes_committed done) (keeps trusted) (it.truth trusted).touched)
      (λ trusted other within. counters_kept (comes_committed done) other within (keeps trusted))
      empty
    where
      empty : IsGroup (layout.device_lines setup.shape) (regs_of new).group.items
      empty =
          subst (IsGroup (layout.device_lines setup.shape)) (sym done.no_group) (IsGroup-nil (layout.device_lines setup.shape))

  -- .. or was cut while the group was armed
  module _ (mid : Device) (latched : HasLatched old.device (regs_of new) mid) (armed : (regs_of new).group.items ≡ group)
      (was : IsInterrupted group mid new.device) where
    -- it comes to the same
    comes_armed : lines_redone new ≡ redone_told group old.device.lines
    comes_armed = ap (λ items. redone_told items new.device.lines) armed ∙ was.again ∙ ap (redone_told group) latched.lines

    cut_amid : (AreTrusted setup old → IsAnchored setup (regs_of new) new.ledger)
        → (AreSound setup old → AreDurable setup new) → (AreTrusted setup old → KeepsPlaces setup (mark ∷ []) old new)
        → (AreTrusted setup old → (page : ℕ) → page < layout.pages setup.shape → HoldsCounters setup old page → HoldsCounters setup new page)
        → IsGroup (layout.device_lines setup.shape) (regs_of new).group.items → OneLossEffect setup cut_short (mark ∷ []) old new
    cut_amid anchored durable places counters group = search rules

    durable_over : IsDevice new.device
        → ((lines : List Line) → old.device.lines ≡ Some lines → IsSound setup old.engine lines (regs_of old) old.ledger
        → IsDurable setup lines (regs_of new) new.ledger)
        → AreSound setup old → AreDurable setup new
    durable_over whole each sound = search (rules, comes_armed)

    armed_group : IsGroup (layout.device_lines setup.shape) (regs_of new).group.items
    armed_group = subst (IsGroup (layout.device_lines setup.shape)) (sym armed) it.is_group

    pub done_cut : IsDevice new.device → OneLossEffect setup cut_short (mark ∷ []) old new
    done_cut whole =
        cut_amid (λ trusted. it.anchored trusted armed_group)
        (durable_over whole
        (λ lines told sound.
        durable_while_armed setup mark written entry old.engine new.engine (regs_of old) old.ledger new.ledger lines
        (redone group lines) (step_over lines told) (it.truth sound.trusted) it.noted.marks sound group (regs_of new) refl
        armed it.loss (it.anchored sound.trusted armed_group)))
        (λ trusted. places_kept comes_armed (keeps trusted)) (λ trusted other within. counters_kept comes_armed other within (keeps trusted))
        armed_group
