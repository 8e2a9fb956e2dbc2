-- The world after a call of the engine is a world, by the law that each call owes.
use Rattle.std.proofs.Common.{ℕ, ◌≡◌, ◌≢◌, ◌<◌, inl, inr, ◌⊎◌, Bool, true, false, List, length, IsTrue, Option, Some, None, refl, sym, ap, subst, ◌∙◌, arith}
use Rattle.std.specs.Prelude.{All, if◌then◌else◌, not}
use Rattle.std.proofs.lemmas.Bool.{true≢false, cases_Bool, cases_eq, cases_lt}
use Rattle.std.proofs.lemmas.Option.{same_Some, none-some}
use Rattle.std.proofs.lemmas.List.{length-set, get_or-set_same, get_or-set_other, get_or_past}
use Rattle.pmem_base.specs.declared.commands.Posted.{Posted}
use Rattle.pmem_base.specs.declared.answers.Mark.{Mark}
use Rattle.pmem_base.specs.Layout as layout
use Rattle.pmem_base.specs.Lines.{line_at}
use Rattle.pmem_base.specs.WaitingWrites.{put_write}
use Rattle.pmem_base.proofs.ListLaws.{All-append_right}
use Rattle.bonsai_tree.specs.Positions.{counter_position}
use Rattle.meta_cache.specs.Banks.{is_cached_dirty, IsBanksOf}
use Rattle.seal_ledger.specs.Ledger.{IsMark}
use Rattle.suite.specs.Setup.{Setup}
use Rattle.plain_model.specs.State.{PlainState, Memory, is_flagged, without_flag, memory_with}
use Rattle.plain_model.specs.Bounds.{can_be_dirty}
use Rattle.plain_model.specs.View.{IsMemoryOf}
use Rattle.pmem_engine.specs.Engine.{EngineState}
use Rattle.pmem_engine.specs.Parts.{HoldsSeal, HoldsCounters, HoldsMeta}
use Rattle.call_effects.specs.Outcomes.{Outcome, going, cut_short, shown, is_going}
use Rattle.pmem_engine.specs.Outcomes.{is_sealed_by, CallEffect}
use Rattle.pmem_engine.specs.Calls.{IsMemory}
use Rattle.pmem_replay.specs.Flagged.{healed_flags}
use Rattle.pmem_replay.specs.World.{WorldState, HasFlags, HasQueues, IsOn, IsWorld, lines_in}
use Rattle.watched_board.specs.declared.taken.Taken.{Taken}
use Rattle.watched_board.specs.Watching.{none_taken, steps_in}
use Rattle.pmem_replay.specs.During.{parts_in}
use Rattle.pmem_replay.specs.EngineCalls.{memory_put, written_line, engine_left, is_outcome_shown, called_state, IsCall}
use Rattle.pmem_replay.proofs.Steps.WorldsAfterCalls.{on_in, IsHealed, AreCountersKept, world-going, world-cut}
use Rattle.pmem_replay.proofs.Steps.FaultCauses.{stored_unspoiled, counter_position-within}
use Rattle.pmem_replay.proofs.Steps.MarklessCalls.{HasQueues-lost}
use Rattle.pmem_replay.proofs.Marks.AfterMarks.{after_marks-is, touched_after, flushed_after, length-touched_after, length-flushed_after, may_be, may_be-kept, may_be-touched}

-- ---- the write's line

pub length-memory_put : (write : Option Posted) (made : List Mark) (memory : Memory) → length (memory_put write made memory) ≡ length memory
length-memory_put None made memory = refl
length-memory_put (Some write) made memory = one (is_sealed_by made write.at)
  where
    one : (put : Bool) → length (if put then memory_with memory write else memory) ≡ length memory
    one true = length-set memory write.at (put_write (line_at memory write.at) write)
    one false = refl

pub length-healed : (line : Option ℕ) (made : List Mark) (flags : List Bool) → length (healed_flags line made flags) ≡ length flags
length-healed None made flags = refl
length-healed (Some at) made flags = one (is_sealed_by made at)
  where
    one : (put : Bool) → length (if put then without_flag flags at else flags) ≡ length flags
    one true = length-set flags at false
    one false = refl

-- a flag that was taken away isn't set
unset_flag : (flags : List Bool) (at a : ℕ) → is_flagged (without_flag flags at) a ≡ true → (a ≢ at) × (is_flagged flags a ≡ true)
unset_flag flags at a set =
    elim (cases_eq a at) [
      | inl same ↦
          absurd (true≢false (sym set ∙ ap (is_flagged (without_flag flags at)) same ∙ gone))
      | inr apart ↦ (apart, sym (get_or-set_other flags at a false false apart) ∙ set)
    ]
  where
    gone : is_flagged (without_flag flags at) at ≡ false
    gone =
        elim (cases_lt at (length flags)) [
          | inl within ↦ get_or-set_same flags at false false within
          | inr past ↦ get_or_past (without_flag flags at) at false (omega (arith, past, length-set flags at false))
        ]

-- a flag that isn't set afterwards wasn't before, or its line was sealed
cleared : (line : Option ℕ) (made : List Mark) (flags : List Bool) (a : ℕ) → is_flagged (healed_flags line made flags) a ≡ false
    → (is_flagged flags a ≡ false) ⊎ IsTrue (is_sealed_by made a)
cleared None made flags a clear = inl clear
cleared (Some at) made flags a clear = one (is_sealed_by made at) refl clear
  where
    one : (put : Bool) → is_sealed_by made at ≡ put → is_flagged (if put then without_flag flags at else flags) a ≡ false
        → (is_flagged flags a ≡ false) ⊎ IsTrue (is_sealed_by made a)
    one true sealed clear =
        elim (cases_eq a at) [
          | inl same ↦ inr (subst (λ z. IsTrue (is_sealed_by made z)) (sym same) sealed)
          | inr apart ↦ inl (sym (get_or-set_other flags at a false false apart) ∙ clear)
        ]
    one false unsealed clear = inl clear

-- a flag that is set was set before, and is that of the line only where it wasn't sealed
still_set : (line : Option ℕ) (made : List Mark) (flags : List Bool) (a : ℕ) → is_flagged (healed_flags line made flags) a ≡ true
    → (is_flagged flags a ≡ true) × (line ≡ Some a → is_sealed_by made a ≡ false)
still_set None made flags a set = (set, λ same. absurd (none-some a same))
still_set (Some at) made flags a set = one (is_sealed_by made at) refl set
  where
    one : (put : Bool) → is_sealed_by made at ≡ put → is_flagged (if put then without_flag flags at else flags) a ≡ true
        → (is_flagged flags a ≡ true) × (Some at ≡ Some a → is_sealed_by made a ≡ false)
    one true sealed set =
        let was = unset_flag flags at a set in
        (was.1, λ same. absurd (was.0 (sym (same_Some at a same))))
    one false unsealed set = (set, λ same. ap (is_sealed_by made) (sym (same_Some at a same)) ∙ unsealed)

-- ---- the world

module _ (setup : Setup) (old new : WorldState) (engine after : EngineState) (taken : Taken) (call : IsCall setup old new engine after taken)
    (write : Option Posted) (made : List Mark)
    (memory : IsMemory setup (memory_put write made old.state.memory) (parts_in new after taken))
    (sealed_before : (a : ℕ) → a < layout.data_lines setup.shape → IsTrue (is_sealed_by made a) → written_line write ≢ Some a
    → HoldsSeal setup.shape (parts_in old engine none_taken) a)
    (counters : (page : ℕ) → page < layout.pages setup.shape → HoldsMeta setup.shape (parts_in old engine none_taken) (counter_position setup.shape page)
    → HoldsCounters setup (parts_in old engine none_taken) page → HoldsCounters setup (parts_in new after taken) page) where
  on_now : IsOn setup old engine
  on_now = on_in setup old engine call.world call.was_on

  abbrev state_at : Outcome → PlainState
  state_at o = called_state setup.shape o write made (steps_in taken) new.board.regs.loss old.state

  abbrev touched_now : List Bool
  touched_now = touched_after old.state.touched made

  abbrev flushed_now : List Bool
  flushed_now = flushed_after setup.shape old.state.flushed made

  kept_counters : AreCountersKept setup old new
  kept_counters =
      record {
        each =
            λ tight page within unnamed it.
            counters page within
            (on_now.metadata tight (counter_position setup.shape page) (counter_position-within setup.shape page within) unnamed) it;
      }

  memory_now : IsMemoryOf setup new.ledger.marks (memory_put write made old.state.memory)
  memory_now = record { count = length-memory_put write made old.state.memory ∙ call.world.memory.count; each = memory }

  healed_now : new.state.named ≡ old.state.named → new.state.loose ≡ old.state.loose
      → new.state.hurt ≡ healed_flags (written_line write) made old.state.hurt → new.state.spoiled ≡ healed_flags (written_line write) made old.state.spoiled
      → IsHealed setup made old.state new.state
  healed_now named loose hurt spoiled =
      record {
        named = named;
        loose = loose;
        hurt = λ a within whole. cleared (written_line write) made old.state.hurt a (sym (ap (λ flags. is_flagged flags a) hurt) ∙ whole);
        spoiled =
            λ a within broken.
            let was = still_set (written_line write) made old.state.spoiled a (sym (ap (λ flags. is_flagged flags a) spoiled) ∙ broken) in
            elim (cases_Bool (is_sealed_by made a)) [
              | inl sealed ↦
                  absurd (true≢false (sym was.0
                  ∙ stored_unspoiled setup old.state (lines_in old) old.board.regs.loss old.ledger a call.world.kept within
                  (sealed_before a within sealed (λ same. true≢false (sym sealed ∙ was.1 same)))))
              | inr unsealed ↦ (was.0, unsealed)
            ];
      }

  flags_now : (state : PlainState) → state.named ≡ old.state.named → state.hurt ≡ healed_flags (written_line write) made old.state.hurt
      → state.spoiled ≡ healed_flags (written_line write) made old.state.spoiled → state.touched ≡ touched_now → state.flushed ≡ flushed_now
      → HasFlags setup.shape state
  flags_now state named hurt spoiled touched flushed =
      record {
        named = ap length named ∙ call.world.flags.named;
        hurt = ap length hurt ∙ length-healed (written_line write) made old.state.hurt ∙ call.world.flags.hurt;
        spoiled = ap length spoiled ∙ length-healed (written_line write) made old.state.spoiled ∙ call.world.flags.spoiled;
        touched = ap length touched ∙ length-touched_after old.state.touched made ∙ call.world.flags.touched;
        flushed = ap length flushed ∙ length-flushed_after setup.shape old.state.flushed made call.world.flags.flushed;
      }

  may_be_dirty : CallEffect setup going made (parts_in old engine none_taken) (parts_in new after taken)
      → new.state.touched ≡ touched_now → new.state.flushed ≡ flushed_now
      → (bank x : ℕ) → is_cached_dirty setup.shape after.cache bank x ≡ true → IsTrue (can_be_dirty setup.shape new.state x)
  may_be_dirty effect touched flushed bank x dirty =
      let marks : All (IsMark setup.shape) made =
      All-append_right (IsMark setup.shape) old.ledger.marks made
      (subst (λ ms. All (IsMark setup.shape) ms) effect.marks (effect.trusted on_now.trusted).anchored.of_shape.marks_in_range) in
      let may : may_be setup.shape touched_now flushed_now x ≡ true =
      elim ((effect.metadata on_now.trusted).dirty bank x dirty) [
        | inl was ↦ may_be-kept setup.shape old.state.touched old.state.flushed made x (on_now.dirty bank x was)
        | inr by ↦ may_be-touched setup.shape old.state.touched old.state.flushed made x call.world.flags.touched marks by
      ] in
      subst (λ t. may_be setup.shape t new.state.flushed x ≡ true) (sym touched)
      (subst (λ f. may_be setup.shape touched_now f x ≡ true) (sym flushed) may)

  world_on : CallEffect setup going made (parts_in old engine none_taken) (parts_in new after taken)
      → new.state ≡ state_at going → after.down ≡ false → new.engine ≡ Some after → IsBanksOf setup.shape after.cache → IsWorld setup new
  world_on effect is up there whole_cache =
      let state = is ∙ after_marks-is setup.shape _ made in
      world-going setup old new engine after taken made call effect kept_counters
      (healed_now (ap (λ s. s.named) state) (ap (λ s. s.loose) state) (ap (λ s. s.hurt) state) (ap (λ s. s.spoiled) state))
      (record { snapped = ap (λ s. s.snapped) state; steps = ap (λ s. s.steps) state })
      (ap (λ s. s.fuse) state) (ap (λ s. s.power) state ∙ on_now.powered) up there (sym (ap (λ s. s.loss) state))
      (subst (λ s. IsMemoryOf setup new.ledger.marks s.memory) (sym state) memory_now)
      (flags_now new.state (ap (λ s. s.named) state) (ap (λ s. s.hurt) state) (ap (λ s. s.spoiled) state) (ap (λ s. s.touched) state) (ap (λ s. s.flushed) state))
      (subst (λ s. HasQueues setup.shape s) (sym state) (record { ports = call.world.queues.ports; on_memory = call.world.queues.on_memory }))
      whole_cache
      (may_be_dirty effect (ap (λ s. s.touched) state) (ap (λ s. s.flushed) state))

  world_off : CallEffect setup cut_short made (parts_in old engine none_taken) (parts_in new after taken)
      → new.state ≡ state_at cut_short → new.engine ≡ None → IsWorld setup new
  world_off effect is gone =
      let state = is ∙ after_marks-is setup.shape _ made in
      world-cut setup old new engine after taken made call effect kept_counters
      (healed_now (ap (λ s. s.named) state) (ap (λ s. s.loose) state) (ap (λ s. s.hurt) state) (ap (λ s. s.spoiled) state))
      (record { snapped = ap (λ s. s.snapped) state; steps = ap (λ s. s.steps) state })
      (ap (λ s. s.fuse) state) (ap (λ s. s.power) state) gone (sym (ap (λ s. s.loss) state))
      (subst (λ s. IsMemoryOf setup new.ledger.marks s.memory) (sym state) memory_now)
      (flags_now new.state (ap (λ s. s.named) state) (ap (λ s. s.hurt) state) (ap (λ s. s.spoiled) state) (ap (λ s. s.touched) state) (ap (λ s. s.flushed) state))
      (HasQueues-lost setup.shape setup.shape.durable old.state new.state call.world.queues (ap (λ s. s.queues) state))

  -- the law: unless an exhibit ended it
  pub world_called : (o : Outcome) → CallEffect setup o made (parts_in old engine none_taken) (parts_in new after taken)
      → is_outcome_shown o ≡ false → new.state ≡ state_at o → after.down ≡ not (is_going o) → new.engine ≡ engine_left o after → IsBanksOf setup.shape after.cache
      → IsWorld setup new
  world_called going effect quiet state up kept whole_cache = world_on effect state up kept whole_cache
  world_called cut_short effect quiet state up kept whole_cache = world_off effect state kept
  world_called shown effect quiet state up kept whole_cache = absurd (true≢false quiet)
