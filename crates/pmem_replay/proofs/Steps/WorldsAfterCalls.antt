-- What a world still holds after a call of the engine that goes on, or that is cut.
use Rattle.std.proofs.Common.{rules}
use Rattle.std.proofs.Common.{ℕ, ◌≡◌, ◌≢◌, ◌<◌, ◌≤◌, ◌+◌, ◌-◌, ◌++◌, ◌⊎◌, inl, inr, true, false, List, length, IsTrue, Some, None, sym, ap, subst, subst₂, ◌∙◌, arith}
use Rattle.std.specs.Prelude.{Bool, not, IfSome, option_map}
use Rattle.std.proofs.lemmas.Option.{same_Some}
use Rattle.pmem_base.specs.declared.answers.Mark.{Mark}
use Rattle.pmem_base.specs.Counts.{last_count, HasRisen}
use Rattle.pmem_base.specs.Shape.{Shape}
use Rattle.pmem_base.specs.Layout as layout
use Rattle.pmem_base.specs.declared.answers.Stat.{Stat}
use Rattle.board.specs.Memory.{BoardMemory}
use Rattle.pmem_base.specs.Lines.{line_at}
use Rattle.pmem_base.specs.Marks.{last_seal}
use Rattle.bonsai_tree.specs.Positions.{counter_position}
use Rattle.meta_cache.specs.Banks.{IsBanksOf, is_cached_dirty}
use Rattle.suite.specs.Setup.{Setup}
use Rattle.plain_model.specs.State.{PlainState, is_flagged, has_flags}
use Rattle.plain_model.specs.After.{steps_with}
use Rattle.plain_model.specs.Bounds.{can_be_dirty, group_bound}
use Rattle.plain_model.specs.View.{IsMemoryOf}
use Rattle.pmem_engine.specs.Engine.{EngineState}
use Rattle.pmem_engine.specs.Invariants.{IsCounterStored}
use Rattle.pmem_engine.specs.Parts.{Parts}
use Rattle.call_effects.specs.Outcomes.{going, cut_short}
use Rattle.call_effects.proofs.PowerLaws.{going_uncut}
use Rattle.pmem_engine.specs.Outcomes.{is_sealed_by, KeepsPlaces, CallEffect}
use Rattle.pmem_replay.specs.World.{WorldState, AreKept, HasFlags, HasQueues, HasBoard, HasSteps, IsOn, IsOff, IsWorld, IsPowered, IsOtherCipher, lines_in}
use Rattle.watched_board.specs.declared.taken.Taken.{Taken}
use Rattle.watched_board.specs.Watching.{none_taken, steps_in, step_limit, counted, AreInCount, FollowsOn}
use Rattle.watched_board.proofs.StepLaws.{rose}
use Rattle.pmem_replay.specs.During.{parts_in}
use Rattle.pmem_replay.specs.EngineCalls.{IsCall}
use Rattle.pmem_engine.proofs.PostedWrites.WriteParts.{last_seal-unsealed}

-- a world with power on
pub on_in : (setup : Setup) (world : WorldState) (engine : EngineState) → IsWorld setup world → world.engine ≡ Some engine → IsOn setup world engine
on_in setup world engine whole there = subst (λ e. IsPowered setup world e) there whole.chip

-- the flags of tampering that a call leaves, by the seals that it made
pub record IsHealed (setup : Setup) (made : List Mark) (old new : PlainState) : Type 0 where
  pub named : new.named ≡ old.named
  pub loose : new.loose ≡ old.loose
  pub hurt :
      (a : ℕ) → a < layout.data_lines setup.shape → is_flagged new.hurt a ≡ false
      → (is_flagged old.hurt a ≡ false) ⊎ IsTrue (is_sealed_by made a)
  pub spoiled :
      (a : ℕ) → a < layout.data_lines setup.shape → is_flagged new.spoiled a ≡ true
      → (is_flagged old.spoiled a ≡ true) × (is_sealed_by made a ≡ false)

-- what is kept of the counter blocks
pub record AreCountersKept (setup : Setup) (old new : WorldState) : Type 0 where
  pub each :
      old.state.loose ≡ false → (page : ℕ) → page < layout.pages setup.shape
      → is_flagged old.state.named (layout.meta_line setup.shape (counter_position setup.shape page)) ≡ false
      → IsCounterStored setup (lines_in old) old.board.regs.loss old.ledger.truth page
      → IsCounterStored setup (lines_in new) new.board.regs.loss new.ledger.truth page

module _ (setup : Setup) (old new : WorldState) (engine after : EngineState) (taken : Taken) (made : List Mark) where
  abbrev before : Parts
  before = parts_in old engine none_taken

  abbrev then_ : Parts
  then_ = parts_in new after taken

  -- a spoiled line that no mark seals stays another line than its last seal's
  other_cipher : KeepsPlaces setup made before then_ → new.ledger.marks ≡ old.ledger.marks ++ made
      → (a : ℕ) → a < layout.data_lines setup.shape → is_sealed_by made a ≡ false
      → IsOtherCipher old.ledger.marks a (line_at (lines_in old) a)
      → IsOtherCipher new.ledger.marks a (line_at (lines_in new) a)
  other_cipher places marks a within unsealed other =
      let its_line : line_at (lines_in new) a ≡ line_at (lines_in old) a =
      same_Some (line_at (lines_in new) a) (line_at (lines_in old) a) (places.data_lines a within unsealed) in
      let its_seal : last_seal new.ledger.marks a ≡ last_seal old.ledger.marks a =
      ap (λ marks. last_seal marks a) marks ∙ last_seal-unsealed old.ledger.marks made a unsealed in
      subst₂ (λ seal line. IfSome seal (λ s. line ≢ s.cipher)) (sym its_seal) (sym its_line) other

  -- what is kept place by place, after a call that goes on or is cut
  pub kept-called : AreKept setup old.state (lines_in old) old.board.regs.loss old.ledger
      → KeepsPlaces setup made before then_
      → new.ledger.marks ≡ old.ledger.marks ++ made
      → AreCountersKept setup old new
      → IsHealed setup made old.state new.state
      → AreKept setup new.state (lines_in new) new.board.regs.loss new.ledger
  kept-called kept places marks counters healed =
      record {
        seals =
            λ a within whole.
            elim (healed.hurt a within whole) [
              | inl was ↦ places.seals a within (inl (kept.seals a within was))
              | inr sealed ↦ places.seals a within (inr sealed)
            ];
        spoiled =
            λ a within broken.
            let was = healed.spoiled a within broken in
            other_cipher places marks a within was.1 (kept.spoiled a within was.0);
        counters =
            λ tight page within unnamed.
            let before_tight = sym healed.loose ∙ tight in
            let before_unnamed : is_flagged old.state.named (layout.meta_line setup.shape (counter_position setup.shape page)) ≡ false =
            subst (λ flags. is_flagged flags (layout.meta_line setup.shape (counter_position setup.shape page)) ≡ false) healed.named unnamed in
            counters.each before_tight page within before_unnamed (kept.counters before_tight page within before_unnamed);
        strict =
            λ x within at_once unnamed.
            places.strict x within at_once
            (kept.strict x within at_once (subst (λ flags. is_flagged flags (layout.meta_line setup.shape x) ≡ false) healed.named unnamed));
      }

  -- the chip after a call that goes on
  pub on-called : IsOn setup old engine → CallEffect setup going made before then_
      → IsHealed setup made old.state new.state → new.state.power ≡ true → after.down ≡ false → IsBanksOf setup.shape after.cache
      → ((bank x : ℕ) → is_cached_dirty setup.shape after.cache bank x ≡ true → IsTrue (can_be_dirty setup.shape new.state x))
      → IsOn setup new after
  on-called on gone healed power up whole_cache dirty =
      record {
        powered = power;
        up = up;
        trusted = gone.trusted on.trusted;
        sound =
            λ honest.
            gone.sound (on.sound (subst (λ flags. has_flags flags ≡ false) healed.named honest));
        whole_cache = whole_cache;
        metadata =
            λ tight x within unnamed.
            (gone.metadata on.trusted).true_or_dirty x within
            (on.metadata (sym healed.loose ∙ tight) x within
            (subst (λ flags. is_flagged flags (layout.meta_line setup.shape x) ≡ false) healed.named unnamed));
        dirty = dirty;
      }

  -- the chip after a cut
  pub off-cut : IsOn setup old engine → CallEffect setup cut_short made before then_
      → IsHealed setup made old.state new.state → new.state.power ≡ false → IsOff setup new
  off-cut on gone healed power =
      record {
        unpowered = power;
        anchored = gone.trusted on.trusted;
        durable =
            λ honest.
            gone.sound (on.sound (subst (λ flags. has_flags flags ≡ false) healed.named honest));
      }

-- ---- fuse, snapshot and counts

-- a count after two rises, while it is below its end
counted-exact : (before more after : ℕ) → after ≡ counted before more → after < last_count → after ≡ before + more
counted-exact before more after it exact = omega (arith, it, exact)

counted-rises : (start before more after : ℕ) → after ≡ counted before more → start ≤ before → before ≤ last_count → start ≤ after
counted-rises start before more after it low high = omega (arith, it, low, high)

-- the steps since formatting once these were taken
pub steps-taken : (old_state new_state : PlainState) (old new : BoardMemory) (start : Stat) (taken : Taken)
    → HasSteps old_state old start → AreInCount old → FollowsOn old new taken
    → new_state.steps ≡ steps_with old_state.steps (steps_in taken) → HasSteps new_state new start
steps-taken old_state new_state old new start taken steps in_count follows after = search (rules, arith, counted-exact, counted-rises)

-- the board after a call that goes on
pub board-going : {g : Shape} (old_state new_state : PlainState) (old new : BoardMemory) (taken : Taken)
    → HasBoard g old_state old → FollowsOn old new taken
    → new.powered ≡ true → new_state.power ≡ true → new_state.snapped ≡ old_state.snapped
    → new_state.fuse ≡ option_map (λ n. n - steps_in taken) old_state.fuse
    → new.regs.loss ≡ new_state.loss → length new.regs.group.items ≤ group_bound g
    → HasBoard g new_state new
board-going old_state new_state old new taken board follows powered power snapped fuse loss few = search rules

-- the board after a cut
pub board-cut : {g : Shape} (old_state new_state : PlainState) (old new : BoardMemory) (taken : Taken)
    → HasBoard g old_state old → FollowsOn old new taken
    → new.powered ≡ false → new_state.power ≡ false → new_state.snapped ≡ old_state.snapped
    → new_state.fuse ≡ None
    → new.regs.loss ≡ new_state.loss → length new.regs.group.items ≤ group_bound g
    → HasBoard g new_state new
board-cut old_state new_state old new taken board follows powered power snapped fuse loss few = search rules

-- a cut below the limit comes where the fuse stood at the steps taken
pub cut_at_fuse : {g : Shape} (state : PlainState) (old new : BoardMemory) (taken : Taken) → HasBoard g state old → FollowsOn old new taken
    → new.powered ≡ false → steps_in taken < step_limit → state.fuse ≡ Some (steps_in taken)
cut_at_fuse state old new taken board follows off few =
    sym board.fuse ∙ follows.spent off few

-- steps are within the fuse while power lasts
pub within_fuse : {g : Shape} (state : PlainState) (old new : BoardMemory) (taken : Taken) → HasBoard g state old → FollowsOn old new taken
    → new.powered ≡ true → IfSome state.fuse (λ n. steps_in taken ≤ n)
within_fuse state old new taken board follows on =
    subst (λ fuse. IfSome fuse (λ n. steps_in taken ≤ n)) board.fuse (follows.lasting on)

-- the count of cuts rose where power was cut, and else it is as it was
pub cut_counted : {old new : BoardMemory} {taken : Taken} {cut : Bool} → FollowsOn old new taken → new.powered ≡ not cut
    → cut ≡ true → HasRisen old.cuts new.cuts
cut_counted follows power is = rose _ _ _ follows (power ∙ ap not is)

pub uncut_counted : {old new : BoardMemory} {taken : Taken} {cut : Bool} → FollowsOn old new taken → new.powered ≡ not cut
    → cut ≡ false → new.cuts ≡ old.cuts
uncut_counted follows power is = follows.uncut (power ∙ ap not is)

-- ---- the whole world

-- the parts of the state that a call leaves, or counts
pub record IsCountedOn (old new : PlainState) (taken : ℕ) : Type 0 where
  pub snapped : new.snapped ≡ old.snapped
  pub steps : new.steps ≡ steps_with old.steps taken

-- the world after a call that goes on
pub world-going : (setup : Setup) (old new : WorldState) (engine after : EngineState) (taken : Taken) (made : List Mark)
    → IsCall setup old new engine after taken
    → CallEffect setup going made (parts_in old engine none_taken) (parts_in new after taken)
    → AreCountersKept setup old new
    → IsHealed setup made old.state new.state
    → IsCountedOn old.state new.state (steps_in taken)
    → new.state.fuse ≡ option_map (λ n. n - steps_in taken) old.state.fuse
    → new.state.power ≡ true → after.down ≡ false → new.engine ≡ Some after
    → new.board.regs.loss ≡ new.state.loss
    → IsMemoryOf setup new.ledger.marks new.state.memory
    → HasFlags setup.shape new.state → HasQueues setup.shape new.state
    → IsBanksOf setup.shape after.cache
    → ((bank x : ℕ) → is_cached_dirty setup.shape after.cache bank x ≡ true → IsTrue (can_be_dirty setup.shape new.state x))
    → IsWorld setup new
world-going setup old new engine after taken made call gone counters healed counted_on fuse power up there loss memory flags queues whole_cache dirty =
    let on = on_in setup old engine call.world call.was_on in
    let powered : new.board.powered ≡ true = gone.power.1 (call.world.board.power ∙ on.powered) in
    let group : new.board.regs.group ≡ old.board.regs.group = gone.group going_uncut in
    record {
      its_shape = call.shape ∙ call.world.its_shape;
      whole_shape = call.world.whole_shape;
      whole_formulas = call.world.whole_formulas;
      whole_lines = record { count = gone.size ∙ call.world.whole_lines.count; each = call.each_line };
      memory = memory;
      chip =
          subst (λ e. IsPowered setup new e) (sym there)
          (on-called setup old new engine after taken made on gone healed power up whole_cache dirty);
      kept = kept-called setup old new engine after taken made call.world.kept (gone.places on.trusted) gone.marks counters healed;
      flags = flags;
      queues = queues;
      board =
          board-going old.state new.state old.board new.board taken call.world.board call.follows powered power counted_on.snapped fuse loss
          (subst (λ its. length its.items ≤ group_bound setup.shape) (sym group) call.world.board.few_armed);
      steps =
          subst (λ start. HasSteps new.state new.board start) (sym call.start)
          (steps-taken old.state new.state old.board new.board old.start taken call.world.steps call.in_count call.follows counted_on.steps);
    }

-- the world after a cut
pub world-cut : (setup : Setup) (old new : WorldState) (engine after : EngineState) (taken : Taken) (made : List Mark)
    → IsCall setup old new engine after taken
    → CallEffect setup cut_short made (parts_in old engine none_taken) (parts_in new after taken)
    → AreCountersKept setup old new
    → IsHealed setup made old.state new.state
    → IsCountedOn old.state new.state (steps_in taken)
    → new.state.fuse ≡ None
    → new.state.power ≡ false → new.engine ≡ None
    → new.board.regs.loss ≡ new.state.loss
    → IsMemoryOf setup new.ledger.marks new.state.memory
    → HasFlags setup.shape new.state → HasQueues setup.shape new.state
    → IsWorld setup new
world-cut setup old new engine after taken made call gone counters healed counted_on fuse power there loss memory flags queues =
    let on = on_in setup old engine call.world call.was_on in
    record {
      its_shape = call.shape ∙ call.world.its_shape;
      whole_shape = call.world.whole_shape;
      whole_formulas = call.world.whole_formulas;
      whole_lines = record { count = gone.size ∙ call.world.whole_lines.count; each = call.each_line };
      memory = memory;
      chip =
          subst (λ e. IsPowered setup new e) (sym there)
          (off-cut setup old new engine after taken made on gone healed power);
      kept = kept-called setup old new engine after taken made call.world.kept (gone.places on.trusted) gone.marks counters healed;
      flags = flags;
      queues = queues;
      board =
          board-cut old.state new.state old.board new.board taken call.world.board call.follows gone.power.1 power counted_on.snapped fuse loss
          (gone.small_group on.trusted.no_group);
      steps =
          subst (λ start. HasSteps new.state new.board start) (sym call.start)
          (steps-taken old.state new.state old.board new.board old.start taken call.world.steps call.in_count call.follows counted_on.steps);
    }
