-- A call of the engine over a world's own parts: the state and the world that it leaves.
use Rattle.std.proofs.Common.{ℕ, ◌≡◌, ◌<◌, ◌≤◌, Bool, true, false, List, Option, Some, None, refl, sym, ap, subst, ◌∙◌, arith}
use Rattle.std.specs.Prelude.{Result, All, IfSome, length, drop, if◌then◌else◌, not}
use Rattle.std.proofs.lemmas.Bool.{true≢false}
use Rattle.std.proofs.lemmas.List.{length-append}
use Rattle.std.proofs.Math.Seq.{drop-append_seam}
use Rattle.pmem_base.specs.declared.commands.Posted.{Posted}
use Rattle.pmem_base.specs.declared.answers.Mark.{Mark}
use Rattle.pmem_base.specs.Layout as layout
use Rattle.pmem_base.specs.WaitingWrites.{queues_after_loss}
use Rattle.board.specs.Memory.{BoardMemory}
use Rattle.meta_cache.specs.Banks.{IsBanksOf}
use Rattle.seal_ledger.specs.Ledger.{LedgerState, IsMark}
use Rattle.suite.specs.Setup.{Setup}
use Rattle.plain_model.specs.State.{PlainState}
use Rattle.plain_model.specs.After.{after_marks, steps_with}
use Rattle.plain_model.proofs.PlainMemory.{memory_is}
use Rattle.pmem_engine.specs.declared.fault.Fault.{Fault}
use Rattle.pmem_engine.specs.Engine.{EngineState}
use Rattle.pmem_engine.specs.Parts.{Parts, parts_of}
use Rattle.call_effects.specs.Outcomes.{Outcome, going, cut_short, shown, HasPower, is_going}
use Rattle.pmem_engine.specs.Outcomes.{outcome_of, LeavesTrusted}
use Rattle.watched_board.specs.declared.taken.Taken.{Taken}
use Rattle.watched_board.specs.Watching.{none_taken, steps_in, device_during}
use Rattle.pmem_replay.specs.During.{parts_in}
use Rattle.pmem_replay.specs.Flagged.{Tampering, Dirtying, with_dirtying, healed, healed_flags}
use Rattle.pmem_replay.specs.EngineCalls.{memory_put, written_line, engine_left, queues_left, power_left, fuse_left, is_outcome_shown, is_outcome_cut, called_state, IsLawful, IsLawfulCall, IsCall, HasCalledEngine}
use Rattle.pmem_replay.specs.World.{WorldState, WorldParts, IsOn, state_in, world_of}
use Rattle.pmem_replay.proofs.Steps.WorldsAfterCalls.{on_in}
use Rattle.pmem_replay.proofs.Steps.CallSurroundings.{called, IsServed, call_of}
use Rattle.pmem_replay.proofs.Marks.DirtyBlocks.{dirty_slots-le}
use Rattle.pmem_replay.proofs.Steps.MarklessCalls.{accounted_in}
use Rattle.pmem_replay.proofs.Commands.LossLaws.{few_slots}
use Rattle.pmem_replay.proofs.EngineCalls.Worlds.{length-memory_put, world_called}

-- ---- by how the call ended

pub lost_engine : (o : Outcome) (after : EngineState) (cut : Bool) → cut ≡ is_outcome_cut o → (if cut then None else Some after) ≡ engine_left o after
lost_engine going after cut is = ap (λ (b : Bool). if b then None else Some after) is
lost_engine cut_short after cut is = ap (λ (b : Bool). if b then None else Some after) is
lost_engine shown after cut is = ap (λ (b : Bool). if b then None else Some after) is

lost_queues : (durable : Bool) (o : Outcome) (queues : List (List Posted)) (cut : Bool) → cut ≡ is_outcome_cut o
    → (if cut then queues_after_loss durable queues else queues) ≡ queues_left durable o queues
lost_queues durable going queues cut is = ap (λ (b : Bool). if b then queues_after_loss durable queues else queues) is
lost_queues durable cut_short queues cut is = ap (λ (b : Bool). if b then queues_after_loss durable queues else queues) is
lost_queues durable shown queues cut is = ap (λ (b : Bool). if b then queues_after_loss durable queues else queues) is

-- the parts after a call that no exhibit ended
abbrev pub parts_made : WorldParts → List ℕ → BoardMemory → LedgerState → ℕ → Option EngineState → ℕ → ℕ → ℕ → List (List Posted) → Tampering → Dirtying → WorldParts
parts_made p keys board ledger capacity e tags digests steps queues tampering dirtying =
    record (called p keys board ledger capacity e tags digests steps) { queues = queues; tampering = tampering; dirtying = dirtying }

module _ {T : Type 0} (setup : Setup) (p : WorldParts) (keys : List ℕ) (board : BoardMemory) (ledger : LedgerState) (capacity tags digests steps : ℕ)
    (engine after : EngineState) (taken : Taken) (served : IsServed setup p keys board steps engine taken)
    (same_capacity : capacity ≡ p.capacity) (relation : Setup → Parts → Parts → Result T Fault → Type 0) (write : Option Posted) (answer : Result T Fault)
    (made : IsLawfulCall relation write setup (parts_in (world_of setup p) engine none_taken) (parts_of after (device_during board taken) ledger tags digests) answer)
    (within : IfSome write (λ w. w.at < layout.data_lines setup.shape)) (down : after.down ≡ not (is_going (outcome_of answer))) where
  abbrev old : WorldState
  old = world_of setup p

  abbrev before : Parts
  before = parts_in old engine none_taken

  abbrev then_ : Parts
  then_ = parts_of after (device_during board taken) ledger tags digests

  on_now : IsOn setup old engine
  on_now = on_in setup old engine served.going.whole served.was_on

  pub lawful : IsLawful setup write old.state.memory before then_ answer
  lawful =
      made.lawful old.state.memory
      (record {
        whole_shape = served.going.whole.whole_shape;
        few_dirty =
            λ bank.
            omega (
              arith,
              dirty_slots-le setup.shape engine.cache old.state (accounted_in setup old engine served.going.whole on_now) bank,
              few_slots setup.shape served.going.whole.whole_shape,
            );
        trusted = on_now.trusted;
        its_memory = served.going.whole.memory.each;
        within = subst (λ n. IfSome write (λ w. w.at < n)) (sym served.going.whole.memory.count) within;
      })

  -- ---- the marks

  pub marks_longer : length p.ledger.marks ≤ length ledger.marks
  marks_longer = omega (arith, ap length lawful.effect.marks, length-append p.ledger.marks lawful.made)

  marks_since : drop (length p.ledger.marks) ledger.marks ≡ lawful.made
  marks_since = ap (drop (length p.ledger.marks)) lawful.effect.marks ∙ drop-append_seam p.ledger.marks lawful.made

  pub marks_whole : is_outcome_shown (outcome_of answer) ≡ false → All (IsMark setup.shape) ledger.marks
  marks_whole quiet = by_end (outcome_of answer) quiet (lawful.effect.trusted on_now.trusted)
    where
      by_end : (o : Outcome) → is_outcome_shown o ≡ false → LeavesTrusted setup o then_ → All (IsMark setup.shape) ledger.marks
      by_end going quiet it = it.anchored.of_shape.marks_in_range
      by_end cut_short quiet it = it.of_shape.marks_in_range
      by_end shown quiet it = absurd (true≢false quiet)

  -- ---- the world

  module _ (e : Option EngineState) (queues : List (List Posted)) (tampering : Tampering) (dirtying : Dirtying) where
    abbrev new : WorldState
    new = world_of setup (parts_made p keys board ledger capacity e tags digests steps queues tampering dirtying)

    call : IsCall setup old new engine after taken
    call = call_of setup p keys board steps engine after taken served new refl refl refl

    power_by : (o : Outcome) → HasPower o (device_during p.board none_taken) (device_during board taken) → board.powered ≡ power_left o p.board.powered
    power_by going power = let lit = served.going.whole.board.power ∙ on_now.powered in power.1 lit ∙ sym lit
    power_by cut_short power = power.1
    power_by shown power = let lit = served.going.whole.board.power ∙ on_now.powered in power.1 lit ∙ sym lit

    fuse_by : (o : Outcome) → is_outcome_shown o ≡ false → board.powered ≡ power_left o p.board.powered → board.fuse ≡ fuse_left o (steps_in taken) p.board.fuse
    fuse_by going quiet power = served.watched.follows.burnt (power ∙ served.going.whole.board.power ∙ on_now.powered)
    fuse_by cut_short quiet power = served.watched.follows.cleared power
    fuse_by shown quiet power = absurd (true≢false quiet)

    state_made : (o : Outcome) → is_outcome_shown o ≡ false
        → HasPower o (device_during p.board none_taken) (device_during board taken)
        → queues ≡ queues_left setup.shape.durable o p.queues
        → tampering ≡ healed (written_line write) (drop (length p.ledger.marks) ledger.marks) p.tampering
        → ((st : PlainState) → with_dirtying st dirtying ≡ after_marks setup.shape (with_dirtying st p.dirtying) (drop (length p.ledger.marks) ledger.marks))
        → new.state ≡ called_state setup.shape o write lawful.made (steps_in taken) board.regs.loss old.state
    state_made o quiet power moved heals noted =
        let memory = memory_is setup ledger.marks (memory_put write lawful.made old.state.memory)
        (record { count = length-memory_put write lawful.made old.state.memory ∙ served.going.whole.memory.count; each = lawful.its_memory }) in
        let its_power = power_by o power in
        let fuse = fuse_by o quiet its_power in
        let healing : tampering ≡ healed (written_line write) lawful.made p.tampering =
        heals ∙ ap (λ (ms : List Mark). healed (written_line write) ms p.tampering) marks_since in
        let named = ap (λ (t : Tampering). t.named) healing in
        let hurt = ap (λ (t : Tampering). t.hurt) healing in
        let spoiled = ap (λ (t : Tampering). t.spoiled) healing in
        let loose = ap (λ (t : Tampering). t.loose) healing in
        let st : PlainState = record (state_in setup p) {
          memory = memory_put write lawful.made old.state.memory;
          queues = queues_left setup.shape.durable o p.queues;
          power = power_left o p.board.powered;
          fuse = fuse_left o (steps_in taken) p.board.fuse;
          steps = steps_with p.steps (steps_in taken);
          hurt = healed_flags (written_line write) lawful.made p.tampering.hurt;
          spoiled = healed_flags (written_line write) lawful.made p.tampering.spoiled;
          loss = board.regs.loss;
        } in
        let same : new.state ≡ with_dirtying st dirtying =
        cc (memory, its_power, fuse, moved, served.watched.follows.snapshot, served.counted, named, hurt, spoiled, loose) in
        same ∙ noted st ∙ ap (after_marks setup.shape (with_dirtying st p.dirtying)) marks_since

    -- no exhibit ended it
    pub was_called : (cut : Bool) → is_outcome_shown (outcome_of answer) ≡ false → cut ≡ is_outcome_cut (outcome_of answer)
        → e ≡ (if cut then None else Some after) → queues ≡ (if cut then queues_after_loss setup.shape.durable p.queues else p.queues)
        → tampering ≡ healed (written_line write) (drop (length p.ledger.marks) ledger.marks) p.tampering
        → ((st : PlainState) → with_dirtying st dirtying ≡ after_marks setup.shape (with_dirtying st p.dirtying) (drop (length p.ledger.marks) ledger.marks))
        → IsBanksOf after.shape after.cache
        → HasCalledEngine setup relation write old taken answer new
    was_called cut quiet is kept moved heals noted whole_cache =
        let engine_now = kept ∙ lost_engine (outcome_of answer) after cut is in
        let state = state_made (outcome_of answer) quiet lawful.effect.power (moved ∙ lost_queues setup.shape.durable (outcome_of answer) p.queues cut is) heals noted in
        record {
          engine = engine;
          after = after;
          call = call;
          keys = served.same_keys;
          capacity = same_capacity;
          related = made.related;
          lawful = lawful;
          up = on_now.up;
          down = down;
          kept = engine_now;
          shown = served.going.unshown ∙ sym quiet;
          state = λ unshown. state;
          holds =
              λ unshown.
              world_called setup old new engine after taken call write lawful.made lawful.its_memory lawful.sealed_before lawful.counters
              (outcome_of answer) lawful.effect quiet state down engine_now
              (subst (λ g. IsBanksOf g after.cache) (lawful.effect.shape ∙ on_now.trusted.its_shape) whole_cache);
        }

  -- an exhibit ended it
  pub was_shown : is_outcome_shown (outcome_of answer) ≡ true
      → HasCalledEngine setup relation write old taken answer (world_of setup (record (called p keys board ledger capacity (Some after) tags digests steps) { shown = true }))
  was_shown is =
      record {
        engine = engine;
        after = after;
        call = call_of setup p keys board steps engine after taken served (world_of setup (record (called p keys board ledger capacity (Some after) tags digests steps) { shown = true })) refl refl refl;
        keys = served.same_keys;
        capacity = same_capacity;
        related = made.related;
        lawful = lawful;
        up = on_now.up;
        down = down;
        kept = stays (outcome_of answer) is;
        shown = sym is;
        state = λ unshown. absurd (true≢false unshown);
        holds = λ unshown. absurd (true≢false unshown);
      }
    where
      stays : (o : Outcome) → is_outcome_shown o ≡ true → Some after ≡ engine_left o after
      stays going is = refl
      stays cut_short is = absurd (true≢false (sym is))
      stays shown is = refl
