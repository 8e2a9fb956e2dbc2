-- A world in which blocks were noted as clean, or a write waits no more, is a world.
use Rattle.std.proofs.Common.{ℕ, ◌≡◌, ◌<◌, Bool, true, false, List, Option, Some, None, IsTrue, refl, sym, ap, subst, ◌∙◌}
use Rattle.std.specs.Prelude.{length, drop, not, slice_set, ◌&&◌}
use Rattle.std.specs.List.{list_any, range_with_len}
use Rattle.std.proofs.lemmas.Bool.{true≢false, and_parts, and_from}
use Rattle.std.proofs.lemmas.List.{length-replicate, length-set, get_or-set_other}
use Rattle.pmem_base.specs.declared.commands.Posted.{Posted}
use Rattle.pmem_base.specs.Shape.{is_lazy}
use Rattle.pmem_base.specs.Layout as layout
use Rattle.pmem_base.specs.WaitingWrites.{queue_of}
use Rattle.bonsai_tree.specs.Positions.{level_of, is_on_path}
use Rattle.meta_cache.specs.Banks.{is_cached_dirty}
use Rattle.suite.specs.Setup.{Setup}
use Rattle.plain_model.specs.State.{is_flagged, with_flag, no_flags}
use Rattle.plain_model.specs.After.{after_clean}
use Rattle.plain_model.specs.Bounds.{can_be_dirty}
use Rattle.pmem_engine.specs.Engine.{EngineState}
use Rattle.pmem_replay.specs.EngineCalls.{IsCleanIn, IsCleanAt, without_oldest}
use Rattle.pmem_replay.specs.World.{WorldState, HasQueues, IsPowered, IsWorld}
use Rattle.pmem_replay.proofs.Steps.WorldsAfterCalls.{on_in}
use Rattle.pmem_replay.proofs.Drains.WriteWorlds.{HasQueues-shorter}

-- with other queues and other flags of dirty blocks, where these still tell of each that is dirty
restated : (setup : Setup) (old : WorldState) (queues : List (List Posted)) (touched flushed : List Bool) → IsWorld setup old
    → HasQueues setup.shape (record (old.state) { queues = queues; touched = touched; flushed = flushed })
    → length touched ≡ layout.pages setup.shape → length flushed ≡ layout.meta_lines setup.shape
    → ((engine : EngineState) → old.engine ≡ Some engine → (bank x : ℕ) → is_cached_dirty setup.shape engine.cache bank x ≡ true
    → IsTrue (can_be_dirty setup.shape (record (old.state) { queues = queues; touched = touched; flushed = flushed }) x))
    → IsWorld setup (record old { state = record (old.state) { queues = queues; touched = touched; flushed = flushed } })
restated setup old queues touched flushed whole waiting touched_count flushed_count dirty =
    record {
      its_shape = whole.its_shape;
      whole_shape = whole.whole_shape;
      whole_formulas = whole.whole_formulas;
      whole_lines = whole.whole_lines;
      memory = record { count = whole.memory.count; each = whole.memory.each };
      chip = chip old.engine whole.chip dirty;
      kept = record { seals = whole.kept.seals; spoiled = whole.kept.spoiled; counters = whole.kept.counters; strict = whole.kept.strict };
      flags =
          record {
            named = whole.flags.named;
            hurt = whole.flags.hurt;
            spoiled = whole.flags.spoiled;
            touched = touched_count;
            flushed = flushed_count;
          };
      queues = waiting;
      board =
          record {
            power = whole.board.power;
            fuse = whole.board.fuse;
            snapped = whole.board.snapped;
            loss = whole.board.loss;
            few_armed = whole.board.few_armed;
          };
      steps =
          record {
            in_range = whole.steps.in_range;
            reads = whole.steps.reads;
            writes = whole.steps.writes;
            latches = whole.steps.latches;
            sum = whole.steps.sum;
          };
    }
  where
    chip : (engine : Option EngineState) → IsPowered setup old engine
        → ((found : EngineState) → engine ≡ Some found → (bank x : ℕ) → is_cached_dirty setup.shape found.cache bank x ≡ true
        → IsTrue (can_be_dirty setup.shape (record (old.state) { queues = queues; touched = touched; flushed = flushed }) x))
        → IsPowered setup (record old { state = record (old.state) { queues = queues; touched = touched; flushed = flushed } }) engine
    chip None off may = record { unpowered = off.unpowered; anchored = off.anchored; durable = off.durable }
    chip (Some engine) on may =
        record {
          powered = on.powered;
          up = on.up;
          trusted = on.trusted;
          sound = on.sound;
          whole_cache = on.whole_cache;
          metadata = on.metadata;
          dirty = may engine refl;
        }

-- nothing is dirty
pub clean_noted : (setup : Setup) (old : WorldState) → IsWorld setup old → IsCleanIn setup.shape old.engine
    → IsWorld setup (record old { state = after_clean setup.shape old.state })
unfolding no_flags
clean_noted setup old whole clean =
    restated setup old old.state.queues (no_flags (layout.pages setup.shape)) (no_flags (layout.meta_lines setup.shape)) whole
    (record { ports = whole.queues.ports; on_memory = whole.queues.on_memory })
    (length-replicate (layout.pages setup.shape) false) (length-replicate (layout.meta_lines setup.shape) false)
    (λ engine there bank x dirty.
    absurd (true≢false (sym dirty ∙ (subst (λ (e : Option EngineState). IsCleanIn setup.shape e) there clean) bank x)))

-- the block at x was written back, and is clean
pub flushed_noted : (setup : Setup) (old : WorldState) (x : ℕ) → IsWorld setup old → IsCleanAt setup.shape old.engine x
    → IsWorld setup (record old { state = record (old.state) { flushed = with_flag old.state.flushed x } })
flushed_noted setup old x whole clean =
    restated setup old old.state.queues old.state.touched (with_flag old.state.flushed x) whole
    (record { ports = whole.queues.ports; on_memory = whole.queues.on_memory }) whole.flags.touched
    (length-set old.state.flushed x true ∙ whole.flags.flushed)
    (λ engine there bank y dirty.
    let parts = and_parts (touched_block y) (not (is_flagged old.state.flushed y)) ((on_in setup old engine whole there).dirty bank y dirty) in
    and_from (touched_block y) (not (is_flagged (with_flag old.state.flushed x) y)) parts.0
    (ap not (get_or-set_other old.state.flushed x y true false (apart engine there bank y dirty)) ∙ parts.1))
  where
    touched_block : ℕ → Bool
    touched_block y =
        is_lazy setup.shape (level_of y)
        && list_any (λ page. is_flagged old.state.touched page && is_on_path setup.shape page y)
        (range_with_len 0 (layout.pages setup.shape))

    apart : (engine : EngineState) → old.engine ≡ Some engine → (bank y : ℕ) → is_cached_dirty setup.shape engine.cache bank y ≡ true → y ≡ x → ⊥
    apart engine there bank y dirty same =
        true≢false (sym (subst (λ z. is_cached_dirty setup.shape engine.cache bank z ≡ true) same dirty)
        ∙ (subst (λ (e : Option EngineState). IsCleanAt setup.shape e x) there clean) bank)

-- the oldest write of a port waits no more
pub world-shorter : (setup : Setup) (old : WorldState) (port : ℕ) → IsWorld setup old → port < 8 → IsWorld setup (without_oldest old port)
world-shorter setup old port whole small =
    restated setup old (slice_set old.state.queues port (drop 1 (queue_of old.state.queues port))) old.state.touched old.state.flushed whole
    (HasQueues-shorter setup.shape old.state _ port whole.queues small refl) whole.flags.touched whole.flags.flushed
    (λ engine there bank x dirty. (on_in setup old engine whole there).dirty bank x dirty)
