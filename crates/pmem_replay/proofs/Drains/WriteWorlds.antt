-- A waiting write once it was given to the engine: the states that are left, and the queues.
use Rattle.std.proofs.Common.{ℕ, ◌≡◌, ◌<◌, ◌-◌, Bool, false, List, [], ◌∷◌, length, drop, None, sym, ap, subst, ◌∙◌, arith}
use Rattle.std.specs.Prelude.{option_map, All, slice_set}
use Rattle.std.proofs.lemmas.List.{length-set, length-drop}
use Rattle.std.proofs.lemmas.List.Elements.{All-head, All-set, All-drop}
use Rattle.pmem_base.specs.declared.commands.Posted.{Posted}
use Rattle.pmem_base.specs.Layout as layout
use Rattle.pmem_base.specs.Shape.{Shape}
use Rattle.pmem_base.specs.Ranges.{IsPosted}
use Rattle.pmem_base.specs.WaitingWrites.{queue_of, queues_after_loss}
use Rattle.write_ports.specs.Queues.{IsQueue}
use Rattle.suite.specs.Setup.{Setup}
use Rattle.plain_model.specs.State.{PlainState, without_flag, memory_with}
use Rattle.plain_model.specs.After.{steps_with}
use Rattle.pmem_replay.specs.World.{HasQueues}

-- ---- states

-- the front write put, dropped, kept in a cut, or lost in one, with these steps and flags
abbrev pub put_state : PlainState → ℕ → Posted → List Posted → ℕ → List Bool → List Bool → PlainState
put_state state port write later taken touched flushed =
    record state {
      memory = memory_with state.memory write;
      queues = slice_set state.queues port later;
      hurt = without_flag state.hurt write.at;
      spoiled = without_flag state.spoiled write.at;
      steps = steps_with state.steps taken;
      fuse = option_map (λ n. n - taken) state.fuse;
      touched = touched;
      flushed = flushed;
    }

abbrev pub dropped_state : PlainState → ℕ → List Posted → ℕ → List Bool → List Bool → PlainState
dropped_state state port later taken touched flushed =
    record state {
      queues = slice_set state.queues port later;
      steps = steps_with state.steps taken;
      fuse = option_map (λ n. n - taken) state.fuse;
      touched = touched;
      flushed = flushed;
    }

abbrev pub kept_state : Shape → PlainState → ℕ → Posted → List Posted → ℕ → List Bool → List Bool → PlainState
kept_state g state port write later taken touched flushed =
    record state {
      memory = memory_with state.memory write;
      queues = queues_after_loss g.durable (slice_set state.queues port later);
      power = false;
      fuse = None;
      hurt = without_flag state.hurt write.at;
      spoiled = without_flag state.spoiled write.at;
      steps = steps_with state.steps taken;
      touched = touched;
      flushed = flushed;
    }

abbrev pub lost_state : Shape → PlainState → ℕ → List Bool → List Bool → PlainState
lost_state g state taken touched flushed =
    record state {
      queues = queues_after_loss g.durable state.queues;
      power = false;
      fuse = None;
      steps = steps_with state.steps taken;
      touched = touched;
      flushed = flushed;
    }

-- ---- queues

-- the oldest write of a port waits no more, if one did
pub HasQueues-shorter : (g : Shape) (old new : PlainState) (port : ℕ) → HasQueues g old → port < 8
    → new.queues ≡ slice_set old.queues port (drop 1 (queue_of old.queues port)) → HasQueues g new
HasQueues-shorter g old new port queues small now =
    let within : port < length old.queues = omega (arith, small, queues.ports.eight) in
    let queue = queue_of old.queues port in
    let its = queues.ports.each port [] within in
    record {
      ports =
          record {
            eight = ap length now ∙ length-set old.queues port (drop 1 queue) ∙ queues.ports.eight;
            each =
                subst (λ queues. All IsQueue queues) (sym now)
                (All-set IsQueue old.queues port (drop 1 queue)
                (record { room = omega (arith, its.room, length-drop 1 queue); posted = All-drop IsPosted 1 queue its.posted })
                queues.ports.each);
          };
      on_memory =
          subst (λ queues. All (λ queue. All (λ w. w.at < layout.data_lines g) queue) queues) (sym now)
          (All-set (λ queue. All (λ w. w.at < layout.data_lines g) queue) old.queues port (drop 1 queue)
          (All-drop (λ w. w.at < layout.data_lines g) 1 queue (queues.on_memory port [] within)) queues.on_memory);
    }

-- a waiting write is one to a data line
pub front_on_memory : (setup : Setup) (state : PlainState) (port : ℕ) (write : Posted) (later : List Posted)
    → HasQueues setup.shape state → port < 8 → queue_of state.queues port ≡ write ∷ later → write.at < layout.data_lines setup.shape
front_on_memory setup state port write later queues small waits =
    All-head (λ w. w.at < layout.data_lines setup.shape) write later
    (subst (λ queue. All (λ w. w.at < layout.data_lines setup.shape) queue) waits
    (queues.on_memory port [] (omega (arith, small, queues.ports.eight))))
