-- Calls that make no mark: the state stays but for its counts, or power is cut.
use Rattle.std.proofs.Common.{ℕ, ◌≡◌, ◌<◌, ◌≤◌, ◌+◌, ◌-◌, Bool, true, false, List, [], length, None, sym, ap, subst, ◌∙◌, arith}
use Rattle.std.specs.Prelude.{MatchOption, option_map, All}
use Rattle.std.proofs.lemmas.List.{length-replicate, get_or-replicate}
use Rattle.pmem_base.specs.declared.commands.Posted.{Posted}
use Rattle.pmem_base.specs.declared.commands.Command.{Command}
use Rattle.pmem_base.specs.Shape.{Shape}
use Rattle.pmem_base.specs.Layout as layout
use Rattle.pmem_base.specs.WaitingWrites.{no_writes, queues_after_loss}
use Rattle.board.specs.Memory.{BoardMemory}
use Rattle.write_ports.specs.Queues.{IsQueue, ArePorts}
use Rattle.suite.specs.Setup.{Setup}
use Rattle.plain_model.specs.State.{PlainState}
use Rattle.plain_model.specs.After.{steps_with}
use Rattle.plain_model.specs.Shown.{IsLegal, IsEngineReply}
use Rattle.plain_model.specs.Answers.{decided_answer}
use Rattle.plain_model.specs.State.{Reply}
use Rattle.plain_model.specs.View.{DeviceView}
use Rattle.pmem_engine.specs.Engine.{EngineState}
use Rattle.pmem_engine.specs.Outcomes.{TakesSteps}
use Rattle.pmem_replay.specs.World.{WorldState, HasQueues, IsOn, IsWorld}
use Rattle.watched_board.specs.declared.taken.Taken.{Taken}
use Rattle.watched_board.specs.Watching.{none_taken, device_during, steps_in, step_limit}
use Rattle.watched_board.proofs.StepLaws.{few_exact}
use Rattle.pmem_replay.proofs.Marks.DirtyBlocks.{AreAccounted}

-- where the table decides nothing, the engine's reply is legal
pub legal_undecided : (setup : Setup) (state : PlainState) (view : DeviceView) (command : Command) (reply : Reply)
    → decided_answer setup.shape state command ≡ None → IsEngineReply setup state view command reply
    → IsLegal setup state view command reply
legal_undecided setup state view command reply none it =
    subst (λ decided. MatchOption decided (IsEngineReply setup state view command reply) (λ answer. reply.answer ≡ answer)) (sym none) it

-- ---- steps of a call

pub exactly : (old new : BoardMemory) (taken : Taken) (n : ℕ) → steps_in taken ≤ step_limit
    → TakesSteps n (device_during old none_taken) (device_during new taken) → steps_in taken ≡ n
exactly old new taken n few takes =
    let exact = few_exact taken few in
    let sum : taken.writes + taken.latches ≡ 0 + 0 + n = takes.sum exact.0 exact.1 in
    omega (arith, sum)

-- ---- states

-- the state with these steps counted
abbrev pub counted_state : PlainState → ℕ → PlainState
counted_state state taken =
    record state { steps = steps_with state.steps taken; fuse = option_map (λ n. n - taken) state.fuse }

-- the state with these steps counted and power cut
abbrev pub cut_state : Shape → PlainState → ℕ → PlainState
cut_state g state taken =
    record state {
      steps = steps_with state.steps taken;
      queues = queues_after_loss g.durable state.queues;
      power = false;
      fuse = None;
    }

IsQueue-nil : IsQueue []
IsQueue-nil = record { room = omega arith; posted = λ k d within. absurd (omega (arith, within)) }

-- nothing waits
pub HasQueues-none : (g : Shape) (state : PlainState) → state.queues ≡ no_writes → HasQueues g state
unfolding no_writes
HasQueues-none g state none =
    record {
      ports =
          record {
            eight = ap length none ∙ length-replicate {A = List Posted} 8 [];
            each =
                subst (λ queues. All IsQueue queues) (sym none)
                (λ k d within.
                subst IsQueue (sym (get_or-replicate 8 k [] d (omega (arith, within, length-replicate {A = List Posted} 8 [])))) IsQueue-nil);
          };
      on_memory =
          subst (λ queues. All (λ queue. All (λ write. write.at < layout.data_lines g) queue) queues) (sym none)
          (λ k d within.
          subst (λ queue. All (λ write. write.at < layout.data_lines g) queue)
          (sym (get_or-replicate 8 k [] d (omega (arith, within, length-replicate {A = List Posted} 8 []))))
          (λ i e inside. absurd (omega (arith, inside))));
    }

-- what a power loss leaves
pub HasQueues-lost : (g : Shape) (durable : Bool) (old new : PlainState) → HasQueues g old → new.queues ≡ queues_after_loss durable old.queues
    → HasQueues g new
HasQueues-lost g true old new queues left =
    record {
      ports = subst ArePorts (sym left) queues.ports;
      on_memory =
          subst (λ queues. All (λ queue. All (λ write. write.at < layout.data_lines g) queue) queues) (sym left) queues.on_memory;
    }
HasQueues-lost g false old new queues left = HasQueues-none g new left

-- ---- worlds

-- what is known of the dirty blocks of a world with power on
pub accounted_in : (setup : Setup) (world : WorldState) (engine : EngineState) → IsWorld setup world → IsOn setup world engine → AreAccounted setup.shape engine.cache world.state
accounted_in setup world engine whole on =
    record {
      whole_shape = whole.whole_shape;
      whole_cache = on.whole_cache;
      truth = world.ledger.truth;
      true_slots = on.trusted.cached_true;
      dirty = on.dirty;
    }
