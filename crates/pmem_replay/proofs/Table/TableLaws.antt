-- Commands that the table decides: the world goes on.
use Rattle.std.proofs.Common.{rules, ℕ, ◌≡◌, ◌<◌, Bool, true, false, List, [], length, Option, Some, None, refl, sym, ap, ap₂, subst, ◌∙◌, arith}
use Rattle.std.specs.Prelude.{All, MatchOption, is_some, slice_set}
use Rattle.std.proofs.lemmas.List.{length-set}
use Rattle.std.proofs.lemmas.List.Elements.{All-set}
use Rattle.pmem_base.specs.declared.lines.Line.{Line}
use Rattle.pmem_base.specs.declared.commands.Posted.{Posted}
use Rattle.pmem_base.specs.declared.commands.Command.{Command}
use Rattle.pmem_base.specs.Layout as layout
use Rattle.pmem_base.specs.Ranges.{IsPosted}
use Rattle.pmem_base.specs.WaitingWrites.{queue_of, queue_posted, is_queue_full}
use Rattle.board.specs.Memory.{BoardMemory}
use Rattle.write_ports.specs.Queues.{IsQueue}
use Rattle.write_ports.proofs.PostLemmas.{posted_queue, posted_all}
use Rattle.suite.specs.Setup.{Setup}
use Rattle.plain_model.specs.State.{PlainState, Reply}
use Rattle.plain_model.specs.After.{after_post, after_power_loss, steps_with}
use Rattle.plain_model.specs.View.{DeviceView}
use Rattle.plain_model.specs.Answers.{decided_answer}
use Rattle.plain_model.specs.Shown.{IsLegal, IsEngineReply}
use Rattle.pmem_engine.specs.Engine.{EngineState}
use Rattle.pmem_replay.specs.World.{WorldState, HasQueues, IsOn, IsWorld, IsPowered}
use Rattle.pmem_replay.proofs.Steps.MarklessCalls.{counted_state, HasQueues-lost}
use Rattle.pmem_replay.proofs.Drains.DrainChain.{fuse_none}
use Rattle.pmem_replay.proofs.Steps.SameWorld.{IsSameWorld, same_world}

-- the answer that the table decides is legal
pub legal_decided : (setup : Setup) (state : PlainState) (view : DeviceView) (command : Command) (reply : Reply)
    → decided_answer setup.shape state command ≡ Some reply.answer → IsLegal setup state view command reply
legal_decided setup state view command reply it =
    subst (λ decided. MatchOption decided (IsEngineReply setup state view command reply) (λ answer. reply.answer ≡ answer)) (sym it) refl

-- a reply without steps counts none
pub counted_none : (setup : Setup) (world : WorldState) → IsWorld setup world → counted_state world.state 0 ≡ world.state
counted_none setup world whole =
    sym (ap₂ (λ (steps : ℕ) (fuse : Option ℕ). record (world.state) { steps = steps; fuse = fuse })
    {x = world.state.steps} {y = steps_with world.state.steps 0} (omega (arith, whole.steps.in_range)) (fuse_none world.state.fuse))

-- the chip under another state with the same power and flags
chip_same : (setup : Setup) (old : WorldState) (queues : List (List Posted)) (snapped : Bool) (fuse : Option ℕ) (board : BoardMemory)
    → board.lines ≡ old.board.lines → board.regs ≡ old.board.regs → (engine : Option EngineState) → IsPowered setup old engine
    → IsPowered setup (record old { state = record (old.state) { queues = queues; snapped = snapped; fuse = fuse }; board = record board { lines = old.board.lines; regs = old.board.regs } }) engine
chip_same setup old queues snapped fuse board lines regs None off = search rules
chip_same setup old queues snapped fuse board lines regs (Some engine) on = search rules

-- other queues, another fuse or another snapshot
other_parts : (setup : Setup) (old new : WorldState) (queues : List (List Posted)) (snapped : Bool) (fuse : Option ℕ) (snapshot : Option (List Line))
    → IsWorld setup old
    → IsSameWorld (record old {
      state = record (old.state) { queues = queues; snapped = snapped; fuse = fuse };
      board = record (old.board) { fuse = fuse; snapshot = snapshot };
    }) new
    → HasQueues setup.shape (record (old.state) { queues = queues; snapped = snapped; fuse = fuse })
    → is_some snapshot ≡ snapped → IsWorld setup new
other_parts setup old new queues snapped fuse snapshot world same its_queues its_snapshot =
    same_world setup (record old {
      state = record (old.state) { queues = queues; snapped = snapped; fuse = fuse };
      board = record (old.board) { fuse = fuse; snapshot = snapshot };
    }) new same
    (record {
      its_shape = world.its_shape;
      whole_shape = world.whole_shape;
      whole_formulas = world.whole_formulas;
      whole_lines = world.whole_lines;
      memory = world.memory;
      chip = chip_same setup old queues snapped fuse (record (old.board) { fuse = fuse; snapshot = snapshot }) refl refl old.engine world.chip;
      kept = search rules;
      flags = search rules;
      queues = its_queues;
      board =
          record {
            power = world.board.power;
            fuse = refl;
            snapped = its_snapshot;
            loss = world.board.loss;
            few_armed = world.board.few_armed;
          };
      steps =
          record {
            in_range = world.steps.in_range;
            reads = world.steps.reads;
            writes = world.steps.writes;
            latches = world.steps.latches;
            sum = λ exact low. world.steps.sum (record { writes = exact.writes; latches = exact.latches }) low;
          };
    })

-- ---- a posted write

pub world-posted : (setup : Setup) (old new : WorldState) (port : ℕ) (write : Posted) → IsWorld setup old → port < 8
    → is_queue_full setup.shape.combines (queue_of old.state.queues port) write ≡ false → IsPosted write → write.at < layout.data_lines setup.shape
    → IsSameWorld (record old { state = after_post setup.shape old.state port write }) new → IsWorld setup new
world-posted setup old new port write world small room posted on_memory same =
    let within : port < length old.state.queues = omega (arith, small, world.queues.ports.eight) in
    let queue = queue_of old.state.queues port in
    let posted_to = queue_posted setup.shape.combines queue write in
    other_parts setup old new (slice_set old.state.queues port posted_to) old.state.snapped old.state.fuse old.board.snapshot world
    (record {
      shape = same.shape;
      start = same.start;
      board = same.board ∙ ap (λ fuse. record (old.board) { fuse = fuse }) world.board.fuse;
      ledger = same.ledger;
      engine = same.engine;
      state = same.state;
    })
    (record {
      ports =
          record {
            eight = length-set old.state.queues port posted_to ∙ world.queues.ports.eight;
            each =
                All-set IsQueue old.state.queues port posted_to
                (posted_queue setup.shape.combines queue write (world.queues.ports.each port [] within) posted room)
                world.queues.ports.each;
          };
      on_memory =
          All-set (λ queue. All (λ write. write.at < layout.data_lines setup.shape) queue) old.state.queues port posted_to
          (posted_all (λ write. write.at < layout.data_lines setup.shape) setup.shape.combines queue write (world.queues.on_memory port [] within) on_memory)
          world.queues.on_memory;
    })
    world.board.snapped

-- ---- the fuse set

pub world-armed : (setup : Setup) (old new : WorldState) (n : ℕ) → IsWorld setup old
    → IsSameWorld (record old { state = record (old.state) { fuse = Some n }; board = record (old.board) { fuse = Some n } }) new → IsWorld setup new
world-armed setup old new n world same =
    other_parts setup old new old.state.queues old.state.snapped (Some n) old.board.snapshot world same
    (record { ports = world.queues.ports; on_memory = world.queues.on_memory }) world.board.snapped

-- ---- a copy kept

pub world-snapped : (setup : Setup) (old new : WorldState) → IsWorld setup old
    → IsSameWorld (record old { state = record (old.state) { snapped = true }; board = record (old.board) { snapshot = Some old.board.lines } }) new
    → IsWorld setup new
world-snapped setup old new world same =
    other_parts setup old new old.state.queues true old.state.fuse (Some old.board.lines) world
    (record {
      shape = same.shape;
      start = same.start;
      board = same.board ∙ ap (λ fuse. record (old.board) { fuse = fuse; snapshot = Some old.board.lines }) world.board.fuse;
      ledger = same.ledger;
      engine = same.engine;
      state = same.state;
    })
    (record { ports = world.queues.ports; on_memory = world.queues.on_memory }) refl

-- ---- power off

pub world-off : (setup : Setup) (old new : WorldState) (engine : EngineState) → IsWorld setup old → old.engine ≡ Some engine
    → IsSameWorld (record old {
      state = after_power_loss setup.shape old.state;
      board = record (old.board) { powered = false; fuse = None };
      engine = None;
    }) new
    → IsWorld setup new
world-off setup old new engine world there same =
    let on : IsOn setup old engine = subst (λ e. IsPowered setup old e) there world.chip in
    same_world setup (record old {
      state = after_power_loss setup.shape old.state;
      board = record (old.board) { powered = false; fuse = None };
      engine = None;
    }) new same
    (record {
      its_shape = world.its_shape;
      whole_shape = world.whole_shape;
      whole_formulas = world.whole_formulas;
      whole_lines = world.whole_lines;
      memory = world.memory;
      chip = record { unpowered = refl; anchored = on.trusted.anchored; durable = λ honest. (on.sound honest).durable };
      kept = search rules;
      flags = search rules;
      queues = HasQueues-lost setup.shape setup.shape.durable old.state (after_power_loss setup.shape old.state) world.queues refl;
      board =
          record {
            power = refl;
            fuse = refl;
            snapped = world.board.snapped;
            loss = world.board.loss;
            few_armed = world.board.few_armed;
          };
      steps =
          record {
            in_range = world.steps.in_range;
            reads = world.steps.reads;
            writes = world.steps.writes;
            latches = world.steps.latches;
            sum = λ exact low. world.steps.sum (record { writes = exact.writes; latches = exact.latches }) low;
          };
    })
