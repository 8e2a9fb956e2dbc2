-- Powering on: recovery's answer is legal and fits, and the world goes on.
use Rattle.std.proofs.Common.{rules}
use Rattle.std.proofs.Common.{ℕ, ◌≡◌, ◌<◌, ◌≤◌, ◌-◌, ◌*◌, inl, inr, true, false, List, length, Some, None, Ok, Err, refl, sym, ap, subst, ◌∙◌, arith}
use Rattle.std.specs.Prelude.{All, Result, IfSome, option_map, is_some, ◌||◌}
use Rattle.std.specs.Prelude.{◌==◌, ◌&&◌}
use Rattle.std.specs.List.{list_any}
use Rattle.std.proofs.lemmas.Bool.{or_parts}
use Rattle.pmem_base.specs.declared.lines.Line.{Line}
use Rattle.pmem_base.specs.declared.registers.Regs.{Regs}
use Rattle.pmem_base.specs.declared.commands.Command.TheVariants as Do
use Rattle.pmem_base.specs.declared.answers.Answer.TheVariants as Say
use Rattle.pmem_base.specs.Counts.{last_count}
use Rattle.pmem_base.specs.Shape.{Shape, IsShape, is_lazy}
use Rattle.pmem_base.specs.Layout as layout
use Rattle.pmem_base.specs.Lines.{IsLine, line_at}
use Rattle.pmem_base.specs.Registers.{without_group}
use Rattle.pmem_base.specs.WaitingWrites.{queues_after_loss}
use Rattle.bonsai_tree.specs.Positions.{level_of}
use Rattle.board.specs.Device.{AreLinesOf}
use Rattle.board.specs.Memory.{BoardMemory}
use Rattle.commit_regs.specs.Groups.{redone}
use Rattle.meta_cache.specs.Banks.{set_index, IsBanksOf, is_cached_dirty}
use Rattle.meta_cache.specs.State.{empty_banks}
use Rattle.suite.specs.Setup.{Setup}
use Rattle.plain_model.specs.State.{PlainState, is_flagged, has_flags, no_flags}
use Rattle.plain_model.specs.After.{steps_with}
use Rattle.plain_model.specs.Bounds.{recovery_bound, group_bound, most_blocks}
use Rattle.pmem_engine.specs.Engine.{EngineState, on_chip}
use Rattle.pmem_engine.specs.Invariants.{IsTrusted, IsSound, IsDurable, IsSealStored, stored_meta}
use Rattle.meta_path.proofs.PathFacts.{set_of-empty_banks}
use Rattle.call_effects.specs.declared.recovery.Work.{Work}
use Rattle.pmem_recovery.specs.declared.faults.RecFault.{RecFault}
use Rattle.pmem_recovery.specs.declared.faults.RecFault.TheVariants as Fail
use Rattle.pmem_recovery.proofs.NamedLaws.{recovery_bound-small}
use Rattle.call_effects.specs.SuiteStates.{SuiteState}
use Rattle.pmem_recovery.specs.Recovered.{HasRecovered, HasMended}
use Rattle.commit_regs.proofs.GroupLemmas.{one_latch}
use Rattle.pmem_replay.specs.World.{WorldState, AreKept, HasSteps, IsOn, IsOff, IsWorld, IsPowered, IsOtherCipher}
use Rattle.watched_board.specs.declared.taken.Taken.{Taken}
use Rattle.watched_board.specs.Watching.{AreInCount, none_taken, steps_in, device_during, FollowsOn}
use Rattle.watched_board.proofs.StepLaws.{few_exact}
use Rattle.pmem_replay.proofs.Steps.WorldsAfterCalls.{steps-taken}
use Rattle.pmem_replay.proofs.Steps.MarklessCalls.{HasQueues-lost}
use Rattle.pmem_replay.proofs.Steps.SameWorld.{same_world}
use Rattle.pmem_replay.specs.Replies.{without_marks}
use Rattle.pmem_replay.proofs.Steps.GoodReplies.{IsGood, good}
use Rattle.pmem_replay.proofs.Boards.FlagLemmas.{length-no_flags}

-- ---- an empty cache

-- has no dirty block
pub nothing_dirty : (g : Shape) (bank x : ℕ) → is_cached_dirty g (empty_banks g) bank x ≡ false
nothing_dirty g bank x =
    ap (λ slots. list_any (λ slot. slot.position == x && slot.dirty) slots) (set_of-empty_banks g bank (set_index g x))

-- recovery's steps are few
pub small_recovery : (g : Shape) → IsShape g → recovery_bound g < 60000
small_recovery g shape = omega (arith, recovery_bound-small g shape)

-- ---- the call

-- the board with power on
abbrev pub lit : BoardMemory → BoardMemory
lit board = record board { powered = true }

-- what surrounds recovery in this world, which leaves the board so
pub record IsOnCall (setup : Setup) (old new : WorldState) (left : BoardMemory) (taken : Taken)
    (answer : Result (EngineState × Work) RecFault) : Type 0 where
  pub world : IsWorld setup old
  pub was_off : old.engine ≡ None
  pub suite_old : SuiteState
  pub suite_new : SuiteState
  pub recovered :
      HasRecovered setup old.ledger (device_during (lit old.board) none_taken) (device_during left taken) suite_old suite_new answer
  pub follows : FollowsOn (lit old.board) left taken
  pub in_count : AreInCount old.board
  pub each_line : All IsLine left.lines
  pub shape : new.shape ≡ old.shape
  pub start : new.start ≡ old.start
  pub ledger : new.ledger ≡ old.ledger

pub off_in : (setup : Setup) (world : WorldState) → IsWorld setup world → world.engine ≡ None → IsOff setup world
off_in setup world whole none = subst (λ e. IsPowered setup world e) none whole.chip

module _ (setup : Setup) (old new : WorldState) (left : BoardMemory) (taken : Taken) (answer : Result (EngineState × Work) RecFault)
    (call : IsOnCall setup old new left taken answer) where
  pub off : IsOff setup old
  off = off_in setup old call.world call.was_off

  pub mended : HasMended setup old.ledger (device_during (lit old.board) none_taken) (device_during left taken) old.board.lines left.lines answer
  mended = call.recovered.lines old.board.lines refl left.lines refl

  pub exact : (taken.writes < last_count) × (taken.latches < last_count)
  exact = few_exact taken call.follows.few

  few_steps : steps_in taken ≤ recovery_bound setup.shape
  few_steps = let latch = one_latch old.board.regs.group.items in search (rules, arith, exact, latch)

  fuse_before : old.board.fuse ≡ old.state.fuse
  fuse_before = call.world.board.fuse

  pub within_lasting : left.powered ≡ true → IfSome old.state.fuse (λ n. steps_in taken ≤ n)
  within_lasting powered = subst (λ fuse. IfSome fuse (λ n. steps_in taken ≤ n)) fuse_before (call.follows.lasting powered)

  pub left_lines : AreLinesOf (layout.device_lines setup.shape) left.lines
  left_lines = record { count = call.recovered.size ∙ call.world.whole_lines.count; each = call.each_line }

  pub left_steps : (new_state : PlainState) → new_state.steps ≡ steps_with old.state.steps (steps_in taken) → HasSteps new_state left old.start
  left_steps new_state it = search (rules, steps-taken, exact)

  -- the data lines and their seals are as they were
  pub seals_kept : (a : ℕ) → a < layout.data_lines setup.shape → is_flagged old.state.hurt a ≡ false
      → IsSealStored setup.shape (redone left.regs.group.items left.lines) old.ledger.marks a
  seals_kept a within whole = mended.seals_kept a within (call.world.kept.seals a within whole)

  pub spoiled_kept : (a : ℕ) → a < layout.data_lines setup.shape → is_flagged old.state.spoiled a ≡ true
      → IsOtherCipher old.ledger.marks a (line_at (redone left.regs.group.items left.lines) a)
  spoiled_kept a within broken =
      subst (IsOtherCipher old.ledger.marks a) (sym (mended.data_same a (omega (arith, within)))) (call.world.kept.spoiled a within broken)

  -- so are the lines of strict levels
  pub strict_kept : (x : ℕ) → x < layout.meta_lines setup.shape → is_lazy setup.shape (level_of x) ≡ false
      → is_flagged old.state.named (layout.meta_line setup.shape x) ≡ false
      → stored_meta setup.shape (redone left.regs.group.items left.lines) x ≡ line_at old.ledger.truth x
  strict_kept x within at_once unnamed = mended.strict_same x within at_once ∙ call.world.kept.strict x within at_once unnamed

  -- where nothing is loose afterwards, nothing was named
  tight_named : (old.state.loose || has_flags old.state.named) ≡ false → has_flags old.state.named ≡ false
  tight_named tight = (or_parts old.state.loose (has_flags old.state.named) tight).1

-- ---- recovered

-- the state after a recovery
abbrev pub recovered_state : Shape → PlainState → ℕ → PlainState
recovered_state g state taken =
    record state {
      loose = state.loose || has_flags state.named;
      power = true;
      touched = no_flags (layout.pages g);
      flushed = no_flags (layout.meta_lines g);
      steps = steps_with state.steps taken;
      fuse = option_map (λ n. n - taken) state.fuse;
    }

module _ (setup : Setup) (old new : WorldState) (left : BoardMemory) (taken : Taken) (engine : EngineState) (work : Work)
    (call : IsOnCall setup old new left taken (Ok (engine, work))) where
  abbrev its_off : IsOff setup old
  its_off = off setup old new left taken (Ok (engine, work)) call

  lasting : left.powered ≡ true
  lasting = call.recovered.power.live refl

  pub recovered-good : IsGood setup old Do.On (without_marks (Say.Recovered work.trials work.digests (steps_in taken)))
  recovered-good =
      let few = call.recovered.few_work in
      good refl (within_lasting setup old new left taken (Ok (engine, work)) call lasting) refl tt tt refl tt tt tt
      (record {
        few_trials = subst (λ loss. work.trials ≤ 64 * loss * most_blocks setup.shape) call.world.board.loss few.trials;
        few_digests = few.digests;
        few_steps = few_steps setup old new left taken (Ok (engine, work)) call;
      })

  trusted_now : IsTrusted setup (on_chip engine) left.regs old.ledger
  trusted_now = call.recovered.trusted its_off.anchored

  sound_now : has_flags old.state.named ≡ false → IsSound setup (on_chip engine) left.lines left.regs old.ledger
  sound_now honest = (mended setup old new left taken (Ok (engine, work)) call).from_durable (its_off.durable honest)

  recovered_kept : AreKept setup (recovered_state setup.shape old.state (steps_in taken)) (redone left.regs.group.items left.lines) left.regs.loss old.ledger
  recovered_kept =
      record {
        seals = seals_kept setup old new left taken (Ok (engine, work)) call;
        spoiled = spoiled_kept setup old new left taken (Ok (engine, work)) call;
        counters =
            λ tight page within unnamed.
            (sound_now (tight_named setup old new left taken (Ok (engine, work)) call tight)).durable.mendable.counters_stored page within;
        strict = strict_kept setup old new left taken (Ok (engine, work)) call;
      }

  up_now : engine.down ≡ false
  up_now = ap (λ (e : EngineState). e.down) call.recovered.engine

  clean_now : (bank x : ℕ) → is_cached_dirty setup.shape engine.cache bank x ≡ false
  clean_now bank x =
      ap (λ (e : EngineState). is_cached_dirty setup.shape e.cache bank x) call.recovered.engine ∙ nothing_dirty setup.shape bank x

  recovered_on : (lines : redone left.regs.group.items left.lines ≡ left.lines) → IsBanksOf setup.shape engine.cache
      → IsOn setup (record new { state = recovered_state setup.shape old.state (steps_in taken); board = left; ledger = old.ledger }) engine
  recovered_on lines whole_cache = search (rules, up_now, clean_now, sound_now, tight_named, trusted_now)

  pub recovered-world : new.state ≡ recovered_state setup.shape old.state (steps_in taken) → new.board ≡ left → new.engine ≡ Some engine
      → IsBanksOf setup.shape engine.cache → IsWorld setup new
  recovered-world state board there whole_cache =
      let regs : left.regs ≡ without_group old.board.regs = call.recovered.regs in
      let lines : redone left.regs.group.items left.lines ≡ left.lines = ap (λ group. redone group left.lines) trusted_now.no_group in
      same_world setup (record new { state = recovered_state setup.shape old.state (steps_in taken); board = left; ledger = old.ledger; engine = Some engine; start = old.start }) new
      (record { shape = refl; start = call.start; board = board; ledger = call.ledger; engine = there; state = state })
      (record {
        its_shape = call.shape ∙ call.world.its_shape;
        whole_shape = call.world.whole_shape;
        whole_formulas = call.world.whole_formulas;
        whole_lines = left_lines setup old new left taken (Ok (engine, work)) call;
        memory = call.world.memory;
        chip =
            let on = recovered_on lines whole_cache in
            record {
              powered = on.powered;
              up = on.up;
              trusted = on.trusted;
              sound = on.sound;
              whole_cache = on.whole_cache;
              metadata = on.metadata;
              dirty = on.dirty;
            };
        kept = recovered_kept;
        flags =
            record {
              named = call.world.flags.named;
              hurt = call.world.flags.hurt;
              spoiled = call.world.flags.spoiled;
              touched = length-no_flags (layout.pages setup.shape);
              flushed = length-no_flags (layout.meta_lines setup.shape);
            };
        queues = record { ports = call.world.queues.ports; on_memory = call.world.queues.on_memory };
        board =
            record {
              power = lasting;
              fuse =
                  call.follows.burnt lasting
                  ∙ ap (option_map (λ n. n - steps_in taken)) call.world.board.fuse;
              snapped = ap is_some call.follows.snapshot ∙ call.world.board.snapped;
              loss = ap (λ (r : Regs). r.loss) regs ∙ call.world.board.loss;
              few_armed = subst (λ (items : List (ℕ × Line)). length items ≤ group_bound setup.shape) (sym trusted_now.no_group) (omega arith);
            };
        steps = left_steps setup old new left taken (Ok (engine, work)) call (recovered_state setup.shape old.state (steps_in taken)) refl;
      })

-- ---- a cut

-- the state after a cut of `on`
abbrev pub cut_on_state : Shape → PlainState → ℕ → PlainState
cut_on_state g state taken =
    record state {
      loose = state.loose || has_flags state.named;
      queues = queues_after_loss g.durable state.queues;
      power = false;
      fuse = None;
      steps = steps_with state.steps taken;
    }

module _ (setup : Setup) (old new : WorldState) (left : BoardMemory) (taken : Taken) (call : IsOnCall setup old new left taken (Err Fail.Cut)) where
  abbrev off_cut : IsOff setup old
  off_cut = off setup old new left taken (Err Fail.Cut) call

  cut_dark : left.powered ≡ false
  cut_dark = call.recovered.power.off

  pub cut-good : steps_in taken < recovery_bound setup.shape → IsGood setup old Do.On (without_marks (Say.Cut (steps_in taken)))
  cut-good few = search (rules, arith, cut_dark, fuse_before, small_recovery)

  durable_now : has_flags old.state.named ≡ false → IsDurable setup left.lines left.regs old.ledger
  durable_now honest = (mended setup old new left taken (Err Fail.Cut) call).from_durable (off_cut.durable honest)

  pub cut-world : new.state ≡ cut_on_state setup.shape old.state (steps_in taken) → new.board ≡ left → new.engine ≡ None → IsWorld setup new
  cut-world state board there =
      same_world setup (record new { state = cut_on_state setup.shape old.state (steps_in taken); board = left; ledger = old.ledger; engine = None; start = old.start }) new
      (record { shape = refl; start = call.start; board = board; ledger = call.ledger; engine = there; state = state })
      (record {
        its_shape = call.shape ∙ call.world.its_shape;
        whole_shape = call.world.whole_shape;
        whole_formulas = call.world.whole_formulas;
        whole_lines = left_lines setup old new left taken (Err Fail.Cut) call;
        memory = call.world.memory;
        chip = record { unpowered = refl; anchored = call.recovered.anchored off_cut.anchored; durable = durable_now };
        kept =
            record {
              seals = seals_kept setup old new left taken (Err Fail.Cut) call;
              spoiled = spoiled_kept setup old new left taken (Err Fail.Cut) call;
              counters =
                  λ tight page within unnamed.
                  (durable_now (tight_named setup old new left taken (Err Fail.Cut) call tight)).mendable.counters_stored page within;
              strict = strict_kept setup old new left taken (Err Fail.Cut) call;
            };
        flags =
            record {
              named = call.world.flags.named;
              hurt = call.world.flags.hurt;
              spoiled = call.world.flags.spoiled;
              touched = call.world.flags.touched;
              flushed = call.world.flags.flushed;
            };
        queues = HasQueues-lost setup.shape setup.shape.durable old.state (cut_on_state setup.shape old.state (steps_in taken)) call.world.queues refl;
        board =
            record {
              power = cut_dark;
              fuse = call.follows.cleared cut_dark;
              snapped = ap is_some call.follows.snapshot ∙ call.world.board.snapped;
              loss =
                  elim call.recovered.regs [
                    | inl same ↦ ap (λ (r : Regs). r.loss) same ∙ call.world.board.loss
                    | inr emptied ↦ ap (λ (r : Regs). r.loss) emptied ∙ call.world.board.loss
                  ];
              few_armed =
                  elim call.recovered.regs [
                    | inl same ↦ subst (λ (r : Regs). length r.group.items ≤ group_bound setup.shape) (sym same) call.world.board.few_armed
                    | inr emptied ↦ subst (λ (r : Regs). length r.group.items ≤ group_bound setup.shape) (sym emptied) (omega arith)
                  ];
            };
        steps = left_steps setup old new left taken (Err Fail.Cut) call (cut_on_state setup.shape old.state (steps_in taken)) refl;
      })
