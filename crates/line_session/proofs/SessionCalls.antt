-- A call over the watched board, and a start, is one of the session.
use Rattle.std.proofs.Common.{ℕ, ◌≡◌, ◌<◌, Bool, true, false, cond, Option, Some, None, Result, refl, ap, ◌∙◌, Err, sym, subst, rules}
use Rattle.line_session.proofs.Common.{◌||◌, option_map, ended, Follows, device_during, none_taken, steps_in, step_limit, OpeningRelation, started_as, chip_of, IsShape, Setup, LineSession, chip_in, CallPlan, HasCalledStore, HasStarted, true≢false, RecFault, new_engine, ChipState, on_chip, EngineState}
use Rattle.line_session.specs.Started.{IsRefusedFrom}
use Rattle.line_session.specs.World.{StoreSession, IsLineWorld}
use Rattle.line_session.specs.Promised.{CallEffect}
use Rattle.line_session.specs.Made.{HasMade}
use Rattle.line_session.specs.Turned.{HasTurned, IsCutInRecovery, HasRefused}
use Rattle.line_session.proofs.Worlds.{line_on_in}
use Rattle.line_session.specs.declared.starts.StartFault.TheVariants.{Recovery}
use Rattle.line_session.proofs.StartPlans.{start_follows, start_stopped}
use Rattle.line_session.proofs.NewDevices.{few_of_start}
use Rattle.pmem_recovery.specs.declared.faults.RecFault.TheVariants as Rec

-- what a session keeps of a store while power is on
pub kept_of : {S X : Type 0} (of : S → X) (store : Option S) (after : S) (powered : Bool) → store ≡ cond powered (Some after) None
    → option_map of store ≡ cond powered (Some (of after)) None
kept_of of store after powered kept = search rules

-- a call of the store along its plan
pub called_store : {L R F A : Type 0} (engine_of : L → EngineState) (effect : CallEffect L R) (setup : Setup) (plan : CallPlan F A) (store : L) (steps : ℕ)
    (answer : R) (end : Result A F) (old new : StoreSession L) → IsLineWorld engine_of setup old → old.store ≡ Some store
    → (it : HasMade engine_of effect setup store steps answer old new) → (new.state.board.powered ≡ false → steps < step_limit)
    → Follows (plan old.state.board.regs (chip_in old.state (on_chip (engine_of store)))) (device_during old.state.board none_taken)
    (device_during new.state.board it.taken) (ended end (chip_in new.state (on_chip (engine_of it.after))))
    → HasCalledStore plan steps end old.state new.state
called_store engine_of effect setup plan store steps answer end old new world there it within follows =
    record {
      powered = (line_on_in engine_of setup old store world there).powered;
      engine = on_chip (engine_of store);
      was_on = world.its_engine ∙ ap (option_map (λ s. on_chip (engine_of s))) there;
      after = on_chip (engine_of it.after);
      taken = it.taken;
      outcome =
          record {
            run = record { follows = it.watched.follows; within = λ dark. subst (λ n. n < step_limit) it.its_steps (within dark) };
            follows = follows;
          };
      its_steps = it.its_steps;
      kept = it.world.its_engine ∙ kept_of (λ s. on_chip (engine_of s)) new.store it.after new.state.board.powered it.its_store;
      shape = it.shape;
      keys = it.keys;
    }

-- recovery and the opening along their plans
pub turned_on : {O F A G : Type 0} (setup : Setup) (opens : OpeningRelation O F) (opening : CallPlan G A) (steps : ℕ) (answer : Result O F)
    (end : Result A G) (old new : LineSession) (after : ChipState) → old.engine ≡ None → new.engine ≡ cond new.board.powered (Some after) None
    → (it : HasTurned setup opens steps answer old new) → (new.board.powered ≡ false → steps < step_limit)
    → Follows (opening it.between.regs (chip_of it.engine old.ledger it.suite_between.tags it.suite_between.digests)) it.between
    (device_during new.board it.taken) (ended end (chip_in new after))
    → HasStarted setup opening steps (started_as end) old new
turned_on setup opens opening steps answer end old new after was_off kept it within opens_so =
    record {
      was_off = was_off;
      after = after;
      taken = it.taken;
      outcome =
          record {
            run = record { follows = it.watched.follows; within = λ dark. subst (λ n. n < step_limit) it.its_steps (within dark) };
            follows = search (rules, start_follows);
          };
      its_steps = it.its_steps;
      kept = kept;
      shape = it.shape;
      keys = it.keys;
    }

-- a recovery that was cut
pub turned_off : {F A : Type 0} (setup : Setup) (opening : CallPlan F A) (steps : ℕ) (old new : LineSession) → IsShape setup.shape → old.engine ≡ None
    → new.engine ≡ None → IsCutInRecovery setup steps old new → HasStarted setup opening steps (Err (Recovery Rec.Cut)) old new
turned_off setup opening steps old new shape was_off none it =
    record {
      was_off = was_off;
      after = on_chip (new_engine setup.shape);
      taken = it.taken;
      outcome = search (rules, few_of_start, start_stopped);
      its_steps = it.its_steps;
      kept = none ∙ sym (ap (λ b. cond b (Some (on_chip (new_engine setup.shape))) None) it.dark);
      shape = it.shape;
      keys = it.keys;
    }

-- recovery that refuses with power on is a start of the session
pub refused_from : {F A : Type 0} (setup : Setup) (opening : CallPlan F A) (old : LineSession) (fault : RecFault) (new : LineSession) → old.engine ≡ None
    → HasRefused setup old fault new → IsRefusedFrom setup opening old fault new
refused_from setup opening old fault new was_off it =
    let lit : LineSession =
    record old {
      board = it.board;
      engine = cond it.board.powered (Some (on_chip (new_engine setup.shape))) None;
      tags = it.between.tags;
      digests = it.between.digests;
    } in
    record {
      steps = steps_in it.taken;
      lit = lit;
      started = search (rules, true≢false, start_stopped);
      powered = it.powered;
      rests = it.rests;
    }

-- a mark that is there keeps a call's lines, whatever the call says
pub or_true : (a b : Bool) → b ≡ true → (a || b) ≡ true
or_true true b is = refl
or_true false b is = is
