-- Recovery within a command: what surrounds it, and what it answers.
use Rattle.std.proofs.Common.{ℕ, ◌≡◌, ◌≢◌, Bool, false, List, Option, Some, None, Ok, Err, refl, sym, ap, subst, ◌∙◌, arith}
use Rattle.std.specs.Prelude.{Result, is_some, All}
use Rattle.std.proofs.lemmas.Bool.{true≢false}
use Rattle.std.specs.List.{AllPairs}
use Rattle.pmem_base.specs.Shape.{Shape}
use Rattle.board.specs.Memory.{BoardMemory}
use Rattle.meta_cache.specs.Banks.{IsBanksOf, IsInPlace}
use Rattle.meta_cache.specs.State.{empty_banks}
use Rattle.suite.specs.Setup.{Setup}
use Rattle.plain_model.specs.After.{steps_with}
use Rattle.pmem_engine.specs.Engine.{EngineState}
use Rattle.call_effects.specs.declared.recovery.Work.{Work}
use Rattle.pmem_recovery.specs.declared.faults.RecFault.{RecFault}
use Rattle.call_effects.specs.SuiteStates.{suite_state}
use Rattle.meta_path.proofs.PathFacts.{set_of-empty_banks}
use Rattle.pmem_replay.specs.World.{WorldState, WorldParts, world_of}
use Rattle.watched_board.specs.declared.taken.Taken.{Taken}
use Rattle.watched_board.specs.Watching.{none_taken, steps_in, device_during, IsWatched}
use Rattle.pmem_replay.specs.During.{IsTakenApart, WasRecovered}
use Rattle.pmem_replay.proofs.Power.OnLaws.{lit}
use Rattle.suite.specs.Formulas.{Formulas}
use Rattle.pmem_replay.proofs.Steps.PartsOfWorld.{setup_in}
use Rattle.pmem_replay.proofs.Table.UnchangedSteps.{IsGoingOn}

-- an empty cache is one of its geometry
pub whole_empty : (g : Shape) → IsBanksOf g (empty_banks g)
whole_empty g =
    record {
      in_place = λ bank set. subst (All (IsInPlace g bank set)) (sym (set_of-empty_banks g bank set)) (λ k d within. absurd (omega (arith, within)));
      distinct_ways = λ bank set. subst (AllPairs (λ a b. a.way ≢ b.way)) (sym (set_of-empty_banks g bank set)) (λ i j d less h e. absurd (omega (arith, h)));
      distinct_positions = λ bank set. subst (AllPairs (λ a b. a.position ≢ b.position)) (sym (set_of-empty_banks g bank set)) (λ i j d less h e. absurd (omega (arith, h)));
    }

-- ---- an answer whose engine is in its place

pub apart_ok : (answer : Result (EngineState × Work) RecFault) (engine : Option EngineState) (work : Work) → IsTakenApart answer engine (Ok work)
    → (found : EngineState) × (engine ≡ Some found) × (answer ≡ Ok (found, work))
apart_ok (Ok done) engine work apart = (done.0, apart.0, ap (λ (w : Work). Ok (done.0, w)) (sym apart.1))
apart_ok (Err fault) engine work apart = absurd apart

pub apart_err : (answer : Result (EngineState × Work) RecFault) (engine : Option EngineState) (fault : RecFault) → IsTakenApart answer engine (Err fault)
    → (engine ≡ None) × (answer ≡ Err fault)
apart_err (Ok done) engine fault apart = absurd apart
apart_err (Err its) engine fault apart = (apart.0, ap Err (sym apart.1))

-- ---- what surrounds recovery

pub record IsOnServed (setup : Setup) (p : WorldParts) (board : BoardMemory) (steps : ℕ) (taken : Taken) : Type 0 where
  pub going : IsGoingOn setup (world_of setup p)
  pub was_off : p.engine ≡ None
  pub watched : IsWatched (lit p.board) board taken
  pub counted : steps ≡ steps_with p.steps (steps_in taken)

-- The world's parts as recovery finds them, what it leaves and answers, and the steps that are answered.
pub record RecoveryCall : Type 0 where
  pub formulas_of : List ℕ → Formulas
  pub geometry : Shape
  pub now : WorldState
  pub parts : WorldParts
  pub is : world_of (setup_in formulas_of geometry parts) parts ≡ now
  pub keys : List ℕ
  pub board : BoardMemory
  pub pads : ℕ
  pub pads_new : ℕ
  pub tags : ℕ
  pub digests : ℕ
  pub steps : ℕ
  pub taken : Taken
  pub said : ℕ
  pub served : IsOnServed (setup_in formulas_of geometry parts) parts board steps taken
  pub counted : said ≡ steps_in taken
  pub engine : Option EngineState
  pub outcome : Result Work RecFault
  pub was :
      WasRecovered (setup_in formulas_of geometry parts) parts.ledger (device_during (lit parts.board) none_taken)
      (device_during board taken) (suite_state parts.keys pads parts.tags parts.digests) (suite_state keys pads_new tags digests) engine outcome

-- there is no engine
pub none_there : (engine : Option EngineState) (some : Bool) → some ≡ is_some engine → some ≡ false → engine ≡ None
none_there None some is none = refl
none_there (Some engine) some is none = absurd (true≢false (sym is ∙ none))
