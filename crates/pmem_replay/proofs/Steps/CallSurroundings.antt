-- What surrounds a call of the engine in the world's own parts.
use Rattle.std.proofs.Common.{ℕ, ◌≡◌, List, Option, Some, sym, subst}
use Rattle.std.specs.Prelude.{All}
use Rattle.pmem_base.specs.Lines.{IsLine}
use Rattle.board.specs.Memory.{BoardMemory}
use Rattle.seal_ledger.specs.Ledger.{LedgerState}
use Rattle.suite.specs.Setup.{Setup}
use Rattle.plain_model.specs.After.{steps_with}
use Rattle.pmem_engine.specs.Engine.{EngineState}
use Rattle.pmem_replay.specs.World.{WorldState, WorldParts, world_of}
use Rattle.watched_board.specs.declared.taken.Taken.{Taken}
use Rattle.watched_board.specs.Watching.{steps_in, FollowsOn, IsWatched}
use Rattle.pmem_replay.specs.EngineCalls.{IsCall}
use Rattle.pmem_replay.proofs.Table.UnchangedSteps.{IsGoingOn}

-- ---- after a call

-- the parts after a call
abbrev pub called : WorldParts → List ℕ → BoardMemory → LedgerState → ℕ → Option EngineState → ℕ → ℕ → ℕ → WorldParts
called p keys board ledger capacity engine tags digests steps =
    record p { keys = keys; board = board; ledger = ledger; capacity = capacity; engine = engine; tags = tags; digests = digests; steps = steps }

-- what surrounds a call: where room for marks was made before, `p` has it
pub record IsServed (setup : Setup) (p : WorldParts) (keys : List ℕ) (board : BoardMemory) (steps : ℕ) (engine : EngineState) (taken : Taken) :
    Type 0 where
  pub going : IsGoingOn setup (world_of setup p)
  pub was_on : p.engine ≡ Some engine
  pub watched : IsWatched p.board board taken
  pub same_keys : keys ≡ p.keys
  pub counted : steps ≡ steps_with p.steps (steps_in taken)

-- the call as the laws see it
pub call_of : (setup : Setup) (p : WorldParts) (keys : List ℕ) (board : BoardMemory) (steps : ℕ) (engine after : EngineState) (taken : Taken)
    → IsServed setup p keys board steps engine taken → (new : WorldState) → new.shape ≡ setup.shape → new.start ≡ p.start → new.board ≡ board
    → IsCall setup (world_of setup p) new engine after taken
call_of setup p keys board steps engine after taken served new shape start is =
    record {
      world = served.going.whole;
      was_on = served.was_on;
      shape = shape;
      start = start;
      follows = subst (λ b. FollowsOn p.board b taken) (sym is) served.watched.follows;
      in_count = served.watched.in_count;
      each_line = subst (λ (b : BoardMemory). All IsLine b.lines) (sym is) served.watched.each_line;
    }
