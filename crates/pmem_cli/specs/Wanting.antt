-- When a run may run out of memory: the next command takes memory in the state that the machine is in then.
use Rattle.std.specs.Prelude.{ℕ, ◌≡◌, ◌<◌, ◌+◌, ◌⊎◌, List, [], ◌∷◌, length, Option, Some, None, Ok, Err}
use Rattle.suite.specs.Setup.{Setup}
use Rattle.plain_model.specs.State.{PlainState}
use Rattle.plain_model.specs.Lines.{lines_of}
use Rattle.plain_model.specs.Grammar.{Reading, reading_of}
use Rattle.plain_model.specs.Run.{Machine, Step, line_limit, machine_after_all, IsFrontFrom}
use Rattle.pmem_replay.specs.Stepped.{CanWantMemory}

-- the reply to a line that reads so may run out of memory in this state
abbrev pub WantsMemoryIn : PlainState → Reading → Type 0
WantsMemoryIn state (Ok (Some command)) = CanWantMemory state command
WantsMemoryIn state (Ok None) = ⊥
WantsMemoryIn state (Err kind) = ⊥

-- memory was needed for the reply to the first of these lines, which isn't past the limit
abbrev pub IsMemoryWantedIn : PlainState → ℕ → List (List ℕ) → Type 0
IsMemoryWantedIn state served [] = ⊥
IsMemoryWantedIn state served (line ∷ lines) = WantsMemoryIn state (reading_of line) × (served < line_limit)

-- A prefix of the lines is run, and memory was needed for the reply to the next line's command, in the state that the prefix left; or it
-- was needed before the first line, and no byte was taken.
pub record IsStarvedIn (setup : Setup) (machine : Machine) (served : ℕ) (trace : List ℕ) (left : Option (List ℕ)) (steps : List Step) :
    Type 0 where
  pub front : IsFrontFrom setup machine (lines_of trace) steps
  pub wanting :
      ((served + length front.before ≡ 0) × (left ≡ Some trace))
      ⊎ IsMemoryWantedIn (machine_after_all setup machine steps).state (served + length front.before) front.behind
